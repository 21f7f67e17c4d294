-- What is found at each path after one node was replaced.
use mathlib.Core.Bool.{Bool, ◌&&◌, false, true}
use mathlib.Core.List.{[], ◌++◌, ◌∷◌}
use mathlib.Core.Logic.{⊎_elim}
use mathlib.Core.Path.{◌∙◌, ◌≡◌, ap, ap₂, refl, sym}
use Rattle.model.specs.Lookup.{is_named, look_from, look_in, tell}
use Rattle.model.specs.Names.{Name, Path, beginning, same_name}
use Rattle.model.specs.Tree.{Slot, Tree, node}
use Rattle.model.proofs.Equality.{Eq-name, bool, tf}
use Rattle.model.proofs.SlotLaws.{get-node}
use Rattle.model.proofs.TreePlaces.{Context, On, down, next, plug, top}

pub is-other : (h : Slot) (m n : Name) → is_named h m ≡ true → is_named h n ≡ same_name m n
is-other Slot.dead m n e = tf e refl
is-other (Slot.file en cs ds) m n e = rw (← Eq-name.sound en.name m e)
is-other (Slot.directory en cs) m n e = rw (← Eq-name.sound en.name m e)

-- at the node and below it
pub get_at : (l : Context) (h : Slot) (s : Tree) (q r : Path) → On l h q → look_in (plug l h s) (q ++ r) ≡ look_from h s r
get_at (top b) h s [] r o = absurd o
get_at (top b) h s (n ∷ []) r o = get-node h s b n r ∙ rw o
get_at (top b) h s (n ∷ m ∷ q) r o = absurd o
get_at (next x a l) h s [] r o = absurd o
get_at (next x a l) h s (n ∷ q) r o = get-node x a (plug l h s) n (q ++ r) ∙ rw o.0 (get_at l h s (n ∷ q) r o.1)
get_at (down x b l) h s [] r o = absurd o
get_at (down x b l) h s (n ∷ []) r o = absurd o
get_at (down x b l) h s (n ∷ m ∷ q) r o = get-node x (plug l h s) b n (m ∷ (q ++ r)) ∙ rw o.0 (get_at l h s (m ∷ q) r o.1)

module _ {B : Type 0} (f : Slot → Tree → B) (z : B) where
  -- elsewhere
  pub get_off : (h h' : Slot) (s s' : Tree) → ((n : Name) → is_named h' n ≡ is_named h n) → ((x : Slot) (l : Context) → f x (plug l h' s') ≡ f x (plug l h s))
      → (l : Context) (q r : Path) → On l h q → beginning q r ≡ false → tell f z (look_in (plug l h' s') r) ≡ tell f z (look_in (plug l h s) r)
  get_off h h' s s' e st (top b) [] r o p = absurd o
  get_off h h' s s' e st (top b) (m ∷ []) [] o p = refl
  get_off h h' s s' e st (top b) (m ∷ []) (n ∷ r) o p =
      let i : is_named h n ≡ false = is-other h m n o ∙ and_tt (same_name m n) p in
      let u : look_in (node h' s' b) (n ∷ r) ≡ look_in b (n ∷ r) = get-node h' s' b n r ∙ rw (e n, i) in
      let w : look_in (node h s b) (n ∷ r) ≡ look_in b (n ∷ r) = get-node h s b n r ∙ rw i in
      ap (tell f z) (u ∙ sym w)
    where
      and_tt : (b : Bool) → (b && true) ≡ false → b ≡ false
      and_tt true e = e
      and_tt false e = refl
  get_off h h' s s' e st (top b) (m ∷ k ∷ q) r o p = absurd o
  get_off h h' s s' e st (next x a l) [] r o p = absurd o
  get_off h h' s s' e st (next x a l) (m ∷ q) [] o p = refl
  get_off h h' s s' e st (next x a l) (m ∷ q) (n ∷ r) o p =
      ap (tell f z) (get-node x a (plug l h' s') n r)
      ∙ ⊎_elim (λ i. rw i) (λ i. rw i (get_off h h' s s' e st l (m ∷ q) (n ∷ r) o.1 p)) (bool (is_named x n))
      ∙ sym (ap (tell f z) (get-node x a (plug l h s) n r))
  get_off h h' s s' e st (down x b l) [] r o p = absurd o
  get_off h h' s s' e st (down x b l) (m ∷ []) r o p = absurd o
  get_off h h' s s' e st (down x b l) (m ∷ k ∷ q) [] o p = refl
  get_off h h' s s' e st (down x b l) (m ∷ k ∷ q) (n ∷ []) o p = ⊎_elim (λ i. rw i (st x l)) (λ i. rw i) (bool (is_named x n))
  get_off h h' s s' e st (down x b l) (m ∷ k ∷ q) (n ∷ j ∷ r) o p =
      ⊎_elim (λ i. rw i (get_off h h' s s' e st l (k ∷ q) (j ∷ r) o.1 (rw (sym (is-other x m n o.0) ∙ i) at p))) (λ i. rw i) (bool (is_named x n))

-- a path that another begins
pub pre-split : (q r : Path) → beginning q r ≡ true → (t : Path) × (q ++ t ≡ r)
pre-split [] r e = (r, refl)
pre-split (a ∷ q) [] e = tf e refl
pre-split (a ∷ q) (b ∷ r) e =
    ⊎_elim (λ i. let z = pre-split q r (rw i at e) in (z.0, ap₂ (λ x y. x ∷ y) (Eq-name.sound a b i) z.1)) (λ i. tf (rw i at e) refl) (bool (same_name a b))
