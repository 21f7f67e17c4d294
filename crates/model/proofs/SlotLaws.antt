-- One slot of a directory replaced, or one added at its end.
use Prim.Native.Nat.{◌+◌, ◌/◌, ◌≤◌, pred, suc, zero, ℕ}
use mathlib.Core.Bool.{cond, false, true}
use mathlib.Core.List.{List, [], ◌∷◌}
use mathlib.Core.Logic.{⊎_elim}
use mathlib.Core.Path.{◌∙◌, ◌≡◌, refl, sym}
use native.Mathlib.Omega.{arith}
use Rattle.model.specs.Holds.{HoldsSlot, HoldsSlots, UniqueNames}
use Rattle.model.specs.Lookup.{absent, is_named, look_from, look_in}
use Rattle.model.specs.Names.{Name, Path}
use Rattle.model.specs.Tree.{Slot, Tree, chain_of, cluster_uses, dead_hit, dead_slots, end, entry_pages, hit, name_hit, name_uses, node, slot_count, times}
use Rattle.model.specs.View.{View}
use Rattle.model.proofs.Equality.{bool}
use Rattle.model.proofs.Frame.{SameP, frame, held-frame, hit-self, parts-le}

abbrev pub set_slot : ℕ → Slot → Tree → Tree → Tree
set_slot zero x y end = node x y end
set_slot zero x y (node h s t) = node x y t
set_slot (suc i) x y end = end
set_slot (suc i) x y (node h s t) = node h s (set_slot i x y t)

-- the same for the slots' pages
abbrev pub set_page : ℕ → ℕ → List ℕ → List ℕ
set_page zero q [] = q ∷ []
set_page zero q (p ∷ ps) = q ∷ ps
set_page (suc i) q [] = []
set_page (suc i) q (p ∷ ps) = p ∷ set_page i q ps

-- what stood in the slot
abbrev pub old_uses : ℕ → Tree → ℕ → ℕ
old_uses i end c = 0
old_uses zero (node h s t) c = times (chain_of h) c + cluster_uses s c
old_uses (suc i) (node h s t) c = old_uses i t c

abbrev pub old_name : ℕ → Tree → Name → ℕ
old_name i end n = 0
old_name zero (node h s t) n = name_hit h n
old_name (suc i) (node h s t) n = old_name i t n

abbrev pub old_dead : ℕ → Tree → ℕ
old_dead i end = 0
old_dead zero (node h s t) = dead_hit h
old_dead (suc i) (node h s t) = old_dead i t

module _ (x : Slot) (y : Tree) where
  pub occ-set : (i : ℕ) (t : Tree) (c : ℕ) → i ≤ slot_count t → cluster_uses (set_slot i x y t) c + old_uses i t c ≡ cluster_uses t c + (times (chain_of x) c + cluster_uses y c)
  occ-set zero end c k = omega arith
  occ-set zero (node h s t) c k = omega arith
  occ-set (suc i) end c k = absurd (omega arith)
  occ-set (suc i) (node h s t) c k = omega (arith, occ-set i t c (omega arith))

  pub named_set : (i : ℕ) (t : Tree) (n : Name) → i ≤ slot_count t → name_uses (set_slot i x y t) n + old_name i t n ≡ name_uses t n + name_hit x n
  named_set zero end n k = omega arith
  named_set zero (node h s t) n k = omega arith
  named_set (suc i) end n k = absurd (omega arith)
  named_set (suc i) (node h s t) n k = omega (arith, named_set i t n (omega arith))

  pub deads-set : (i : ℕ) (t : Tree) → i ≤ slot_count t → dead_slots (set_slot i x y t) + old_dead i t ≡ dead_slots t + dead_hit x
  deads-set zero end k = omega arith
  deads-set zero (node h s t) k = omega arith
  deads-set (suc i) end k = absurd (omega arith)
  deads-set (suc i) (node h s t) k = omega (arith, deads-set i t (omega arith))

  pub old-le : (i : ℕ) (t : Tree) (c : ℕ) → old_uses i t c ≤ cluster_uses t c
  old-le i end c = omega arith
  old-le zero (node h s t) c = omega arith
  old-le (suc i) (node h s t) c = omega (arith, old-le i t c)

  pub over-in : (v : View) (i q d : ℕ) (ps : List ℕ) (t : Tree) → i ≤ slot_count t → HoldsSlots v d ps t → (p : ℕ) → hit q p ≤ times (set_page i q ps) p
  over-in v zero q d [] t k r p = omega arith
  over-in v zero q d (a ∷ ps) t k r p = omega arith
  over-in v (suc i) q d ps end k r p = absurd (omega arith)
  over-in v (suc i) q d [] (node h s t) k r p = absurd r
  over-in v (suc i) q d (a ∷ ps) (node h s t) k r p = omega (arith, over-in v i q d ps t (omega arith) r.3 p)

  -- The view w holds the slots with one replaced, if it agrees with v on the others and holds the new one.
  pub rep_set : (v w : View) (i q d : ℕ) (ps : List ℕ) (t : Tree) → i ≤ slot_count t → HoldsSlots v d ps t
      → ((p : ℕ) → times (set_page i q ps) p + cluster_uses t (p / 2) ≤ 1) → ((c : ℕ) → cluster_uses t c ≤ 1)
      → ((p : ℕ) → 1 ≤ times ps p + cluster_uses t (p / 2) → hit q p + old_uses i t (p / 2) ≡ 0 → SameP v w p)
      → ((c : ℕ) → 1 ≤ cluster_uses t c → old_uses i t c ≡ 0 → w.link c ≡ v.link c)
      → HoldsSlot w d q x × UniqueNames y × HoldsSlots w (pred d) (entry_pages x) y
      → HoldsSlots w d (set_page i q ps) (set_slot i x y t)
  rep_set v w zero q d [] end le r sep one k m g = (g.0, g.1, g.2, tt)
  rep_set v w zero q d (p ∷ ps) end le r sep one k m g = absurd r
  rep_set v w zero q d [] (node h s t) le r sep one k m g = absurd r
  rep_set v w zero q d (p ∷ ps) (node h s t) le r sep one k m g =
      (g.0, g.1, g.2, frame v w d ps t (λ a u. k a (omega arith) (omega (arith, sep a))) (λ c u. m c (omega arith) (omega (arith, one c))) r.3)
  rep_set v w (suc i) q d ps end le r sep one k m g = absurd (omega arith)
  rep_set v w (suc i) q d [] (node h s t) le r sep one k m g = absurd r
  rep_set v w (suc i) q d (p ∷ ps) (node h s t) le r sep one k m g =
      let qi = over-in v i q d ps t (omega arith) r.3 in
      let ol = old-le i t in (
        held-frame v w d p h (k p (omega (arith, hit-self p)) (omega (arith, sep p, qi p, ol (p / 2), hit-self p))).0
            (λ c u. m c (omega arith) (omega (arith, one c, ol c))) (λ a u. k a (omega (arith, parts-le h a)) (omega (arith, sep a, qi a, ol (a / 2), parts-le h a))) r.0,
        r.1,
        frame v w (pred d) (entry_pages h) s (λ a u. k a (omega (arith, parts-le h a)) (omega (arith, sep a, qi a, ol (a / 2), parts-le h a)))
            (λ c u. m c (omega arith) (omega (arith, one c, ol c))) r.2,
        rep_set v w i q d ps t (omega arith) r.3 (λ a. omega (arith, sep a)) (λ c. omega (arith, one c)) (λ a u z. k a (omega arith) z) (λ c u z. m c (omega arith) z) g,
      )

pub get-node : (h : Slot) (s t : Tree) (n : Name) (r : Path) → look_in (node h s t) (n ∷ r) ≡ cond (is_named h n) (look_from h s r) (look_in t (n ∷ r))
get-node h s t n [] = refl
get-node h s t n (m ∷ r) = refl

pub is-named : (h : Slot) (n : Name) → name_hit h n ≡ cond (is_named h n) 1 0
is-named Slot.dead n = refl
is-named (Slot.file e cs ds) n = refl
is-named (Slot.directory e cs) n = refl

pub get_none : (t : Tree) (n : Name) (r : Path) → name_uses t n ≡ 0 → look_in t (n ∷ r) ≡ absent
get_none end n r e = refl
get_none (node h s t) n r e =
    get-node h s t n r
    ∙ ⊎_elim (λ i. absurd (let z : name_hit h n ≡ 1 = is-named h n ∙ rw i in omega arith)) (λ i. rw i (get_none t n r (omega arith))) (bool (is_named h n))

module _ (x : Slot) (y : Tree) where
  -- the new node is found by its name
  pub get-new : (i : ℕ) (t : Tree) (n : Name) (r : Path) → i ≤ slot_count t → is_named x n ≡ true → name_uses (set_slot i x y t) n ≤ 1 → look_in (set_slot i x y t) (n ∷ r) ≡ look_from x y r
  get-new zero end n r k e u = get-node x y end n r ∙ rw e
  get-new zero (node h s t) n r k e u = get-node x y t n r ∙ rw e
  get-new (suc i) end n r k e u = absurd (omega arith)
  get-new (suc i) (node h s t) n r k e u =
      get-node h s (set_slot i x y t) n r
      ∙ ⊎_elim (λ f. absurd (let a : name_hit h n ≡ 1 = is-named h n ∙ rw f in let b : name_hit x n ≡ 1 = is-named x n ∙ rw e in let c = old-name-le i t n in omega (arith, named_set x y i t n (omega arith))))
      (λ f. rw f (get-new i t n r (omega arith) e (omega arith))) (bool (is_named h n))
    where
      old-name-le : (i : ℕ) (t : Tree) (n : Name) → old_name i t n ≤ name_uses t n
      old-name-le i end n = omega arith
      old-name-le zero (node h s t) n = omega arith
      old-name-le (suc i) (node h s t) n = omega (arith, old-name-le i t n)

  -- other names are found as before
  pub get_other : (i : ℕ) (t : Tree) (n : Name) (r : Path) → i ≤ slot_count t → is_named x n ≡ false → old_name i t n ≡ 0 → look_in (set_slot i x y t) (n ∷ r) ≡ look_in t (n ∷ r)
  get_other zero end n r k e u = get-node x y end n r ∙ rw e
  get_other zero (node h s t) n r k e u =
      get-node x y t n r ∙ rw e (sym (get-node h s t n r ∙ ⊎_elim (λ f. absurd (let a : name_hit h n ≡ 1 = is-named h n ∙ rw f in omega arith)) (λ f. rw f) (bool (is_named h n))))
  get_other (suc i) end n r k e u = absurd (omega arith)
  get_other (suc i) (node h s t) n r k e u = get-node h s (set_slot i x y t) n r ∙ rw (get_other i t n r (omega arith) e u) (sym (get-node h s t n r))
