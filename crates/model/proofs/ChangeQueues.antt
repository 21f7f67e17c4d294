-- A queue of changes, in any order, on a machine.
use mathlib.Core.Bool.{false, true}
use mathlib.Core.List.{List, [], ◌++◌, ◌∷◌, map}
use mathlib.Core.Option.{some}
use mathlib.Core.Path.{◌∙◌, ◌≡◌, ap, refl, sym}
use Rattle.model.specs.Change.{Change, Rules, creates, path}
use Rattle.model.specs.Names.{Path, beginning}
use Rattle.model.proofs.ChangeOperations.{Machine, creation, op, op-apart, op-local}
use Rattle.model.proofs.OperationQueues.{Clear, Creations, Each, Oks, Perm, any_order, clear-perm, creations-perm, one-tree, runs}
use Rattle.model.proofs.Operations.{AbstractCard, Operation}

-- no path is a beginning of another's
abbrev pub Beside : Change → List Change → Type 0
Beside a [] = Unit {0}
Beside a (b ∷ bs) = (beginning (path a) (path b) ≡ false) × (beginning (path b) (path a) ≡ false) × Beside a bs

abbrev pub Far : List Change → Type 0
Far [] = Unit {0}
Far (a ∷ as') = Beside a as' × Far as'

abbrev pub AllCreate : List Change → Type 0
AllCreate [] = Unit {0}
AllCreate (a ∷ as') = (creates a ≡ true) × AllCreate as'

abbrev pub Same : List Change → List Change → Type 0
Same [] ys = ys ≡ []
Same (x ∷ xs) ys = (l : List Change) × (r : List Change) × (ys ≡ l ++ (x ∷ r)) × Same xs (l ++ r)

module _ (rules : Rules) (M : Machine rules) where
  abbrev o : Change → Operation
  o c = op rules c

  -- every change accepted, from x to z
  abbrev pub Night : M.State → List Change → M.State → Type 0
  Night x [] z = x ≡ z
  Night x (c ∷ cs) z = (y : M.State) × (M.run c x ≡ some y) × Night y cs z

  map-append : (l r : List Change) → map o (l ++ r) ≡ map o l ++ map o r
  map-append [] r = refl
  map-append (c ∷ l) r = ap (λ t. o c ∷ t) (map-append l r)

  perm : (xs ys : List Change) → Same xs ys → Perm (map o xs) (map o ys)
  perm [] ys p = rw p
  perm (x ∷ xs) ys (l, r, e, p) = (map o l, map o r, rw e (map-append l (x ∷ r)), rw map-append at (perm xs (l ++ r) p))

  each : (a : Change) (bs : List Change) → Beside a bs → Each (o a) (map o bs)
  each a [] h = tt
  each a (b ∷ bs) h = (op-apart rules a b h.0 h.1, each a bs h.2)

  clear : (cs : List Change) → Far cs → Clear (map o cs)
  clear [] h = tt
  clear (c ∷ cs) h = (op-local rules c, each c cs h.0, clear cs h.1)

  makes : (cs : List Change) → AllCreate cs → Creations (map o cs)
  makes [] h = tt
  makes (c ∷ cs) h = (creation rules c h.0, makes cs h.1)

  night-abs : (x z : M.State) (cs : List Change) → M.Sound x → Night x cs z → Oks (map o cs) (M.abstract x) × (M.abstract z ≡ runs (map o cs) (M.abstract x))
  night-abs x z [] s n = (tt, ap M.abstract (sym n))
  night-abs x z (c ∷ cs) s (y, e, n) =
      let t = M.ran c x y s e in
      let i = night-abs y z cs t.0 n in
      ((t.1, rw t.2 at i.0), i.1 ∙ ap (runs (map o cs)) t.2)

  abs-night : (x : M.State) (cs : List Change) → M.Sound x → Oks (map o cs) (M.abstract x) → (z : M.State) × Night x cs z
  abs-night x [] s k = (x, refl)
  abs-night x (c ∷ cs) s k =
      let (y, e) = M.runs c x s k.0 in
      let t = M.ran c x y s e in
      let (z, n) = abs-night y cs t.0 (rw t.2 k.1) in
      (z, (y, e, n))

  -- Any two orders in which every change is accepted end in one tree. Of creations, every order is accepted if one is, and the free counts agree.
  pub nights : (x : M.State) → M.Sound x → (xs ys : List Change) → Far xs → Same xs ys
      → ((z z' : M.State) → Night x xs z → Night x ys z' → (p : Path) → (M.abstract z).look p ≡ (M.abstract z').look p)
      × (AllCreate xs → (z : M.State) → Night x xs z → (z' : M.State) × Night x ys z' × ((M.abstract z).free ≡ (M.abstract z').free))
  nights x s xs ys f p = (tree, made)
    where
      cl : Clear (map o xs)
      cl = clear xs f

      pm : Perm (map o xs) (map o ys)
      pm = perm xs ys p

      cy : Clear (map o ys)
      cy = clear-perm (map o xs) (map o ys) pm cl

      tree : (z z' : M.State) → Night x xs z → Night x ys z' → (q : Path) → (M.abstract z).look q ≡ (M.abstract z').look q
      tree z z' n n' q =
          rw ((night-abs x z xs s n).1, (night-abs x z' ys s n').1) (one-tree (map o xs) (map o ys) (M.abstract x) q pm cl cy)

      made : AllCreate xs → (z : M.State) → Night x xs z → (z' : M.State) × Night x ys z' × ((M.abstract z).free ≡ (M.abstract z').free)
      made ac z n =
          let a = night-abs x z xs s n in
          let k = any_order (map o xs) (map o ys) (M.abstract x) pm cy (creations-perm (map o xs) (map o ys) pm (makes xs ac)) a.0 in
          let (z', n') = abs-night x ys s k.0 in
          (z', n', ap (λ (t : AbstractCard). t.free) (a.1 ∙ sym k.1 ∙ sym (night-abs x z' ys s n').1))
