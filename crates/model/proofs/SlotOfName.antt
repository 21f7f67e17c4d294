-- The first dead slot of a directory, the slot of a name, and counts of the clusters of a list.
use Prim.Native.Nat.{◌+◌, ◌-◌, ◌<◌, ◌≤◌, pred, suc, zero, ℕ}
use mathlib.Core.Bool.{false, true}
use mathlib.Core.List.{List, [], ◌∷◌}
use mathlib.Core.Logic.{◌⊎◌, inl, inr, ⊎_elim}
use mathlib.Core.Path.{◌≡◌, ap, refl, sym}
use native.Mathlib.Omega.{arith}
use lib.Dec.{eqb}
use lib.ListN.{get_or, length}
use Rattle.model.specs.Counts.{total_below}
use Rattle.model.specs.Holds.{HoldsSlot, HoldsSlots}
use Rattle.model.specs.Lookup.{first_dead, found, index_of, is_named, look_in}
use Rattle.model.specs.Names.{Name, Path}
use Rattle.model.specs.Tree.{Slot, Tree, chain_of, cluster_uses, dead_hit, dead_slots, end, entry_pages, hit, name_hit, node, slot_count, times}
use Rattle.model.specs.View.{View}
use Rattle.model.proofs.CountLaws.{total-add}
use Rattle.model.proofs.Equality.{Eq-number, bool, zero?}
use Rattle.model.proofs.Frame.{hit-0, hit-self, ne}
use Rattle.model.proofs.SlotLaws.{old_dead, old_name, old_uses}

-- an empty list of pages holds no slots
pub nil_end : (v : View) (d : ℕ) (s : Tree) → HoldsSlots v d [] s → s ≡ end
nil_end v d end r = refl
nil_end v d (node h s t) r = absurd r

-- the first dead slot
pub fd-le : (t : Tree) → first_dead t ≤ slot_count t
fd-le end = omega arith
fd-le (node Slot.dead s t) = omega arith
fd-le (node (Slot.file e cs ds) s t) = omega (arith, fd-le t)
fd-le (node (Slot.directory e cs) s t) = omega (arith, fd-le t)

pub fd-occ : (v : View) (d : ℕ) (ps : List ℕ) (t : Tree) (c : ℕ) → HoldsSlots v d ps t → old_uses (first_dead t) t c ≡ 0
fd-occ v d ps end c r = refl
fd-occ v d [] (node h s t) c r = absurd r
fd-occ v d (p ∷ ps) (node Slot.dead s t) c r = let z : cluster_uses s c ≡ 0 = ap (λ (s : Tree). cluster_uses s c) (nil_end v (pred d) s r.2) in omega arith
fd-occ v d (p ∷ ps) (node (Slot.file e cs ds) s t) c r = fd-occ v d ps t c r.3
fd-occ v d (p ∷ ps) (node (Slot.directory e cs) s t) c r = fd-occ v d ps t c r.3

pub fd-name : (t : Tree) (m : Name) → old_name (first_dead t) t m ≡ 0
fd-name end m = refl
fd-name (node Slot.dead s t) m = refl
fd-name (node (Slot.file e cs ds) s t) m = fd-name t m
fd-name (node (Slot.directory e cs) s t) m = fd-name t m

pub fd-dead : (t : Tree) → ((first_dead t ≡ slot_count t) × (dead_slots t ≡ 0) × (old_dead (first_dead t) t ≡ 0)) ⊎ ((first_dead t < slot_count t) × (old_dead (first_dead t) t ≡ 1))
fd-dead end = inl (refl, refl, refl)
fd-dead (node Slot.dead s t) = inr (omega arith, refl)
fd-dead (node (Slot.file e cs ds) s t) = ⊎_elim (λ z. inl (ap suc z.0, omega (arith, z.1), z.2)) (λ z. inr (omega (arith, z.0), z.1)) (fd-dead t)
fd-dead (node (Slot.directory e cs) s t) = ⊎_elim (λ z. inl (ap suc z.0, omega (arith, z.1), z.2)) (λ z. inr (omega (arith, z.0), z.1)) (fd-dead t)

-- the slot of a name
pub record SlotOf (n : Name) (t : Tree) (h : Slot) (s : Tree) : Type 0 where
  pub lt : index_of n t < slot_count t
  pub uses : (c : ℕ) → old_uses (index_of n t) t c ≡ times (chain_of h) c + cluster_uses s c
  pub names : (m : Name) → old_name (index_of n t) t m ≡ name_hit h m
  pub is_dead : old_dead (index_of n t) t ≡ dead_hit h
  pub named-so : is_named h n ≡ true
  pub under : (k : Name) (z : Path) → look_in t (n ∷ k ∷ z) ≡ look_in s (k ∷ z)
  pub page : (v : View) (d : ℕ) (ps : List ℕ) → HoldsSlots v d ps t → HoldsSlot v d (get_or ps (index_of n t) 0) h
  pub held : (v : View) (d : ℕ) (ps : List ℕ) → HoldsSlots v d ps t → (p : ℕ) × HoldsSlot v d p h × HoldsSlots v (pred d) (entry_pages h) s

pub slot_of : (n : Name) (t : Tree) (h : Slot) (s : Tree) → look_in t (n ∷ []) ≡ found h s → SlotOf n t h s
slot_of n end h s e = absurd (let z : ◌≡◌ {A = ℕ} 0 1 = cc in omega arith)
slot_of n (node x a b) h s e = ⊎_elim (λ i. hit i (rw i at e)) (λ i. miss i (slot_of n b h s (rw i at e))) (bool (is_named x n))
  where
    self : is_named x n ≡ true → SlotOf n (node x a b) x a
    self i =
        record {
          lt = rw i (omega arith);
          uses = λ c. rw i;
          names = λ m. rw i;
          is_dead = rw i;
          named-so = i;
          under = λ k z. rw i;
          page = first;
          held = here;
        }
      where
        first : (v : View) (d : ℕ) (ps : List ℕ) → HoldsSlots v d ps (node x a b) → HoldsSlot v d (get_or ps (index_of n (node x a b)) 0) x
        first v d [] r = absurd r
        first v d (p ∷ ps) r = rw i r.0

        here : (v : View) (d : ℕ) (ps : List ℕ) → HoldsSlots v d ps (node x a b) → (p : ℕ) × HoldsSlot v d p x × HoldsSlots v (pred d) (entry_pages x) a
        here v d [] r = absurd r
        here v d (p ∷ ps) r = (p, r.0, r.2)

    hit : is_named x n ≡ true → found x a ≡ found h s → SlotOf n (node x a b) h s
    hit i f = let p : x ≡ h = cc in let q : a ≡ s = cc in rw (← p, ← q) (self i)

    miss : is_named x n ≡ false → SlotOf n b h s → SlotOf n (node x a b) h s
    miss i k =
        record {
          lt = rw i (omega (arith, k.lt));
          uses = λ c. rw i (k.uses c);
          names = λ m. rw i (k.names m);
          is_dead = rw i k.is_dead;
          named-so = k.named-so;
          under = λ m z. rw i (k.under m z);
          page = later;
          held = there;
        }
      where
        later : (v : View) (d : ℕ) (ps : List ℕ) → HoldsSlots v d ps (node x a b) → HoldsSlot v d (get_or ps (index_of n (node x a b)) 0) h
        later v d [] r = absurd r
        later v d (p ∷ ps) r = rw i (k.page v d ps r.3)

        there : (v : View) (d : ℕ) (ps : List ℕ) → HoldsSlots v d ps (node x a b) → (p : ℕ) × HoldsSlot v d p h × HoldsSlots v (pred d) (entry_pages h) s
        there v d [] r = absurd r
        there v d (p ∷ ps) r = k.held v d ps r.3

-- counting the clusters of a list
total-ind-0 : (x k : ℕ) → k ≤ x → total_below (hit x) k ≡ 0
total-ind-0 x zero h = refl
total-ind-0 x (suc k) h = omega (arith, total-ind-0 x k (omega arith), hit-0 x k (λ e. omega arith))

total-ind-1 : (x k : ℕ) → x < k → total_below (hit x) k ≡ 1
total-ind-1 x zero h = absurd (omega arith)
total-ind-1 x (suc k) h =
    ⊎_elim (λ (a : eqb x k ≡ true). let e : x ≡ k = Eq-number.sound x k a in let i : hit x k ≡ 1 = rw a in omega (arith, total-ind-0 x k (omega arith)))
    (λ (a : eqb x k ≡ false). let n = ne x k a in let i : hit x k ≡ 0 = rw a in omega (arith, total-ind-1 x k (omega arith))) (bool (eqb x k))

total-zero : (k : ℕ) → total_below (λ c. 0) k ≡ 0
total-zero zero = refl
total-zero (suc k) = omega (arith, total-zero k)

pub total-times : (xs : List ℕ) (k : ℕ) → ((c : ℕ) → k ≤ c → times xs c ≡ 0) → total_below (times xs) k ≡ length xs
total-times [] k h = total-zero k
total-times (x ∷ xs) k h =
    let lt : x < k = ⊎_elim (λ (z : k - x ≡ 0). absurd (omega (arith, h x (omega arith), hit-self x))) (λ (z : 1 ≤ k - x). omega arith) (zero? (k - x)) in
    omega (arith, sym (total-add (hit x) (times xs) k), total-ind-1 x k lt, total-times xs k (λ c u. omega (arith, h c u)))
