-- What stands at a path of a card: the names lead there exactly where it is found, and its kind is its entry's.
use Prim.Native.Nat.{ℕ, ◌+◌, ◌≤◌, pred}
use mathlib.Core.Bool.{true}
use mathlib.Core.List.{List, [], ◌∷◌, map}
use mathlib.Core.Logic.{◌⊎◌, inl, inr, ⊎_elim}
use mathlib.Core.Path.{◌≡◌, refl}
use native.Mathlib.Omega.{arith}
use lib.ListN.{length}
use Rattle.lookup.proofs.Arrivals.{arrive}
use Rattle.model.proofs.CountLaws.{card-used}
use Rattle.model.proofs.Equality.{and_l, bool, tf}
use Rattle.model.proofs.SlotOfName.{slot_of}
use Rattle.model.proofs.TreePlaces.{part-links, place}
use Rattle.model.specs.Check.{Result, fault, ok}
use Rattle.model.specs.Entry.{Entry, file_clusters, is_directory, is_file}
use Rattle.model.specs.Holds.{HoldsCard, HoldsSlot, HoldsSlots, deepest}
use Rattle.model.specs.Lookup.{Found, absent, found, is_named, look_from, look_in, look_up, tell}
use Rattle.model.specs.Names.{Name, Path}
use Rattle.model.specs.Tree.{Root, Slot, Tree, chain_of, cluster_uses, end, entry_pages, node, root_slot, times}
use Rattle.model.specs.View.{Link, View, pages_of}

pub absent-under : (t : Tree) (n m : Name) (q : Path) → look_in t (n ∷ []) ≡ absent → look_in t (n ∷ m ∷ q) ≡ absent
absent-under end n m q e = refl
absent-under (node x a b) n m q e =
    ⊎_elim (λ i. absurd (let f : found x a ≡ absent = rw i at e in let z : ◌≡◌ {A = ℕ} 0 1 = cc in omega arith))
    (λ i. rw i (absent-under b n m q (rw i at e))) (bool (is_named x n))

module _ (v : View) where
  -- what is known of a slot that is found
  abbrev pub Kinded : Slot → Type 0
  Kinded Slot.dead = ⊥
  Kinded (Slot.file e cs ds) = (is_file e ≡ true) × (length cs ≡ file_clusters e) × (ds ≡ map v.page (pages_of cs))
  Kinded (Slot.directory e cs) = is_directory e ≡ true

  kinded : (d p : ℕ) (h : Slot) (n : Name) → HoldsSlot v d p h → is_named h n ≡ true → Kinded h
  kinded d p Slot.dead n x i = tf i refl
  kinded d p (Slot.file e cs ds) n x i = (x.1, x.2, x.4)
  kinded d p (Slot.directory e cs) n x i = and_l _ _ (and_l _ _ x.1)

  -- where the names lead, beside what is found
  abbrev pub Met : Found → Result (Slot × Tree) → Type 0
  Met absent (fault n p) = (p ≡ 0) × ((n ≡ 9) ⊎ (n ≡ 10))
  Met absent (ok x) = ⊥
  Met (found h t) (fault n p) = ⊥
  Met (found h t) (ok x) = (x.0 ≡ h) × (x.1 ≡ t) × Kinded h

  met-from : (d : ℕ) (ps : List ℕ) (s : Tree) → HoldsSlots v d ps s → (e : Entry) (cs : List ℕ) → is_directory e ≡ true → (q : Path)
      → Met (look_from (Slot.directory e cs) s q) (arrive (Slot.directory e cs) s q)
  met-from d ps s held e cs k [] = (refl, refl, k)
  met-from d ps s held e cs k (n ∷ []) = go (look_in s (n ∷ [])) refl
    where
      go : (f : Found) → look_in s (n ∷ []) ≡ f → Met f (tell (λ h t. arrive h t []) (fault 9 0) f)
      go absent i = (refl, inl refl)
      go (found h t) i = let u = slot_of n s h t i in let y = u.held v d ps held in (refl, refl, kinded d y.0 h n y.1 u.named-so)
  met-from d ps s held e cs k (n ∷ m ∷ q) = go (λ us t y c ds x. met-from (pred d) us t y c ds x (m ∷ q)) (look_in s (n ∷ [])) refl
    where
      Deeper : Type 0
      Deeper =
          (us : List ℕ) (t : Tree) → HoldsSlots v (pred d) us t → (c : Entry) (ds : List ℕ) → is_directory c ≡ true
          → Met (look_in t (m ∷ q)) (arrive (Slot.directory c ds) t (m ∷ q))

      inside : Deeper → (h : Slot) (t : Tree) → is_named h n ≡ true → Kinded h → HoldsSlots v (pred d) (entry_pages h) t → Met (look_in t (m ∷ q)) (arrive h t (m ∷ q))
      inside more Slot.dead t i x y = tf i refl
      inside more (Slot.file c ds ps) end i x y = (refl, inr refl)
      inside more (Slot.file c ds ps) (node a b t) i x y = absurd y
      inside more (Slot.directory c ds) t i x y = more (entry_pages (Slot.directory c ds)) t y c ds x

      go : Deeper → (f : Found) → look_in s (n ∷ []) ≡ f → Met (look_in s (n ∷ m ∷ q)) (tell (λ h t. arrive h t (m ∷ q)) (fault 9 0) f)
      go more absent i = rw (absent-under s n m q i) (refl, inl refl)
      go more (found h t) i =
          let u = slot_of n s h t i in
          let y = u.held v d ps held in
          rw (u.under m q) (inside more h t u.named-so (kinded d y.0 h n y.1 u.named-so) y.2)

  module _ (r : Root) (card : HoldsCard v r) where
    pub met : (q : Path) → Met (look_up r q) (arrive (root_slot r) r.slots q)
    met q = met-from deepest (entry_pages (root_slot r)) r.slots card.rep r.root_entry r.chain (and_l _ _ (and_l _ _ card.good)) q

    -- no cluster of a chain is free
    pub not_free : (q : Path) (h : Slot) (s : Tree) → look_up r q ≡ found h s → (c : ℕ) → v.link c ≡ Link.free → times (chain_of h) c ≡ 0
    not_free [] h s e c f =
        let same : root_slot r ≡ h = cc in
        let within : times r.chain c ≡ 0 = omega (arith, card-used v r card c f) in
        rw (← same) within
    not_free (n ∷ q) h s e c f =
        let z = place r.slots (n ∷ q) h s e in
        let within : times (chain_of h) c + cluster_uses s c ≤ cluster_uses r.slots c = rw z.1 at (part-links h s z.0 c) in
        omega (arith, card-used v r card c f)
