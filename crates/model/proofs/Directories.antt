-- The directory that a change works in, and what its refusals say of it.
use Prim.Native.Nat.{◌+◌, ◌-◌, ◌<◌, ◌≤◌, pred, suc, zero, ℕ}
use mathlib.Core.Bool.{Bool, cond, false, true}
use mathlib.Core.List.{List, [], ◌++◌, ◌∷◌}
use mathlib.Core.Logic.{◌⊎◌, inl, inr, ⊎_elim}
use mathlib.Core.Option.{Option, none}
use mathlib.Core.Path.{◌∙◌, ◌≡◌, ap, refl}
use native.Mathlib.Omega.{arith}
use lib.Dec.{eqb}
use lib.ListN.{length}
use Rattle.model.specs.Change.{Change, Rules, path}
use Rattle.model.specs.Entry.{Entry}
use Rattle.model.specs.Holds.{HoldsCard, HoldsSlots, deepest}
use Rattle.model.specs.Lookup.{Found, absent, found, is_named, look_from, look_in, page_at_path, tell}
use Rattle.model.specs.Names.{Name, Path, good_name, good_names, last_name, parent}
use Rattle.model.specs.Plan.{Directory}
use Rattle.model.specs.Refusal.{first}
use Rattle.model.specs.Standing.{Standing, standing}
use Rattle.model.specs.Tree.{Root, Slot, Tree, cluster_uses, dead_slots, end, name_hit, name_uses, node, root_slot, slot_count}
use Rattle.model.specs.View.{View}
use Rattle.model.proofs.AbstractCards.{abstract_of, no_room, room_of_slot}
use Rattle.model.proofs.ChangeOperations.{standing_empty, standing_file, standing_lack, standing_on_way, standing_way}
use Rattle.model.proofs.Equality.{Eq-number, and_l, and_r, bool, tf}
use Rattle.model.proofs.Sites.{Site, site}
use Rattle.model.proofs.SlotLaws.{is-named}
use Rattle.model.proofs.SlotOfName.{nil_end}

pub first-0 : (a b : ℕ) → first a b ≡ 0 → (a ≡ 0) × (b ≡ 0)
first-0 zero b e = (refl, e)
first-0 (suc a) b e = absurd (omega arith)

pub snoc-path : (p : Path) → 0 < length p → p ≡ parent p ++ (last_name p ∷ [])
snoc-path [] h = absurd (omega arith)
snoc-path (n ∷ []) h = refl
snoc-path (n ∷ m ∷ p) h = ap (λ l. n ∷ l) (snoc-path (m ∷ p) (omega arith))

pub length-parent : (p : Path) → length (parent p) ≡ length p - 1
length-parent [] = refl
length-parent (n ∷ []) = refl
length-parent (n ∷ m ∷ p) = omega (arith, length-parent (m ∷ p))

pub good-last : (p : Path) → 0 < length p → good_names p ≡ true → good_name (last_name p) ≡ true
good-last [] h g = absurd (omega arith)
good-last (n ∷ []) h g = and_l _ _ g
good-last (n ∷ m ∷ p) h g = good-last (m ∷ p) (omega arith) (and_r (good_name n) _ g)

pub way-parent : (f : Path → Option Standing) (p : Path) → standing_way f p ≡ 0 → (parent p ≡ []) ⊎ (standing_on_way (f (parent p)) ≡ 0)
way-parent f [] e = inl refl
way-parent f (n ∷ []) e = inl refl
way-parent f (n ∷ m ∷ []) e = inr (first-0 _ _ e).0
way-parent f (n ∷ m ∷ k ∷ p) e = ⊎_elim (λ z. absurd (not-empty (parent (k ∷ p)) z)) (λ z. inr z) (way-parent (λ r. f (n ∷ r)) (m ∷ k ∷ p) (first-0 (standing_on_way (f (n ∷ []))) _ e).1)
  where
    not-empty : (q : Path) → ◌≡◌ {A = Path} (m ∷ q) [] → ⊥
    not-empty q z = let y : ◌≡◌ {A = ℕ} 0 1 = cc in omega arith

module _ (y : Rules) where
  pub on-dir : (g : Found) → standing_on_way (tell standing none g) ≡ 0 → (e : Entry) × (cs : List ℕ) × (s : Tree) × (g ≡ found (Slot.directory e cs) s)
  on-dir absent z = absurd (omega arith)
  on-dir (found Slot.dead s) z = absurd (omega arith)
  on-dir (found (Slot.file e cs ds) s) z = absurd (omega arith)
  on-dir (found (Slot.directory e cs) s) z = (e, cs, s, refl)

  pub must-file : (g : Found) → standing_file (tell standing none g) ≡ 0 → (e : Entry) × (cs : List ℕ) × (ds : List (Option (List ℕ))) × (s : Tree) × (g ≡ found (Slot.file e cs ds) s)
  must-file absent z = absurd (omega arith)
  must-file (found Slot.dead s) z = absurd (omega arith)
  must-file (found (Slot.file e cs ds) s) z = (e, cs, ds, s, refl)
  must-file (found (Slot.directory e cs) s) z = absurd (omega arith)

  pub must-empty : (g : Found) → standing_empty (tell (room_of_slot y) no_room g) (tell standing none g) ≡ 0 → (e : Entry) × (cs : List ℕ) × (s : Tree) × (g ≡ found (Slot.directory e cs) s) × (e.length ≡ 2 + dead_slots s)
  must-empty absent z = absurd (omega arith)
  must-empty (found Slot.dead s) z = absurd (omega arith)
  must-empty (found (Slot.file e cs ds) s) z = absurd (omega arith)
  must-empty (found (Slot.directory e cs) s) z = (e, cs, s, refl, test (eqb e.length (2 + dead_slots s)) refl z)
    where
      test : (b : Bool) → eqb e.length (2 + dead_slots s) ≡ b → ◌≡◌ {A = ℕ} (cond b 0 13) 0 → e.length ≡ 2 + dead_slots s
      test true a z = Eq-number.sound _ _ a
      test false a z = absurd (omega arith)

  pub must-lack : (s : Tree) (n : Name) → standing_lack (tell standing none (look_in s (n ∷ []))) ≡ 0 → name_uses s n ≡ 0
  must-lack end n z = refl
  must-lack (node h a b) n z = ⊎_elim (λ i. absurd (is_live h i (rw i at z))) (λ i. go i (must-lack b n (rw i at z))) (bool (is_named h n))
    where
      is_live : (h : Slot) → is_named h n ≡ true → standing_lack (standing h a) ≡ 0 → ⊥
      is_live Slot.dead i z = tf i refl
      is_live (Slot.file e cs ds) i z = omega arith
      is_live (Slot.directory e cs) i z = omega arith

      go : is_named h n ≡ false → name_uses b n ≡ 0 → name_hit h n + name_uses b n ≡ 0
      go i k = let w : name_hit h n ≡ 0 = is-named h n ∙ rw i in omega arith

  pub all-dead : (v : View) (d : ℕ) (ps : List ℕ) (t : Tree) → HoldsSlots v d ps t → dead_slots t ≡ slot_count t → ((n : Name) → name_uses t n ≡ 0) × ((c : ℕ) → cluster_uses t c ≡ 0)
  all-dead v d ps end r e = ((λ n. refl), (λ c. refl))
  all-dead v d [] (node h s t) r e = absurd r
  all-dead v d (p ∷ ps) (node Slot.dead s t) r e =
      let z = all-dead v d ps t r.3 (omega arith) in
      let w : s ≡ end = nil_end v (pred d) s r.2 in
      ((λ n. omega (arith, z.0 n)), (λ c. omega (arith, z.1 c, ap (λ (s : Tree). cluster_uses s c) w)))
  all-dead v d (p ∷ ps) (node (Slot.file a b c) s t) r e = absurd (omega (arith, deads-le t))
    where
      deads-le : (t : Tree) → dead_slots t ≤ slot_count t
      deads-le end = omega arith
      deads-le (node Slot.dead s t) = omega (arith, deads-le t)
      deads-le (node (Slot.file e cs ds) s t) = omega (arith, deads-le t)
      deads-le (node (Slot.directory e cs) s t) = omega (arith, deads-le t)
  all-dead v d (p ∷ ps) (node (Slot.directory a b) s t) r e = absurd (omega (arith, deads-le t))
    where
      deads-le : (t : Tree) → dead_slots t ≤ slot_count t
      deads-le end = omega arith
      deads-le (node Slot.dead s t) = omega (arith, deads-le t)
      deads-le (node (Slot.file e cs ds) s t) = omega (arith, deads-le t)
      deads-le (node (Slot.directory e cs) s t) = omega (arith, deads-le t)

  -- The directory that a change works in.
  pub record Where (v : View) (r : Root) (a : Change) : Type 1 where
    pub directory_entry : Entry
    pub directory_chain : List ℕ
    pub directory_slots : Tree
    pub found-so : look_from (root_slot r) r.slots (parent (path a)) ≡ found (Slot.directory directory_entry directory_chain) directory_slots
    pub st : Site v r (parent (path a)) (page_at_path r (parent (path a))) directory_entry directory_chain directory_slots (deepest - length (parent (path a)))
    pub at : look_from (root_slot r) r.slots (path a) ≡ look_in directory_slots (last_name (path a) ∷ [])

  -- its page, entry and chain
  abbrev pub directory_of : {v : View} {r : Root} {a : Change} → Where v r a → Directory
  directory_of {v} {r} {a} wh = record { page = page_at_path r (parent (path a)); entry = wh.directory_entry; chain = wh.directory_chain }

  pub where-is : (v : View) (r : Root) → HoldsCard v r → (a : Change) → 0 < length (path a) → standing_way (abstract_of y v r).look (path a) ≡ 0 → Where v r a
  where-is v r h a k w = ⊎_elim (λ z. make r.root_entry r.chain r.slots (rw z)) (λ z. let d = on-dir _ z in make d.0 d.1 d.2 d.3) (way-parent (abstract_of y v r).look (path a) w)
    where
      make : (e : Entry) (cs : List ℕ) (s : Tree) → look_from (root_slot r) r.slots (parent (path a)) ≡ found (Slot.directory e cs) s → Where v r a
      make e cs s f =
          let t = site v r h (parent (path a)) e cs s f in
          record { directory_entry = e; directory_chain = cs; directory_slots = s; found-so = f; st = t; at = ap (λ (z : Path). look_from (root_slot r) r.slots z) (snoc-path (path a) k) ∙ t.here (last_name (path a) ∷ []) }
