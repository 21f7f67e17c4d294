-- What stands on the new clusters of a plan, and the room of a directory with one entry more.
use Prim.Native.Nat.{◌%◌, ◌*◌, ◌+◌, ◌-◌, ◌/◌, ◌<◌, ◌≤◌, suc, ℕ}
use mathlib.Core.Bool.{Bool, ◌&&◌, ◌||◌, false, true}
use mathlib.Core.List.{List, [], ◌∷◌, head-eq_of_cons-eq, map, tail-eq_of_cons-eq}
use mathlib.Core.Logic.{inl, inr, ⊎_elim}
use mathlib.Core.Option.{some}
use mathlib.Core.Path.{◌∙◌, ◌≡◌, ap, refl, sym}
use native.Mathlib.Omega.{arith}
use lib.Dec.{eqb, ltb, lt→ltb}
use lib.ListN.{length}
use Rattle.model.specs.Change.{Rules}
use Rattle.model.specs.Entry.{Entry, directory_clusters, end_mark, file_clusters, is_directory, is_file, is_subdirectory}
use Rattle.model.specs.Holds.{DotEntries, HoldsSlot}
use Rattle.model.specs.Lookup.{first_dead}
use Rattle.model.specs.Names.{Path, same_name}
use Rattle.model.specs.Pages.{decoded, zero_cluster}
use Rattle.model.specs.Plan.{Plan, after, first_of, growth_with_one, length_with_one, link_to, set_all}
use Rattle.model.specs.Tree.{Root, Slot, Tree, dead_hit, dead_slots, end, hit, reached, slot_count, times}
use Rattle.model.specs.View.{View, first_link, pages_of}
use Rattle.model.proofs.Equality.{Eq-number, bool, of_T, zero?}
use Rattle.model.proofs.Frame.{ne, needs, parts-le, times-pages}
use Rattle.model.proofs.Operations.{Room, grow₁, take₁}
use Rattle.model.proofs.PlanFits.{Shape, length-pages}
use Rattle.model.proofs.PlanHolds.{Fits, InTree, all_map, links-fs}
use Rattle.model.proofs.Sites.{Site}
use Rattle.model.proofs.SlotLaws.{deads-set, set_slot}
use Rattle.model.proofs.SlotOfName.{fd-dead, fd-le}

module _ (y : Rules) where
  -- What stands on the new clusters.
  module _ (v : View) (r : Root) (p : Plan) {t : InTree} (ft : Fits v (reached r) p t) (pu : (a : ℕ) → hit p.directory.page a ≤ reached r (a / 2)) where
    apart : (a : ℕ) → 1 ≤ times (pages_of p.taken) a → (eqb p.slot_page a ≡ false) × (eqb p.directory.page a ≡ false)
    apart a h =
        let c = times-pages p.taken a in
        let z : hit p.slot_page a ≡ 0 = omega (arith, ft.slot a, ft.clear (a / 2), ft.own (a / 2)) in
        let w : hit p.directory.page a ≡ 0 = omega (arith, pu a, ft.clear (a / 2)) in
        (off p.slot_page z, off p.directory.page w)
      where
        off : (x : ℕ) → hit x a ≡ 0 → eqb x a ≡ false
        off x i = ⊎_elim (λ (b : eqb x a ≡ true). absurd (let j : hit x a ≡ 1 = rw b in omega arith)) (λ b. b) (bool (eqb x a))

    once : (a : ℕ) → times (pages_of p.taken) a ≤ 1
    once a = omega (arith, times-pages p.taken a, ft.clear (a / 2))

    pub new-pages : length p.filling.pages ≡ 2 * length p.taken → map (after v p).page (pages_of p.taken) ≡ p.filling.pages
    new-pages e = all_map (after v p).page (pages_of p.taken) p.filling.pages (set_all (pages_of p.growth) zero_cluster v.page) (e ∙ sym (length-pages p.taken)) once (λ a h. let z = apart a h in rw (z.0, z.1))

    pub new-ents : length (map decoded p.filling.pages) ≡ 2 * length p.taken → map (after v p).entry (pages_of p.taken) ≡ map decoded p.filling.pages
    new-ents e = all_map (after v p).entry (pages_of p.taken) (map decoded p.filling.pages) (set_all (pages_of p.growth) (map decoded zero_cluster) v.entry) (e ∙ sym (length-pages p.taken)) once (λ a h. let z = apart a h in rw (z.0, z.1))

    pub slot-ent : (after v p).entry p.slot_page ≡ some p.filling.entry
    slot-ent = rw (Eq-number.self p.slot_page)

    pub held-file : (D : ℕ) → is_file p.filling.entry ≡ true → length p.taken ≡ file_clusters p.filling.entry → first_link p.filling.entry ≡ link_to p.taken → length p.filling.pages ≡ 2 * length p.taken
        → HoldsSlot (after v p) D p.slot_page (Slot.file p.filling.entry p.taken p.filling.pages)
    held-file D a b c d = (slot-ent, a, b, rw c (links-fs v (reached r) p ft), sym (new-pages d))

    pub held-dir : (D : ℕ) (d u : Entry) → is_subdirectory p.filling.entry ≡ true → 0 < D → length p.taken ≡ directory_clusters p.filling.entry → length p.taken ≡ 1 → first_link p.filling.entry ≡ link_to p.taken
        → map decoded p.filling.pages ≡ some d ∷ some u ∷ [] → (is_directory d && same_name d.name (0x2E ∷ [])) ≡ true → (is_directory u && same_name u.name (0x2E ∷ 0x2E ∷ [])) ≡ true
        → HoldsSlot (after v p) D p.slot_page (Slot.directory p.filling.entry p.taken)
    held-dir D d u a z b o c ed gd gu =
        (slot-ent, a, z, b, rw c (links-fs v (reached r) p ft), dots p.taken o (new-ents (ap length ed ∙ omega arith) ∙ ed))
      where
        dots : (fs : List ℕ) → length fs ≡ 1 → map (after v p).entry (pages_of fs) ≡ some d ∷ some u ∷ [] → DotEntries (after v p) fs
        dots [] o e = absurd (omega arith)
        dots (c ∷ []) o e =
            let e₁ : (after v p).entry (2 * c) ≡ some d = head-eq_of_cons-eq e in
            let e₂ : (after v p).entry (2 * c + 1) ≡ some u = head-eq_of_cons-eq (tail-eq_of_cons-eq e) in
            ((d, e₁, gd), (u, e₂, gu))
        dots (c ∷ c' ∷ cs) o e = absurd (omega arith)

  pub p-used : (v : View) (r : Root) (q : Path) (P : ℕ) (e : Entry) (cs : List ℕ) (s : Tree) (D : ℕ) → Site v r q P e cs s D → (a : ℕ) → hit P a ≤ reached r (a / 2)
  p-used v r q P e cs s D t a =
      ⊎_elim (λ (u : (a : ℕ) → hit P a + times cs (a / 2) ≤ reached r (a / 2)). omega (arith, u a))
      (λ (u : (a : ℕ) → hit P a ≤ times (needs (Slot.directory e cs)) a). omega (arith, u a, parts-le (Slot.directory e cs) a, t.own (a / 2))) t.entry

  pub empty-or : (n : ℕ) (fs : List ℕ) → length fs ≡ (n + 1023) / 1024 → (ltb 0 n || eqb (first_of fs) end_mark) ≡ true
  empty-or n fs e = ⊎_elim (λ (z : n ≡ 0). rw (none fs (omega arith)) (or_r (ltb 0 n))) (λ (z : 1 ≤ n). let t : ltb 0 n ≡ true = of_T (lt→ltb 0 n z) in rw t) (zero? n)
    where
      none : (fs : List ℕ) → length fs ≡ 0 → fs ≡ []
      none [] h = refl
      none (c ∷ cs) h = absurd (omega arith)

      or_r : (b : Bool) → (b || true) ≡ true
      or_r true = refl
      or_r false = refl

  pub shape-new : (e : Entry) (s : Tree) → Shape e s (first_dead s) (length_with_one e s) (growth_with_one e s)
  shape-new e s =
      ⊎_elim (λ (a : eqb (first_dead s) (slot_count s) ≡ true). inr (Eq-number.sound (first_dead s) (slot_count s) a, rw a, rw a))
      (λ (a : eqb (first_dead s) (slot_count s) ≡ false). let z = ne (first_dead s) (slot_count s) a in inl (rw a, rw a, omega (arith, fd-le s))) (bool (eqb (first_dead s) (slot_count s)))

  pub lt-eqb : (a b : ℕ) → a < b → eqb a b ≡ false
  lt-eqb a b h = ⊎_elim (λ (z : eqb a b ≡ true). absurd (let e : a ≡ b = Eq-number.sound a b z in omega arith)) (λ z. z) (bool (eqb a b))

  -- creation's room
  pub room-new : (e : Entry) (s : Tree) (x : Slot) (b b' : ℕ) → dead_hit x ≡ 0 → b' ≡ b + growth_with_one e s
      → ◌≡◌ {A = Room} (record { dead = dead_slots (set_slot (first_dead s) x end s); length = length_with_one e s; back = b' }) (take₁ (dead_slots s) e.length b)
  room-new e s x b b' dx lb =
      ⊎_elim
      (λ z. let t : eqb (first_dead s) (slot_count s) ≡ true = rw z.0 (Eq-number.self (slot_count s)) in
      let d : dead_slots (set_slot (first_dead s) x end s) ≡ 0 = omega (arith, deads-set x end (first_dead s) s (fd-le s), z.1, z.2) in
      let u : b' ≡ b + (1 - e.length % 2) = rw t at lb in
      rw (t, z.1) (λ i. record { dead = d i; length = suc e.length; back = u i }))
      (λ z. let t = lt-eqb (first_dead s) (slot_count s) z.0 in
      let d : dead_slots s ≡ suc (dead_slots (set_slot (first_dead s) x end s)) = omega (arith, deads-set x end (first_dead s) s (fd-le s), z.1) in
      let u : b' ≡ b = (rw t at lb) ∙ omega arith in
      rw (t, d, u))
      (fd-dead s)

  pub grow-new : (e : Entry) (s : Tree) → growth_with_one e s ≡ grow₁ (dead_slots s) e.length
  grow-new e s =
      ⊎_elim (λ z. let t : eqb (first_dead s) (slot_count s) ≡ true = rw z.0 (Eq-number.self (slot_count s)) in rw (t, z.1))
      (λ z. let t = lt-eqb (first_dead s) (slot_count s) z.0 in
      let d : dead_slots s ≡ suc (dead_slots (set_slot (first_dead s) (Slot.directory e []) end s)) = omega (arith, deads-set (Slot.directory e []) end (first_dead s) s (fd-le s), z.1) in
      rw (t, d))
      (fd-dead s)
