-- A new entry as the code puts it down is the model's plan: its clusters, its slot's page and the pages written.
use Rattle.std.specs.Prelude.{Option, None, Some}
use Prim.Native.Nat.{ℕ, ◌+◌, ◌-◌, ◌*◌, ◌/◌, ◌%◌, ◌<◌, ◌≤◌}
use mathlib.Core.List.{List, [], ◌++◌, ◌∷◌, append-nil}
use mathlib.Core.Path.{◌∙◌, ◌≡◌, ap, sym}
use native.Mathlib.Numerals.{add-one}
use native.Mathlib.Omega.{arith}
use borrow.Author.Tests.{eq-eqb, ne_eqb}
use lib.ListN.{drop, get_or, length, length-append, length-drop, take}
use lib.Seq.{get_or_at, get_or-drop, get_or-take, length-take-le}
use Rattle.layout.proofs.TablePages.{get_or-pages}
use Rattle.tree.specs.declared.along.Place.{Place}
use Rattle.model.specs.Entry.{Entry, directory_clusters}
use Rattle.model.specs.Holds.{HoldsSlots}
use Rattle.model.specs.Lookup.{first_dead}
use Rattle.model.specs.Plan.{growth_with_one, length_with_one, with_length}
use Rattle.model.specs.Tree.{Slot, Tree, entry_pages, slot_count}
use Rattle.model.specs.View.{View, pages_of}
use Rattle.model.proofs.PlanFits.{length-pages, rep-length}
use Rattle.change.specs.Deeds.{growth_by, length_by, number_by, page_by}

-- what the lowest dead slot's place says of a directory's slots, whose pages are these
abbrev pub DeadAt : List ℕ → Tree → Option Place → Type 0
DeadAt pages slots None = first_dead slots ≡ slot_count slots
DeadAt pages slots (Some place) = (first_dead slots ≡ place.slot) × (place.slot < slot_count slots) × (place.page ≡ get_or pages place.slot 0)

module _ (e : Entry) (chain : List ℕ) (slots : Tree) (v : View) (below : ℕ) (two : 2 ≤ e.length) (long : length chain ≡ directory_clusters e)
    (held : HoldsSlots v below (entry_pages (Slot.directory e chain)) slots) where
  pub slots-many : slot_count slots ≡ e.length - 2
  slots-many = sym (rep-length v below (entry_pages (Slot.directory e chain)) slots held) ∙ omega (arith, length-drop 2 (take e.length (pages_of chain)), length-take-le e.length (pages_of chain) (omega (arith, length-pages chain)))

  module _ (dead : Option Place) (d : DeadAt (entry_pages (Slot.directory e chain)) slots dead) where
    pub growth-is : growth_with_one e slots ≡ growth_by dead e.length
    growth-is = go dead d
      where
        go : (dead : Option Place) → DeadAt (entry_pages (Slot.directory e chain)) slots dead → growth_with_one e slots ≡ growth_by dead e.length
        go None d = rw (eq-eqb (first_dead slots) (slot_count slots) d)
        go (Some place) d = rw (ne_eqb (first_dead slots) (slot_count slots) (λ z. omega (arith, d.0, d.1)))

    pub length-is : length_with_one e slots ≡ length_by dead e.length
    length-is = go dead d
      where
        go : (dead : Option Place) → DeadAt (entry_pages (Slot.directory e chain)) slots dead → length_with_one e slots ≡ length_by dead e.length
        go None d = rw (eq-eqb (first_dead slots) (slot_count slots) d) (sym (add-one e.length))
        go (Some place) d = rw (ne_eqb (first_dead slots) (slot_count slots) (λ z. omega (arith, d.0, d.1)))

    pub number_is : 2 + first_dead slots ≡ number_by dead e.length
    number_is = go dead d
      where
        go : (dead : Option Place) → DeadAt (entry_pages (Slot.directory e chain)) slots dead → 2 + first_dead slots ≡ number_by dead e.length
        go None d = omega (arith, slots-many, two)
        go (Some place) d = omega (arith, d.0)

    -- the page behind the last entry
    entry_at : (n : ℕ) (cs : List ℕ) (i : ℕ) → 2 + i < n → get_or (drop 2 (take n (pages_of cs))) i 0 ≡ get_or (pages_of cs) (2 + i) 0
    entry_at n cs i h = get_or-drop 2 (take n (pages_of cs)) i 0 ∙ get_or-take n (pages_of cs) (2 + i) 0 h

    pub page-is : (growth : List ℕ) → length growth ≡ growth_by dead e.length
        → get_or (entry_pages (Slot.directory (with_length e (length_with_one e slots)) (chain ++ growth))) (first_dead slots) 0 ≡ page_by dead (get_or chain (length chain - 1) 0) growth
    page-is growth lg = go dead d growth lg length-is
      where
        behind : (cs : List ℕ) → first_dead slots ≡ slot_count slots → e.length < 2 * length cs → get_or (pages_of cs) (2 + first_dead slots) 0 ≡ 2 * get_or cs (e.length / 2) 0 + e.length % 2
        behind cs f h = let z : 2 + first_dead slots ≡ e.length = omega (arith, slots-many) in ap (λ i. get_or (pages_of cs) i 0) z ∙ get_or-pages cs e.length h

        go : (dead : Option Place) → DeadAt (entry_pages (Slot.directory e chain)) slots dead → (growth : List ℕ) → length growth ≡ growth_by dead e.length
            → length_with_one e slots ≡ length_by dead e.length
            → get_or (entry_pages (Slot.directory (with_length e (length_with_one e slots)) (chain ++ growth))) (first_dead slots) 0 ≡ page_by dead (get_or chain (length chain - 1) 0) growth
        go (Some place) d [] lg n = rw (n, append-nil chain, d.0) (sym d.2)
        go (Some place) d (g ∷ gs) lg n = absurd (omega arith)
        go None d [] lg n =
            rw (n, append-nil chain)
            (entry_at (e.length + 1) chain (first_dead slots) (omega (arith, slots-many)) ∙ behind chain d (omega (arith, length-pages chain))
            ∙ ap (λ i. 2 * get_or chain i 0 + e.length % 2) (let z : e.length / 2 ≡ length chain - 1 = omega arith in z)
            ∙ ap (λ i. 2 * get_or chain (length chain - 1) 0 + i) (let z : e.length % 2 ≡ 1 = omega arith in z))
        go None d (g ∷ gs) lg n =
            rw n
            (entry_at (e.length + 1) (chain ++ (g ∷ gs)) (first_dead slots) (omega (arith, slots-many)) ∙ behind (chain ++ (g ∷ gs)) d (omega (arith, length-append chain (g ∷ gs)))
            ∙ ap (λ i. 2 * i + e.length % 2) (get_or_at chain g gs 0 (e.length / 2) (omega arith))
            ∙ omega arith)
