-- The first live slot from a slot on, as the scan of a directory's pages finds it, is the tree's.
use Rattle.std.specs.Prelude.{Some, None, Ok}
use Rattle.std.specs.Prelude.{Option, Result as Returned}
use Prim.Native.Nat.{◌+◌, ◌-◌, ◌<◌, ◌≤◌, suc, ℕ}
use mathlib.Core.Bool.{Bool, ◌&&◌, false, true}
use mathlib.Core.List.{List, [], ◌∷◌}
use mathlib.Core.Logic.{⊎_elim}
use mathlib.Core.Option.{Option as Maybe, none, some}
use mathlib.Core.Path.{◌∙◌, ◌≡◌, ap, refl, sym}
use native.Mathlib.Omega.{arith}
use borrow.Author.Tests.{le-leb, leb-false, leb-true, lt-leb}
use lib.Dec.{leb}
use Rattle.fields.specs.Entries.{fields_of_entry}
use Rattle.fields.specs.declared.entries.Entry as fields
use Rattle.layout.specs.declared.Refusal.{Refusal}
use Rattle.model.proofs.Equality.{bool, tf}
use Rattle.model.specs.Check.{Result, fault, ok}
use Rattle.model.specs.Entry.{Entry, entry_of, is_directory}
use Rattle.model.specs.Holds.{HoldsSlots}
use Rattle.model.specs.Tree.{Slot, Tree, end, node}
use Rattle.model.specs.View.{View}
use Rattle.lookup.specs.Answers.{TellsStep, stepped_in}
use Rattle.lookup.specs.Descend.{StandsAt}
use Rattle.tree.specs.Card.{view_of}
use Rattle.tree.specs.declared.card.Card.{Card}
use Rattle.tree.specs.Scan.{living_from, scan}
use Rattle.tree.specs.Slots.{next_of, slot_pages}
use Rattle.lookup.specs.Step.{live_from, step_from}
use Rattle.tree.specs.declared.along.Place.{Place}
use Rattle.lookup.specs.declared.stepping.Stepped.{Stepped}
use Rattle.lookup.specs.declared.way.EntryAt.{EntryAt}
use Rattle.lookup.proofs.AnswerLaws.{tells-value}
use Rattle.tree.proofs.ScanLaws.{scan-as}
use Rattle.lookup.proofs.FindLaws.{directory-live, file-live}
use Rattle.lookup.proofs.EnterLaws.{some_same, stands-held}

-- slots are counted from slot 2
shift : (slot k at : ℕ) → at ≡ k + 2 → leb (slot - 2) k ≡ leb slot at
shift slot k at e =
    ⊎_elim (λ (b : leb slot at ≡ true). let h : slot ≤ at = leb-true _ _ b in le-leb (slot - 2) k (omega arith) ∙ sym b)
    (λ (b : leb slot at ≡ false). let h : at < slot = leb-false _ _ b in lt-leb (slot - 2) k (omega arith) ∙ sym b) (bool (leb slot at))

-- what a place says: the end, or a live entry with its slot
abbrev Shows : View → Option Place → Maybe (ℕ × Entry) → Type 0
Shows v None o = o ≡ none
Shows v (Some at) o = (e : Entry) × (v.entry at.page ≡ some e) × (o ≡ some (at.slot + 2, e))

module _ (v : View) (slot : ℕ) where
  abbrev test : ℕ → ℕ → Bool
  test = living_from v (slot - 2)

  and-true : (b : Bool) → (b && true) ≡ b
  and-true true = refl
  and-true false = refl

  and-false : (b : Bool) → (b && false) ≡ false
  and-false true = refl
  and-false false = refl

  scan-lives : (below : ℕ) (ps : List ℕ) (t : Tree) (k at : ℕ) → at ≡ k + 2 → HoldsSlots v below ps t → Shows v (scan test ps k) (live_from slot at t)
  unfolding scan
  scan-lives below [] end k at e x = refl
  scan-lives below [] (node h s t) k at e x = absurd x
  scan-lives below (p ∷ ps) end k at e x = absurd x
  scan-lives below (p ∷ ps) (node Slot.dead s t) k at e x =
      let z : test k p ≡ false = rw (x.0.1, x.0.2) (and-false (leb (slot - 2) k)) in
      rw z (scan-lives below ps t (suc k) (suc at) (omega arith) x.3)
  scan-lives below (p ∷ ps) (node (Slot.file d cs ds) s t) k at e x =
      let z : test k p ≡ leb slot at = rw (x.0.0, file-live d x.0.1) (and-true (leb (slot - 2) k) ∙ shift slot k at e) in
      ⊎_elim (λ (b : leb slot at ≡ true). rw (z, b) (d, x.0.0, rw e))
      (λ (b : leb slot at ≡ false). rw (z, b) (scan-lives below ps t (suc k) (suc at) (omega arith) x.3)) (bool (leb slot at))
  scan-lives below (p ∷ ps) (node (Slot.directory d cs) s t) k at e x =
      let z : test k p ≡ leb slot at = rw (x.0.0, directory-live d x.0.1) (and-true (leb (slot - 2) k) ∙ shift slot k at e) in
      ⊎_elim (λ (b : leb slot at ≡ true). rw (z, b) (d, x.0.0, rw e))
      (λ (b : leb slot at ≡ false). rw (z, b) (scan-lives below ps t (suc k) (suc at) (omega arith) x.3)) (bool (leb slot at))

-- ---- the answers

module _ (card : Card) (directory : EntryAt) (slot : ℕ) where
  abbrev pub next-live : Option Place
  next-live = scan (living_from (view_of card) (slot - 2)) (slot_pages card.table.now (next_of card.table.now directory.first) 0 ((entry_of directory.page).length - 2)) 0

  pub step-file : (h : Slot) (s : Tree) → StandsAt (view_of card) directory h s → is_directory (entry_of directory.page) ≡ false → step_from slot h s ≡ fault 10 0
  step-file Slot.dead s x f = absurd x
  step-file (Slot.file d cs ds) s x f = refl
  step-file (Slot.directory d cs) s x f = tf x.1 f

  -- what the step asks, and where the code's scan says it is
  lived : (h : Slot) (s : Tree) → StandsAt (view_of card) directory h s → is_directory (entry_of directory.page) ≡ true → (o : Maybe (ℕ × Entry)) × (step_from slot h s ≡ ok o) × Shows (view_of card) next-live o
  lived Slot.dead s x f = absurd x
  lived (Slot.file d cs ds) s x f = tf f x.1
  lived (Slot.directory d cs) s x f =
      (live_from slot 2 s, refl, scan-lives (view_of card) slot x.5.0 (slot_pages card.table.now (next_of card.table.now directory.first) 0 ((entry_of directory.page).length - 2)) s 0 2 refl (stands-held (view_of card) card.table.now (λ z. refl) directory.first (entry_of directory.page) d cs s x))

  module _ (h : Slot) (s : Tree) (x : StandsAt (view_of card) directory h s) (f : is_directory (entry_of directory.page) ≡ true) where
    pub step_end : next-live ≡ None → TellsStep (step_from slot h s) (Ok None)
    step_end q =
        let y = lived h s x f in
        let z : y.0 ≡ none = rw q at y.2 in
        tells-value (step_from slot h s) stepped_in none None (y.1 ∙ ap {B = Result (Maybe (ℕ × Entry))} ok z) refl

    shown : (at : Place) → next-live ≡ Some at → (d : Entry) × ((view_of card).entry at.page ≡ some d) × (step_from slot h s ≡ ok (some (at.slot + 2, d)))
    shown at q =
        let y = lived h s x f in
        let z : Shows (view_of card) (Some at) y.0 = rw q at y.2 in
        (z.0, z.1, y.1 ∙ ap {B = Result (Maybe (ℕ × Entry))} ok z.2)

    pub step-readable : (at : Place) → next-live ≡ Some at → (d : Entry) × ((view_of card).entry at.page ≡ some d)
    step-readable at q = let y = shown at q in (y.0, y.1)

    pub step-slot : (at : Place) → next-live ≡ Some at → (read : Entry) (d : fields.Entry) → (view_of card).entry at.page ≡ some read → d ≡ fields_of_entry read
        → TellsStep (step_from slot h s) (Ok (Some (record { slot = at.slot + 2; entry = d })))
    step-slot at q read d i b =
        let y = shown at q in
        let same : y.0 ≡ read = some_same _ _ (sym y.1 ∙ i) in
        let is_entry : d ≡ fields_of_entry y.0 = b ∙ ap fields_of_entry (sym same) in
        tells-value (step_from slot h s) stepped_in (some (at.slot + 2, y.0)) (Some (record { slot = at.slot + 2; entry = d })) y.2 (rw is_entry)

  -- the code's scan is the one asked for
  pub live-as : (start count len from : ℕ) {r : Option Place} → start ≡ next_of card.table.now directory.first → count ≡ len - 2 → len ≡ (entry_of directory.page).length → from ≡ slot - 2
      → r ≡ scan (living_from (view_of card) from) (slot_pages card.table.now start 0 count) 0 → next-live ≡ r
  live-as start count len from {r} a b c d e =
      scan-as (living_from (view_of card) (slot - 2)) card.table.now directory.first (entry_of directory.page).length start count len r a b c (rw d at e)

-- the step at a path is the one from the slot there
pub step-at : (slot : ℕ) (x : Result (Maybe (ℕ × Entry))) (v : View) (e : EntryAt) (r answer : Returned (Option Stepped) Refusal) → r ≡ answer
    → ((h : Slot) × (s : Tree) × StandsAt v e h s × (x ≡ step_from slot h s)) → ((h : Slot) (s : Tree) → StandsAt v e h s → TellsStep (step_from slot h s) r) → TellsStep x answer
step-at slot x v e r answer same y f = rw (y.3, ← same) (f y.0 y.1 y.2)
