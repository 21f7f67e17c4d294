-- Each way out of `enter`: what the code has read is what the definition says.
use Rattle.std.specs.Prelude.{Some, None, Ok, Err}
use Rattle.std.specs.Prelude.{Option, Result as Returned}
use Prim.Native.Nat.{◌-◌, ℕ}
use mathlib.Core.Bool.{Bool, false, true}
use mathlib.Core.List.{List}
use mathlib.Core.Path.{◌∙◌, ◌≡◌}
use Rattle.layout.specs.declared.Refusal.{Refusal}
use Rattle.layout.specs.declared.Refusal.TheVariants as is
use Rattle.model.specs.Bytes.{word}
use Rattle.model.specs.Entry.{entry_of, is_directory}
use Rattle.model.specs.Names.{Name}
use Rattle.page.proofs.Puts.{read_none, read_some}
use Rattle.page.specs.Page.{Read}
use Rattle.tree.specs.Card.{view_of}
use Rattle.tree.specs.Slots.{next_of, slot_pages}
use Rattle.tree.specs.declared.card.Card.{Card}
use Rattle.tree.specs.declared.along.Place.{Place}
use Rattle.lookup.specs.Descend.{entered}
use Rattle.lookup.specs.declared.way.EntryAt.{EntryAt}
use Rattle.tree.specs.Scan.{bearing, scan}
use Rattle.tree.proofs.ScanLaws.{scan-as}

module _ (card : Card) (directory : EntryAt) (n : Name) where
  pub entered-kind : is_directory (entry_of directory.page) ≡ false → ◌≡◌ {A = Returned EntryAt Refusal} (Err is.WrongKind) (entered (view_of card) card.table.now directory.first directory.page n)
  unfolding entered
  entered-kind d = rw d

  module _ (d : is_directory (entry_of directory.page) ≡ true) (start count len : ℕ) (found : Option Place) (a : start ≡ next_of card.table.now directory.first) (b : count ≡ len - 2) (c : len ≡ (entry_of directory.page).length)
      (scanned : found ≡ scan (bearing (view_of card) n) (slot_pages card.table.now start 0 count) 0) where
    -- the code's place of the name is the definition's
    placed : (r : Option Place) → found ≡ r → scan (bearing (view_of card) n) (slot_pages card.table.now (next_of card.table.now directory.first) 0 ((entry_of directory.page).length - 2)) 0 ≡ r
    placed r e = scan-as (bearing (view_of card) n) card.table.now directory.first (entry_of directory.page).length start count len found a b c scanned ∙ e

    pub entered-absent : found ≡ None → ◌≡◌ {A = Returned EntryAt Refusal} (Err is.Absent) (entered (view_of card) card.table.now directory.first directory.page n)
    unfolding entered
    entered-absent e = rw (d, placed None e)

    module _ (at : Place) (e : found ≡ Some at) (before after : List ℕ) (r : Bool) (got : Read ((view_of card).page at.page) before r after) where
      pub entered-unread : r ≡ false → ◌≡◌ {A = Returned EntryAt Refusal} (Err is.Absent) (entered (view_of card) card.table.now directory.first directory.page n)
      unfolding entered
      entered-unread f = rw (d, placed (Some at) e, read_none ((view_of card).page at.page) got f)

      pub entered-read : (next : ℕ) → r ≡ true → next ≡ word after 0x10
          → ◌≡◌ {A = Returned EntryAt Refusal} (Ok (record { at = at.page; first = next; page = after })) (entered (view_of card) card.table.now directory.first directory.page n)
      unfolding entered
      entered-read next f g = rw (d, placed (Some at) e, read_some ((view_of card).page at.page) got f, g)
