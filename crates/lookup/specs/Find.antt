-- Finding answers the entry, for the root its first one (RULES, "What the build covers").
use Rattle.std.specs.Prelude.{ℕ, List}
use Rattle.page.specs.declared.Format.{Format}
use Rattle.model.specs.Check.{Result, fault, ok}
use Rattle.model.specs.Entry.{Entry}
use Rattle.model.specs.Names.{Path}
use Rattle.model.specs.Tree.{Root, Slot, Tree}
use Rattle.lookup.specs.Paths.{at_path, on_card}

-- the root's slot has its own first entry; a dead slot is found at no path
abbrev pub found_entry : Slot → Tree → Result Entry
found_entry Slot.dead inside = fault 9 0
found_entry (Slot.file e chain pages) inside = ok e
found_entry (Slot.directory e chain) inside = ok e

abbrev pub find_in : Root → Path → Result Entry
find_in root path = at_path root path found_entry

abbrev pub find_of : Format → List ℕ → List ℕ → Result Entry
find_of format image bytes = on_card format image bytes (λ s. find_in)
