-- A directory step, given a slot, answers the first live entry from that slot on (never before slot 2) with its slot, or the end.
use Rattle.std.specs.Prelude.{ℕ, suc, cond, List, leb}
use Rattle.std.proofs.Math.Option.{Option, none, some}
use Rattle.page.specs.declared.Format.{Format}
use Rattle.model.specs.Check.{Result, fault, ok}
use Rattle.model.specs.Entry.{Entry}
use Rattle.model.specs.Names.{Path}
use Rattle.model.specs.Tree.{Root, Slot, Tree, end, node}
use Rattle.lookup.specs.Paths.{at_path, on_card}

-- the slots from slot `at` on: the first live one that is not before `slot`
abbrev pub live_from : ℕ → ℕ → Tree → Option (ℕ × Entry)
live_from slot at end = none
live_from slot at (node Slot.dead inside later) = live_from slot (suc at) later
live_from slot at (node (Slot.file e chain pages) inside later) = cond (leb slot at) (some (at, e)) (live_from slot (suc at) later)
live_from slot at (node (Slot.directory e chain) inside later) = cond (leb slot at) (some (at, e)) (live_from slot (suc at) later)

-- a tree's slots begin with slot 2; stepping through a file is 10
abbrev pub step_from : ℕ → Slot → Tree → Result (Option (ℕ × Entry))
step_from slot Slot.dead inside = fault 9 0
step_from slot (Slot.file e chain pages) inside = fault 10 0
step_from slot (Slot.directory e chain) inside = ok (live_from slot 2 inside)

abbrev pub step_in : Root → Path → ℕ → Result (Option (ℕ × Entry))
step_in root path slot = at_path root path (step_from slot)

abbrev pub step_of : Format → List ℕ → List ℕ → ℕ → Result (Option (ℕ × Entry))
step_of format image bytes slot = on_card format image bytes (λ s root path. step_in root path slot)
