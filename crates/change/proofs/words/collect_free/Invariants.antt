-- The loop's invariant: the first `count` of the list are the free clusters below c that may be taken, and of the block
-- looked up last it is known whether it is listed.
use Prim.Native.Nat.{◌+◌, ◌≤◌, ℕ}
use mathlib.Core.Bool.{Bool, ◌&&◌, not}
use mathlib.Core.List.{List}
use mathlib.Core.Path.{◌≡◌}
use lib.Dec.{ltb}
use lib.ListN.{length, take}
use Rattle.model.specs.Counts.{block_of, is_listed}
use Rattle.reached.specs.Blocks.{Knows}
use Rattle.change.proofs.WordSteps.{free_up_to}
use Rattle.change.proofs.words.collect_free.Given as goal

abbrev pub may_take : ℕ → ℕ → List ℕ → ℕ → Bool
may_take limit offset bad c = ltb c limit && not (is_listed bad (block_of (offset + c)))

abbrev pub invariant-loop-c : goal.invariant-loop-c
invariant-loop-c l =
    (l.count ≤ l.c) × (length l.list ≡ length l.initial.list) × (take l.count l.list ≡ free_up_to (may_take l.limit l.offset l.bad) l.table l.c) × Knows l.bad l.last
