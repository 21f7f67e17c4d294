use Rattle.std.proofs.Common.{length, ◌≡◌, ◌≤◌}
use Rattle.model.specs.Counts.{may_take_on, total_below}
use Rattle.reached.specs.Blocks.{Knows}
use Rattle.reached.specs.Totals.{free_at, held_at}
use Rattle.reached.proofs.takeable.count_unused.Given as goal

abbrev pub invariant-loop-i : goal.invariant-loop-i
invariant-loop-i l =
    (l.free ≡ total_below (free_at (may_take_on l.clusters (length l.table) l.offset l.bad) l.table) l.i)
    × (l.held ≡ total_below (held_at (may_take_on l.clusters (length l.table) l.offset l.bad) l.table) l.i)
    × (l.free ≤ l.i) × (l.held ≤ l.i) × Knows l.bad l.last
