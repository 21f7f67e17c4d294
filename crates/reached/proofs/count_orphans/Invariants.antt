use Rattle.std.proofs.Common.{◌≡◌, ◌≤◌}
use Rattle.model.specs.Counts.{total_below}
use Rattle.reached.proofs.CountLaws.{orphan_in}
use Rattle.reached.proofs.count_orphans.Given as goal

abbrev pub invariant-loop-i : goal.invariant-loop-i
invariant-loop-i l =
    (l.n ≡ total_below (orphan_in l.table l.words) l.i) × (l.n ≤ l.i)
