use Rattle.std.proofs.Common.{◌≡◌}
use Rattle.reached.specs.Chain.{near_from}
use Rattle.reached.proofs.walk_near.Given as goal

abbrev pub invariant-loop-left : goal.invariant-loop-left
invariant-loop-left l =
    near_from l.table l.initial.r l.initial.sound l.initial.c l.initial.left ≡ near_from l.table l.r l.sound l.c l.left

abbrev pub decreases-loop-left : goal.decreases-loop-left
decreases-loop-left l = l.left
