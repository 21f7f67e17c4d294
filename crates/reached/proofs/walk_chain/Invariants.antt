use Rattle.std.proofs.Common.{false, ◌<◌, ◌≡◌}
use Rattle.reached.proofs.NearLaws.{rest_of}
use Rattle.reached.proofs.walk_chain.Given as goal

abbrev pub invariant-loop-left : goal.invariant-loop-left
invariant-loop-left l =
    (rest_of l.table (record { reached = l.initial.r; sound = l.initial.sound; next = l.initial.c; left = l.initial.left }) ≡ rest_of l.table (record { reached = l.r; sound = l.sound; next = l.c; left = l.left }))
    × (0 < l.left → l.sound ≡ false)

abbrev pub decreases-loop-left : goal.decreases-loop-left
decreases-loop-left l = l.left
