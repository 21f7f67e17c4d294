use Rattle.lookup.proofs.DescendSteps.{OnWay}
use Rattle.lookup.proofs.way.descend.Given as goal

abbrev pub invariant-loop-i : goal.invariant-loop-i
invariant-loop-i l = OnWay l.card l.path l.count l.i l.here
