-- The cluster of half cluster k.
use Rattle.std.proofs.Common.{◌≡◌}
use Rattle.tree.specs.Slots.{cluster_at}
use Rattle.tree.proofs.along.cluster_at.Given as goal

abbrev pub invariant-loop-k : goal.invariant-loop-k
invariant-loop-k l = l.c ≡ cluster_at l.table l.first l.k
