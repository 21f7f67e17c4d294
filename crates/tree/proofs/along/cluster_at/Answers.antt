-- The loop of `cluster_at` steps from cluster to cluster.
use Rattle.tree.proofs.ScanLaws.{cluster-start, cluster-step}
use Rattle.tree.proofs.along.cluster_at.Goals as goal

pub loop-k-init : goal.loop-k-init
loop-k-init c = cluster-start _ _

pub loop-k-preserved : goal.loop-k-preserved
loop-k-preserved c = cluster-step _ _ _ _ _ c.loop-k.invariant c.cluster_after-c.ensures
