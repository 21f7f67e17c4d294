-- `claims::tree_is_reading` meets its contract: the claim is proved in proofs/ReadsTree.
use Rattle.claims.proofs.ReadsTree.{tree-is-reading}
use Rattle.claims.proofs.tree_is_reading.Goals as goal

pub returns : goal.returns
returns c = tree-is-reading
