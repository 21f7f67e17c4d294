-- `tree::counts_add_up` meets its contract: the claim is proved in proofs/SumLaws.
use Rattle.tree.proofs.SumLaws.{sums}
use Rattle.tree.proofs.counts_add_up.Goals as goal

pub returns : goal.returns
returns c = sums
