-- `claims::counts_add_up` meets its contract: the claim is proved in proofs/SumLaws of `tree`.
use Rattle.tree.proofs.SumLaws.{sums}
use Rattle.claims.proofs.counts_add_up.Goals as goal

pub returns : goal.returns
returns c = sums
