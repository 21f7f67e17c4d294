-- `model::counts_add_up` meets its contract: the claim is proved in proofs/ClaimsHold.
use Rattle.model.proofs.ClaimsHold.{counts-add-up}
use Rattle.model.proofs.counts_add_up.Goals as goal

pub returns : goal.returns
returns c = counts-add-up
