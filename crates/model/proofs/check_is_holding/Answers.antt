-- `model::check_is_holding` meets its contract: the claim is proved in proofs/ClaimsHold.
use Rattle.model.proofs.ClaimsHold.{check-is-holding}
use Rattle.model.proofs.check_is_holding.Goals as goal

pub returns : goal.returns
returns c = check-is-holding
