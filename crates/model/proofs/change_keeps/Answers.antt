-- `model::change_keeps` meets its contract: the claim is proved in proofs/ClaimsHold.
use Rattle.model.proofs.ClaimsHold.{change-keeps}
use Rattle.model.proofs.change_keeps.Goals as goal

pub returns : goal.returns
returns c = change-keeps
