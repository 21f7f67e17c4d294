-- `model::demand_3` meets its contract: the claim is proved in proofs/ClaimsHold.
use Rattle.model.proofs.ClaimsHold.{demand-3-holds}
use Rattle.model.proofs.demand_3.Goals as goal

pub returns : goal.returns
returns c = demand-3-holds
