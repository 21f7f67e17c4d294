-- `claims::demand_3` meets its contract: the claim is proved in proofs/ImageClaims.
use Rattle.claims.proofs.ImageClaims.{demand-3}
use Rattle.claims.proofs.demand_3.Goals as goal

pub returns : goal.returns
returns c = demand-3
