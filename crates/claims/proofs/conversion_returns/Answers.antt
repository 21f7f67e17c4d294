-- `claims::conversion_returns` meets its contract: the claim is proved in proofs/Conversions.
use Rattle.claims.proofs.Conversions.{conversion-returns}
use Rattle.claims.proofs.conversion_returns.Goals as goal

pub returns : goal.returns
returns c = conversion-returns
