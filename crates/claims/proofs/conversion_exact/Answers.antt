-- `claims::conversion_exact` meets its contract: the claim is proved in proofs/Conversions.
use Rattle.claims.proofs.Conversions.{conversion-exact}
use Rattle.claims.proofs.conversion_exact.Goals as goal

pub returns : goal.returns
returns c = conversion-exact
