-- `claims::conversion_keeps` meets its contract: the claim is proved in proofs/Conversions.
use Rattle.claims.proofs.Conversions.{conversion-keeps}
use Rattle.claims.proofs.conversion_keeps.Goals as goal

pub returns : goal.returns
returns c = conversion-keeps
