-- `claims::change_keeps` meets its contract: the claim is proved in proofs/ImageClaims.
use Rattle.claims.proofs.ImageClaims.{keeps}
use Rattle.claims.proofs.change_keeps.Goals as goal

pub returns : goal.returns
returns c = keeps
