-- `claims::accepted_exactly` meets its contract: the claim is proved in proofs/ImageClaims.
use Rattle.claims.proofs.ImageClaims.{accepted-exactly}
use Rattle.claims.proofs.accepted_exactly.Goals as goal

pub returns : goal.returns
returns c = accepted-exactly
