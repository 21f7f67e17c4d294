-- `claims::refusal_leaves` meets its contract: the claim is proved in proofs/ImageClaims.
use Rattle.claims.proofs.ImageClaims.{refusal-leaves}
use Rattle.claims.proofs.refusal_leaves.Goals as goal

pub returns : goal.returns
returns c = refusal-leaves
