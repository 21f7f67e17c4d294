-- One flipped bit is found: the law of `OneFlip`, by the syndrome.
use Rattle.ecc.proofs.OneFlip.{one-flip-found}
use Rattle.ecc.proofs.claims.one_flip_found.Goals as goal

pub returns : goal.returns
returns c = one-flip-found
