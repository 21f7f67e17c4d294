-- Different flips change the syndrome differently: the law of `OneFlip`.
use Rattle.ecc.proofs.OneFlip.{one-flip-unique}
use Rattle.ecc.proofs.claims.one_flip_unique.Goals as goal

pub returns : goal.returns
returns c = one-flip-unique
