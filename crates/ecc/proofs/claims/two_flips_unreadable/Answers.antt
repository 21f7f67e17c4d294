-- Two flips leave a syndrome that no single flip gives: the law of `TwoFlips`.
use Rattle.ecc.proofs.TwoFlips.{two-flips-unreadable}
use Rattle.ecc.proofs.claims.two_flips_unreadable.Goals as goal

pub returns : goal.returns
returns c = two-flips-unreadable
