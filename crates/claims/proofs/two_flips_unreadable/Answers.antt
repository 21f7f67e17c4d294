-- `claims::two_flips_unreadable` meets its contract: the claim is proved in proofs/TwoFlips of `ecc`.
use Rattle.ecc.proofs.TwoFlips.{two-flips-unreadable}
use Rattle.claims.proofs.two_flips_unreadable.Goals as goal

pub returns : goal.returns
returns c = two-flips-unreadable
