-- No data byte touches an ignored bit: the law of `Fresh`.
use Rattle.ecc.proofs.Fresh.{ignored-bits-zero}
use Rattle.ecc.proofs.claims.ignored_bits_zero.Goals as goal

pub returns : goal.returns
returns c = ignored-bits-zero
