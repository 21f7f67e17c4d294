-- `tree::names::mix` meets its contract.
use Rattle.std.proofs.Common.{refl, arith}
use Rattle.tree.specs.Met.{mixed}
use Rattle.tree.proofs.names.mix.Goals as goal

pub returns : goal.returns
unfolding mixed
returns c = (refl, (omega arith, omega arith, omega arith))
