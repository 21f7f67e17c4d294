-- `claims::marked_numbers` meets its contract: the claim is proved in proofs/MarkedNumbers.
use Rattle.claims.proofs.MarkedNumbers.{marked-numbers}
use Rattle.claims.proofs.marked_numbers.Goals as goal

pub returns : goal.returns
returns c = marked-numbers
