-- `model::shift_numbers` meets its contract: the claim is proved in proofs/ShiftNumbers.
use Rattle.model.proofs.ShiftNumbers.{shift-numbers}
use Rattle.model.proofs.shift_numbers.Goals as goal

pub returns : goal.returns
returns c = shift-numbers
