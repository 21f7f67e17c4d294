-- `model::shifts_return` meets its contract: the claim is proved in proofs/Reaching.
use Rattle.model.proofs.Reaching.{shifts-return}
use Rattle.model.proofs.shifts_return.Goals as goal

pub returns : goal.returns
returns c = shifts-return
