-- `model::accepted_exactly` meets its contract: the claim is proved in proofs/ClaimsHold.
use Rattle.model.proofs.ClaimsHold.{accepted-exactly}
use Rattle.model.proofs.accepted_exactly.Goals as goal

pub returns : goal.returns
returns c = accepted-exactly
