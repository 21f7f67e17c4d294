-- `model::chains_are_sound` meets its contract: the claim is proved in proofs/Chains.
use Rattle.model.proofs.Chains.{chains-are-sound}
use Rattle.model.proofs.chains_are_sound.Goals as goal

pub returns : goal.returns
returns c = chains-are-sound
