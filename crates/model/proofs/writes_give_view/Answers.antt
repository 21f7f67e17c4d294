-- `model::writes_give_view` meets its contract: the claim is proved in proofs/WritesHold.
use Rattle.model.proofs.WritesHold.{writes-give-view}
use Rattle.model.proofs.writes_give_view.Goals as goal

pub returns : goal.returns
returns c = writes-give-view
