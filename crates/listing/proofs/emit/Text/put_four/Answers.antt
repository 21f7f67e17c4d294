use Rattle.listing.proofs.EmitLaws.{writes-append}
use Rattle.listing.proofs.emit.Text.put_four.Goals as goal

pub returns : goal.returns
returns c = search writes-append
