use Rattle.listing.specs.Text.{date_text}
use Rattle.listing.proofs.EmitLaws.{writes-append}
use Rattle.listing.proofs.emit.Text.put_date.Goals as goal

pub returns : goal.returns
unfolding date_text
returns c = search writes-append
