-- The parts of a line one after the other.
use Rattle.listing.specs.Text.{count_line}
use Rattle.listing.proofs.EmitLaws.{writes-append}
use Rattle.listing.proofs.emit.Text.put_count.Goals as goal

pub returns : goal.returns
unfolding count_line
returns c = search writes-append
