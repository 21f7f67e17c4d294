use Rattle.listing.specs.Text.{counts_text}
use Rattle.listing.proofs.EmitLaws.{writes-append}
use Rattle.listing.proofs.emit.Text.put_counts.Goals as goal

pub returns : goal.returns
unfolding counts_text
returns c = search writes-append
