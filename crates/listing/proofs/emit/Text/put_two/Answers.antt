-- Two digits one after the other.
use Rattle.listing.proofs.EmitLaws.{writes-append}
use Rattle.listing.proofs.emit.Text.put_two.Goals as goal

pub returns : goal.returns
returns c =
    writes-append c.put_byte.ensures c.put_byte-2.ensures
