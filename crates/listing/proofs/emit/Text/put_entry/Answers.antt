-- The parts of a line one after the other.
use Rattle.listing.specs.Text.{entry_line}
use Rattle.listing.proofs.EmitLaws.{writes-append}
use Rattle.listing.proofs.emit.Text.put_entry.Goals as goal

pub returns : goal.returns
unfolding entry_line
returns c =
    writes-append (writes-append (writes-append (writes-append (writes-append (writes-append (writes-append c.put_byte.ensures c.put_byte-2.ensures) c.put_number.ensures) c.put_byte-3.ensures) c.put.ensures) c.put_byte-4.ensures) c.put_stamp.ensures) c.put_byte-5.ensures
