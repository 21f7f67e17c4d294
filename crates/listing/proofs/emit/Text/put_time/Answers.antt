-- The date, and the parts of the clock one after the other.
use Rattle.listing.specs.Text.{time_text}
use Rattle.listing.proofs.EmitLaws.{writes-append}
use Rattle.listing.proofs.emit.Text.put_time.Goals as goal

pub returns : goal.returns
unfolding time_text
returns c =
    writes-append (writes-append (writes-append (writes-append (writes-append (writes-append c.put_date.ensures c.put_byte.ensures) c.put_two.ensures) c.put_byte-2.ensures) c.put_two-2.ensures) c.put_byte-3.ensures) c.put_two-3.ensures
