-- Writes one after the other are the writes of the joined list.
use Rattle.change.proofs.DeedSteps.{all-written}
use Rattle.change.specs.Deeds.{write_of}
use Rattle.change.proofs.deeds.write_pages.Goals as goal

pub returns : goal.returns
returns c =
    let a = c.args in
    all-written a.geometry a.image.now a.growth.now a.taken.now a.bytes.now (write_of a.directory) (write_of a.own)
    c.write_zeros.ensures c.write_data.ensures c.write_entry.ensures c.write_entry-2.ensures
