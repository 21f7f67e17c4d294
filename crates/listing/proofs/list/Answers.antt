-- The listing is written from the start of the buffer on; it is short enough to be counted exactly.
use Rattle.std.proofs.Common.{ap, refl, rules}
use mir.Syntax.{w32}
use mir.ValLaws.{to_z-of_z}
use Rattle.listing.specs.Text.{listing_of}
use Rattle.listing.proofs.EmitLaws.{writes_as, writes-listing}
use Rattle.listing.proofs.SizeLaws.{listing-short}
use Rattle.listing.proofs.list.Goals as goal

pub returns : goal.returns
returns c =
    let a = c.args in
    let same = ap (listing_of a.format a.image.now) (to_z-of_z w32 a.minutes c.ranges.minutes) in
    let told = writes-listing (listing-short a.format a.image.now a.minutes) refl (writes_as same c.put_listing.ensures) in
    record { length = told.0; text = search (rules, told.1, told.2) }
