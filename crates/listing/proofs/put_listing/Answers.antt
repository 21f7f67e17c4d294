-- The counts and entries, or the one line.
use Rattle.std.proofs.Common.{◌∙◌, ap}
use mir.Syntax.{w32}
use mir.ValLaws.{to_z-of_z}
use Rattle.listing.specs.Text.{listing_of}
use Rattle.listing.proofs.EmitLaws.{writes_as}
use Rattle.listing.proofs.put_listing.Goals as goal

pub returns-in-Err : goal.returns-in-Err
returns-in-Err c =
    let a = c.args in
    let h = rw c.in-Err.is at c.list_card.ensures in
    writes_as (h.1 ∙ ap (listing_of a.format a.image.now) (to_z-of_z w32 a.minutes c.ranges.minutes)) (rw h.0 at c.put_refusal.ensures)

pub returns-in_default : goal.returns-in_default
returns-in_default c =
    let a = c.args in
    writes_as (ap (listing_of a.format a.image.now) (to_z-of_z w32 a.minutes c.ranges.minutes)) (rw c.in_default.is at c.list_card.ensures)
