-- The counts, and then the entries of the card that is open; it cannot be refused there.
use Rattle.std.proofs.Common.{[], Err, ◌∙◌, ◌≡◌, ap, arith, length-take-le, refl, sym}
use mir.Syntax.{w32}
use mir.ValLaws.{to_z-of_z}
use Rattle.lookup.proofs.CardLaws.{accepted, words-hold}
use Rattle.tree.proofs.CheckLaws.{table-room}
use Rattle.model.specs.Calendar.{is_shift}
use Rattle.listing.specs.Text.{tree_text}
use Rattle.listing.proofs.EmitLaws.{writes-append, writes_as}
use Rattle.listing.proofs.ListingLaws.{listing-card, listing-elsewhere, listing-refused, opens, passes}
use Rattle.listing.proofs.list_card.Goals as goal

pub returns-then-not-is_shift : goal.returns-then-not-is_shift
returns-then-not-is_shift c =
    let shift = ap is_shift (sym (to_z-of_z w32 c.args.minutes c.ranges.minutes)) ∙ sym c.is_shift.ensures ∙ c.if-not-is_shift.true in
    (refl, listing-elsewhere c.args.format c.args.image.now c.args.minutes shift)

pub returns-in_err-counts : goal.returns-in_err-counts
returns-in_err-counts c =
    let same : c.from_residual.result ≡ Err c.in_err-counts.field-0.0 = grind arith in
    let shift = ap is_shift (sym (to_z-of_z w32 c.args.minutes c.ranges.minutes)) ∙ sym c.is_shift.ensures ∙ c.if-not-is_shift.false in
    rw same (refl, listing-refused c.args.format c.args.image.now c.args.minutes shift _ _ c.in_err-counts.ensures)

pub returns-in_err-s : goal.returns-in_err-s
returns-in_err-s c =
    let shift = ap is_shift (sym (to_z-of_z w32 c.args.minutes c.ranges.minutes)) ∙ sym c.is_shift.ensures ∙ c.if-not-is_shift.false in
    opens c.args.format c.args.image.now c.args.minutes shift c.in_ok-counts.counts c.in_ok-counts.ensures _ _ c.in_err-s.ensures.opened

pub slice_bounds-table-end : goal.slice_bounds-table-end
slice_bounds-table-end c = table-room c.args.format c.args.image.now c.in_ok-s.field-0.superblock c.in_ok-s.ensures.opened _ _ c.open_card.ensures.loaded

pub slice_bounds-card-end : goal.slice_bounds-card-end
slice_bounds-card-end c =
    sym (length-take-le _ _ (table-room c.args.format c.args.image.now c.in_ok-s.field-0.superblock c.in_ok-s.ensures.opened _ _ c.open_card.ensures.loaded))

pub returns : goal.returns
returns c =
    let a = c.args in
    let format = a.format in
    let image = a.image.now in
    let s = c.in_ok-s.field-0.superblock in
    let shift = ap is_shift (sym (to_z-of_z w32 a.minutes c.ranges.minutes)) ∙ sym c.is_shift.ensures ∙ c.if-not-is_shift.false in
    let passed = passes format image a.minutes shift c.in_ok-counts.counts c.in_ok-counts.ensures s c.in_ok-s.ensures.opened in
    let root = (accepted format image s passed).root in
    let tree = c.list_tree.ensures root (words-hold format image s passed _ _ c.open_card.ensures.loaded) in
    writes_as (listing-card format image a.minutes shift c.in_ok-counts.counts c.in_ok-counts.ensures s c.in_ok-s.ensures.opened)
    (writes-append c.put_counts.ensures (writes_as (ap (λ y. tree_text y [] root.slots) (to_z-of_z w32 a.minutes c.ranges.minutes)) tree))
