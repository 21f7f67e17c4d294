-- The part lent is what the image keeps of the page.
use Rattle.std.proofs.Common.{◌≡◌, ℕ, ◌+◌, ◌-◌, List, length, take, drop, refl, ap, ◌∙◌, rules}
use Rattle.page.specs.declared.Format.{Format}
use Rattle.page.specs.Page.{page_bytes, page_start, stored_page}
use Rattle.page.proofs.Formats.{inside-whole}
use Rattle.page.proofs.Lists.{length_part, lent-part}
use Rattle.page.proofs.Puts.{lent-whole}
use Rattle.page.proofs.stored_page.Goals as goal

lent : (format : Format) (image : List ℕ) (p : ℕ) {from size : ℕ} → from ≡ page_start format p → size ≡ page_bytes format
    → take (from + size - from) (drop from image) ≡ stored_page format image p
lent format image p e f = rw (e, f) (lent-part image (page_start format p) (page_bytes format))

pub page_start-from-requires : goal.page_start-from-requires
page_start-from-requires c =
    let h = inside-whole c.args.format (length c.args.image.now) c.args.page c.requires in
    search rules

pub overflow_add-to : goal.overflow_add-to
overflow_add-to c =
    let h = lent-whole c.args.format c.args.image.now c.args.page refl c.requires c.page_start-from.ensures c.page_bytes.ensures in
    search rules

pub returns : goal.returns
returns c =
    let kept = lent c.args.format c.args.image.now c.args.page c.page_start-from.ensures c.page_bytes.ensures in
    let whole = inside-whole c.args.format (length c.args.image.now) c.args.page c.requires in
    (kept, ap length kept ∙ length_part c.args.image.now (page_start c.args.format c.args.page) (page_bytes c.args.format) whole)

pub slice_bounds-result-end : goal.slice_bounds-result-end
slice_bounds-result-end c =
    let h = lent-whole c.args.format c.args.image.now c.args.page refl c.requires c.page_start-from.ensures c.page_bytes.ensures in
    search rules
