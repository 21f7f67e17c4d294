-- In the image the lent bytes of the page come back as it is stored, in their place; past the end nothing is written.
use Rattle.std.proofs.Common.{◌≡◌, ℕ, ◌+◌, ◌-◌, true, List, length, take, drop, sym, ap, ◌∙◌, rules}
use borrow.Rule.Slice.PartMut.{put_mid}
use Rattle.page.specs.declared.Format.{Format}
use Rattle.page.specs.Page.{page_bytes, page_start, put_at, stored_as, stored_page, written}
use Rattle.page.proofs.Lists.{length_part, lent-part, lent_back}
use Rattle.page.proofs.Formats.{length-stored}
use Rattle.page.proofs.Puts.{Whole, counted-whole, lent-whole, put_written, put-outside}
use Rattle.page.proofs.write_page.Goals as goal

wrote-lent : (format : Format) (image : List ℕ) (p : ℕ) (bytes m : List ℕ) {from size : ℕ} → from ≡ page_start format p → size ≡ page_bytes format
    → Whole format image p → length bytes ≡ 512
    → m ≡ stored_as format (take (from + size - from) (drop from image)) bytes
    → put_mid from (from + size - from) image m ≡ written format image p bytes
wrote-lent format image p bytes m e f h hb w =
    let start = page_start format p in
    let size = page_bytes format in
    let stored : m ≡ stored_as format (stored_page format image p) bytes = w ∙ rw (e, f) (ap (λ (old : List ℕ). stored_as format old bytes) (lent-part image start size)) in
    rw (e, f)
    (lent_back image start size m (ap length stored ∙ length-stored format (stored_page format image p) bytes hb (length_part image start size h))
    ∙ ap (put_at image start) stored ∙ sym (put_written format p bytes image h))

pub page_start-from-requires : goal.page_start-from-requires
page_start-from-requires c =
    let a = c.args in
    let h = counted-whole a.format a.image.now a.page c.page_count.ensures.0 (search rules) in
    search rules

pub overflow_add-to : goal.overflow_add-to
overflow_add-to c =
    let a = c.args in
    let h = lent-whole a.format a.image.now a.page c.page_count.ensures.0 (search rules) c.page_start-from.ensures c.page_bytes.ensures in
    search rules

pub returns-then-page-page_count : goal.returns-then-page-page_count
returns-then-page-page_count c =
    let a = c.args in
    wrote-lent a.format a.image.now a.page a.bytes.now c.write_stored.new.page c.page_start-from.ensures c.page_bytes.ensures
    (counted-whole a.format a.image.now a.page c.page_count.ensures.0 (search rules)) (search rules) c.write_stored.ensures

pub returns-else-page-page_count : goal.returns-else-page-page_count
returns-else-page-page_count c =
    let a = c.args in
    sym (put-outside a.format true a.page a.bytes.now a.image.now (rw (← c.page_count.ensures.0) (search rules)))

pub slice_bounds-write_stored-end : goal.slice_bounds-write_stored-end
slice_bounds-write_stored-end c =
    let a = c.args in
    let h = lent-whole a.format a.image.now a.page c.page_count.ensures.0 (search rules) c.page_start-from.ensures c.page_bytes.ensures in
    search rules
