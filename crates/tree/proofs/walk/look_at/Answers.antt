-- `tree::walk::look_at` meets its contract: a name that is not met in the cells is new, another is compared.
use Rattle.std.proofs.Common.{◌<◌, sym, refl, ◌∙◌, arith}
use Rattle.tree.specs.Card.{view_of}
use Rattle.tree.specs.Mended.{mended_page}
use Rattle.tree.specs.Met.{most_pages}
use Rattle.tree.proofs.LookLaws.{look-dead, look-free, look-met, look-taken, look-unread, read-adds, read_low, unread, was_read}
use Rattle.tree.proofs.walk.look_at.Goals as goal

pub returns-then-not-read_needed : goal.returns-then-not-read_needed
returns-then-not-read_needed c =
    let card = c.args.card.now in
    let looked = look-unread (view_of card) card.table.now c.args.first c.args.start c.args.k _ c.requires.2 _ _ c.requires.1 c.slot_page-page.ensures.0 card.geometry _ (unread c.read_needed.ensures.read c.if-not-read_needed.true) refl in
    rw (c.unreadable.ensures.whole c.slot_page-page.ensures.1) (record { value = looked.0; knows = looked.1; look_adds = tt })

pub returns-then-not-is_live : goal.returns-then-not-is_live
returns-then-not-is_live c =
    let card = c.args.card.now in
    let readable = c.if-not-read_needed.false in
    let read = c.read_needed.ensures.read in
    let looked = look-dead (view_of card) card.table.now c.args.first c.args.start c.args.k _ c.requires.2 _ _ c.requires.1 c.slot_page-page.ensures.0 card.geometry _ (was_read read readable) (sym c.is_live.ensures ∙ c.if-not-is_live.true) in record {
      value = looked.0;
      knows = looked.1;
      look_adds = rw c.slot_page-page.ensures.0 at (read-adds (mended_page card.geometry card.image.now c.slot_page-page.result) c.args.mended.now read readable c.read_needed.ensures.counted);
    }

pub meet-requires : goal.meet-requires
meet-requires c =
    omega (arith, c.requires.0, read_low c.args.card.now.geometry _ c.args.card.now.image.now _ c.read_needed.ensures.read c.if-not-read_needed.false)

pub returns-then-not-meet : goal.returns-then-not-meet
returns-then-not-meet c =
    let card = c.args.card.now in
    let readable = c.if-not-read_needed.false in
    let read = c.read_needed.ensures.read in
    let low : c.slot_page-page.result < most_pages = omega (arith, c.requires.0, read_low card.geometry _ card.image.now _ read readable) in
    let met = rw c.entry_name.ensures at c.meet.ensures.cells_after in
    let looked = look-met (view_of card) card.table.now c.args.first c.args.start c.args.k _ c.requires.2 _ _ c.requires.1 c.slot_page-page.ensures.0 card.geometry _ (was_read read readable) (sym c.is_live.ensures ∙ c.if-not-is_live.false) low _ met _ c.kind_of.ensures _ (rw c.entry_name.ensures at c.meet.ensures.value) c.if-not-meet.true in record {
      value = looked.0;
      knows = looked.1;
      look_adds = rw c.slot_page-page.ensures.0 at (read-adds (mended_page card.geometry card.image.now c.slot_page-page.result) c.args.mended.now read readable c.read_needed.ensures.counted);
    }

pub returns-then-name_taken : goal.returns-then-name_taken
returns-then-name_taken c =
    let card = c.args.card.now in
    let readable = c.if-not-read_needed.false in
    let read = c.read_needed.ensures.read in
    let low : c.slot_page-page.result < most_pages = omega (arith, c.requires.0, read_low card.geometry _ card.image.now _ read readable) in
    let met = rw c.entry_name.ensures at c.meet.ensures.cells_after in
    let looked = look-taken (view_of card) card.table.now c.args.first c.args.start c.args.k _ c.requires.2 _ _ c.requires.1 c.slot_page-page.ensures.0 card.geometry _ (was_read read readable) (sym c.is_live.ensures ∙ c.if-not-is_live.false) low _ met _ c.name_taken.ensures c.if-name_taken.true in record {
      value = looked.0;
      knows = looked.1;
      look_adds = rw c.slot_page-page.ensures.0 at (read-adds (mended_page card.geometry card.image.now c.slot_page-page.result) c.args.mended.now read readable c.read_needed.ensures.counted);
    }

pub returns : goal.returns
returns c =
    let card = c.args.card.now in
    let readable = c.if-not-read_needed.false in
    let read = c.read_needed.ensures.read in
    let low : c.slot_page-page.result < most_pages = omega (arith, c.requires.0, read_low card.geometry _ card.image.now _ read readable) in
    let met = rw c.entry_name.ensures at c.meet.ensures.cells_after in
    let looked = look-free (view_of card) card.table.now c.args.first c.args.start c.args.k _ c.requires.2 _ _ c.requires.1 c.slot_page-page.ensures.0 card.geometry _ (was_read read readable) (sym c.is_live.ensures ∙ c.if-not-is_live.false) low _ met _ c.kind_of-2.ensures _ c.name_taken.ensures c.if-name_taken.false in record {
      value = looked.0;
      knows = looked.1;
      look_adds = rw c.slot_page-page.ensures.0 at (read-adds (mended_page card.geometry card.image.now c.slot_page-page.result) c.args.mended.now read readable c.read_needed.ensures.counted);
    }
