-- A turn of the loop copies a page's piece and adds its chunks.
use native.Mathlib.Omega.{arith}
use Rattle.tree.specs.Card.{view_of}
use Rattle.tree.specs.Mended.{mended_page}
use Rattle.tree.proofs.PageReads.{view-sized}
use Rattle.lookup.proofs.CopySteps.{copy-page, count-whole}
use Rattle.lookup.proofs.reading.copy_pages.Goals as goal

pub loop-k-preserved : goal.loop-k-preserved
loop-k-preserved c =
    let card = c.args.card.now in
    copy-page (view_of card) card.table.now (mended_page card.geometry card.image.now) c.loop-k.invariant (view-sized _ _ _) c.loop-k-test.true c.piece_of-n.result c.cluster_after-c.result c.slot_page.result c.read_needed.new.mended _ _ _ c.piece_of-n.ensures c.slot_page.ensures.0 c.cluster_after-c.ensures c.read_needed.ensures.read c.read_needed.ensures.counted (omega arith) (omega arith) c.copy_from_slice.ensures.after

pub returns-clause-counted : goal.returns-clause-counted
returns-clause-counted c =
    let card = c.args.card.now in
    count-whole (view_of card) card.table.now (mended_page card.geometry card.image.now) c.loop-k.invariant c.loop-k-test.false
