use Prim.Native.Nat.{◌+◌}
use lib.ListN.{length}
use Rattle.page.specs.Mended.{wrapped}
use Rattle.model.specs.Bytes.{slice}
use Rattle.model.specs.Needed.{total_over}
use Rattle.tree.specs.Card.{view_of}
use Rattle.tree.specs.Mended.{mended_page}
use Rattle.lookup.specs.Descend.{data_along, pages_from}
use Rattle.lookup.proofs.CopySteps.{Copying}
use Rattle.lookup.proofs.reading.copy_pages.Given as goal

abbrev pub invariant-loop-k : goal.invariant-loop-k
invariant-loop-k l =
    Copying (view_of l.card) l.card.table.now (mended_page l.card.geometry l.card.image.now)
    (slice (data_along (view_of l.card) (pages_from l.card.table.now l.start l.low l.skip (length l.initial.out))) l.skip (length l.initial.out))
    (wrapped (l.initial.mended + total_over (mended_page l.card.geometry l.card.image.now) (pages_from l.card.table.now l.start l.low l.skip (length l.initial.out)))) l.high l.c l.k l.from l.done l.out l.mended
