-- The loop keeps that the slots left give the whole text; `c` is the cluster of slot k. What falls is the depth left.
use Rattle.tree.specs.Card.{view_of}
use Rattle.tree.specs.Slots.{slot_pages}
use Rattle.listing.specs.Paths.{path_bytes}
use Rattle.listing.specs.Render.{slots_text}
use Rattle.listing.proofs.RenderLaws.{Remains, left}
use Rattle.listing.proofs.entries.+list_slots.Given as goal

abbrev pub invariant-loop-k : goal.invariant-loop-k
invariant-loop-k l =
    Remains l.fn.text (slots_text l.minutes (view_of l.card) l.card.table.now l.below (path_bytes l.directory.path) (slot_pages l.card.table.now l.directory.start 0 l.directory.count)) l.text (left l.minutes (view_of l.card) l.card.table.now l.below (path_bytes l.directory.path) l.c l.k l.directory.count)

abbrev pub decreases-list_slots : goal.decreases-list_slots
decreases-list_slots l = l.below
