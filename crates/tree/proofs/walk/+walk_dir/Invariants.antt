-- What is left of the slots gives what all of them give, from the first two entries on.
use Rattle.std.proofs.Common.{◌≡◌, ◌-◌}
use Rattle.reached.specs.Marks.{Sound, marks_of}
use Rattle.tree.specs.Card.{view_of}
use Rattle.tree.specs.Mended.{mended_page}
use Rattle.tree.specs.Met.{Grows, Knows}
use Rattle.tree.specs.Slots.{cluster_at}
use Rattle.tree.proofs.TellLaws.{rest}
use Rattle.tree.proofs.walk.+walk_dir.Given as goal

abbrev pub decreases-walk_dir : goal.decreases-walk_dir
decreases-walk_dir l = l.below

abbrev pub invariant-loop-k : goal.invariant-loop-k
invariant-loop-k l =
    (rest (view_of l.card) (mended_page l.card.geometry l.card.image.now) l.card.geometry l.below l.card.table.now l.start l.start 0 (l.entries - 2) (marks_of l.initial.r) l.initial.mended
    ≡ rest (view_of l.card) (mended_page l.card.geometry l.card.image.now) l.card.geometry l.below l.card.table.now l.start l.c l.k (l.entries - 2 - l.k) (marks_of l.r) l.mended)
    × Sound l.r × (l.c ≡ cluster_at l.card.table.now l.start l.k)
    × Knows (view_of l.card) l.card.table.now l.first l.start l.k l.cells × Grows l.initial.cells l.cells
