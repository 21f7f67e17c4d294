-- The loop's invariant: what is left to write, written from here on, gives the whole.
use mathlib.Core.Path.{◌≡◌}
use lib.ListN.{length}
use Rattle.change.proofs.PageSteps.{left_from}
use Rattle.change.proofs.pages.write_data.Given as goal

abbrev pub invariant-loop-k : goal.invariant-loop-k
invariant-loop-k l =
    (length l.image ≡ length l.initial.image) × (left_from l.geometry l.clusters l.bytes l.k l.image ≡ left_from l.geometry l.clusters l.bytes 0 l.initial.image)
