-- The loop's invariant: the clusters behind those that are left are linked, and `word` leads to the first of them.
use mathlib.Core.Path.{◌≡◌}
use lib.ListN.{length}
use Rattle.change.proofs.WordSteps.{Linked}
use Rattle.change.proofs.words.link_chain.Given as goal

abbrev pub invariant-loop-cluster : goal.invariant-loop-cluster
invariant-loop-cluster l =
    (length l.table ≡ length l.initial.table) × Linked l.clusters l.initial.table l.cluster-iterator.iter.rest.now l.word l.table
