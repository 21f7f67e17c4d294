-- The loop's invariant: what is left to free, freed from here on, gives the whole.
use Prim.Native.Nat.{◌-◌}
use mathlib.Core.Path.{◌≡◌}
use lib.ListN.{length}
use Rattle.change.specs.Words.{cleared_from}
use Rattle.change.proofs.words.clear_chain.Given as goal

abbrev pub invariant-loop : goal.invariant-loop
invariant-loop l =
    (length l.table ≡ length l.initial.table) × (cleared_from l.c (l.count - l.counter) l.table ≡ cleared_from l.first l.count l.initial.table)
