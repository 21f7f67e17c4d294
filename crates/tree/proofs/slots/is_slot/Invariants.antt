-- No slot passed has the page; `c` is the cluster of slot i.
use Rattle.std.proofs.Common.{◌≡◌, false}
use Rattle.tree.specs.Slots.{cluster_at, is_slot}
use Rattle.tree.proofs.slots.is_slot.Given as goal

abbrev pub invariant-loop-i : goal.invariant-loop-i
invariant-loop-i l = (l.c ≡ cluster_at l.table l.start l.i) × (is_slot l.table l.start l.i l.page ≡ false)
