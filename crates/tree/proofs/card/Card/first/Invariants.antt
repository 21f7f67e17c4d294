-- The slots that are left give the answer of all; `c` is the cluster of slot k.
use Rattle.std.proofs.Common.{◌≡◌, ℕ, ◌-◌, Bool}
use Rattle.tree.specs.Scan.{Computes, scan}
use Rattle.tree.specs.Slots.{slot_pages}
use Rattle.tree.proofs.ScanLaws.{rest}
use Rattle.tree.proofs.card.Card.first.Given as goal

abbrev pub invariant-loop-k : goal.invariant-loop-k
invariant-loop-k g l =
    (tests : ℕ → ℕ → Bool) → Computes (goal.F-post g l.test) tests
    → rest tests l.self.table.now l.c l.k l.high ≡ scan tests (slot_pages l.self.table.now l.start l.low (l.high - l.low)) l.low
