-- Each way out of the loop, for any test that the closure computes.
use Rattle.std.proofs.Common.{sym, ◌∙◌, arith}
use Rattle.tree.proofs.ScanLaws.{scan-end, scan-here, scan-later}
use Rattle.tree.proofs.card.Card.first.Goals as goal

pub returns-then-test : goal.returns-then-test
returns-then-test g c = λ tests k. (
  scan-here tests _ _ _ _ c.loop-k-test.true _ c.slot_page-page.ensures.0 (sym (k _ _ _ c.test.ensures) ∙ c.if-test.true)
      ∙ c.loop-k.invariant tests k,
  (c.slot_page-page.ensures.1, c.loop-k-test.true),
)

pub loop-k-preserved : goal.loop-k-preserved
loop-k-preserved g c = λ tests k.
    scan-later tests _ _ _ _ c.loop-k-test.true _ _ c.slot_page-page.ensures.0 c.cluster_after-c.ensures (sym (k _ _ _ c.test.ensures) ∙ c.if-test.false)
    ∙ c.loop-k.invariant tests k

pub returns : goal.returns
returns g c = λ tests k. (sym (scan-end _ _ _ _ _ (omega arith)) ∙ c.loop-k.invariant tests k, tt)
