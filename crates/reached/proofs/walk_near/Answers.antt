-- What is left to do gives the whole answer: the loop keeps `near_from` of its locals equal to that at the start.
use Prim.Native.Nat.{◌/◌}
use mathlib.Core.Path.{◌∙◌, sym}
use borrow.Author.Tests.{eq-eqb, lt-ltb}
use Rattle.model.proofs.Equality.{tf}
use Rattle.reached.proofs.NearLaws.{near-on, near-over}
use Rattle.reached.proofs.walk_near.Goals as goal

pub loop-left-preserved-then-step : goal.loop-left-preserved-then-step
loop-left-preserved-then-step c =
    let l = c.loop-left in
    l.invariant ∙ near-on c.args.table.now l.r l.sound l.c l.left c.loop-left-test.true ∙ rw (← c.step_at-step.ensures, c.if-step.true, c.mark-r.ensures)

pub loop-left-preserved : goal.loop-left-preserved
loop-left-preserved c =
    let l = c.loop-left in
    l.invariant ∙ near-on c.args.table.now l.r l.sound l.c l.left c.loop-left-test.true ∙ rw (← c.step_at-step.ensures, c.if-step.false)

pub returns : goal.returns
returns c =
    let l = c.loop-left in
    sym (l.invariant ∙ near-over c.args.table.now l.r l.sound l.c l.left (λ more near. tf (rw (lt-ltb 0 l.left more, eq-eqb (l.c / 64) l.r.at near)) c.loop-left-test.false))
