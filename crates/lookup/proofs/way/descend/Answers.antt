-- The loop of `descend` keeps that the names left lead on to where the whole path leads.
use native.Mathlib.Omega.{arith}
use Rattle.page.proofs.Puts.{read_none, read_some}
use Rattle.lookup.proofs.DescendSteps.{way_end, way-none, way_on, way-refused, way-start}
use Rattle.lookup.proofs.way.descend.Goals as goal

pub returns-then-not-read_slot : goal.returns-then-not-read_slot
returns-then-not-read_slot c =
    let a = c.args in
    way-none a.card.now a.path.now a.count (read_none _ c.read_slot.ensures c.if-not-read_slot.true)

pub loop-i-init : goal.loop-i-init
loop-i-init c =
    let a = c.args in
    way-start a.card.now a.path.now a.count _ (read_some _ c.read_slot.ensures c.if-not-read_slot.false)

pub returns-in_err-here : goal.returns-in_err-here
returns-in_err-here c =
    let a = c.args in
    let refused = way-refused a.card.now a.path.now a.count c.loop-i.i c.loop-i.here c.loop-i.invariant c.loop-i-test.true _ c.name_at.ensures _ c.enter.ensures c.in_err-here.field-0.0 c.in_err-here.was in
    grind (arith, refused)

pub loop-i-preserved : goal.loop-i-preserved
loop-i-preserved c =
    let a = c.args in
    way_on a.card.now a.path.now a.count c.loop-i.i c.loop-i.here c.loop-i.invariant c.loop-i-test.true _ c.name_at.ensures _ c.enter.ensures c.in_ok-here.here c.in_ok-here.was

pub returns : goal.returns
returns c =
    let a = c.args in
    way_end a.card.now a.path.now a.count c.loop-i.i c.loop-i.here c.loop-i.invariant c.loop-i-test.false
