-- `tree::slots::is_slot` meets its contract: no slot passed has the page.
use Rattle.std.proofs.Common.{◌≡◌, suc, sym, ◌∙◌, add-one, arith}
use Rattle.tree.specs.Slots.{cluster_at, slot_page}
use Rattle.tree.proofs.MetLaws.{slot-here, slot-none, slot-not, slot-up}
use Rattle.tree.proofs.ScanLaws.{cluster-start, cluster-step}
use Rattle.tree.proofs.slots.is_slot.Goals as goal

pub loop-i-init : goal.loop-i-init
loop-i-init c = (cluster-start _ _, slot-none _ _ _)

pub returns-then-slot_page-page : goal.returns-then-slot_page-page
returns-then-slot_page-page c =
    let a = c.args in
    let l = c.loop-i in
    let here : a.page ≡ slot_page (cluster_at a.table.now a.start l.i) l.i = rw (← l.invariant.0) (sym c.if-slot_page-page.true ∙ c.slot_page.ensures.0) in
    sym (slot-up a.table.now a.start a.page (suc l.i) a.k (omega arith) (slot-here a.table.now a.start a.page l.i here))

pub loop-i-preserved : goal.loop-i-preserved
loop-i-preserved c =
    let a = c.args in
    let l = c.loop-i in
    let other : (a.page ≡ slot_page (cluster_at a.table.now a.start l.i) l.i) → ⊥ = λ e. c.if-slot_page-page.false (c.slot_page.ensures.0 ∙ sym (rw (← l.invariant.0) at e)) in
    (cluster-step _ _ _ _ _ l.invariant.0 c.cluster_after-c.ensures, rw (add-one l.i) (slot-not a.table.now a.start a.page l.i l.invariant.1 other))
