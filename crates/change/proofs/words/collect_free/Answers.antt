use mathlib.Core.Bool.{◌&&◌, not}
use mathlib.Core.Path.{◌∙◌, ◌≡◌, ap, refl, sym}
use native.Mathlib.Omega.{arith}
use lib.Dec.{ltb}
use lib.ListN.{length, take}
use lib.Seq.{length-take-le}
use Rattle.change.specs.Words.{free_list}
use Rattle.change.proofs.WordSteps.{free_up_to, none_yet, not-one, one_more}
use Rattle.change.proofs.words.collect_free.Invariants.{may_take}
use Rattle.change.proofs.words.collect_free.Goals as goal
use Rattle.change.proofs.words.collect_free.Goals.{else-c-limit, then-c-limit}

pub loop-c-init : goal.loop-c-init
loop-c-init c =
    let a = c.args in
    (omega arith, refl, none_yet (may_take c.take_limit-limit.result a.s.geometry.offset a.s.bad) a.table.now, c.new-last.ensures)

pub loop-c-preserved : goal.loop-c-preserved
loop-c-preserved c =
    let a = c.args in
    let t = a.table.now in
    let pool = may_take c.take_limit-limit.result a.s.geometry.offset a.s.bad in
    let l = c.loop-c in
    let known = c.at-last.ensures.1 l.invariant.3 in
    let may : (ltb l.c c.take_limit-limit.result && not c.at-last.result.listed) ≡ pool l.c = rw (known, c.at-last.ensures.0) in
    elim c.if-c-limit.branch [
      | then-c-limit w ↦ (omega arith, c.if-c-limit.auto.list ∙ c.loop-c.auto.list, rw (w.list-is, w.count-is) (one_more pool t l.list l.count l.c l.invariant.2 _ may (omega arith) w.if-c-limit.true), known)
      | else-c-limit w ↦ (omega arith, c.if-c-limit.auto.list ∙ c.loop-c.auto.list, rw (w.list-is, w.count-is) (not-one pool t l.list l.count l.c l.invariant.2 _ may w.if-c-limit.false), known)
    ]

pub returns : goal.returns
returns c =
    let l = c.loop-c in
    let a = c.args in
    let t = a.table.now in
    let all : l.c ≡ length t = omega arith in
    let found : take l.count l.list ≡ free_up_to (may_take c.take_limit-limit.result a.s.geometry.offset a.s.bad) t (length t) = rw all at l.invariant.2 in
    let free : take l.count l.list ≡ free_list a.s t = found ∙ ap (λ n. free_up_to (may_take n a.s.geometry.offset a.s.bad) t (length t)) c.take_limit-limit.ensures in
    (sym (length-take-le l.count l.list (omega arith)) ∙ ap length free, free)
