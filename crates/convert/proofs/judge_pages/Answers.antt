-- The loop's invariant: judging the pages from p on is judging them all.
use Rattle.std.proofs.Common.{sym, ◌∙◌, arith}
use Rattle.page.specs.Page.{page_at}
use Rattle.page.proofs.Puts.{judged-none}
use Rattle.model.specs.Check.{ok}
use Rattle.layout.proofs.Stages.{there}
use Rattle.convert.proofs.AllPages.{all-stop, all_more, all_done}
use Rattle.convert.proofs.judge_pages.Goals as goal

pub returns-then-is_none : goal.returns-then-is_none
returns-then-is_none c made =
    let a = c.args in
    let gone = judged-none (page_at a.format a.image.now c.loop-p.p) (sym c.judge_page.ensures.readable ∙ c.if-is_none.ensures) in
    sym (c.loop-p.invariant made ∙ all-stop a.format a.image.now (ok made) c.loop-p.p (omega arith) gone)

pub loop-p-preserved : goal.loop-p-preserved
loop-p-preserved c made =
    let a = c.args in
    let found = there (page_at a.format a.image.now c.loop-p.p) (sym c.judge_page.ensures.readable ∙ c.if-is_none.ensures) in
    c.loop-p.invariant made ∙ all_more a.format a.image.now (ok made) c.loop-p.p (omega arith) found

pub returns : goal.returns
returns c made =
    let a = c.args in
    sym (c.loop-p.invariant made ∙ all_done a.format a.image.now (ok made) c.loop-p.p (omega arith))
