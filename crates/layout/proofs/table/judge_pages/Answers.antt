-- The loop's invariant: judging the pages from page t of the table on is judging them all.
use Rattle.std.proofs.Common.{◌*◌, ◌<◌, ◌≤◌, ◌++◌, ℕ, length, sym, ◌∙◌, arith}
use Rattle.page.specs.Mended.{mended_chunks}
use Rattle.page.specs.Page.{page_at}
use Rattle.page.proofs.Puts.{judged-none}
use Rattle.model.specs.Bytes.{word}
use Rattle.model.specs.Check.{ok}
use Rattle.layout.specs.Superblock.{up_to}
use Rattle.layout.specs.Table.{table_names}
use Rattle.layout.proofs.Stages.{there}
use Rattle.layout.proofs.MendedLaws.{count-done, count-more}
use Rattle.layout.proofs.UpTo.{length-up_to}
use Rattle.layout.proofs.TablePages.{pages-stop, pages-more, pages-done}
use Rattle.layout.proofs.table.judge_pages.Goals as goal

pub returns-then-not-judge_counted-clause-judged : goal.returns-then-not-judge_counted-clause-judged
returns-then-not-judge_counted-clause-judged c s =
    let l = c.loop-t in
    let a = c.args in
    let f : ℕ → ℕ = λ i. word (a.indirect.now.first ++ a.indirect.now.second) (4 * i) in
    let inside : l.t < 2 * length (up_to f a.count) = omega (arith, length-up_to f a.count) in
    let gone = judged-none (page_at a.format a.image.now c.table_page-p.result) (sym c.judge_counted.ensures.readable ∙ c.if-not-judge_counted.true) in
    sym (l.invariant.1 s ∙ pages-stop a.format a.image.now (up_to f a.count) (ok s) l.t inside (rw c.table_page-p.ensures at gone) ∙ rw c.table_page-p.ensures)

pub loop-t-preserved : goal.loop-t-preserved
loop-t-preserved c =
    let l = c.loop-t in
    let a = c.args in
    let f : ℕ → ℕ = λ i. word (a.indirect.now.first ++ a.indirect.now.second) (4 * i) in
    let inside : l.t < 2 * length (up_to f a.count) = omega (arith, length-up_to f a.count) in
    let found = there (page_at a.format a.image.now c.table_page-p.result) (sym c.judge_counted.ensures.readable ∙ c.if-not-judge_counted.false) in (
      count-more (mended_chunks a.format a.image.now) (up_to f a.count) a.mended.now l.mended l.t inside (rw c.table_page-p.ensures at c.judge_counted.ensures.counted) l.invariant.0,
      λ s. l.invariant.1 s ∙ pages-more a.format a.image.now (up_to f a.count) (ok s) l.t inside (rw c.table_page-p.ensures at found),
    )

pub returns : goal.returns
returns c =
    let a = c.args in
    let l = c.loop-t in
    let names = table_names (a.indirect.now.first ++ a.indirect.now.second) a.count in
    let all : 2 * length names ≤ l.t = omega (arith, length-up_to (λ i. word (a.indirect.now.first ++ a.indirect.now.second) (4 * i)) a.count) in record {
      judged = λ s. sym (l.invariant.1 s ∙ pages-done a.format a.image.now names (ok s) l.t all);
      counted = count-done (mended_chunks a.format a.image.now) names a.mended.now l.mended l.t all l.invariant.0;
    }
