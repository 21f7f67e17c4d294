-- A raw page is judged by the verdicts of its chunks.
use Rattle.std.proofs.Common.{ap, ◌∙◌}
use Rattle.page.specs.Page.{verdicts_of}
use Rattle.page.proofs.Judging.{told-readable, told-mended}
use Rattle.page.proofs.judge_stored.Goals as goal

pub returns-in_ok-as_array-in-Raw : goal.returns-in_ok-as_array-in-Raw
returns-in_ok-as_array-in-Raw c =
    let page = c.args.page.now in
    let verdicts = c.judge_raw.ensures ∙ ap verdicts_of c.in_ok-as_array-in-Raw.ensures.cases.same in
    let readable = told-readable page verdicts c.mended_by.ensures.readable in
    rw c.in-Raw.is (record { readable = readable; mended = told-mended page verdicts readable c.mended_by.ensures.mended })
