-- Where the page is judged readable its data are the chunks as corrected, which are copied; else there are none.
use Rattle.std.proofs.Common.{sym, refl}
use Rattle.page.specs.Page.{read_raw}
use Rattle.page.proofs.Judging.{told-readable, told-mended, told-data, told-placed}
use Rattle.page.proofs.Puts.{judged-none}
use Rattle.page.proofs.raw.read_raw.Goals as goal

pub returns-in_err-mended : goal.returns-in_err-mended
returns-in_err-mended c =
    let page = c.args.page.now in
    let verdicts = c.judge_raw-verdicts.ensures in
    let readable = told-readable page verdicts c.in_err-mended.ensures.readable in
    rw c.from_residual.ensures (record {
      read = record { readable = readable; buffer = rw (judged-none (read_raw page) (sym readable)) refl };
      mended = told-mended page verdicts readable refl;
    })

pub copy_data-requires : goal.copy_data-requires
copy_data-requires c = told-placed c.args.page.now c.judge_raw-verdicts.ensures

pub returns : goal.returns
returns c =
    let page = c.args.page.now in
    let verdicts = c.judge_raw-verdicts.ensures in
    let readable = told-readable page verdicts c.in_ok-mended.ensures.readable in
    record {
      read = record { readable = readable; buffer = rw (told-data page verdicts (sym readable)) c.copy_data.ensures };
      mended = told-mended page verdicts readable c.in_ok-mended.ensures.mended;
    }
