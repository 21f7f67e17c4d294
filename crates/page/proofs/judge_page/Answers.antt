-- In the image the page is judged by the bytes kept of it; past its end there is no data.
use Rattle.std.proofs.Common.{refl, rules}
use Rattle.page.proofs.Mending.{told-inside, told-outside}
use Rattle.page.proofs.judge_page.Goals as goal

pub returns-then-page-page_count : goal.returns-then-page-page_count
returns-then-page-page_count c =
    let a = c.args in
    let told = told-outside a.format a.image.now a.page c.page_count.ensures.0 (search rules) in
    record { readable = rw told.0 refl; mended = rw told.1 refl }

pub returns : goal.returns
returns c =
    let a = c.args in
    let told = told-inside a.format a.image.now a.page c.page_count.ensures.0 (search rules) c.stored_page.ensures.0 in
    record { readable = rw told.0 c.judge_stored.ensures.readable; mended = rw told.1 c.judge_stored.ensures.mended }
