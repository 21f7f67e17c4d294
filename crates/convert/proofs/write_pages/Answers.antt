-- The loop's invariant: the pages below p are written, and nothing else.
use Rattle.std.proofs.Common.{sym, ◌∙◌, arith}
use Rattle.page.specs.Page.{page_at}
use Rattle.layout.specs.Table.{data_of}
use Rattle.layout.proofs.Stages.{read-data, there}
use Rattle.convert.proofs.Filled.{filled_none, page-more}
use Rattle.convert.proofs.write_pages.Goals as goal

pub loop-p-init : goal.loop-p-init
loop-p-init c = sym (filled_none _ _ _)

pub loop-p-preserved : goal.loop-p-preserved
loop-p-preserved c =
    let a = c.args in
    let at = c.loop-p.p in
    let found = there (page_at a.from a.image.now at) (c.requires at (omega arith)) in
    let page = c.read_page.ensures.read.buffer ∙ read-data (page_at a.from a.image.now at) _ found in
    page-more a.to (λ q. data_of (page_at a.from a.image.now q)) a.out.now at c.loop-p.invariant page c.write_page.ensures
