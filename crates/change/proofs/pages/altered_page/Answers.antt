-- The fields are put one after the other, the last of the definition's first.
use Rattle.change.proofs.PageSteps.{altered-made}
use Rattle.change.proofs.pages.altered_page.Goals as goal

pub returns : goal.returns
returns c =
    let a = c.args in
    altered-made a.mode a.length a.first a.modified.now a.page.now c.put_bytes.ensures c.put_word.ensures c.put_word-2.ensures c.put_half.ensures
