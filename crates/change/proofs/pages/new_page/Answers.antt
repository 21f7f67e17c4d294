-- The fields are put one after the other, the last of the definition's first.
use Rattle.change.proofs.PageSteps.{new-made}
use Rattle.change.proofs.pages.new_page.Goals as goal

pub returns : goal.returns
returns c =
    let a = c.args in
    new-made a.mode a.length a.first a.time.now a.dir_entry a.name.now c.zero_page-page.ensures c.put_bytes.ensures c.put_word.ensures c.put_bytes-2.ensures c.put_word-2.ensures c.put_word-3.ensures c.put_bytes-3.ensures c.put_word-4.ensures c.put_half.ensures
