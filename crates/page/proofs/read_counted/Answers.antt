-- What is added are the chunks that `read_page` tells.
use Rattle.page.proofs.Mending.{chunks-added}
use Rattle.page.proofs.read_counted.Goals as goal

pub returns-clause-counted : goal.returns-clause-counted
returns-clause-counted c =
    let a = c.args in
    chunks-added a.format a.image.now a.page a.mended.now c.read_page.ensures.mended c.counted.ensures.counted
