-- What is added are the chunks that `judge_page` tells.
use Rattle.page.proofs.Mending.{chunks-added}
use Rattle.page.proofs.judge_counted.Goals as goal

pub returns-clause-counted : goal.returns-clause-counted
returns-clause-counted c =
    let a = c.args in
    chunks-added a.format a.image.now a.page a.mended.now c.judge_page.ensures.mended c.counted.ensures.counted
