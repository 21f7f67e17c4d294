-- Nothing is taken and nothing grows; the entry loses its bit and its clusters are freed.
use Rattle.change.proofs.DeedSteps.{image-as}
use Rattle.change.proofs.EditSteps.{removed-writes}
use Rattle.change.proofs.editing.take_away.Goals as goal

pub returns : goal.returns
returns c =
    let a = c.args in
    image-as a.s a.image.now c.put_down.ensures
    (removed-writes a.directory a.entry c.word_at.ensures c.with_length-kept.ensures c.killed_page-gone.ensures) c.relink.ensures
