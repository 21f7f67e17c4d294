-- `first_dead` is the one scan, by its own test.
use Rattle.std.proofs.Common.{◌∙◌, rules}
use Rattle.tree.specs.Card.{view_of}
use Rattle.tree.specs.Scan.{dying}
use Rattle.tree.proofs.ScanLaws.{scan-all}
use Rattle.tree.proofs.card.Card.first_dead.Goals as goal

pub returns : goal.returns
returns c =
    let a = c.args in
    let found = c.first.ensures (dying (view_of a.self.now)) (λ k p r h. search rules) in
    (found.0 ∙ scan-all _ _ _ _, found.1)
