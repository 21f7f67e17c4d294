-- `find_name` is the one scan, by its own test.
use Rattle.std.proofs.Common.{◌∙◌, rules}
use Rattle.tree.specs.Card.{view_of}
use Rattle.tree.specs.Scan.{bearing}
use Rattle.tree.proofs.ScanLaws.{scan-all}
use Rattle.tree.proofs.card.Card.find_name.Goals as goal

pub returns : goal.returns
returns c =
    let a = c.args in
    let found = c.first.ensures (bearing (view_of a.self.now) a.name.now) (λ k p r h. search rules) in
    (found.0 ∙ scan-all _ _ _ _, found.1)
