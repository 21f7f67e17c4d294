-- `first_live` is the one scan, by its own test.
use Rattle.std.proofs.Common.{◌∙◌, rules}
use Rattle.tree.specs.Card.{view_of}
use Rattle.tree.specs.Scan.{living_from}
use Rattle.tree.proofs.ScanLaws.{scan-all}
use Rattle.tree.proofs.card.Card.first_live.Goals as goal

pub returns : goal.returns
returns c =
    let a = c.args in
    let found = c.first.ensures (living_from (view_of a.self.now) a.from) (λ k p r h. search rules) in
    (found.0 ∙ scan-all _ _ _ _, found.1)
