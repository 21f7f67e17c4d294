-- `first_unreadable` is the one scan, by its own test.
use Rattle.std.proofs.Common.{rules}
use Rattle.tree.specs.Card.{view_of}
use Rattle.tree.specs.Scan.{unread}
use Rattle.tree.proofs.card.Card.first_unreadable.Goals as goal

pub returns : goal.returns
returns c =
    let a = c.args in
    let found = c.first.ensures (unread (view_of a.self.now)) (λ k p r h. search rules) in
    found
