-- The word lies whole in the first page or in the second, or past both.
use Rattle.std.proofs.Common.{◌∙◌, rules}
use Rattle.layout.proofs.Texts.{word_first, word-second}
use Rattle.layout.proofs.table.Indirect.name_at.Goals as goal

pub returns-in-0-to-127 : goal.returns-in-0-to-127
returns-in-0-to-127 c =
    let a = c.args in
    c.word_at.ensures ∙ word_first a.self.now.first a.self.now.second a.i (search rules) (search rules)

pub returns-in-128-to-255 : goal.returns-in-128-to-255
returns-in-128-to-255 c =
    let a = c.args in
    c.word_at-in-128-to-255.ensures ∙ word-second a.self.now.first a.self.now.second a.i (search rules) (search rules)
