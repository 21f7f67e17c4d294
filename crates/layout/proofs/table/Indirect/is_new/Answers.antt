-- None of the names so far is the name; one that is stays among the first `count`.
use Rattle.std.proofs.Common.{◌*◌, ◌++◌, sym, refl, ◌∙◌}
use Rattle.model.specs.Bytes.{word}
use Rattle.layout.specs.Superblock.{up_to}
use Rattle.layout.proofs.Names.{new-stop, new_more}
use Rattle.layout.proofs.table.Indirect.is_new.Goals as goal

pub loop-i-init : goal.loop-i-init
unfolding up_to
loop-i-init c = refl

pub returns-then-name_at-name : goal.returns-then-name_at-name
returns-then-name_at-name c =
    let a = c.args in
    sym (new-stop (λ i. word (a.self.now.first ++ a.self.now.second) (4 * i)) a.indirect a.name a.count c.loop-i.i c.loop-i-test.true (sym c.name_at.ensures ∙ c.if-name_at-name.true))

pub loop-i-preserved : goal.loop-i-preserved
loop-i-preserved c =
    let a = c.args in
    new_more (λ i. word (a.self.now.first ++ a.self.now.second) (4 * i)) a.indirect a.name c.loop-i.i (λ e. c.if-name_at-name.false (c.name_at.ensures ∙ e)) c.loop-i.invariant
