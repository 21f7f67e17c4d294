-- `tree::names::is_same` meets its contract: the mark, the name, the slot.
use Rattle.std.proofs.Common.{sym, ◌∙◌, eq-eqb, ne_eqb}
use Rattle.tree.specs.Met.{is_same}
use Rattle.tree.proofs.names.is_same.Goals as goal

pub returns-then-whole-mark : goal.returns-then-whole-mark
unfolding is_same
returns-then-whole-mark c = rw (ne_eqb _ _ c.if-whole-mark.true)

pub returns-then-named_at : goal.returns-then-named_at
unfolding is_same
returns-then-named_at c = rw (eq-eqb _ _ c.if-whole-mark.false, sym c.named_at.ensures ∙ c.if-named_at.true) c.is_slot.ensures

pub returns-else-named_at : goal.returns-else-named_at
unfolding is_same
returns-else-named_at c = rw (eq-eqb _ _ c.if-whole-mark.false, sym c.named_at.ensures ∙ c.if-named_at.false) c.if-named_at.false
