-- A page that was read is compared.
use Rattle.std.proofs.Common.{ℕ, List, sym, ap, ◌∙◌}
use Rattle.std.proofs.lemmas.Bool.Decides.{Decides-eqb}
use Rattle.std.proofs.lemmas.Slice.Eq.{slice_eq-Decides}
use mathlib.Core.Option.{Option}
use Rattle.page.specs.Page.{page_at, holds}
use Rattle.page.proofs.Puts.{read_some, same_by}
use Rattle.page.proofs.holds_data.Goals as goal

pub returns-then-is_some : goal.returns-then-is_some
returns-then-is_some c =
    let a = c.args in
    let same = slice_eq-Decides Decides-eqb c.read_page.new.out a.bytes.now c.eq.result c.eq.ensures in
    let found = read_some (page_at a.format a.image.now a.page) c.read_page.ensures.read (sym c.is_some.ensures ∙ c.if-is_some.true) in
    same_by c.read_page.new.out a.bytes.now c.eq.result same.0 same.1 ∙ sym (ap (λ (o : Option (List ℕ)). holds o a.bytes.now) found)
