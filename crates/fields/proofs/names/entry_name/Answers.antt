-- The count is that of the field's name, so the part lent is the name.
use Rattle.std.proofs.Common.{eqb, length, rules, sym, tests, ◌≡◌}
use Rattle.std.proofs.lemmas.Iterator.{YieldsList-from_slice}
use Rattle.std.proofs.lemmas.Iterator.Search.{position_from_yields_List}
use lib.Seq.{length-take-le}
use Rattle.fields.proofs.NameLaws.{name-end, name-in-field, name-short}
use Rattle.model.specs.Bytes.{before_zero, slice}
use Rattle.fields.proofs.names.entry_name.Goals as goal

count-is : (c : goal.After-unwrap_or-count) → c.unwrap_or-count.result ≡ length (before_zero (slice c.args.page.now 0x40 32))
count-is c =
    name-end (slice c.args.page.now 0x40 32) c.position.result c.unwrap_or-count.result c.unwrap_or-count.ensures (position_from_yields_List (λ b. eqb b 0) _ _ _ c.position.ensures.ran (YieldsList-from_slice (slice c.args.page.now 0x40 32) cc) (λ x b q k. search (rules, tests)))

pub slice_bounds-result-end : goal.slice_bounds-result-end
slice_bounds-result-end c =
    let field = slice c.args.page.now 0x40 32 in
    sym (length-take-le c.unwrap_or-count.result field (rw (count-is c) (name-short field)))

pub returns : goal.returns
returns c =
    rw (count-is c) (name-in-field (slice c.args.page.now 0x40 32))
