-- The part at the place behind the first byte is the name there.
use Rattle.std.proofs.Common.{◌≡◌, ◌∙◌, ap, arith, drop, eqb, length, refl, rules, tests}
use Rattle.std.proofs.lemmas.Iterator.Consumers.{nth_from_yields_List}
use Rattle.std.proofs.lemmas.Iterator.Splits.{YieldsList-from_slice_split}
use Rattle.std.proofs.lemmas.Slice.{between_to_end}
use Rattle.fields.proofs.PathLaws.{name-part}
use Rattle.fields.proofs.paths.name_at.Goals as goal

pub returns : goal.returns
returns c =
    let path = c.args.path.now in
    let names = drop 1 path in
    let rest : c.split.result.rest.now ≡ names = c.split.ensures.rest ∙ between_to_end path 1 (length path) (omega arith) in
    ap (λ x. x.now) c.unwrap_or.ensures ∙ name-part names c.args.index c.nth.result _ refl (nth_from_yields_List c.nth.result _ c.args.index c.nth.ensures.ran (YieldsList-from_slice_split _ (λ b. eqb b 0x2F) names rest c.split.ensures.done c.split.ensures.closure (λ x b q k. search (rules, tests))))
