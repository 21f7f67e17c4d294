-- The parts behind the first slash are the path's names: they are counted and judged one by one.
use Rattle.std.proofs.Common.{◌≡◌, ◌∙◌, eqb, length, rules, tests}
use Rattle.std.specs.List.{list_all}
use Rattle.std.proofs.lemmas.Iterator.Consumers.{count_from_yields_List}
use Rattle.std.proofs.lemmas.Iterator.Search.{all_from_yields_List}
use Rattle.std.proofs.lemmas.Iterator.Splits.{YieldsList-from_slice_split}
use Rattle.fields.proofs.PathLaws.{parse-names, parts, too-long}
use Rattle.model.specs.Names.{good_name}
use Rattle.fields.proofs.paths.parse_path.Goals as goal

pub returns : goal.returns
returns c =
    let names = c.in_ok-names.names.now in
    let found = c.in_ok-names.ensures.cases in
    let count : c.count-count.result ≡ length (parts names) = count_from_yields_List _ _ c.count-count.ensures.ran (YieldsList-from_slice_split _ (λ b. eqb b 0x2F) names c.split.ensures.rest c.split.ensures.done c.split.ensures.closure (λ x b q k. search (rules, tests))) in
    let good : c.all-good.result ≡ list_all good_name (parts names) = all_from_yields_List good_name _ _ _ c.all-good.ensures.ran (YieldsList-from_slice_split _ (λ b. eqb b 0x2F) names c.split-2.ensures.rest c.split-2.ensures.done c.split-2.ensures.closure (λ x b q k. search (rules, tests))) (λ x b q k. search (rules, tests)) in
    c.then_some.ensures ∙ parse-names c.args.path.now names found.0 found.1 (search rules) c.count-count.result count c.all-good.result good

pub returns-then-path-gt-MOST_BYTES : goal.returns-then-path-gt-MOST_BYTES
returns-then-path-gt-MOST_BYTES c =
    let found = c.in_ok-names.ensures.cases in
    too-long c.args.path.now c.in_ok-names.names.now found.0 found.1 (search rules) c.if-path-gt-MOST_BYTES.true
