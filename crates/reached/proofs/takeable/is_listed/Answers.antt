-- The test of each word is the list's.
use Rattle.std.proofs.Common.{eqb, rules, tests, ◌∙◌}
use Rattle.std.proofs.lemmas.Iterator.{YieldsList-from_slice}
use Rattle.std.proofs.lemmas.Iterator.Search.{any_from_yields_List}
use Rattle.reached.proofs.ListLaws.{any-listed}
use Rattle.reached.proofs.takeable.is_listed.Goals as goal

pub returns : goal.returns
returns c =
    any_from_yields_List (λ b. eqb b c.args.block) _ _ _ c.any.ensures.ran (YieldsList-from_slice c.args.bad.now cc) (λ x b q k. search (rules, tests)) ∙ any-listed c.args.bad.now c.args.block
