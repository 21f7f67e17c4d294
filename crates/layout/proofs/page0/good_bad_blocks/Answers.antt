-- `all` is the rule on each word.
use Rattle.std.proofs.Common.{◌∙◌, rules}
use Rattle.std.proofs.lemmas.Iterator.{YieldsList-from_slice}
use Rattle.std.proofs.lemmas.Iterator.Search.{all_from_yields_List}
use borrow.Author.Tests.{tests}
use Rattle.layout.specs.Superblock.{good_bad_block}
use Rattle.layout.proofs.ListLaws.{all-blocks}
use Rattle.layout.proofs.page0.good_bad_blocks.Goals as goal

pub returns : goal.returns
returns c =
    let a = c.args in
    all_from_yields_List (good_bad_block a.n) _ _ c.all.result c.all.ensures.ran (YieldsList-from_slice a.bad.now cc) (λ x b q k. search (rules, tests))
    ∙ all-blocks a.n a.bad.now
