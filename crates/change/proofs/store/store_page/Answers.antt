-- The page as read gets its words; an unreadable one stays.
use Prim.Native.Nat.{◌*◌}
use mathlib.Core.Path.{◌∙◌, sym}
use lib.ListN.{get_or, length}
use Rattle.change.specs.Image.{with_words, words_in}
use Rattle.change.proofs.StoreSteps.{altered, left_alone}
use Rattle.change.proofs.store.store_page.Goals as goal

pub returns-then-is_some : goal.returns-then-is_some
returns-then-is_some c =
    let a = c.args in
    altered a.format a.p (with_words (λ x. get_or a.table.now x 0) (128 * a.t) (words_in (length a.table.now) a.t)) a.image.now c.read_page.ensures.read (sym c.is_some.ensures ∙ c.if-is_some.true) c.put_words.ensures c.rewrite_page.ensures

pub returns-else-is_some : goal.returns-else-is_some
returns-else-is_some c =
    let a = c.args in
    left_alone a.format a.p (with_words (λ x. get_or a.table.now x 0) (128 * a.t) (words_in (length a.table.now) a.t)) a.image.now c.read_page.ensures.read (sym c.is_some.ensures ∙ c.if-is_some.false)
