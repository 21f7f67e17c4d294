use Prim.Native.Nat.{◌*◌}
use mathlib.Core.Path.{◌≡◌}
use native.Mathlib.Omega.{arith}
use lib.ListN.{get_or, length}
use Rattle.change.specs.Image.{words_in}
use Rattle.change.proofs.StoreSteps.{no-words-yet, word-put}
use Rattle.change.proofs.store.put_words.Goals as goal

pub loop-i-init : goal.loop-i-init
loop-i-init c = no-words-yet _ _ _

pub loop-i-preserved : goal.loop-i-preserved
loop-i-preserved c =
    let a = c.args in
    let l = c.loop-i in
    word-put (λ x. get_or a.table.now x 0) (128 * a.t) a.page.now l.i l.invariant c.put_word.ensures

pub returns : goal.returns
returns c =
    let a = c.args in
    let l = c.loop-i in
    let e : l.i ≡ words_in (length a.table.now) a.t = omega (arith, c.words_in-i-end.ensures) in
    rw e at l.invariant
