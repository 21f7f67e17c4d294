-- What is left to do gives the whole answer: the loop keeps `rest_of` of its locals. A cluster past the last mark breaks the chain.
use Prim.Native.Nat.{◌<◌, ◌≤◌, ℕ}
use mathlib.Core.Bool.{Bool, ◌&&◌, false}
use mathlib.Core.List.{List}
use mathlib.Core.Path.{◌∙◌, ◌≡◌, sym}
use native.Mathlib.Decide.{ℕ_discrete}
use native.Mathlib.Omega.{arith}
use borrow.Author.Tests.{lt-ltb, ltb-false, ltb-true, ne_eqb}
use lib.Dec.{ltb}
use Rattle.model.proofs.Equality.{and_l, and_r}
use Rattle.model.specs.View.{most_clusters}
use Rattle.reached.specs.Marks.{turned}
use Rattle.reached.specs.declared.Reached.{Reached}
use Rattle.reached.proofs.ChainSteps.{chain-past}
use Rattle.reached.proofs.MarkLaws.{turned-far, turned-near}
use Rattle.reached.proofs.NearLaws.{near_again, near-comes-on, near-untold-left, rest-start, rest_of}
use Rattle.reached.proofs.walk_chain.Goals as goal
use Rattle.reached.proofs.walk_chain.Goals.{then-k-at, else-k-at}

-- the loop is over where no cluster is left, or the next lies past the last mark
over : (t : List ℕ) (r : Reached) (sound : Bool) (c left : ℕ) → (0 < left → sound ≡ false) → (ltb 0 left && ltb c most_clusters) ≡ false
    → record { sound = sound; reached = r } ≡ rest_of t (record { reached = r; sound = sound; next = c; left = left })
over t r sound c left untold h = go (ℕ_discrete left 0)
  where
    go : Dec (left ≡ 0) → record { sound = sound; reached = r } ≡ rest_of t (record { reached = r; sound = sound; next = c; left = left })
    go (yes z) = rw z
    go (no z) =
        let more : 0 < left = omega arith in
        let past : most_clusters ≤ c = ltb-false _ _ (rw (lt-ltb 0 left more) at h) in
        rw (untold more, ne_eqb left 0 z, chain-past t r c left more past)

pub loop-left-smaller : goal.loop-left-smaller
loop-left-smaller c =
    let l = c.loop-left in
    let t = c.args.table.now in
    let more = ltb-true _ _ (and_l _ _ c.loop-left-test.true) in
    let small = ltb-true _ _ (and_r (ltb 0 l.left) _ c.loop-left-test.true) in
    let there : c.if-k-at.r ≡ turned l.r l.c =
    elim c.if-k-at.branch [
      | then-k-at w ↦ w.r-is ∙ turned-far l.r l.c w.if-k-at.true w.turn-next.new.words w.turn-next.result w.turn-next.ensures.0 w.turn-next.ensures.1
      | else-k-at w ↦ w.r-is ∙ sym (turned-near l.r l.c w.if-k-at.false)
    ] in
    near-comes-on t l.r l.c l.left more c.walk_near-near.result small (rw there at c.walk_near-near.ensures)

pub loop-left-preserved : goal.loop-left-preserved
loop-left-preserved c =
    let l = c.loop-left in
    let t = c.args.table.now in
    let near = c.walk_near-near in
    let more = ltb-true _ _ (and_l _ _ c.loop-left-test.true) in
    let small = ltb-true _ _ (and_r (ltb 0 l.left) _ c.loop-left-test.true) in
    let there : c.if-k-at.r ≡ turned l.r l.c =
    elim c.if-k-at.branch [
      | then-k-at w ↦ w.r-is ∙ turned-far l.r l.c w.if-k-at.true w.turn-next.new.words w.turn-next.result w.turn-next.ensures.0 w.turn-next.ensures.1
      | else-k-at w ↦ w.r-is ∙ sym (turned-near l.r l.c w.if-k-at.false)
    ] in
    (l.invariant.0 ∙ near_again t l.r l.c l.left more near.result small (rw there at near.ensures) l.sound, near-untold-left t c.if-k-at.r l.c l.left more near.result near.ensures)

pub returns : goal.returns
returns c =
    let a = c.args in
    let l = c.loop-left in
    let t = a.table.now in
    let whole = sym l.invariant.0 ∙ rest-start t a.reached a.first a.clusters in
    over t l.r l.sound l.c l.left l.invariant.1 c.loop-left-test.false ∙ whole
