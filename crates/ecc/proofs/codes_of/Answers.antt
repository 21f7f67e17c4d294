-- `codes_of` meets its contract: one pass over each of the four chunks (`Passes`), two bytes of each in turn.
use mathlib.Core.List.{List}
use mathlib.Core.Path.{◌≡◌, ◌∙◌}
use Prim.Native.Nat.{ℕ, ◌+◌, ◌*◌, ◌<◌}
use native.Mathlib.Omega.{arith}
use lib.ListN.{length, get_or}
use Rattle.ecc.specs.Code.{code_of, contribution, ◌⊕◌}
use Rattle.ecc.specs.Parities.{code_in}
use Rattle.ecc.proofs.Passes.{left, first, next, last}
use Rattle.ecc.proofs.codes_of.Goals as goal

-- two bytes taken in
two : (l : List ℕ) (turn sums even more : ℕ) → 2 * turn + 1 < length l
    → code_in even ≡ code_in sums ⊕ contribution (2 * turn) (get_or l (2 * turn) 0)
    → code_in more ≡ code_in even ⊕ contribution (2 * turn + 1) (get_or l (2 * turn + 1) 0)
    → left l (2 * turn) sums ≡ code_of l → left l (2 * (turn + 1)) more ≡ code_of l
two l turn sums even more h e f k =
    let twice : 2 * (turn + 1) ≡ 2 * turn + 1 + 1 = omega arith in
    rw twice (next l (2 * turn + 1) even more h f ∙ next l (2 * turn) sums even (omega arith) e ∙ k)

pub loop-turn-init : goal.loop-turn-init
loop-turn-init c =
    let args = c.args in
    (first args.chunk0.now, first args.chunk1.now, first args.chunk2.now, first args.chunk3.now)

pub loop-turn-preserved : goal.loop-turn-preserved
loop-turn-preserved c =
    let args = c.args in
    let turn = c.loop-turn.turn in (
      two args.chunk0.now turn c.loop-turn.sums0 c.with_byte-even0.result c.with_byte-sums0.result (omega (arith, c.requires.0)) c.with_byte-even0.ensures c.with_byte-sums0.ensures c.loop-turn.invariant.0,
      two args.chunk1.now turn c.loop-turn.sums1 c.with_byte-even1.result c.with_byte-sums1.result (omega (arith, c.requires.1)) c.with_byte-even1.ensures c.with_byte-sums1.ensures c.loop-turn.invariant.1,
      two args.chunk2.now turn c.loop-turn.sums2 c.with_byte-even2.result c.with_byte-sums2.result (omega (arith, c.requires.2)) c.with_byte-even2.ensures c.with_byte-sums2.ensures c.loop-turn.invariant.2,
      two args.chunk3.now turn c.loop-turn.sums3 c.with_byte-even3.result c.with_byte-sums3.result (omega (arith, c.requires.3)) c.with_byte-even3.ensures c.with_byte-sums3.ensures c.loop-turn.invariant.3,
    )

pub returns : goal.returns
returns c =
    let args = c.args in
    let i = 2 * c.loop-turn.turn in
    let code0 = c.code_in.ensures ∙ last args.chunk0.now i c.loop-turn.sums0 (omega (arith, c.requires.0)) ∙ c.loop-turn.invariant.0 in
    let code1 = c.code_in-2.ensures ∙ last args.chunk1.now i c.loop-turn.sums1 (omega (arith, c.requires.1)) ∙ c.loop-turn.invariant.1 in
    let code2 = c.code_in-3.ensures ∙ last args.chunk2.now i c.loop-turn.sums2 (omega (arith, c.requires.2)) ∙ c.loop-turn.invariant.2 in
    let code3 = c.code_in-4.ensures ∙ last args.chunk3.now i c.loop-turn.sums3 (omega (arith, c.requires.3)) ∙ c.loop-turn.invariant.3 in
    λ k. record { chunk0 = code0 k; chunk1 = code1 k; chunk2 = code2 k; chunk3 = code3 k }
