use mathlib.Core.Path.{◌≡◌}
use Prim.Native.Nat.{◌*◌}
use Rattle.ecc.specs.Code.{code_of}
use Rattle.ecc.proofs.Passes.{left}
use Rattle.ecc.proofs.codes_of.Given as goal

abbrev pub invariant-loop-turn : goal.invariant-loop-turn
invariant-loop-turn l =
    (left l.chunk0 (2 * l.turn) l.sums0 ≡ code_of l.chunk0) × (left l.chunk1 (2 * l.turn) l.sums1 ≡ code_of l.chunk1)
    × (left l.chunk2 (2 * l.turn) l.sums2 ≡ code_of l.chunk2) × (left l.chunk3 (2 * l.turn) l.sums3 ≡ code_of l.chunk3)
