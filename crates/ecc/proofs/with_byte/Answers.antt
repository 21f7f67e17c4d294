-- The entry looked up is the byte's, and masked by the index it flips what the byte contributes (`with-entry`).
use mathlib.Core.Path.{ap, ◌∙◌}
use Prim.Native.Nat.{ℕ}
use native.Mathlib.Omega.{arith}
use lib.Bits.{bit_and, bit_xor}
use Rattle.ecc.specs.Parities.{code_in}
use Rattle.ecc.proofs.Sums.{index_mask, with-entry}
use Rattle.ecc.proofs.with_byte.Goals as goal

pub returns : goal.returns
returns c =
    let entry = c.parities_in.ensures ∙ c.requires.0.entries c.args.byte (omega arith) in
    ap (λ (e : ℕ). code_in (bit_xor c.args.sums (bit_and e (index_mask c.args.i)))) entry
    ∙ with-entry c.args.sums c.args.i c.args.byte c.requires.1
