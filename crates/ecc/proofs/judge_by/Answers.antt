-- `judge_by` meets its contract: what it reads off the syndrome is `locate`, and `locate` is `judge` (`judge-is`).
use mathlib.Core.Path.{◌≡◌, sym, ap, ◌∙◌}
use mathlib.Core.Logic.{◌⊎◌, inl, inr}
use mathlib.Core.Bool.{false, ◌&&◌}
use mathlib.Core.List.{List}
use Prim.Native.Nat.{ℕ, ◌+◌, ◌-◌, ◌/◌, ◌%◌, ◌≤◌}
use native.Mathlib.Omega.{arith}
use borrow.Author.Tests.{eq-eqb, ne_eqb}
use lib.Bits.{bit_and, bit_xor, and_le_r}
use lib.Count.{ones, ones-le}
use lib.ListN.{length}
use Rattle.ecc.specs.declared.Code.{Code}
use Rattle.ecc.specs.declared.Verdict.TheVariants.{Good, DataBit, CodeBit, Unreadable}
use Rattle.ecc.specs.Code.{◌⊕◌, code_of}
use Rattle.ecc.specs.Judge.{no_bits, counted, same, judge}
use Rattle.ecc.proofs.Syndrome.{syndrome, locate, column_pairs, line_pairs, one_bit}
use Rattle.ecc.proofs.Laws.{judge-is}
use Rattle.ecc.proofs.judge_by.Goals as goal
use Rattle.ecc.proofs.judge_by.Goals.{else-columns-bit-via-then-columns-bit+else-opposite-index, else-columns-bit-via-else-columns-bit}

abbrev unmatched : Code → Code → Code
unmatched r t =
    record { byte0 = bit_and (bit_xor r.byte0 t.byte0) 0x77; byte1 = bit_and (bit_xor r.byte1 t.byte1) 0x7F; byte2 = bit_and (bit_xor r.byte2 t.byte2) 0x7F }

abbrev count : Code → ℕ
count s = ones s.byte0 + ones s.byte1 + ones s.byte2

-- `locate`, by the tests that lead to each answer
module _ (s : Code) where
  when-good : s.byte0 ≡ 0 → s.byte1 ≡ 0 → s.byte2 ≡ 0 → Good ≡ locate s
  unfolding locate same
  when-good p q r = rw (p, q, r)

  when-data : same s no_bits ≡ false → s.byte0 % 16 ≡ 7 - s.byte0 / 16 → s.byte1 ≡ 127 - s.byte2 → DataBit s.byte2 (s.byte0 / 16) ≡ locate s
  unfolding locate column_pairs line_pairs
  when-data p q r = rw (p, eq-eqb _ _ q, eq-eqb _ _ r)

  when-code : same s no_bits ≡ false → (column_pairs s && line_pairs s) ≡ false → count s ≡ 1 → CodeBit ≡ locate s
  unfolding locate one_bit
  when-code p q n = rw (p, q, eq-eqb (count s) 1 n)

  when-nothing : same s no_bits ≡ false → (column_pairs s && line_pairs s) ≡ false → (count s ≡ 1 → ⊥) → Unreadable ≡ locate s
  unfolding locate one_bit
  when-nothing p q n = rw (p, q, ne_eqb (count s) 1 n)

  -- some byte is not zero
  some-set : ((s.byte0 ≡ 0) × (s.byte1 ≡ 0) × (s.byte2 ≡ 0 → ⊥)) ⊎ (((s.byte0 ≡ 0) × (s.byte1 ≡ 0 → ⊥)) ⊎ (s.byte0 ≡ 0 → ⊥)) → same s no_bits ≡ false
  unfolding same
  some-set (inl (p, q, n)) = rw (p, q, ne_eqb _ _ n)
  some-set (inr (inl (p, n))) = rw (p, ne_eqb _ _ n)
  some-set (inr (inr n)) = rw (ne_eqb _ _ n)

  -- some pair is not one
  columns-apart : (s.byte0 % 16 ≡ 7 - s.byte0 / 16 → ⊥) → (column_pairs s && line_pairs s) ≡ false
  unfolding column_pairs
  columns-apart n = rw (ne_eqb _ _ n)

  lines-apart : s.byte0 % 16 ≡ 7 - s.byte0 / 16 → (s.byte1 ≡ 127 - s.byte2 → ⊥) → (column_pairs s && line_pairs s) ≡ false
  unfolding column_pairs line_pairs
  lines-apart p n = rw (eq-eqb _ _ p, ne_eqb _ _ n)

located : (d : List ℕ) (r t : Code) → length d ≡ 128 → r ≡ code_of d → locate (unmatched r t) ≡ judge d t
unfolding syndrome counted
located d r t size right = ap (λ (x : Code). locate (counted (x ⊕ t))) right ∙ sym (judge-is d t size)

few_ones : (x m : ℕ) → m ≤ 127 → ones (bit_and x m) ≤ 8
few_ones x m h = ones-le 8 (bit_and x m) (omega (arith, and_le_r x m))

few-unmatched : (r t : Code) → count (unmatched r t) ≤ 24
few-unmatched r t =
    omega (
      arith,
      few_ones (bit_xor r.byte0 t.byte0) 0x77 (omega arith),
      few_ones (bit_xor r.byte1 t.byte1) 0x7F (omega arith),
      few_ones (bit_xor r.byte2 t.byte2) 0x7F (omega arith),
    )

pub returns-then-index-eq0 : goal.returns-then-index-eq0
returns-then-index-eq0 c d size right =
    let args = c.args in
    when-good (unmatched args.right args.stored) c.if-columns-eq0.true c.if-opposite-eq0.true c.if-index-eq0.true ∙ located d args.right args.stored size right

pub returns-then-opposite-index : goal.returns-then-opposite-index
returns-then-opposite-index c d size right =
    let args = c.args in
    let s = unmatched args.right args.stored in
    when-data s (some-set s c.else-columns-eq0.either) c.if-columns-bit.true c.if-opposite-index.true ∙ located d args.right args.stored size right

pub overflow_add-columns : goal.overflow_add-columns
overflow_add-columns c =
    let args = c.args in
    omega (arith, few-unmatched args.right args.stored)

pub overflow_add-columns-2 : goal.overflow_add-columns-2
overflow_add-columns-2 c =
    let args = c.args in
    omega (arith, few-unmatched args.right args.stored)

pub returns-then-columns-opposite-eq1 : goal.returns-then-columns-opposite-eq1
returns-then-columns-opposite-eq1 c d size right =
    let args = c.args in
    let s = unmatched args.right args.stored in
    let apart : (column_pairs s && line_pairs s) ≡ false =
    elim c.else-columns-bit.branch [
      | else-columns-bit-via-then-columns-bit+else-opposite-index w ↦ lines-apart s w.if-columns-bit.true w.if-opposite-index.false
      | else-columns-bit-via-else-columns-bit w ↦ columns-apart s w.if-columns-bit.false
    ] in
    when-code s (some-set s c.else-columns-eq0.either) apart c.if-columns-opposite-eq1.true ∙ located d args.right args.stored size right

pub returns : goal.returns
returns c d size right =
    let args = c.args in
    let s = unmatched args.right args.stored in
    let apart : (column_pairs s && line_pairs s) ≡ false =
    elim c.else-columns-bit.branch [
      | else-columns-bit-via-then-columns-bit+else-opposite-index w ↦ lines-apart s w.if-columns-bit.true w.if-opposite-index.false
      | else-columns-bit-via-else-columns-bit w ↦ columns-apart s w.if-columns-bit.false
    ] in
    when-nothing s (some-set s c.else-columns-eq0.either) apart c.if-columns-opposite-eq1.false ∙ located d args.right args.stored size right
