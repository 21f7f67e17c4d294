-- What this crate uses of the chunk code: a verdict names a place in the chunk, so correcting leaves bytes;
-- and what the two calls of `ecc` answer, in the words of `Page`.
use Rattle.std.proofs.Common.{◌≡◌, ℕ, ◌+◌, ◌-◌, ◌*◌, ◌^◌, ◌<◌, List, length, get_or, take, drop, refl, ap, ◌∙◌, lt_of_le_of_lt, arith, lit<, take-take}
use native.Mathlib.Nat.{pow-le-pow_right}
use lib.Bits.{bit_xor, xor_lt}
use Rattle.ecc.specs.declared.Code.{Code}
use Rattle.ecc.specs.declared.Four.{Four}
use Rattle.ecc.specs.declared.Verdict.{Verdict}
use Rattle.ecc.specs.declared.Verdict.TheVariants.{Good, DataBit, CodeBit, Unreadable}
use Rattle.ecc.specs.Code.{code_of}
use Rattle.ecc.specs.Four.{code_at, judge_four}
use Rattle.ecc.specs.Judge.{judge_slice, corrected, Placed}
use Rattle.ecc.proofs.Codes.{code-path}
use Rattle.ecc.proofs.Laws.{judge-placed, slice_chunk}
use Rattle.page.specs.Page.{part, chunk_of, stored_code, verdict_of, verdicts_of, fresh_code, code_bytes}
use Rattle.page.proofs.Lists.{length_part, lent-part, get_d_part, set-bytes}

-- ---- laws of judging
pub placed : (page : List ℕ) (k : ℕ) → Placed (verdict_of page k)
unfolding verdict_of
placed page k = judge-placed (chunk_of page k) (stored_code page k)

-- correcting leaves bytes
pub bit_byte : (j : ℕ) → j < 8 → 2 ^ j < 2 ^ 8
bit_byte j h = lt_of_le_of_lt (pow-le-pow_right {n = 2} (lit< tt) {i = j} {j = 7} (omega arith)) (lit< tt)

pub corrected-bytes : (v : Verdict) (d : List ℕ) → Placed v → ((i : ℕ) → get_or d i 0 < 256) → (i : ℕ) → get_or (corrected v d) i 0 < 256
corrected-bytes Good d p h i = h i
corrected-bytes (DataBit n j) d p h i = set-bytes d n (bit_xor (get_or d n 0) (2 ^ j)) (xor_lt 8 (get_or d n 0) (2 ^ j) (h n) (bit_byte j p.1)) h i
corrected-bytes CodeBit d p h i = h i
corrected-bytes Unreadable d p h i = h i

-- ---- the calls
stored-byte : (page : List ℕ) (i : ℕ) {n : ℕ} → i < 12 → 512 + i ≡ n → get_or (part page 512 12) i 0 ≡ get_or page n 0
stored-byte page i h e = get_d_part page 512 12 i h ∙ ap (λ (n : ℕ). get_or page n 0) e

-- the twelve code bytes have the code of each chunk
stored-code : (page : List ℕ) (k : ℕ) → k < 4 → code_at (part page 512 12) k ≡ stored_code page k
stored-code page k h =
    code-path _ _ (stored-byte page (3 * k) (omega arith) refl) (stored-byte page (3 * k + 1) (omega arith) (omega arith))
    (stored-byte page (3 * k + 2) (omega arith) (omega arith))

judged : (page : List ℕ) (k : ℕ) → length page ≡ 528 → k < 4 → judge_slice (chunk_of page k) (code_at (part page 512 12) k) ≡ verdict_of page k
unfolding verdict_of
judged page k h b =
    ap (judge_slice (chunk_of page k)) (stored-code page k b)
    ∙ slice_chunk (chunk_of page k) (stored_code page k) (length_part page (128 * k) 128 (omega arith))

pub judged-four : (page : List ℕ) {v : Four Verdict} → length page ≡ 528
    → v ≡ judge_four (part page 0 128) (part page 128 128) (part page 256 128) (part page 384 128) (part page 512 12) → v ≡ verdicts_of page
judged-four page h e = e ∙ λ i. record {
  chunk0 = judged page 0 h (omega arith) i;
  chunk1 = judged page 1 h (omega arith) i;
  chunk2 = judged page 2 h (omega arith) i;
  chunk3 = judged page 3 h (omega arith) i;
}

pub fresh : (bytes : List ℕ) (k : ℕ) {code : Code} → length bytes ≡ 512 → k < 4
    → code ≡ code_of (take 128 (take (128 * k + 128 - 128 * k) (drop (128 * k) bytes))) → code_bytes code ≡ fresh_code bytes k
unfolding fresh_code
fresh bytes k h b e =
    ap code_bytes
    (e ∙ ap (λ (chunk : List ℕ). code_of (take 128 chunk)) (lent-part bytes (128 * k) 128)
    ∙ ap code_of (take-take 128 128 (drop (128 * k) bytes) (omega arith)))
