-- The bits of a word of marks: a bit that is set is set, and no other changes.
use Prim.Native.Nat.{◌%◌, ◌*◌, ◌+◌, ◌-◌, ◌/◌, ◌<◌, ◌^◌, suc, zero, ℕ}
use mathlib.Core.Bool.{true}
use mathlib.Core.Logic.{◌≢◌}
use mathlib.Core.Path.{◌∙◌, ◌≡◌, ap, refl, sym}
use native.Mathlib.Decide.{dec_lt}
use native.Mathlib.Nat.{div-eq_of_lt, div_self, mod-lt, one-mul}
use native.Mathlib.Omega.{arith}
use lib.Bits.{bit_or, or_mod, or_shr, or_zero_r, shifted_even}
use lib.Dec.{eqb}
use lib.Pow.{pow-add, pow-lt, pow_pos, shl_exact, shl-shr}
use Rattle.reached.specs.Marks.{bit}

-- a shift of 1 by less than the width
pub one_shl : (b : ℕ) → b < 64 → (1 * 2 ^ b) % 2 ^ 64 ≡ 2 ^ b
one_shl b h = shl_exact 1 b 64 (omega arith) (omega arith) ∙ one-mul (2 ^ b)

bit-or : (w v x : ℕ) → bit (bit_or w v) x ≡ bit_or (bit w x) (bit v x)
bit-or w v x = rw (or_shr w v x) (or_mod (w / 2 ^ x) (v / 2 ^ x) 1)

bit_below : (b x : ℕ) → x < b → bit (2 ^ b) x ≡ 0
bit_below b x h =
    let e : b ≡ suc (b - suc x) + x = omega arith in
    ap (λ (k : ℕ). bit (2 ^ k) x) e
    ∙ ap (λ (p : ℕ). bit p x) (pow-add 2 (suc (b - suc x)) x)
    ∙ ap (λ (p : ℕ). p % 2) (shl-shr (2 ^ suc (b - suc x)) x)
    ∙ ap (λ (p : ℕ). p % 2) (sym (one-mul (2 ^ suc (b - suc x))))
    ∙ shifted_even 1 (b - suc x)

bit-other : (b x : ℕ) → x ≢ b → bit (2 ^ b) x ≡ 0
bit-other b x n = go (dec_lt x b)
  where
    go : Dec (x < b) → bit (2 ^ b) x ≡ 0
    go (yes h) = bit_below b x h
    go (no h) = let l : b < x = omega arith in rw (div-eq_of_lt (pow-lt l))

pub bit-set : (w b : ℕ) → eqb (bit (bit_or w (2 ^ b)) b) 1 ≡ true
bit-set w b = rw (bit-or w (2 ^ b) b, div_self (pow_pos b)) (go (w / 2 ^ b % 2) (mod-lt (w / 2 ^ b) (omega arith)))
  where
    go : (k : ℕ) → k < 2 → eqb (bit_or k 1) 1 ≡ true
    go zero h = refl
    go (suc zero) h = refl
    go (suc (suc k)) h = absurd (omega arith)

pub bit_kept : (w b x : ℕ) → x ≢ b → bit (bit_or w (2 ^ b)) x ≡ bit w x
bit_kept w b x n = rw (bit-or w (2 ^ b) x, bit-other b x n, or_zero_r)
