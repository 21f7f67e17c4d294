-- Where the syndrome is what one flip gives, `locate` finds that flip, and else nothing.
use mathlib.Core.Path.{◌≡◌, refl, sym, ap, ◌∙◌, subst}
use mathlib.Core.Bool.{Bool, true, false, ◌&&◌}
use mathlib.Core.Option.{Option, none, some}
use Prim.Native.Nat.{ℕ, zero, suc, ◌+◌, ◌-◌, ◌*◌, ◌/◌, ◌%◌, ◌<◌, ◌≤◌}
use native.Mathlib.Omega.{arith}
use borrow.Author.Tests.{eqb-true, eq-eqb, ne_eqb}
use lib.Bits.{bit_and, and_le_r}
use lib.Count.{ones}
use lib.Dec.{T, eqb, eqb→eq}
use Rattle.ecc.specs.declared.Code.{Code}
use Rattle.ecc.specs.declared.Verdict.{Verdict}
use Rattle.ecc.specs.declared.Verdict.TheVariants.{Good, DataBit, CodeBit, Unreadable}
use Rattle.ecc.specs.Judge.{no_bits, counted, same, code_bit, code_bits, find_below}
use Rattle.ecc.proofs.Codes.{code-path, same→eq}
use Rattle.ecc.proofs.Linear.{pattern}
use Rattle.ecc.proofs.Syndrome.{locate, column_pairs, line_pairs, one_bit, OnlyCounted}
use Rattle.ecc.proofs.Tests.{all_below, all-at, and_T, and_left, and_right, T_true, true-T, false-T, if_so, if-so, found, find-some}

-- ---- the flips
pub locate-none : locate no_bits ≡ Good
unfolding locate same
locate-none = refl

pub locate-pattern : (k : ℕ) → k < 1024 → locate (pattern k) ≡ DataBit (k / 8) (k % 8)
unfolding locate same column_pairs line_pairs pattern
locate-pattern k h =
    let z : (16 * (k % 8) + (7 - k % 8) ≡ 0 → ⊥) = omega arith in
    let p : (16 * (k % 8) + (7 - k % 8)) % 16 ≡ 7 - (16 * (k % 8) + (7 - k % 8)) / 16 = omega arith in
    let q : (16 * (k % 8) + (7 - k % 8)) / 16 ≡ k % 8 = omega arith in
    rw (ne_eqb _ 0 z, eq-eqb _ _ p, eq-eqb (127 - k / 8) (127 - k / 8) refl, q)

is_code : Verdict → Bool
is_code Good = false
is_code (DataBit i j) = false
is_code CodeBit = true
is_code Unreadable = false

is-code : (v : Verdict) → T (is_code v) → v ≡ CodeBit
unfolding is_code
is-code Good t = absurd t
is-code (DataBit i j) t = absurd t
is-code CodeBit t = refl
is-code Unreadable t = absurd t

code_bit_located : ℕ → Bool
code_bit_located k = is_code (locate (code_bit k))

code-bits-located : T (all_below 20 code_bit_located)
unfolding code_bit_located is_code locate same code_bit code_bits column_pairs line_pairs one_bit ones
code-bits-located = tt

pub locate-code : (k : ℕ) → k < 20 → locate (code_bit k) ≡ CodeBit
unfolding code_bit_located
locate-code k h = is-code (locate (code_bit k)) (all-at 20 code_bit_located code-bits-located k h)

-- ---- and else nothing

-- a code with counted bits only, byte by byte
module _ (s : Code) (h : OnlyCounted s) where
  mask0 : bit_and s.byte0 0x77 ≡ s.byte0
  unfolding counted
  mask0 = ap (λ (x : Code). x.byte0) h

  mask1 : bit_and s.byte1 0x7F ≡ s.byte1
  unfolding counted
  mask1 = ap (λ (x : Code). x.byte1) h

  mask2 : bit_and s.byte2 0x7F ≡ s.byte2
  unfolding counted
  mask2 = ap (λ (x : Code). x.byte2) h

  most0 : s.byte0 ≤ 0x77
  most0 = subst (λ (n : ℕ). n ≤ 0x77) mask0 (and_le_r s.byte0 0x77)

  most1 : s.byte1 ≤ 0x7F
  most1 = subst (λ (n : ℕ). n ≤ 0x7F) mask1 (and_le_r s.byte1 0x7F)

  most2 : s.byte2 ≤ 0x7F
  most2 = subst (λ (n : ℕ). n ≤ 0x7F) mask2 (and_le_r s.byte2 0x7F)

-- a byte without ones is zero
zero_right : ℕ → Bool
zero_right v = if_so (eqb (ones v) 0) (eqb v 0)

all-zero : T (all_below 128 zero_right)
unfolding zero_right ones
all-zero = tt

no_ones : (v : ℕ) → v ≤ 127 → ones v ≡ 0 → v ≡ 0
unfolding zero_right
no_ones v h e = eqb→eq v 0 (if-so (eqb (ones v) 0) (eqb v 0) (all-at 128 zero_right all-zero v (omega arith)) (T_true (eq-eqb _ _ e)))

-- one byte of a code
abbrev put0 : ℕ → Code
put0 v = record { byte0 = v; byte1 = 0; byte2 = 0 }

abbrev put1 : ℕ → Code
put1 v = record { byte0 = 0; byte1 = v; byte2 = 0 }

abbrev put2 : ℕ → Code
put2 v = record { byte0 = 0; byte1 = 0; byte2 = v }

-- a value with one bit, at its place, is one of the 20
bit_at : (ℕ → Code) → ℕ → Bool
bit_at f v = found (find_below 20 (λ k. same (f v) (code_bit k)))

bit-at : (f : ℕ → Code) (v : ℕ) → T (bit_at f v) → (k : ℕ) × (k < 20) × (f v ≡ code_bit k)
unfolding bit_at
bit-at f v t = go (find_below 20 (λ k. same (f v) (code_bit k))) refl t
  where
    go : (o : Option ℕ) → find_below 20 (λ k. same (f v) (code_bit k)) ≡ o → T (found o) → (k : ℕ) × (k < 20) × (f v ≡ code_bit k)
    go none e t = absurd t
    go (some k) e t =
        let r = find-some 20 (λ k. same (f v) (code_bit k)) k e in
        (k, r.0, same→eq (f v) (code_bit k) r.1)

bit_right : ℕ → (ℕ → Code) → ℕ → Bool
bit_right m f v = if_so (eqb (ones v) 1 && eqb (bit_and v m) v) (bit_at f v)

all-0 : T (all_below 128 (bit_right 0x77 put0))
unfolding bit_right bit_at ones same code_bit code_bits
all-0 = tt

all-1 : T (all_below 128 (bit_right 0x7F put1))
unfolding bit_right bit_at ones same code_bit code_bits
all-1 = tt

all-2 : T (all_below 128 (bit_right 0x7F put2))
unfolding bit_right bit_at ones same code_bit code_bits
all-2 = tt

abbrev IsCodeBit : Code → Type 0
IsCodeBit s = (k : ℕ) × (k < 20) × (s ≡ code_bit k)

one_bit_lem : (m : ℕ) (f : ℕ → Code) → T (all_below 128 (bit_right m f)) → (v : ℕ) → v ≤ 127 → bit_and v m ≡ v → ones v ≡ 1 → IsCodeBit (f v)
unfolding bit_right
one_bit_lem m f t v h hm e =
    bit-at f v
    (if-so (eqb (ones v) 1 && eqb (bit_and v m) v) (bit_at f v) (all-at 128 (bit_right m f) t v (omega arith))
    (and_T (eqb (ones v) 1) (eqb (bit_and v m) v) (T_true (eq-eqb _ _ e)) (T_true (eq-eqb _ _ hm))))

-- a single bit is one of the 20 code bits
code-found : (s : Code) → OnlyCounted s → one_bit s ≡ true → IsCodeBit s
unfolding one_bit
code-found s h e = go (ones s.byte0) (ones s.byte1) (ones s.byte2) refl refl refl (eqb-true _ 1 e)
  where
    z0 : ones s.byte0 ≡ 0 → s.byte0 ≡ 0
    z0 = no_ones s.byte0 (omega (arith, most0 s h))

    z1 : ones s.byte1 ≡ 0 → s.byte1 ≡ 0
    z1 = no_ones s.byte1 (omega (arith, most1 s h))

    z2 : ones s.byte2 ≡ 0 → s.byte2 ≡ 0
    z2 = no_ones s.byte2 (omega (arith, most2 s h))

    go : (x y z : ℕ) → ones s.byte0 ≡ x → ones s.byte1 ≡ y → ones s.byte2 ≡ z → x + y + z ≡ 1 → IsCodeBit s
    go (suc x) y z p q r t =
        let e1 : y ≡ 0 = omega arith in
        let e2 : z ≡ 0 = omega arith in
        let e0 : suc x ≡ 1 = omega arith in
        let u = one_bit_lem 0x77 put0 all-0 s.byte0 (omega (arith, most0 s h)) (mask0 s h) (p ∙ e0) in
        (u.0, u.1, code-path s (put0 s.byte0) refl (z1 (q ∙ e1)) (z2 (r ∙ e2)) ∙ u.2)
    go zero (suc y) z p q r t =
        let e2 : z ≡ 0 = omega arith in
        let e1 : suc y ≡ 1 = omega arith in
        let u = one_bit_lem 0x7F put1 all-1 s.byte1 (most1 s h) (mask1 s h) (q ∙ e1) in
        (u.0, u.1, code-path s (put1 s.byte1) (z0 p) refl (z2 (r ∙ e2)) ∙ u.2)
    go zero zero z p q r t =
        let e2 : z ≡ 1 = omega arith in
        let u = one_bit_lem 0x7F put2 all-2 s.byte2 (most2 s h) (mask2 s h) (r ∙ e2) in
        (u.0, u.1, code-path s (put2 s.byte2) (z0 p) (z1 q) refl ∙ u.2)

-- pairs with one bit each are those of a data bit
data-found : (s : Code) → OnlyCounted s → (column_pairs s && line_pairs s) ≡ true → (k : ℕ) × (k < 1024) × (s ≡ pattern k)
unfolding column_pairs line_pairs pattern
data-found s h e =
    let t = T_true e in
    let p : s.byte0 % 16 ≡ 7 - s.byte0 / 16 = eqb→eq _ _ (and_left (column_pairs s) (line_pairs s) t) in
    let q : s.byte1 ≡ 127 - s.byte2 = eqb→eq _ _ (and_right (column_pairs s) (line_pairs s) t) in
    let k = 8 * s.byte2 + s.byte0 / 16 in
    let a : (8 * s.byte2 + s.byte0 / 16) / 8 ≡ s.byte2 = omega (arith, most0 s h) in
    let b : (8 * s.byte2 + s.byte0 / 16) % 8 ≡ s.byte0 / 16 = omega (arith, most0 s h) in
    (k, omega (arith, most0 s h, most2 s h), code-path s (pattern k) (omega (arith, most0 s h)) (omega arith) (sym a))

pub locate-nothing : (s : Code) → OnlyCounted s → (s ≡ no_bits → ⊥)
    → ((k : ℕ) → k < 1024 → s ≡ pattern k → ⊥) → ((k : ℕ) → k < 20 → s ≡ code_bit k → ⊥)
    → locate s ≡ Unreadable
unfolding locate
locate-nothing s h n0 nd nc =
    let p : same s no_bits ≡ false = false-T _ (λ t. n0 (same→eq s no_bits t)) in
    let q : (column_pairs s && line_pairs s) ≡ false = false-T _ (λ t. let r = data-found s h (true-T _ t) in nd r.0 r.1 r.2) in
    let r : one_bit s ≡ false = false-T _ (λ t. let r = code-found s h (true-T _ t) in nc r.0 r.1 r.2) in
    rw (p, q, r)
