-- The code is linear: a flipped data bit flips the same code bits whatever the data.
use mathlib.Core.Path.{◌≡◌, refl, sym, ap, ap₂, ◌∙◌, subst}
use mathlib.Core.Bool.{Bool}
use mathlib.Core.List.{List, [], ◌∷◌}
use Prim.Native.Nat.{ℕ, zero, suc, ◌+◌, ◌-◌, ◌*◌, ◌/◌, ◌%◌, ◌^◌, ◌<◌}
use native.Mathlib.Nat.{not-suc-le-zero, le_of_suc-le-suc, add-zero, add-suc, suc-add, zero-add, mod-lt, zero-lt-suc}
use native.Mathlib.Omega.{arith}
use lib.Bits.{bit_and, bit_xor, differ, xor_self}
use lib.Count.{ones_in}
use lib.Dec.{T, eqb, eqb→eq}
use lib.ListN.{length, get_or, set}
use Rattle.ecc.specs.declared.Code.{Code}
use Rattle.ecc.specs.Code.{parity, column_parities, where_odd, contribution, ◌⊕◌, code_from, code_of, start}
use Rattle.ecc.specs.Judge.{flip_bit}
use Rattle.ecc.proofs.Xor.{and_xor, Digit, d0, d1, digit, xor-join, xor-digit, ones-parity}
use Rattle.ecc.proofs.Codes.{code-path, ⊕-assoc, ⊕-swap}
use Rattle.ecc.proofs.Tests.{all_below, all-at}

-- ---- the fold over the bytes
pub from-⊕ : (i : ℕ) (l : List ℕ) (k e : Code) → code_from i l (k ⊕ e) ≡ code_from i l k ⊕ e
from-⊕ i [] k e = refl
from-⊕ i (b ∷ bs) k e = ap (code_from (suc i) bs) (⊕-swap k e (contribution i b)) ∙ from-⊕ (suc i) bs (k ⊕ contribution i b) e

-- one byte changed
pub from-set : (n : ℕ) (l : List ℕ) (i y : ℕ) (k e : Code) → i < length l → contribution (n + i) y ≡ contribution (n + i) (get_or l i 0) ⊕ e
    → code_from n (set l i y) k ≡ code_from n l k ⊕ e
from-set n [] i y k e h s = absurd (not-suc-le-zero h)
from-set n (b ∷ bs) zero y k e h s =
    ap (λ (x : Code). code_from (suc n) bs (k ⊕ x)) (rw add-zero at s)
    ∙ ap (code_from (suc n) bs) (sym (⊕-assoc k (contribution n b) e))
    ∙ from-⊕ (suc n) bs (k ⊕ contribution n b) e
from-set n (b ∷ bs) (suc i) y k e h s =
    from-set (suc n) bs i y (k ⊕ contribution n b) e (le_of_suc-le-suc h) (rw (add-suc n i, ← suc-add n i) at s)

-- ---- one bit of a byte

-- the code bits that data bit k flips
unfoldable pub pattern : ℕ → Code
pattern k = record { byte0 = 16 * (k % 8) + (7 - k % 8); byte1 = 127 - k / 8; byte2 = k / 8 }

pub parity-lt : (b : ℕ) → parity b < 2
unfolding parity
parity-lt b = mod-lt (ones_in 8 b) (zero-lt-suc 1)

pub parity-digit : (b : ℕ) → Digit (parity b)
parity-digit b = digit (parity b) (parity-lt b)

parity-xor : (a b : ℕ) → parity (bit_xor a b) ≡ differ (parity a) (parity b)
unfolding parity
parity-xor a b = ones-parity 8 a b

pub columns-lt : (b : ℕ) → column_parities b < 128
unfolding column_parities
columns-lt b =
    omega
    (arith, parity-lt (bit_and b 0x55), parity-lt (bit_and b 0x33), parity-lt (bit_and b 0x0F), parity-lt (bit_and b 0xAA), parity-lt (bit_and b 0xCC), parity-lt (bit_and b 0xF0))

-- the six parities, as the digits of a number
abbrev packed : ℕ → ℕ → ℕ → ℕ → ℕ → ℕ → ℕ
packed u v w x y z = ((((((z * 2 + y) * 2 + x) * 2 + 0) * 2 + w) * 2 + v) * 2) + u

packed-sum : (u v w x y z : ℕ) → u * 1 + v * 2 + w * 4 + x * 16 + y * 32 + z * 64 ≡ packed u v w x y z
packed-sum u v w x y z = omega arith

columns-packed : (b : ℕ)
    → column_parities b
    ≡ packed (parity (bit_and b 0x55)) (parity (bit_and b 0x33)) (parity (bit_and b 0x0F)) (parity (bit_and b 0xAA)) (parity (bit_and b 0xCC)) (parity (bit_and b 0xF0))
unfolding column_parities
columns-packed b =
    packed-sum (parity (bit_and b 0x55)) (parity (bit_and b 0x33)) (parity (bit_and b 0x0F)) (parity (bit_and b 0xAA)) (parity (bit_and b 0xCC)) (parity (bit_and b 0xF0))

packed-xor : {u v w x y z u' v' w' x' y' z' : ℕ}
    → Digit u → Digit v → Digit w → Digit x → Digit y → Digit z → Digit u' → Digit v' → Digit w' → Digit x' → Digit y' → Digit z'
    → bit_xor (packed u v w x y z) (packed u' v' w' x' y' z')
    ≡ packed (differ u u') (differ v v') (differ w w') (differ x x') (differ y y') (differ z z')
packed-xor {u} {v} {w} {x} {y} {z} {u'} {v'} {w'} {x'} {y'} {z'} du dv dw dx dy dz du' dv' dw' dx' dy' dz' =
    xor-join (((((z * 2 + y) * 2 + x) * 2 + 0) * 2 + w) * 2 + v) (((((z' * 2 + y') * 2 + x') * 2 + 0) * 2 + w') * 2 + v') du du'
    ∙ ap (λ (n : ℕ). n * 2 + differ u u')
    (xor-join ((((z * 2 + y) * 2 + x) * 2 + 0) * 2 + w) ((((z' * 2 + y') * 2 + x') * 2 + 0) * 2 + w') dv dv'
    ∙ ap (λ (n : ℕ). n * 2 + differ v v')
    (xor-join (((z * 2 + y) * 2 + x) * 2 + 0) (((z' * 2 + y') * 2 + x') * 2 + 0) dw dw'
    ∙ ap (λ (n : ℕ). n * 2 + differ w w')
    (xor-join ((z * 2 + y) * 2 + x) ((z' * 2 + y') * 2 + x') d0 d0
    ∙ ap (λ (n : ℕ). n * 2 + 0)
    (xor-join (z * 2 + y) (z' * 2 + y') dx dx'
    ∙ ap (λ (n : ℕ). n * 2 + differ x x')
    (xor-join z z' dy dy' ∙ ap (λ (n : ℕ). n * 2 + differ y y') (xor-digit dz dz'))))))

parity-masked : (a b m : ℕ) → parity (bit_and (bit_xor a b) m) ≡ differ (parity (bit_and a m)) (parity (bit_and b m))
parity-masked a b m = ap parity (and_xor a b m) ∙ parity-xor (bit_and a m) (bit_and b m)

columns-xor : (a b : ℕ) → column_parities (bit_xor a b) ≡ bit_xor (column_parities a) (column_parities b)
columns-xor a b =
    columns-packed (bit_xor a b)
    ∙ rw (parity-masked a b 0x55, parity-masked a b 0x33, parity-masked a b 0x0F, parity-masked a b 0xAA, parity-masked a b 0xCC, parity-masked a b 0xF0)
    (sym (packed-xor (o a 0x55) (o a 0x33) (o a 0x0F) (o a 0xAA) (o a 0xCC) (o a 0xF0) (o b 0x55) (o b 0x33) (o b 0x0F) (o b 0xAA) (o b 0xCC) (o b 0xF0)))
    ∙ ap₂ bit_xor (sym (columns-packed a)) (sym (columns-packed b))
  where
    o : (x m : ℕ) → Digit (parity (bit_and x m))
    o x m = parity-digit (bit_and x m)

-- the parities of a byte with one bit
columns_right : ℕ → Bool
columns_right j = eqb (column_parities (2 ^ j)) (16 * j + (7 - j))

parity_right : ℕ → Bool
parity_right j = eqb (parity (2 ^ j)) 1

all-columns : T (all_below 8 columns_right)
unfolding columns_right column_parities parity ones_in
all-columns = tt

all-parities : T (all_below 8 parity_right)
unfolding parity_right parity ones_in
all-parities = tt

columns-flip : (b j : ℕ) → j < 8 → column_parities (bit_xor b (2 ^ j)) ≡ bit_xor (column_parities b) (16 * j + (7 - j))
unfolding columns_right
columns-flip b j hj = columns-xor b (2 ^ j) ∙ ap (bit_xor (column_parities b)) (eqb→eq _ _ (all-at 8 columns_right all-columns j hj))

parity-flip : (b j : ℕ) → j < 8 → parity (bit_xor b (2 ^ j)) ≡ 1 - parity b
unfolding parity_right
parity-flip b j hj = parity-xor b (2 ^ j) ∙ ap (differ (parity b)) (eqb→eq (parity (2 ^ j)) 1 (all-at 8 parity_right all-parities j hj)) ∙ go (parity-digit b)
  where
    go : {o : ℕ} → Digit o → differ o 1 ≡ 1 - o
    go d0 = refl
    go d1 = refl

where-flip : (o x : ℕ) → o < 2 → where_odd (1 - o) x ≡ bit_xor (where_odd o x) x
where-flip zero x h = refl
where-flip (suc zero) x h = sym (xor_self x)
where-flip (suc (suc o)) x h = absurd (omega arith)

pub contribution-flip : (i b j : ℕ) → j < 8
    → contribution i (bit_xor b (2 ^ j)) ≡ contribution i b ⊕ (record { byte0 = 16 * j + (7 - j); byte1 = 127 - i; byte2 = i })
contribution-flip i b j hj =
    code-path _ _ (columns-flip b j hj)
    (ap (λ (o : ℕ). where_odd o (127 - i)) (parity-flip b j hj) ∙ where-flip (parity b) (127 - i) (parity-lt b))
    (ap (λ (o : ℕ). where_odd o i) (parity-flip b j hj) ∙ where-flip (parity b) i (parity-lt b))

-- so a flipped data bit flips its pattern
pub code-flip : (d : List ℕ) (k : ℕ) → k / 8 < length d → code_of (flip_bit d k) ≡ code_of d ⊕ pattern k
unfolding code_of flip_bit pattern
code-flip d k hk =
    from-set 0 d (k / 8) (bit_xor (get_or d (k / 8) 0) (2 ^ (k % 8))) start (pattern k) hk
    (subst (λ (n : ℕ). contribution n (bit_xor (get_or d (k / 8) 0) (2 ^ (k % 8))) ≡ contribution n (get_or d (k / 8) 0) ⊕ pattern k) (sym (zero-add (k / 8)))
    (contribution-flip (k / 8) (get_or d (k / 8) 0) (k % 8) (omega arith)))
