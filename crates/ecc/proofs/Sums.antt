-- The code carried in one number (`code_in`): what a looked-up entry, masked by its index, flips in it is the byte's contribution.
use mathlib.Core.Path.{◌≡◌, refl, sym, ap, ap₂, ◌∙◌}
use mathlib.Core.Bool.{Bool}
use Prim.Native.Nat.{ℕ, ◌+◌, ◌-◌, ◌*◌, ◌/◌, ◌%◌, ◌<◌}
use native.Mathlib.Nat.{mod-lt, zero-lt-suc}
use native.Mathlib.Omega.{arith}
use lib.Bits.{bit_and, bit_xor, xor_comm, and_zero_l, and_comm, and_mask, and_block, xor_shr, xor_mod}
use lib.Dec.{T, eqb, eqb→eq}
use Rattle.ecc.specs.declared.Code.{Code}
use Rattle.ecc.specs.Code.{parity, column_parities, where_odd, contribution, ◌⊕◌}
use Rattle.ecc.specs.Parities.{code_in, parity_entry}
use Rattle.ecc.proofs.Xor.{Digit, d0, d1, digit, digit_lt, xor_assoc}
use Rattle.ecc.proofs.Codes.{code-path}
use Rattle.ecc.proofs.Linear.{parity-digit, columns-lt}
use Rattle.ecc.proofs.Tests.{all_below, all-at}

-- ---- it is linear
mix : (a b c d : ℕ) → bit_xor (bit_xor a b) (bit_xor c d) ≡ bit_xor (bit_xor a c) (bit_xor b d)
mix a b c d =
    xor_assoc a b (bit_xor c d)
    ∙ ap (bit_xor a) (sym (xor_assoc b c d) ∙ ap (λ (x : ℕ). bit_xor x d) (xor_comm b c) ∙ xor_assoc c b d)
    ∙ sym (xor_assoc a c (bit_xor b d))

times-127 : {x y : ℕ} → Digit x → Digit y → 127 * bit_xor x y ≡ bit_xor (127 * x) (127 * y)
times-127 d0 d0 = refl
times-127 d0 d1 = refl
times-127 d1 d0 = refl
times-127 d1 d1 = refl

odd-xor : (a b : ℕ) → 127 * (bit_xor a b / 128 % 2) ≡ bit_xor (127 * (a / 128 % 2)) (127 * (b / 128 % 2))
odd-xor a b = ap (λ (n : ℕ). 127 * (n % 2)) (xor_shr a b 7) ∙ ap (λ (n : ℕ). 127 * n) (xor_mod (a / 128) (b / 128) 1) ∙ times-127 (low a) (low b)
  where
    low : (n : ℕ) → Digit (n / 128 % 2)
    low n = digit (n / 128 % 2) (mod-lt (n / 128) (zero-lt-suc 1))

byte2-xor : (a b : ℕ) → bit_xor a b / 256 % 256 ≡ bit_xor (a / 256 % 256) (b / 256 % 256)
byte2-xor a b = ap (λ (n : ℕ). n % 256) (xor_shr a b 8) ∙ xor_mod (a / 256) (b / 256) 8

code-in-xor : (a b : ℕ) → code_in (bit_xor a b) ≡ code_in a ⊕ code_in b
code-in-xor a b =
    code-path _ _ (xor_mod a b 7)
    (ap₂ bit_xor (byte2-xor a b) (odd-xor a b) ∙ mix (a / 256 % 256) (b / 256 % 256) (127 * (a / 128 % 2)) (127 * (b / 128 % 2)))
    (byte2-xor a b)

-- ---- an entry masked by its index
opposite : ℕ → Bool
opposite i = eqb (bit_xor i 127) (127 - i)

all-opposite : T (all_below 128 opposite)
unfolding opposite
all-opposite = tt

opposite-is : (i : ℕ) → i < 128 → bit_xor i 127 ≡ 127 - i
unfolding opposite
opposite-is i h = eqb→eq _ _ (all-at 128 opposite all-opposite i h)

-- the mask of an index: all of bits 0 to 7, and the index in bits 8 to 14
abbrev pub index_mask : ℕ → ℕ
index_mask i = 256 * i + 255

masked-index : (i : ℕ) {p : ℕ} → i < 128 → Digit p → bit_and (127 * p) i ≡ where_odd p i
masked-index i h d0 = and_zero_l i
masked-index i h d1 = and_comm 127 i ∙ and_mask i 7 ∙ omega arith

masked-entry : (i columns : ℕ) {p : ℕ} → i < 128 → columns < 128 → Digit p
    → bit_and (columns + 0x7F80 * p) (index_mask i) ≡ where_odd p i * 256 + (columns + 128 * p)
masked-entry i columns {p} hi hc d =
    let hp : p < 2 = digit_lt d in
    let entry : columns + 0x7F80 * p ≡ 127 * p * 256 + (columns + 128 * p) = omega arith in
    let mask : index_mask i ≡ i * 256 + 255 = omega arith in
    ap₂ bit_and entry mask ∙ and_block 8 (127 * p) i (columns + 128 * p) 255 (omega arith) (omega arith)
    ∙ ap₂ (λ (m n : ℕ). m * 256 + n) (masked-index i hi d) (and_mask (columns + 128 * p) 8 ∙ omega arith)

-- the number with a value in bits 8 to 14, a digit in bit 7 and the columns below
parts : (w columns p : ℕ) → w < 128 → columns < 128 → p < 2
    → code_in (w * 256 + (columns + 128 * p)) ≡ record { byte0 = columns; byte1 = bit_xor w (127 * p); byte2 = w }
parts w columns p hw hc hp =
    let odd : (w * 256 + (columns + 128 * p)) / 128 % 2 ≡ p = omega arith in
    let high : (w * 256 + (columns + 128 * p)) / 256 % 256 ≡ w = omega arith in
    code-path _ _ (omega arith) (ap₂ (λ (m n : ℕ). bit_xor m (127 * n)) high odd) high

index-lt : (i : ℕ) {p : ℕ} → i < 128 → Digit p → where_odd p i < 128
index-lt i h d0 = omega arith
index-lt i h d1 = h

opposite-index : (i : ℕ) {p : ℕ} → i < 128 → Digit p → bit_xor (where_odd p i) (127 * p) ≡ where_odd p (127 - i)
opposite-index i h d0 = refl
opposite-index i h d1 = opposite-is i h

entry-code : (i byte : ℕ) → i < 128 → code_in (bit_and (parity_entry byte) (index_mask i)) ≡ contribution i byte
entry-code i byte h =
    let d = parity-digit byte in
    ap code_in (masked-entry i (column_parities byte) h (columns-lt byte) d)
    ∙ parts (where_odd (parity byte) i) (column_parities byte) (parity byte) (index-lt i h d) (columns-lt byte) (digit_lt d)
    ∙ ap (λ (n : ℕ). record { byte0 = column_parities byte; byte1 = n; byte2 = where_odd (parity byte) i }) (opposite-index i h d)

-- one byte more
pub with-entry : (sums i byte : ℕ) → i < 128 → code_in (bit_xor sums (bit_and (parity_entry byte) (index_mask i))) ≡ code_in sums ⊕ contribution i byte
with-entry sums i byte h = code-in-xor sums (bit_and (parity_entry byte) (index_mask i)) ∙ ap (λ (e : Code). code_in sums ⊕ e) (entry-code i byte h)
