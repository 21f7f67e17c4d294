-- The laws of exclusive or on ℕ that `lib.Bits` lacks: it is associative, and a mask goes through it.
use mathlib.Core.Path.{◌≡◌, refl, sym, ap, ap₂, ◌∙◌}
use Prim.Native.Nat.{ℕ, zero, suc, ◌+◌, ◌*◌, ◌/◌, ◌%◌, ◌<◌, min}
use native.Mathlib.Nat.{mod-lt, zero-lt-suc}
use native.Mathlib.Omega.{arith}
use lib.Arith.{bin_ind, digits_div, digits_mod}
use lib.Bits.{bit_and, bit_xor, differ, xor_step, and_step, xor_self, xor_zero_r, xor_block}
use lib.Count.{ones_in}

-- the two digits
pub data Digit : ℕ → Type 0 where
  d0 : Digit 0
  d1 : Digit 1

pub digit : (n : ℕ) → n < 2 → Digit n
digit zero h = d0
digit (suc zero) h = d1
digit (suc (suc n)) h = absurd (omega arith)

low : (n : ℕ) → Digit (n % 2)
low n = digit (n % 2) (mod-lt n (zero-lt-suc 1))

differ-digit : {x y : ℕ} → Digit x → Digit y → differ x y < 2
differ-digit d0 d0 = omega arith
differ-digit d0 d1 = omega arith
differ-digit d1 d0 = omega arith
differ-digit d1 d1 = omega arith

pub differ-is : {x y : ℕ} → Digit x → Digit y → Digit (differ x y)
differ-is d0 y = y
differ-is d1 d0 = d1
differ-is d1 d1 = d0

differ-mix : {x y z w : ℕ} → Digit x → Digit y → Digit z → Digit w → differ (differ x y) (differ z w) ≡ differ (differ x z) (differ y w)
differ-mix d0 d0 z w = refl
differ-mix d0 d1 d0 w = refl
differ-mix d0 d1 d1 d0 = refl
differ-mix d0 d1 d1 d1 = refl
differ-mix d1 d0 d0 w = refl
differ-mix d1 d0 d1 d0 = refl
differ-mix d1 d0 d1 d1 = refl
differ-mix d1 d1 d0 d0 = refl
differ-mix d1 d1 d0 d1 = refl
differ-mix d1 d1 d1 d0 = refl
differ-mix d1 d1 d1 d1 = refl

differ-assoc : {x y z : ℕ} → Digit x → Digit y → Digit z → differ (differ x y) z ≡ differ x (differ y z)
differ-assoc d0 y z = refl
differ-assoc d1 d0 z = refl
differ-assoc d1 d1 d0 = refl
differ-assoc d1 d1 d1 = refl

min-differ : {x y z : ℕ} → Digit x → Digit y → Digit z → min (differ x y) z ≡ differ (min x z) (min y z)
min-differ d0 d0 d0 = refl
min-differ d0 d0 d1 = refl
min-differ d0 d1 d0 = refl
min-differ d0 d1 d1 = refl
min-differ d1 d0 d0 = refl
min-differ d1 d0 d1 = refl
min-differ d1 d1 d0 = refl
min-differ d1 d1 d1 = refl

min-digit : {x y : ℕ} → Digit x → Digit y → min x y < 2
min-digit d0 d0 = omega arith
min-digit d0 d1 = omega arith
min-digit d1 d0 = omega arith
min-digit d1 d1 = omega arith

pub xor-half : (a b : ℕ) → bit_xor a b / 2 ≡ bit_xor (a / 2) (b / 2)
xor-half a b = ap (λ (n : ℕ). n / 2) (xor_step a b) ∙ digits_div (bit_xor (a / 2) (b / 2)) (differ-digit (low a) (low b))

pub xor_low : (a b : ℕ) → bit_xor a b % 2 ≡ differ (a % 2) (b % 2)
xor_low a b = ap (λ (n : ℕ). n % 2) (xor_step a b) ∙ digits_mod (bit_xor (a / 2) (b / 2)) (differ-digit (low a) (low b))

and-half : (a b : ℕ) → bit_and a b / 2 ≡ bit_and (a / 2) (b / 2)
and-half a b = ap (λ (n : ℕ). n / 2) (and_step a b) ∙ digits_div (bit_and (a / 2) (b / 2)) (min-digit (low a) (low b))

and_low : (a b : ℕ) → bit_and a b % 2 ≡ min (a % 2) (b % 2)
and_low a b = ap (λ (n : ℕ). n % 2) (and_step a b) ∙ digits_mod (bit_and (a / 2) (b / 2)) (min-digit (low a) (low b))

pub xor_assoc : (a b c : ℕ) → bit_xor (bit_xor a b) c ≡ bit_xor a (bit_xor b c)
xor_assoc =
    bin_ind (λ (n : ℕ). (b c : ℕ) → bit_xor (bit_xor n b) c ≡ bit_xor n (bit_xor b c)) (λ b c. refl)
    (λ n ih b c.
    xor_step (bit_xor n b) c
    ∙ ap₂ (λ (x y : ℕ). bit_xor x (c / 2) * 2 + differ y (c % 2)) (xor-half n b) (xor_low n b)
    ∙ ap₂ (λ (x y : ℕ). x * 2 + y) (ih (b / 2) (c / 2)) (differ-assoc (low n) (low b) (low c))
    ∙ ap₂ (λ (x y : ℕ). bit_xor (n / 2) x * 2 + differ (n % 2) y) (sym (xor-half b c)) (sym (xor_low b c))
    ∙ sym (xor_step n (bit_xor b c)))

pub and_xor : (a b m : ℕ) → bit_and (bit_xor a b) m ≡ bit_xor (bit_and a m) (bit_and b m)
and_xor =
    bin_ind (λ (n : ℕ). (b m : ℕ) → bit_and (bit_xor n b) m ≡ bit_xor (bit_and n m) (bit_and b m)) (λ b m. refl)
    (λ n ih b m.
    and_step (bit_xor n b) m
    ∙ ap₂ (λ (x y : ℕ). bit_and x (m / 2) * 2 + min y (m % 2)) (xor-half n b) (xor_low n b)
    ∙ ap₂ (λ (x y : ℕ). x * 2 + y) (ih (b / 2) (m / 2)) (min-differ (low n) (low b) (low m))
    ∙ ap₂ (λ (x y : ℕ). x * 2 + y) (ap₂ bit_xor (sym (and-half n m)) (sym (and-half b m))) (ap₂ differ (sym (and_low n m)) (sym (and_low b m)))
    ∙ sym (xor_step (bit_and n m) (bit_and b m)))

-- what cancels
pub xor-back : (a b : ℕ) → bit_xor a (bit_xor a b) ≡ b
xor-back a b = sym (xor_assoc a a b) ∙ ap (λ (x : ℕ). bit_xor x b) (xor_self a)

pub xor-zero→eq : (a b : ℕ) → bit_xor a b ≡ 0 → a ≡ b
xor-zero→eq a b e = sym (xor_zero_r a) ∙ ap (bit_xor a) (sym e) ∙ xor-back a b

min_again : {x z : ℕ} → Digit x → Digit z → min (min x z) z ≡ min x z
min_again d0 d0 = refl
min_again d0 d1 = refl
min_again d1 d0 = refl
min_again d1 d1 = refl

-- a mask once more
pub and_again : (a m : ℕ) → bit_and (bit_and a m) m ≡ bit_and a m
and_again =
    bin_ind (λ (n : ℕ). (m : ℕ) → bit_and (bit_and n m) m ≡ bit_and n m) (λ m. refl)
    (λ n ih m.
    and_step (bit_and n m) m
    ∙ ap₂ (λ (x y : ℕ). bit_and x (m / 2) * 2 + min y (m % 2)) (and-half n m) (and_low n m)
    ∙ ap₂ (λ (x y : ℕ). x * 2 + y) (ih (m / 2)) (min_again (low n) (low m))
    ∙ sym (and_step n m))

pub xor-digit : {x y : ℕ} → Digit x → Digit y → bit_xor x y ≡ differ x y
xor-digit d0 y = refl
xor-digit d1 d0 = refl
xor-digit d1 d1 = refl

pub digit_lt : {x : ℕ} → Digit x → x < 2
digit_lt d0 = omega arith
digit_lt d1 = omega arith

-- the low digit apart
pub xor-join : (a b : ℕ) {x y : ℕ} → Digit x → Digit y → bit_xor (a * 2 + x) (b * 2 + y) ≡ bit_xor a b * 2 + differ x y
xor-join a b {x} {y} dx dy = xor_block 1 a b x y (digit_lt dx) (digit_lt dy) ∙ ap (λ (n : ℕ). bit_xor a b * 2 + n) (xor-digit dx dy)

-- the parity of a sum of digits
mod-digit : {x : ℕ} → Digit x → (n : ℕ) → (x + n) % 2 ≡ differ x (n % 2)
mod-digit d0 n = omega arith
mod-digit d1 n = go (digit (n % 2) (mod-lt n (zero-lt-suc 1))) refl
  where
    go : {m : ℕ} → Digit m → n % 2 ≡ m → (1 + n) % 2 ≡ differ 1 m
    go d0 e = omega arith
    go d1 e = omega arith

pub ones-parity : (d a b : ℕ) → ones_in d (bit_xor a b) % 2 ≡ differ (ones_in d a % 2) (ones_in d b % 2)
unfolding ones_in
ones-parity zero a b = refl
ones-parity (suc d) a b =
    ap₂ (λ (x y : ℕ). (x + ones_in d y) % 2) (xor_low a b) (xor-half a b)
    ∙ mod-digit (differ-is (low a) (low b)) (ones_in d (bit_xor (a / 2) (b / 2)))
    ∙ ap (differ (differ (a % 2) (b % 2))) (ones-parity d (a / 2) (b / 2))
    ∙ differ-mix (low a) (low b) (low (ones_in d (a / 2))) (low (ones_in d (b / 2)))
    ∙ ap₂ differ (sym (mod-digit (low a) (ones_in d (a / 2)))) (sym (mod-digit (low b) (ones_in d (b / 2))))
