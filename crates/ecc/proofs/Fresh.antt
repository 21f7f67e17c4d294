-- A fresh code has zeros in the bits that are ignored.
use mathlib.Core.Path.{◌≡◌, refl, ap₂, ◌∙◌}
use mathlib.Core.Bool.{Bool}
use mathlib.Core.List.{List, [], ◌∷◌}
use Prim.Native.Nat.{ℕ, zero, suc, ◌+◌, ◌-◌, ◌*◌, ◌/◌, ◌%◌, ◌≤◌, ◌<◌}
use native.Mathlib.Omega.{arith}
use borrow.Author.Tests.{eq-eqb}
use lib.Bits.{bit_and, and_mask}
use lib.Dec.{T, eqb, eqb→eq}
use lib.ListN.{length}
use Rattle.ecc.specs.declared.Code.{Code}
use Rattle.ecc.specs.Code.{parity, column_parities, where_odd, contribution, ◌⊕◌, start, code_from, code_of}
use Rattle.ecc.specs.Judge.{counted}
use Rattle.ecc.specs.Claims.{IgnoredBitsZero}
use Rattle.ecc.proofs.Codes.{code-path, counted-⊕}
use Rattle.ecc.proofs.Linear.{parity-lt}
use Rattle.ecc.proofs.Syndrome.{OnlyCounted}
use Rattle.ecc.proofs.Tests.{all_below, all-at, if_so, if-so, T_true}

-- below 128 and without bit 3
mask_right : ℕ → Bool
mask_right n = if_so (eqb (n / 8 % 2) 0) (eqb (bit_and n 0x77) n)

all-masks : T (all_below 128 mask_right)
unfolding mask_right
all-masks = tt

masked : (n : ℕ) → n < 128 → n / 8 % 2 ≡ 0 → bit_and n 0x77 ≡ n
unfolding mask_right
masked n h e = eqb→eq _ _ (if-so (eqb (n / 8 % 2) 0) (eqb (bit_and n 0x77) n) (all-at 128 mask_right all-masks n h) (T_true (eq-eqb _ _ e)))

columns-counted : (b : ℕ) → bit_and (column_parities b) 0x77 ≡ column_parities b
unfolding column_parities
columns-counted b =
    six (parity (bit_and b 0x55)) (parity (bit_and b 0x33)) (parity (bit_and b 0x0F)) (parity (bit_and b 0xAA)) (parity (bit_and b 0xCC)) (parity (bit_and b 0xF0))
    (parity-lt (bit_and b 0x55)) (parity-lt (bit_and b 0x33)) (parity-lt (bit_and b 0x0F)) (parity-lt (bit_and b 0xAA)) (parity-lt (bit_and b 0xCC)) (parity-lt (bit_and b 0xF0))
  where
    six : (u v w x y z : ℕ) → u < 2 → v < 2 → w < 2 → x < 2 → y < 2 → z < 2
        → bit_and (u * 1 + v * 2 + w * 4 + x * 16 + y * 32 + z * 64) 0x77 ≡ u * 1 + v * 2 + w * 4 + x * 16 + y * 32 + z * 64
    six u v w x y z hu hv hw hx hy hz = masked _ (omega arith) (omega arith)

where-counted : (o n : ℕ) → n < 128 → bit_and (where_odd o n) 0x7F ≡ where_odd o n
where-counted zero n h = refl
where-counted (suc o) n h = and_mask n 7 ∙ omega arith

contribution-counted : (i b : ℕ) → i < 128 → OnlyCounted (contribution i b)
unfolding counted
contribution-counted i b h =
    code-path _ _ (columns-counted b) (where-counted (parity b) (127 - i) (omega arith)) (where-counted (parity b) i h)

from-counted : (i : ℕ) (l : List ℕ) (c : Code) → i + length l ≤ 128 → OnlyCounted c → OnlyCounted (code_from i l c)
from-counted i [] c h e = e
from-counted i (b ∷ bs) c h e =
    from-counted (suc i) bs (c ⊕ contribution i b) (omega arith)
    (counted-⊕ c (contribution i b) ∙ ap₂ ◌⊕◌ e (contribution-counted i b (omega arith)))

start-counted : OnlyCounted start
unfolding counted
start-counted = refl

pub ignored-bits-zero : IgnoredBitsZero
unfolding code_of
ignored-bits-zero d h = from-counted 0 d start (omega arith) start-counted
