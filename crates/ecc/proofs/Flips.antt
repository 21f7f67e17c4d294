-- What one flip does to the syndrome, and that different flips do different things.
use mathlib.Core.Path.{◌≡◌, refl, sym, ap, ◌∙◌}
use mathlib.Core.Bool.{Bool, not}
use mathlib.Core.List.{List}
use Prim.Native.Nat.{ℕ, ◌/◌, ◌%◌, ◌^◌, ◌<◌}
use native.Mathlib.Omega.{arith}
use lib.Bits.{bit_xor}
use lib.Dec.{T, eqb, eqb→eq}
use lib.ListN.{length, get_or, length-set}
use Rattle.ecc.specs.declared.Code.{Code}
use Rattle.ecc.specs.declared.Verdict.TheVariants.{DataBit, CodeBit}
use Rattle.ecc.specs.Code.{◌⊕◌}
use Rattle.ecc.specs.Judge.{flip_bit, same, code_bit, code_bits}
use Rattle.ecc.specs.Flip.{Flip, in_data, in_code, Counts, flipped_data, flipped_code, flip_verdict}
use Rattle.ecc.proofs.Codes.{eq→same}
use Rattle.ecc.proofs.Linear.{pattern}
use Rattle.ecc.proofs.Syndrome.{syndrome, locate, OnlyCounted, pattern-counted, code-bit-counted, syndrome-data, syndrome-code}
use Rattle.ecc.proofs.Locate.{locate-pattern, locate-code}
use Rattle.ecc.proofs.Tests.{all_below, all-at, true-T, unless, if-not}

-- the code bits of the syndrome that it flips
abbrev pub effect : Flip → Code
effect (in_data k) = pattern k
effect (in_code k) = code_bit k

pub effect-counted : (f : Flip) → Counts f → OnlyCounted (effect f)
effect-counted (in_data k) h = pattern-counted k h
effect-counted (in_code k) h = code-bit-counted k h

pub syndrome-flip : (f : Flip) (d : List ℕ) (c : Code) → Counts f → length d ≡ 128
    → syndrome (flipped_data f d) (flipped_code f c) ≡ syndrome d c ⊕ effect f
syndrome-flip (in_data k) d c h hl = syndrome-data d c k hl h
syndrome-flip (in_code k) d c h hl = syndrome-code d c k h

pub locate-effect : (f : Flip) → Counts f → locate (effect f) ≡ flip_verdict f
locate-effect (in_data k) h = locate-pattern k h
locate-effect (in_code k) h = locate-code k h

pub length-flip : (f : Flip) (d : List ℕ) → length (flipped_data f d) ≡ length d
unfolding flip_bit
length-flip (in_data k) d = length-set d (k / 8) (bit_xor (get_or d (k / 8) 0) (2 ^ (k % 8)))
length-flip (in_code k) d = refl

-- ---- different flips have different effects
pub pattern-inj : (k m : ℕ) → k < 1024 → m < 1024 → pattern k ≡ pattern m → k ≡ m
pattern-inj k m hk hm e =
    let p : DataBit (k / 8) (k % 8) ≡ DataBit (m / 8) (m % 8) = sym (locate-pattern k hk) ∙ ap locate e ∙ locate-pattern m hm in
    let q : k / 8 ≡ m / 8 = cc in
    let r : k % 8 ≡ m % 8 = cc in
    omega arith

different_bits : ℕ → ℕ → Bool
different_bits k m = unless (not (same (code_bit k) (code_bit m))) (eqb k m)

all-different : T (all_below 20 (λ k. all_below 20 (different_bits k)))
unfolding different_bits same code_bit code_bits
all-different = tt

code-bit-inj : (k m : ℕ) → k < 20 → m < 20 → code_bit k ≡ code_bit m → k ≡ m
unfolding different_bits
code-bit-inj k m hk hm e =
    eqb→eq k m
    (if-not (not (same (code_bit k) (code_bit m))) (eqb k m)
    (all-at 20 (different_bits k) (all-at 20 (λ k. all_below 20 (different_bits k)) all-different k hk) m hm)
    (ap not (true-T (same (code_bit k) (code_bit m)) (eq→same (code_bit k) (code_bit m) e))))

data-is-no-code : (k m : ℕ) → k < 1024 → m < 20 → pattern k ≡ code_bit m → ⊥
data-is-no-code k m hk hm e =
    let z : DataBit (k / 8) (k % 8) ≡ CodeBit = sym (locate-pattern k hk) ∙ ap locate e ∙ locate-code m hm in
    let w : ◌≡◌ {A = ℕ} 0 1 = cc in
    omega arith

pub effect-inj : (f g : Flip) → Counts f → Counts g → effect f ≡ effect g → f ≡ g
effect-inj (in_data k) (in_data m) hf hg e = ap in_data (pattern-inj k m hf hg e)
effect-inj (in_data k) (in_code m) hf hg e = absurd (data-is-no-code k m hf hg e)
effect-inj (in_code k) (in_data m) hf hg e = absurd (data-is-no-code m k hg hf (sym e))
effect-inj (in_code k) (in_code m) hf hg e = ap in_code (code-bit-inj k m hf hg e)
