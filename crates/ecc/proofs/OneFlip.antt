-- One flipped bit of a rightly coded chunk is found and put right; no second flip would make the code match.
use mathlib.Core.Path.{◌≡◌, refl, sym, ap, ◌∙◌}
use mathlib.Core.List.{List}
use Prim.Native.Nat.{ℕ, ◌/◌, ◌%◌, ◌^◌, ◌<◌}
use native.Mathlib.Omega.{arith}
use lib.Bits.{bit_xor, xor_zero_r, xor_self}
use lib.ListN.{length, get_or, set}
use lib.Seq.{get_or-set_same, set-set, set-get_or}
use Rattle.ecc.specs.declared.Code.{Code}
use Rattle.ecc.specs.declared.Verdict.{Verdict}
use Rattle.ecc.specs.Code.{◌⊕◌}
use Rattle.ecc.specs.Judge.{flip_at, flip_bit, judge, corrected}
use Rattle.ecc.specs.Flip.{Flip, in_data, in_code, Counts, flipped_data, flipped_code, flip_verdict}
use Rattle.ecc.specs.Claims.{RightlyCoded, OneFlipFound, OneFlipUnique}
use Rattle.ecc.proofs.Xor.{xor_assoc}
use Rattle.ecc.proofs.Codes.{⊕-comm, ⊕-none, ⊕-zero→}
use Rattle.ecc.proofs.Syndrome.{syndrome, locate, matches→}
use Rattle.ecc.proofs.Laws.{judge-is}
use Rattle.ecc.proofs.Flips.{effect, syndrome-flip, locate-effect, length-flip, effect-inj}

-- after the flip the syndrome is the flip's effect
pub syndrome-one : (d : List ℕ) (c : Code) (f : Flip) → RightlyCoded d c → Counts f → syndrome (flipped_data f d) (flipped_code f c) ≡ effect f
syndrome-one d c f right hf =
    syndrome-flip f d c hf right.size
    ∙ ap (λ (x : Code). x ⊕ effect f) (matches→ d c right.right) ∙ ⊕-none-left (effect f)
  where
    ⊕-none-left : (p : Code) → record { byte0 = 0; byte1 = 0; byte2 = 0 } ⊕ p ≡ p
    ⊕-none-left p = ⊕-comm _ p ∙ ⊕-none p

told : (d : List ℕ) (c : Code) (f : Flip) → RightlyCoded d c → Counts f → judge (flipped_data f d) (flipped_code f c) ≡ flip_verdict f
told d c f right hf =
    judge-is (flipped_data f d) (flipped_code f c) (length-flip f d ∙ right.size) ∙ ap locate (syndrome-one d c f right hf) ∙ locate-effect f hf

flip_twice : (d : List ℕ) (i j : ℕ) → i < length d → flip_at (flip_at d i j) i j ≡ d
flip_twice d i j h =
    let x = get_or d i 0 in
    let y = bit_xor x (2 ^ j) in
    set-set d i y (bit_xor (get_or (set d i y) i 0) (2 ^ j))
    ∙ ap (set d i)
    (ap (λ (z : ℕ). bit_xor z (2 ^ j)) (get_or-set_same d i y 0 h) ∙ xor_assoc x (2 ^ j) (2 ^ j) ∙ ap (bit_xor x) (xor_self (2 ^ j)) ∙ xor_zero_r x)
    ∙ set-get_or d i 0

back : (d : List ℕ) (f : Flip) → length d ≡ 128 → Counts f → corrected (flip_verdict f) (flipped_data f d) ≡ d
unfolding flip_bit
back d (in_data k) hl hf = flip_twice d (k / 8) (k % 8) (omega arith)
back d (in_code k) hl hf = refl

pub one-flip-found : OneFlipFound
one-flip-found d c f right hf = record {
  told = told d c f right hf;
  restored = ap (λ (v : Verdict). corrected v (flipped_data f d)) (told d c f right hf) ∙ back d f right.size hf;
}

pub one-flip-unique : OneFlipUnique
one-flip-unique d c f g hl hf hg s t =
    effect-inj f g hf hg
    (sym (⊕-zero→ (syndrome d c) (effect f) (sym (syndrome-flip f d c hf hl) ∙ matches→ (flipped_data f d) (flipped_code f c) s))
    ∙ ⊕-zero→ (syndrome d c) (effect g) (sym (syndrome-flip g d c hg hl) ∙ matches→ (flipped_data g d) (flipped_code g c) t))
