-- A rightly coded chunk in which two different bits that count flip is unreadable.
-- XOR of each code bit with its partner, the bit for the other half, tells two flips from none and from one.
use mathlib.Core.Path.{◌≡◌, refl, sym, ap, ap₂, ◌∙◌}
use mathlib.Core.Bool.{Bool, true, false, not}
use Prim.Native.Nat.{ℕ, ◌/◌, ◌%◌, ◌<◌}
use native.Mathlib.Omega.{arith}
use borrow.Author.Tests.{ne_eqb}
use lib.Bits.{bit_xor, xor_mod, xor_shr, xor_comm}
use lib.Count.{ones}
use lib.Dec.{T, eqb, T_not}
use lib.ListN.{length}
use Rattle.ecc.specs.declared.Code.{Code}
use Rattle.ecc.specs.declared.Verdict.{Verdict}
use Rattle.ecc.specs.declared.Verdict.TheVariants.{Good, DataBit, CodeBit, Unreadable}
use Rattle.ecc.specs.Code.{◌⊕◌}
use Rattle.ecc.specs.Judge.{no_bits, same, code_bit, code_bits}
use Rattle.ecc.specs.Flip.{Flip, in_data, in_code, Counts, flipped_data, flipped_code}
use Rattle.ecc.specs.Claims.{TwoFlipsUnreadable}
use Rattle.ecc.proofs.Xor.{xor_assoc}
use Rattle.ecc.proofs.Codes.{code-path, ⊕-comm, ⊕-zero→, counted-⊕, same→eq, eq→same}
use Rattle.ecc.proofs.Linear.{pattern}
use Rattle.ecc.proofs.Syndrome.{locate, column_pairs, line_pairs, one_bit, OnlyCounted}
use Rattle.ecc.proofs.Locate.{locate-nothing}
use Rattle.ecc.proofs.Laws.{judge-is}
use Rattle.ecc.proofs.Flips.{effect, effect-counted, syndrome-flip, length-flip, pattern-inj}
use Rattle.ecc.proofs.OneFlip.{syndrome-one}
use Rattle.ecc.proofs.Tests.{all_below, all-at, unless, if-not}

-- ---- each code bit against its partner
pairs : Code → Code
pairs s = record { byte0 = bit_xor (s.byte0 % 16) (s.byte0 / 16); byte1 = bit_xor s.byte1 s.byte2; byte2 = 0 }

xor-mix : (a b c d : ℕ) → bit_xor (bit_xor a b) (bit_xor c d) ≡ bit_xor (bit_xor a c) (bit_xor b d)
xor-mix a b c d =
    xor_assoc a b (bit_xor c d) ∙ ap (bit_xor a) (sym (xor_assoc b c d) ∙ ap (λ (x : ℕ). bit_xor x d) (xor_comm b c) ∙ xor_assoc c b d)
    ∙ sym (xor_assoc a c (bit_xor b d))

pairs-⊕ : (p q : Code) → pairs (p ⊕ q) ≡ pairs p ⊕ pairs q
unfolding pairs
pairs-⊕ p q =
    code-path _ _
    (ap₂ bit_xor (xor_mod p.byte0 q.byte0 4) (xor_shr p.byte0 q.byte0 4) ∙ xor-mix (p.byte0 % 16) (q.byte0 % 16) (p.byte0 / 16) (q.byte0 / 16))
    (xor-mix p.byte1 q.byte1 p.byte2 q.byte2) refl

-- one data bit sets one of each pair
abbrev full : Code
full = record { byte0 = 7; byte1 = 127; byte2 = 0 }

pairs_right : ℕ → Bool
pairs_right k = same (pairs (pattern k)) full

all-pairs : T (all_below 1024 pairs_right)
unfolding pairs_right same pairs pattern
all-pairs = tt

pairs-pattern : (k : ℕ) → k < 1024 → pairs (pattern k) ≡ full
unfolding pairs_right
pairs-pattern k h = same→eq _ _ (all-at 1024 pairs_right all-pairs k h)

refuted : (p q : Code) → T (not (same p q)) → p ≡ q → ⊥
refuted p q t e = T_not (same p q) t (eq→same p q e)

-- ---- a data bit and a data bit: no pair is odd, so this is neither a data bit nor a code bit
code_bit_odd : ℕ → Bool
code_bit_odd k = not (same no_bits (pairs (code_bit k)))

all-odd : T (all_below 20 code_bit_odd)
unfolding code_bit_odd same pairs code_bit code_bits
all-odd = tt

data-data : (k m : ℕ) → k < 1024 → m < 1024 → (k ≡ m → ⊥) → OnlyCounted (pattern k ⊕ pattern m) → locate (pattern k ⊕ pattern m) ≡ Unreadable
unfolding code_bit_odd
data-data k m hk hm n s =
    locate-nothing (pattern k ⊕ pattern m) s (λ e. n (pattern-inj k m hk hm (⊕-zero→ (pattern k) (pattern m) e)))
    (λ j hj e. let z : ◌≡◌ {A = ℕ} 0 7 = ap (λ (x : Code). x.byte0) (sym even ∙ ap pairs e ∙ pairs-pattern j hj) in omega arith)
    (λ j hj e. refuted no_bits (pairs (code_bit j)) (all-at 20 code_bit_odd all-odd j hj) (sym even ∙ ap pairs e))
  where
    even : pairs (pattern k ⊕ pattern m) ≡ no_bits
    even = pairs-⊕ (pattern k) (pattern m) ∙ ap₂ ◌⊕◌ (pairs-pattern k hk) (pairs-pattern m hm)

-- ---- a data bit and a code bit: all pairs but one are odd
abbrev all_but_one : ℕ → Code
all_but_one k = full ⊕ pairs (code_bit k)

pairs-none : pairs no_bits ≡ no_bits
unfolding pairs
pairs-none = refl

not_none : ℕ → Bool
not_none k = not (same (all_but_one k) no_bits)

not_data : ℕ → Bool
not_data k = not (same (all_but_one k) full)

not_code : ℕ → ℕ → Bool
not_code k m = not (same (all_but_one k) (pairs (code_bit m)))

all-not-none : T (all_below 20 not_none)
unfolding not_none same pairs code_bit code_bits
all-not-none = tt

all-not-data : T (all_below 20 not_data)
unfolding not_data same pairs code_bit code_bits
all-not-data = tt

all-not-code : T (all_below 20 (λ k. all_below 20 (not_code k)))
unfolding not_code same pairs code_bit code_bits
all-not-code = tt

data-code : (k m : ℕ) → k < 1024 → m < 20 → OnlyCounted (pattern k ⊕ code_bit m) → locate (pattern k ⊕ code_bit m) ≡ Unreadable
unfolding not_none not_data not_code
data-code k m hk hm s =
    locate-nothing (pattern k ⊕ code_bit m) s (λ e. refuted (all_but_one m) no_bits (all-at 20 not_none all-not-none m hm) (sym sum ∙ ap pairs e ∙ pairs-none))
    (λ j hj e. refuted (all_but_one m) full (all-at 20 not_data all-not-data m hm) (sym sum ∙ ap pairs e ∙ pairs-pattern j hj))
    (λ j hj e. refuted (all_but_one m) (pairs (code_bit j)) (all-at 20 (not_code m) (all-at 20 (λ k. all_below 20 (not_code k)) all-not-code m hm) j hj)
    (sym sum ∙ ap pairs e))
  where
    sum : pairs (pattern k ⊕ code_bit m) ≡ all_but_one m
    sum = pairs-⊕ (pattern k) (code_bit m) ∙ ap (λ (x : Code). x ⊕ pairs (code_bit m)) (pairs-pattern k hk)

-- ---- a code bit and a code bit: by all 400 pairs
is_unreadable : Verdict → Bool
is_unreadable Good = false
is_unreadable (DataBit i j) = false
is_unreadable CodeBit = false
is_unreadable Unreadable = true

is-unreadable : (v : Verdict) → T (is_unreadable v) → v ≡ Unreadable
unfolding is_unreadable
is-unreadable Good t = absurd t
is-unreadable (DataBit i j) t = absurd t
is-unreadable CodeBit t = absurd t
is-unreadable Unreadable t = refl

code_code : ℕ → ℕ → Bool
code_code k m = unless (eqb k m) (is_unreadable (locate (code_bit k ⊕ code_bit m)))

all-code-code : T (all_below 20 (λ k. all_below 20 (code_code k)))
unfolding code_code is_unreadable locate same code_bit code_bits column_pairs line_pairs one_bit ones
all-code-code = tt

code-code : (k m : ℕ) → k < 20 → m < 20 → (k ≡ m → ⊥) → locate (code_bit k ⊕ code_bit m) ≡ Unreadable
unfolding code_code
code-code k m hk hm n =
    is-unreadable _
    (if-not (eqb k m) (is_unreadable (locate (code_bit k ⊕ code_bit m)))
    (all-at 20 (code_code k) (all-at 20 (λ k. all_below 20 (code_code k)) all-code-code k hk) m hm)
    (ne_eqb k m n))

-- ---- any two
both-counted : (f g : Flip) → Counts f → Counts g → OnlyCounted (effect f ⊕ effect g)
both-counted f g hf hg = counted-⊕ (effect f) (effect g) ∙ ap₂ ◌⊕◌ (effect-counted f hf) (effect-counted g hg)

two : (f g : Flip) → Counts f → Counts g → (f ≡ g → ⊥) → locate (effect f ⊕ effect g) ≡ Unreadable
two (in_data k) (in_data m) hf hg n = data-data k m hf hg (λ e. n (ap in_data e)) (both-counted (in_data k) (in_data m) hf hg)
two (in_data k) (in_code m) hf hg n = data-code k m hf hg (both-counted (in_data k) (in_code m) hf hg)
two (in_code k) (in_data m) hf hg n =
    ap locate (⊕-comm (code_bit k) (pattern m)) ∙ data-code m k hg hf (both-counted (in_data m) (in_code k) hg hf)
two (in_code k) (in_code m) hf hg n = code-code k m hf hg (λ e. n (ap in_code e))

pub two-flips-unreadable : TwoFlipsUnreadable
two-flips-unreadable d c f g right hf hg n =
    let d' = flipped_data f d in
    let c' = flipped_code f c in
    let size : length (flipped_data f d) ≡ 128 = length-flip f d ∙ right.size in
    judge-is (flipped_data g d') (flipped_code g c') (length-flip g d' ∙ size)
    ∙ ap locate (syndrome-flip g d' c' hg size ∙ ap (λ (x : Code). x ⊕ effect g) (syndrome-one d c f right hf)) ∙ two f g hf hg n
