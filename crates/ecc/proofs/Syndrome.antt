-- The syndrome of a chunk and its stored code, and the verdict that the code reads off it. `judge-is` of `Laws` shows that it is `judge`'s.
use mathlib.Core.Path.{◌≡◌, sym, ap, ◌∙◌}
use mathlib.Core.Bool.{Bool, ◌&&◌, cond}
use mathlib.Core.List.{List}
use Prim.Native.Nat.{ℕ, ◌+◌, ◌-◌, ◌/◌, ◌%◌, ◌<◌}
use native.Mathlib.Omega.{arith}
use lib.Count.{ones}
use lib.Dec.{T, eqb}
use lib.ListN.{length}
use Rattle.ecc.specs.declared.Code.{Code}
use Rattle.ecc.specs.declared.Verdict.{Verdict}
use Rattle.ecc.specs.declared.Verdict.TheVariants.{DataBit, CodeBit, Unreadable}
use Rattle.ecc.specs.Code.{◌⊕◌, code_of}
use Rattle.ecc.specs.Judge.{flip_bit, no_bits, counted, same, matches, code_bit, code_bits, good_or}
use Rattle.ecc.proofs.Codes.{⊕-assoc, ⊕-self, ⊕-none, ⊕-back, ⊕-swap, counted-⊕, counted-again, same→eq, eq→same}
use Rattle.ecc.proofs.Linear.{pattern, code-flip}
use Rattle.ecc.proofs.Tests.{all_below, all-at}

-- ---- the definitions

-- the counted code bits that do not match
unfoldable pub syndrome : List ℕ → Code → Code
syndrome d c = counted (code_of d ⊕ c)

-- of the two code bits for each halving of a byte, or of the chunk, exactly one is set: so it is after one data bit flips
unfoldable pub column_pairs : Code → Bool
column_pairs s = eqb (s.byte0 % 16) (7 - s.byte0 / 16)

unfoldable pub line_pairs : Code → Bool
line_pairs s = eqb s.byte1 (127 - s.byte2)

-- exactly one code bit is set
unfoldable pub one_bit : Code → Bool
one_bit s = eqb (ones s.byte0 + ones s.byte1 + ones s.byte2) 1

-- the verdict; the flipped data bit is bit s.byte0 / 16 of byte s.byte2
unfoldable pub locate : Code → Verdict
locate s =
    good_or (same s no_bits)
    (cond (column_pairs s && line_pairs s) (DataBit s.byte2 (s.byte0 / 16)) (cond (one_bit s) CodeBit Unreadable))

-- ---- the code matches exactly where the syndrome is zero
syndrome-sum : (d : List ℕ) (c : Code) → syndrome d c ≡ counted (code_of d) ⊕ counted c
unfolding syndrome
syndrome-sum d c = counted-⊕ (code_of d) c

pub matches→ : (d : List ℕ) (c : Code) → T (matches d c) → syndrome d c ≡ no_bits
unfolding matches
matches→ d c t =
    syndrome-sum d c ∙ ap (λ (x : Code). x ⊕ counted c) (same→eq (counted (code_of d)) (counted c) t) ∙ ⊕-self (counted c)

pub →matches : (d : List ℕ) (c : Code) → syndrome d c ≡ no_bits → T (matches d c)
unfolding matches
→matches d c e =
    let a = counted (code_of d) in
    let b = counted c in
    eq→same a b (sym (⊕-none a) ∙ ap (λ (x : Code). a ⊕ x) (sym e ∙ syndrome-sum d c) ∙ ⊕-back a b)

-- ---- only bits that count are set
abbrev pub OnlyCounted : Code → Type 0
OnlyCounted s = counted s ≡ s

pub syndrome-counted : (d : List ℕ) (c : Code) → OnlyCounted (syndrome d c)
unfolding syndrome
syndrome-counted d c = counted-again (code_of d ⊕ c)

pattern_counted : ℕ → Bool
pattern_counted k = same (counted (pattern k)) (pattern k)

all-patterns : T (all_below 1024 pattern_counted)
unfolding pattern_counted same counted pattern
all-patterns = tt

pub pattern-counted : (k : ℕ) → k < 1024 → OnlyCounted (pattern k)
unfolding pattern_counted
pattern-counted k h = same→eq _ _ (all-at 1024 pattern_counted all-patterns k h)

code_bit_counted : ℕ → Bool
code_bit_counted k = same (counted (code_bit k)) (code_bit k)

all-code-bits : T (all_below 20 code_bit_counted)
unfolding code_bit_counted same counted code_bit code_bits
all-code-bits = tt

pub code-bit-counted : (k : ℕ) → k < 20 → OnlyCounted (code_bit k)
unfolding code_bit_counted
code-bit-counted k h = same→eq _ _ (all-at 20 code_bit_counted all-code-bits k h)

-- ---- the syndrome after a data bit or a code bit flips
pub syndrome-data : (d : List ℕ) (c : Code) (k : ℕ) → length d ≡ 128 → k < 1024 → syndrome (flip_bit d k) c ≡ syndrome d c ⊕ pattern k
unfolding syndrome
syndrome-data d c k hl hk =
    ap (λ (x : Code). counted (x ⊕ c)) (code-flip d k (omega arith))
    ∙ ap counted (⊕-swap (code_of d) (pattern k) c) ∙ counted-⊕ (code_of d ⊕ c) (pattern k)
    ∙ ap (λ (x : Code). counted (code_of d ⊕ c) ⊕ x) (pattern-counted k hk)

pub syndrome-code : (d : List ℕ) (c : Code) (k : ℕ) → k < 20 → syndrome d (c ⊕ code_bit k) ≡ syndrome d c ⊕ code_bit k
unfolding syndrome
syndrome-code d c k hk =
    ap counted (sym (⊕-assoc (code_of d) c (code_bit k))) ∙ counted-⊕ (code_of d ⊕ c) (code_bit k)
    ∙ ap (λ (x : Code). counted (code_of d ⊕ c) ⊕ x) (code-bit-counted k hk)
