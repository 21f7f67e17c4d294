-- What the layer above may use of `judge`, and the theorem that carries the rest: the search over all flips and the syndrome say the same.
use mathlib.Core.Path.{◌≡◌, refl, sym, ap, ◌∙◌}
use mathlib.Core.Bool.{Bool, true, false, cond}
use mathlib.Core.List.{List}
use mathlib.Core.Option.{Option, none, some}
use Prim.Native.Nat.{ℕ, ◌<◌, ◌^◌}
use native.Mathlib.Omega.{arith}
use borrow.Author.Tests.{eq-eqb, ne_eqb}
use lib.Bits.{bit_xor}
use lib.Dec.{T, eqb}
use lib.ListN.{length, get_or, length-set}
use Rattle.ecc.specs.declared.Code.{Code}
use Rattle.ecc.specs.declared.Verdict.{Verdict}
use Rattle.ecc.specs.declared.Verdict.TheVariants.{Good, DataBit, CodeBit, Unreadable}
use Rattle.ecc.specs.Code.{◌⊕◌, code_of}
use Rattle.ecc.specs.Judge.{flip_bit, counted, matches, code_bit, find_below, good_or, data_bit_or, code_bit_or, judge, judge_slice, corrected, Placed}
use Rattle.ecc.proofs.Codes.{⊕-zero→, ⊕-zero←, eq→same}
use Rattle.ecc.proofs.Linear.{pattern}
use Rattle.ecc.proofs.Syndrome.{syndrome, locate, matches→, →matches, syndrome-data, syndrome-code, syndrome-counted}
use Rattle.ecc.proofs.Locate.{locate-none, locate-pattern, locate-code, locate-nothing}
use Rattle.ecc.proofs.Tests.{T_true, true-T, not-T-false, find-some, find_none}

-- ---- the search and the syndrome
pub judge-is : (d : List ℕ) (c : Code) → length d ≡ 128 → judge d c ≡ locate (syndrome d c)
unfolding judge
judge-is d c hl = go (matches d c) refl (find_below 1024 (λ k. matches (flip_bit d k) c)) refl (find_below 20 (λ k. matches d (c ⊕ code_bit k))) refl
  where
    on-data : (k : ℕ) → k < 1024 → T (matches (flip_bit d k) c) → syndrome d c ≡ pattern k
    on-data k h t = ⊕-zero→ (syndrome d c) (pattern k) (sym (syndrome-data d c k hl h) ∙ matches→ (flip_bit d k) c t)

    of-data : (k : ℕ) → k < 1024 → syndrome d c ≡ pattern k → T (matches (flip_bit d k) c)
    of-data k h e = →matches (flip_bit d k) c (syndrome-data d c k hl h ∙ ⊕-zero← (syndrome d c) (pattern k) e)

    on-code : (k : ℕ) → k < 20 → T (matches d (c ⊕ code_bit k)) → syndrome d c ≡ code_bit k
    on-code k h t = ⊕-zero→ (syndrome d c) (code_bit k) (sym (syndrome-code d c k h) ∙ matches→ d (c ⊕ code_bit k) t)

    of_code : (k : ℕ) → k < 20 → syndrome d c ≡ code_bit k → T (matches d (c ⊕ code_bit k))
    of_code k h e = →matches d (c ⊕ code_bit k) (syndrome-code d c k h ∙ ⊕-zero← (syndrome d c) (code_bit k) e)

    go : (m : Bool) → matches d c ≡ m
        → (x : Option ℕ) → find_below 1024 (λ k. matches (flip_bit d k) c) ≡ x
        → (y : Option ℕ) → find_below 20 (λ k. matches d (c ⊕ code_bit k)) ≡ y
        → good_or m (data_bit_or x (code_bit_or y Unreadable)) ≡ locate (syndrome d c)
    go true em x ex y ey = sym (ap locate (matches→ d c (T_true em)) ∙ locate-none)
    go false em (some k) ex y ey =
        let r = find-some 1024 (λ k. matches (flip_bit d k) c) k ex in
        sym (ap locate (on-data k r.0 r.1) ∙ locate-pattern k r.0)
    go false em none ex (some k) ey =
        let r = find-some 20 (λ k. matches d (c ⊕ code_bit k)) k ey in
        sym (ap locate (on-code k r.0 r.1) ∙ locate-code k r.0)
    go false em none ex none ey =
        sym (locate-nothing (syndrome d c) (syndrome-counted d c) (λ e. not-T-false em (→matches d c e))
        (λ k h e. find_none 1024 (λ k. matches (flip_bit d k) c) ex k h (of-data k h e))
        (λ k h e. find_none 20 (λ k. matches d (c ⊕ code_bit k)) ey k h (of_code k h e)))

-- ---- any slice
pub slice_chunk : (d : List ℕ) (c : Code) → length d ≡ 128 → judge_slice d c ≡ judge d c
unfolding judge_slice
slice_chunk d c h = rw (eq-eqb (length d) 128 h)

pub slice-other : (d : List ℕ) (c : Code) → (length d ≡ 128 → ⊥) → judge_slice d c ≡ Unreadable
unfolding judge_slice
slice-other d c h = rw (ne_eqb (length d) 128 h)

-- what is told of every chunk with the right code, and the stored code as it is known
pub slice-by : (d : List ℕ) {right stored code : Code} {v : Verdict} → length d ≡ 128 → right ≡ code_of d → stored ≡ code
    → ((chunk : List ℕ) → length chunk ≡ 128 → right ≡ code_of chunk → v ≡ judge chunk stored) → v ≡ judge_slice d code
slice-by d {code = code} size e f told = told d size e ∙ ap (judge d) f ∙ sym (slice_chunk d code size)

-- ---- a verdict names a place in the chunk
pub judge-placed : (d : List ℕ) (c : Code) → Placed (judge d c)
unfolding judge
judge-placed d c = go (matches d c) (find_below 1024 (λ k. matches (flip_bit d k) c)) refl (find_below 20 (λ k. matches d (c ⊕ code_bit k)))
  where
    go : (m : Bool) (x : Option ℕ) → find_below 1024 (λ k. matches (flip_bit d k) c) ≡ x → (y : Option ℕ)
        → Placed (good_or m (data_bit_or x (code_bit_or y Unreadable)))
    go true x e y = tt
    go false (some k) e y = let r = find-some 1024 (λ k. matches (flip_bit d k) c) k e in (omega (arith, r.0), omega arith)
    go false none e (some k) = tt
    go false none e none = tt

pub slice-placed : (d : List ℕ) (c : Code) → Placed (judge_slice d c)
unfolding judge_slice
slice-placed d c = go (eqb (length d) 128)
  where
    go : (b : Bool) → Placed (cond b (judge d c) Unreadable)
    go true = judge-placed d c
    go false = tt

-- ---- a chunk beside its own fresh code is good
pub fresh-matches : (d : List ℕ) → T (matches d (code_of d))
unfolding matches
fresh-matches d = eq→same (counted (code_of d)) (counted (code_of d)) refl

pub fresh-good : (d : List ℕ) → judge d (code_of d) ≡ Good
unfolding judge
fresh-good d = rw (true-T (matches d (code_of d)) (fresh-matches d))

-- ---- a corrected chunk is as long as before
pub length-corrected : (v : Verdict) (d : List ℕ) → length (corrected v d) ≡ length d
length-corrected Good d = refl
length-corrected (DataBit i j) d = length-set d i (bit_xor (get_or d i 0) (2 ^ j))
length-corrected CodeBit d = refl
length-corrected Unreadable d = refl
