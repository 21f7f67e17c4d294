-- Codes under exclusive or: a group in which each code is its own inverse; the mask of the counted bits goes through.
use mathlib.Core.Path.{◌≡◌, sym, ap, ◌∙◌, subst}
use mathlib.Core.Bool.{◌&&◌}
use lib.Bits.{xor_comm, xor_self, xor_zero_r}
use lib.Dec.{T, eqb, eqb→eq, eqb_refl}
use Rattle.ecc.specs.declared.Code.{Code}
use Rattle.ecc.specs.Code.{◌⊕◌}
use Rattle.ecc.specs.Judge.{no_bits, counted, same}
use Rattle.ecc.proofs.Xor.{xor_assoc, xor-back, and_xor, and_again}
use Rattle.ecc.proofs.Tests.{and_T, and_left, and_right}

pub code-path : (p q : Code) → p.byte0 ≡ q.byte0 → p.byte1 ≡ q.byte1 → p.byte2 ≡ q.byte2 → p ≡ q
code-path p q e f g = λ i. record { byte0 = e i; byte1 = f i; byte2 = g i }

pub ⊕-comm : (p q : Code) → p ⊕ q ≡ q ⊕ p
⊕-comm p q = code-path _ _ (xor_comm p.byte0 q.byte0) (xor_comm p.byte1 q.byte1) (xor_comm p.byte2 q.byte2)

pub ⊕-assoc : (p q r : Code) → (p ⊕ q) ⊕ r ≡ p ⊕ (q ⊕ r)
⊕-assoc p q r =
    code-path _ _ (xor_assoc p.byte0 q.byte0 r.byte0) (xor_assoc p.byte1 q.byte1 r.byte1) (xor_assoc p.byte2 q.byte2 r.byte2)

pub ⊕-self : (p : Code) → p ⊕ p ≡ no_bits
⊕-self p = code-path _ _ (xor_self p.byte0) (xor_self p.byte1) (xor_self p.byte2)

pub ⊕-none : (p : Code) → p ⊕ no_bits ≡ p
⊕-none p = code-path _ _ (xor_zero_r p.byte0) (xor_zero_r p.byte1) (xor_zero_r p.byte2)

pub ⊕-back : (p q : Code) → p ⊕ (p ⊕ q) ≡ q
⊕-back p q = code-path _ _ (xor-back p.byte0 q.byte0) (xor-back p.byte1 q.byte1) (xor-back p.byte2 q.byte2)

pub ⊕-swap : (p q r : Code) → (p ⊕ q) ⊕ r ≡ (p ⊕ r) ⊕ q
⊕-swap p q r = ⊕-assoc p q r ∙ ap (λ (x : Code). p ⊕ x) (⊕-comm q r) ∙ sym (⊕-assoc p r q)

-- p ⊕ q is nothing exactly where p is q
pub ⊕-zero→ : (p q : Code) → p ⊕ q ≡ no_bits → p ≡ q
⊕-zero→ p q e = sym (⊕-none p) ∙ ap (λ (x : Code). p ⊕ x) (sym e) ∙ ⊕-back p q

pub ⊕-zero← : (p q : Code) → p ≡ q → p ⊕ q ≡ no_bits
⊕-zero← p q e = ap (λ (x : Code). x ⊕ q) e ∙ ⊕-self q

-- the mask goes through, and a second time it does nothing
pub counted-⊕ : (p q : Code) → counted (p ⊕ q) ≡ counted p ⊕ counted q
unfolding counted
counted-⊕ p q =
    code-path _ _ (and_xor p.byte0 q.byte0 0x77) (and_xor p.byte1 q.byte1 0x7F) (and_xor p.byte2 q.byte2 0x7F)

pub counted-again : (p : Code) → counted (counted p) ≡ counted p
unfolding counted
counted-again p = code-path _ _ (and_again p.byte0 0x77) (and_again p.byte1 0x7F) (and_again p.byte2 0x7F)

-- the test of two codes
pub same→eq : (p q : Code) → T (same p q) → p ≡ q
unfolding same
same→eq p q t =
    let r = and_right (eqb p.byte0 q.byte0) (eqb p.byte1 q.byte1 && eqb p.byte2 q.byte2) t in
    code-path p q (eqb→eq _ _ (and_left (eqb p.byte0 q.byte0) (eqb p.byte1 q.byte1 && eqb p.byte2 q.byte2) t))
    (eqb→eq _ _ (and_left (eqb p.byte1 q.byte1) (eqb p.byte2 q.byte2) r))
    (eqb→eq _ _ (and_right (eqb p.byte1 q.byte1) (eqb p.byte2 q.byte2) r))

same_refl : (p : Code) → T (same p p)
unfolding same
same_refl p =
    and_T (eqb p.byte0 p.byte0) (eqb p.byte1 p.byte1 && eqb p.byte2 p.byte2) (eqb_refl p.byte0)
    (and_T (eqb p.byte1 p.byte1) (eqb p.byte2 p.byte2) (eqb_refl p.byte1) (eqb_refl p.byte2))

pub eq→same : (p q : Code) → p ≡ q → T (same p q)
eq→same p q e = subst (λ (x : Code). T (same p x)) e (same_refl p)
