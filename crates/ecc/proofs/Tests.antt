-- Tests that antt computes: as facts, over all numbers below a bound, and as a search below a bound.
use mathlib.Core.Path.{◌≡◌, refl, sym, subst}
use mathlib.Core.Bool.{Bool, true, false, ◌&&◌}
use mathlib.Core.Option.{Option, none, some}
use Prim.Native.Nat.{ℕ, zero, suc, ◌<◌}
use native.Mathlib.Nat.{not-suc-le-zero}
use native.Mathlib.Decide.{ℕ_discrete}
use native.Mathlib.Omega.{arith}
use lib.Dec.{T}
use Rattle.ecc.specs.Judge.{find_below}

-- ---- a test and the fact that it passes
pub T_true : {b : Bool} → b ≡ true → T b
T_true e = subst T (sym e) tt

pub true-T : (b : Bool) → T b → b ≡ true
true-T true t = refl
true-T false t = absurd t

pub false-T : (b : Bool) → (T b → ⊥) → b ≡ false
false-T true f = absurd (f tt)
false-T false f = refl

pub not-T-false : {b : Bool} → b ≡ false → T b → ⊥
not-T-false e t = subst T e t

pub and_T : (a b : Bool) → T a → T b → T (a && b)
and_T true b s t = t
and_T false b s t = absurd s

pub and_left : (a b : Bool) → T (a && b) → T a
and_left true b t = tt
and_left false b t = t

pub and_right : (a b : Bool) → T (a && b) → T b
and_right true b t = t
and_right false b t = absurd t

-- v is asked only where b passes, or only where it fails
abbrev pub if_so : Bool → Bool → Bool
if_so b v = elim b [ true ↦ v | false ↦ true ]

pub if-so : (b v : Bool) → T (if_so b v) → T b → T v
if-so true v t h = t
if-so false v t h = absurd h

abbrev pub unless : Bool → Bool → Bool
unless b v = elim b [ true ↦ true | false ↦ v ]

pub if-not : (b v : Bool) → T (unless b v) → b ≡ false → T v
if-not true v t e = absurd (subst T e tt)
if-not false v t e = t

-- ---- all numbers below a bound
abbrev pub all_below : ℕ → (ℕ → Bool) → Bool
all_below zero f = true
all_below (suc n) f = f n && all_below n f

pub all-at : (n : ℕ) (f : ℕ → Bool) → T (all_below n f) → (k : ℕ) → k < n → T (f k)
all-at zero f t k h = absurd (not-suc-le-zero h)
all-at (suc n) f t k h = go (all-at n f (and_right (f n) (all_below n f) t) k) (ℕ_discrete k n)
  where
    go : (k < n → T (f k)) → Dec (k ≡ n) → T (f k)
    go r (yes e) = subst (λ (m : ℕ). T (f m)) (sym e) (and_left (f n) (all_below n f) t)
    go r (no e) = r (omega arith)

-- ---- the search below a bound
pub find-some : (n : ℕ) (p : ℕ → Bool) (k : ℕ) → find_below n p ≡ some k → (k < n) × T (p k)
find-some zero p k e = absurd (none-some e)
  where
    none-some : ◌≡◌ {A = Option ℕ} none (some k) → ⊥
    none-some q = let z : ◌≡◌ {A = ℕ} 0 1 = cc in omega arith
find-some (suc n) p k e = go (p n) refl (find-some n p k) e
  where
    go : (b : Bool) → p n ≡ b → (find_below n p ≡ some k → (k < n) × T (p k))
        → elim b [ true ↦ some n | false ↦ find_below n p ] ≡ some k → (k < suc n) × T (p k)
    go true h r q = let z : n ≡ k = cc in (omega arith, subst (λ (m : ℕ). T (p m)) z (T_true h))
    go false h r q = let z = r q in (omega (arith, z.0), z.1)

pub find_none : (n : ℕ) (p : ℕ → Bool) → find_below n p ≡ none → (k : ℕ) → k < n → T (p k) → ⊥
find_none zero p e k h t = not-suc-le-zero h
find_none (suc n) p e k h t = go (p n) refl (λ q. find_none n p q k) e (ℕ_discrete k n)
  where
    go : (b : Bool) → p n ≡ b → (find_below n p ≡ none → k < n → T (p k) → ⊥)
        → ◌≡◌ {A = Option ℕ} (elim b [ true ↦ some n | false ↦ find_below n p ]) none → Dec (k ≡ n) → ⊥
    go true q r w dec = let z : ◌≡◌ {A = ℕ} 0 1 = cc in omega arith
    go false q r w (yes s) = not-T-false q (subst (λ (m : ℕ). T (p m)) s t)
    go false q r w (no s) = r w (omega arith) t

-- a search that finds something
abbrev pub found : Option ℕ → Bool
found (some k) = true
found none = false
