-- Sums over the clusters below a bound: of one hit, of what is at most 1, and past the last that counts.
use Prim.Native.Nat.{◌+◌, ◌<◌, ◌≤◌, suc, zero, ℕ}
use mathlib.Core.Path.{◌≡◌, ap, refl, sym}
use native.Mathlib.Decide.{dec_lt, ℕ_discrete}
use native.Mathlib.Omega.{arith}
use Rattle.model.proofs.CountLaws.{total-add}
use Rattle.model.proofs.Frame.{hit-0, hit-self}
use Rattle.model.specs.Check.{Marks, mark}
use Rattle.model.specs.Counts.{total_below}
use Rattle.model.specs.Tree.{hit}

pub total-zero : (f : ℕ → ℕ) (k : ℕ) → ((c : ℕ) → c < k → f c ≡ 0) → total_below f k ≡ 0
total-zero f zero e = refl
total-zero f (suc k) e = omega (arith, total-zero f k (λ c l. e c (omega arith)), e k (omega arith))

pub total-hit : (c k : ℕ) → c < k → total_below (hit c) k ≡ 1
total-hit c zero h = absurd (omega arith)
total-hit c (suc k) h = go (ℕ_discrete c k) (λ l. total-hit c k l)
  where
    go : Dec (c ≡ k) → (c < k → total_below (hit c) k ≡ 1) → total_below (hit c) k + hit c k ≡ 1
    go (yes e) ih =
        let l = total-zero (hit c) k (λ x l. hit-0 c x (omega arith)) in
        let o : hit c k ≡ 1 = rw (← e) (hit-self c) in
        omega arith
    go (no n) ih = omega (arith, ih (omega arith), hit-0 c k n)

total-most : (f : ℕ → ℕ) (k : ℕ) → ((c : ℕ) → f c ≤ 1) → total_below f k ≤ k
total-most f zero h = omega arith
total-most f (suc k) h = omega (arith, total-most f k h, h k)

-- One mark more: the sum is one more, and there was room for it.
module _ (m : Marks) (c k n : ℕ) (h : c < k) (e : n ≡ total_below m k) where
  pub total-mark : total_below (mark c m) k ≡ n + 1
  total-mark = omega (arith, total-add m (hit c) k, total-hit c k h)

  pub total-room : ((x : ℕ) → mark c m x ≤ 1) → n < k
  total-room u = omega (arith, total-most (mark c m) k u, total-mark)

total-past : (f : ℕ → ℕ) (n : ℕ) → ((c : ℕ) → n ≤ c → f c ≡ 0) → (k : ℕ) → n ≤ k → total_below f k ≡ total_below f n
total-past f n e zero h = let q : 0 ≡ n = omega arith in ap (total_below f) q
total-past f n e (suc k) h = go (dec_lt k n) (λ l. total-past f n e k l)
  where
    go : Dec (k < n) → (n ≤ k → total_below f k ≡ total_below f n) → total_below f (suc k) ≡ total_below f n
    go (yes l) ih = let q : suc k ≡ n = omega arith in ap (total_below f) q
    go (no l) ih = omega (arith, ih (omega arith), e k (omega arith))

-- two bounds give one sum where nothing counts from either on
pub total-bounds : (f : ℕ → ℕ) (m n : ℕ) → ((c : ℕ) → m ≤ c → f c ≡ 0) → ((c : ℕ) → n ≤ c → f c ≡ 0) → total_below f m ≡ total_below f n
total-bounds f m n a b = go (dec_lt m n)
  where
    go : Dec (m < n) → total_below f m ≡ total_below f n
    go (yes l) = sym (total-past f m a n (omega arith))
    go (no l) = total-past f n b m (omega arith)
