-- A little-endian number, byte by byte from its place on: missing bytes count as zero.
use Prim.Native.Nat.{◌%◌, ◌*◌, ◌+◌, ◌<◌, ◌≤◌, suc, zero, ℕ}
use mathlib.Core.List.{List, [], ◌∷◌}
use mathlib.Core.Path.{◌≡◌, refl}
use native.Mathlib.Numerals.{add-one}
use native.Mathlib.Omega.{arith}
use lib.ListN.{drop_of_length-le, get_or, length}
use lib.Seq.{take-nil}
use Rattle.model.specs.Bytes.{half, little, slice, word}

pub little-first : (l : List ℕ) (a n : ℕ) → little (slice l a (suc n)) ≡ get_or l a 0 % 256 + 256 * little (slice l (suc a) n)
little-first [] zero n = rw (take-nil {A = ℕ} n)
little-first [] (suc a) n = rw (take-nil {A = ℕ} n)
little-first (b ∷ l) zero n = refl
little-first (b ∷ l) (suc a) n = little-first l a n

pub half-bytes : (l : List ℕ) (a : ℕ) → half l a ≡ little (get_or l a 0 ∷ get_or l (a + 1) 0 ∷ [])
half-bytes l a = rw (little-first l a 1, little-first l (suc a) 0, add-one a)

pub word_bytes : (l : List ℕ) (a : ℕ) → word l a ≡ little (get_or l a 0 ∷ get_or l (a + 1) 0 ∷ get_or l (a + 2) 0 ∷ get_or l (a + 3) 0 ∷ [])
word_bytes l a =
    let two : a + 2 ≡ suc (suc a) = omega arith in
    let three : a + 3 ≡ suc (suc (suc a)) = omega arith in
    rw (little-first l a 3, little-first l (suc a) 2, little-first l (suc (suc a)) 1, little-first l (suc (suc (suc a))) 0, add-one a, two, three)

-- past the end the number is zero
pub little-past : (l : List ℕ) (a n : ℕ) → length l ≤ a → little (slice l a n) ≡ 0
little-past l a n h = rw (drop_of_length-le l {i = a} h, take-nil {A = ℕ} n)

-- a half fits 16 bits
pub half-below : (l : List ℕ) (a : ℕ) → half l a < 65536
half-below l a = rw (half-bytes l a) (omega arith)
