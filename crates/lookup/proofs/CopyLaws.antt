-- Copying page by page: each piece put into the buffer, and what is left of the bytes, give the whole copy.
use Prim.Native.Nat.{◌+◌, ◌-◌, ◌<◌, ◌≤◌, suc, ℕ}
use mathlib.Core.List.{List, [], ◌++◌, ◌∷◌}
use mathlib.Core.Logic.{◌⊎◌, inl, inr}
use mathlib.Core.Path.{◌∙◌, ◌≡◌, ap}
use native.Mathlib.Omega.{arith}
use lib.ListN.{drop, get_or, length, length-drop, length-take, set, take}
use lib.Seq.{length-sets, drop-append-le, drop_at, drop-cons, sets, take-add, take-append-le}
use Rattle.model.specs.Bytes.{slice}

-- two runs of stores are one
pub sets-join : (l : List ℕ) (at : ℕ) (a b : List ℕ) (to : ℕ) → to ≡ at + length a → sets (sets l at a) to b ≡ sets l at (a ++ b)
sets-join l at [] b to e = let z : to ≡ at = omega arith in rw z
sets-join l at (x ∷ a) b to e = sets-join (set l at x) (suc at) a b to (omega arith)

-- one byte of a part
pub slice-more : (page : List ℕ) (from count i : ℕ) → i < count → from + count ≤ length page
    → slice page (from + i) (count - i) ≡ get_or page (from + i) 0 ∷ slice page (from + (i + 1)) (count - (i + 1))
slice-more page from count i h k =
    let z : count - i ≡ suc (count - (i + 1)) = omega arith in
    let s : from + (i + 1) ≡ suc (from + i) = omega arith in
    let l : from + i < length page = omega arith in
    rw (z, s, drop-cons page (from + i) 0 l)

pub put-more : (out : List ℕ) (at : ℕ) (page : List ℕ) (from count i : ℕ) → i < count → from + count ≤ length page
    → sets (set out (at + i) (get_or page (from + i) 0)) (at + (i + 1)) (slice page (from + (i + 1)) (count - (i + 1))) ≡ sets out (at + i) (slice page (from + i) (count - i))
put-more out at page from count i h k = let s : at + (i + 1) ≡ suc (at + i) = omega arith in rw (slice-more page from count i h k, s)

pub put-start : (out : List ℕ) (at : ℕ) (page : List ℕ) (from count : ℕ) → sets out (at + 0) (slice page (from + 0) (count - 0)) ≡ sets out at (slice page from count)
put-start out at page from count =
    let x : at + 0 ≡ at = omega arith in
    let y : from + 0 ≡ from = omega arith in
    let z : count - 0 ≡ count = omega arith in
    rw (x, y, z)

pub put-end : (out : List ℕ) (at : ℕ) (page : List ℕ) (from count i : ℕ) → count ≤ i → out ≡ sets out (at + i) (slice page (from + i) (count - i))
put-end out at page from count i h = let z : count - i ≡ 0 = omega arith in rw z

-- a piece of the first page, and the rest from the next page's start
pub slice-piece : (page rest : List ℕ) (skip count piece : ℕ) → length page ≡ 512 → piece ≤ count → skip + piece ≤ 512 → (piece ≡ count) ⊎ (skip + piece ≡ 512)
    → slice (page ++ rest) skip count ≡ slice page skip piece ++ slice rest 0 (count - piece)
slice-piece page rest skip count piece long a b either =
    let d : drop skip (page ++ rest) ≡ drop skip page ++ rest = drop-append-le skip page rest (omega arith) in
    let l : length (drop skip page) ≡ 512 - skip = length-drop skip page ∙ rw long in
    let z : count ≡ piece + (count - piece) = omega arith in
    let f : take piece (drop skip page ++ rest) ≡ take piece (drop skip page) = take-append-le piece (drop skip page) rest (omega arith) in
    rw d (ap (λ (n : ℕ). take n (drop skip page ++ rest)) z ∙ take-add piece (count - piece) (drop skip page ++ rest)
    ∙ ap (λ (x : List ℕ). x ++ take (count - piece) (drop piece (drop skip page ++ rest))) f
    ∙ ap (λ (x : List ℕ). take piece (drop skip page) ++ x) (later l either))
  where
    later : length (drop skip page) ≡ 512 - skip → (piece ≡ count) ⊎ (skip + piece ≡ 512) → take (count - piece) (drop piece (drop skip page ++ rest)) ≡ take (count - piece) (drop 0 rest)
    later l (inl e) = let z : count - piece ≡ 0 = omega arith in rw z
    later l (inr e) = ap (take (count - piece)) (drop_at (drop skip page) rest piece (omega arith))

pub slice-length : (bytes : List ℕ) (skip count : ℕ) → skip + count ≤ length bytes → length (slice bytes skip count) ≡ count
slice-length bytes skip count h = simp (length-take, length-drop) (omega arith)

pub sets-kept : (out out' bytes : List ℕ) (at : ℕ) → out' ≡ sets out at bytes → length out' ≡ length out
sets-kept out out' bytes at e = ap length e ∙ length-sets out at bytes
