-- One pass over a chunk: the code in `sums`, with what the bytes that are left flip in it, is the whole code at every turn.
use mathlib.Core.Path.{◌≡◌, refl}
use mathlib.Core.List.{List}
use Prim.Native.Nat.{ℕ, ◌+◌, ◌≤◌, ◌<◌}
use native.Mathlib.Numerals.{add-one}
use lib.ListN.{length, drop, get_or, drop_of_length-le}
use lib.Seq.{drop-cons}
use Rattle.ecc.specs.declared.Code.{Code}
use Rattle.ecc.specs.Code.{code_from, code_of, contribution, ◌⊕◌}
use Rattle.ecc.specs.Parities.{code_in}

-- the code by `sums` and the bytes from index i on
abbrev pub left : List ℕ → ℕ → ℕ → Code
left l i sums = code_from i (drop i l) (code_in sums)

pub first : (l : List ℕ) → left l 0 0x7F77 ≡ code_of l
unfolding code_of
first l = refl

pub next : (l : List ℕ) (i sums more : ℕ) → i < length l → code_in more ≡ code_in sums ⊕ contribution i (get_or l i 0) → left l (i + 1) more ≡ left l i sums
next l i sums more h e = rw (add-one i, drop-cons l i 0 h, e)

pub last : (l : List ℕ) (i sums : ℕ) → length l ≤ i → code_in sums ≡ left l i sums
last l i sums h = rw (drop_of_length-le l {i = i} h)
