-- What is claimed of the code, as statements; the functions of src/claims.rt have them as contracts.
use Rattle.std.specs.Prelude.{◌≡◌, List, ℕ, ◌≤◌, T, length}
use Rattle.ecc.specs.declared.Code.{Code}
use Rattle.ecc.specs.declared.Verdict.TheVariants.{Unreadable}
use Rattle.ecc.specs.Code.{code_of}
use Rattle.ecc.specs.Judge.{counted, matches, judge, corrected}
use Rattle.ecc.specs.Flip.{Flip, Counts, flipped_data, flipped_code, flip_verdict}

-- A chunk of 128 bytes beside a stored code whose 20 bits match; the ignored bits may be anything.
pub record RightlyCoded (chunk : List ℕ) (stored : Code) : Type 0 where
  pub size : length chunk ≡ 128
  pub right : T (matches chunk stored)

-- Bits 3 and 7 of byte 0 and bit 7 of bytes 1 and 2 are written as zero: a chunk's code has no bits but those that count.
abbrev pub IgnoredBitsZero : Type 0
IgnoredBitsZero = (chunk : List ℕ) → length chunk ≤ 128 → counted (code_of chunk) ≡ code_of chunk

-- ---- one flipped bit

-- The verdict tells the flip, and the corrected data are those before it.
pub record FlipFound (chunk : List ℕ) (stored : Code) (flip : Flip) : Type 0 where
  pub told : judge (flipped_data flip chunk) (flipped_code flip stored) ≡ flip_verdict flip
  pub restored : corrected (judge (flipped_data flip chunk) (flipped_code flip stored)) (flipped_data flip chunk) ≡ chunk

-- One flipped bit of a rightly coded chunk, in the data or in the code, is found and put right.
abbrev pub OneFlipFound : Type 0
OneFlipFound = (chunk : List ℕ) (stored : Code) (flip : Flip) → RightlyCoded chunk stored → Counts flip → FlipFound chunk stored flip

-- Of all 1,044 single flips of any chunk and stored code at most one makes the code match.
abbrev pub OneFlipUnique : Type 0
OneFlipUnique =
    (chunk : List ℕ) (stored : Code) (one other : Flip) → length chunk ≡ 128 → Counts one → Counts other
    → T (matches (flipped_data one chunk) (flipped_code one stored)) → T (matches (flipped_data other chunk) (flipped_code other stored)) → one ≡ other

-- ---- two flipped bits

-- A rightly coded chunk in which two different bits that count flip, each in the data or in the code, is unreadable.
abbrev pub TwoFlipsUnreadable : Type 0
TwoFlipsUnreadable =
    (chunk : List ℕ) (stored : Code) (one other : Flip) → RightlyCoded chunk stored → Counts one → Counts other → (one ≡ other → ⊥)
    → judge (flipped_data other (flipped_data one chunk)) (flipped_code other (flipped_code one stored)) ≡ Unreadable
