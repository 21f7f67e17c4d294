-- Bytes put one after the other, and that they are a part of the list written over, as far as the list goes.
use Prim.Native.Nat.{◌+◌, ◌-◌, ◌<◌, ◌≤◌, min, suc, zero, ℕ}
use mathlib.Core.List.{List, [], ◌∷◌}
use mathlib.Core.Path.{◌∙◌, ◌≡◌, ap, refl, sym}
use native.Mathlib.Numerals.{add-one}
use native.Mathlib.Omega.{arith}
use borrow.Rule.Slice.PartMut.{put_mid}
use lib.ListN.{drop, drop_of_length-le, get_or, length, length-set, set, take}
use lib.Seq.{drop-cons, drop-drop, length-take-le, set_out, sets, take-nil}
use Rattle.std.proofs.Common.{append_assoc}
use Rattle.std.proofs.lemmas.List.Edits.{sets-eq}

-- one law for each way of a turn
pub puts-more : (l : List ℕ) (at : ℕ) (f : List ℕ) (i : ℕ) → i < length f → sets l (at + i) (drop i f) ≡ sets (set l (at + i) (get_or f i 0)) (at + (i + 1)) (drop (i + 1) f)
puts-more l at f i h =
    let next : at + (i + 1) ≡ suc (at + i) = omega arith in
    rw (drop-cons f i 0 h, next, add-one i)

pub puts-done : (l : List ℕ) (at : ℕ) (f : List ℕ) (i : ℕ) → i ≡ length f → sets l (at + i) (drop i f) ≡ l
puts-done l at f i h = rw (drop_of_length-le f {i = i} (omega arith))

-- past the end nothing is put
pub puts-past : (l : List ℕ) (at : ℕ) (f : List ℕ) → length l ≤ at → sets l at f ≡ l
puts-past l at [] h = refl
puts-past l at (b ∷ f) h = rw (set_out l at b h) (puts-past l (suc at) f (omega arith))

puts-fitting : (l : List ℕ) (at : ℕ) (f : List ℕ) (count : ℕ) → count ≡ min (length f) (length l - at) → sets l at (take count f) ≡ sets l at f
puts-fitting l at [] count e = rw (take-nil {A = ℕ} count)
puts-fitting l at (b ∷ f) zero e = sym (puts-past l at (b ∷ f) (omega arith))
puts-fitting l at (b ∷ f) (suc count) e = puts-fitting (set l at b) (suc at) f count (omega (arith, length-set l at b))

pub puts-part : (l : List ℕ) (at count : ℕ) (f part : List ℕ) → at < length l → count ≡ min (length f) (length l - at) → part ≡ take count f → put_mid at (at + count - at) l part ≡ sets l at f
puts-part l at count f part h e k =
    let size : length (take count f) ≡ count = length-take-le count f (omega arith) in
    let span : at + count - at ≡ count = omega arith in
    let rest : drop count (drop at l) ≡ drop (at + length (take count f)) l = drop-drop count at l ∙ ap (λ n. drop (at + n) l) (sym size) in
    rw (k, span, rest, ← append_assoc) (sym (sets-eq (take count f) l at (omega arith)) ∙ puts-fitting l at f count e)
