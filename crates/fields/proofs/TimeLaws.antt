-- The days table's two rows are the model's, and a month out of 1 to 12 makes no time.
use Prim.Native.Nat.{◌<◌, ℕ}
use mathlib.Core.Bool.{Bool, and-false, false, true}
use mathlib.Core.List.{List, [], ◌∷◌}
use mathlib.Core.Path.{◌≡◌, refl}
use native.Mathlib.Omega.{arith}
use borrow.Author.Tests.{lt-leb}
use lib.ListN.{get_or}
use mir.Val.{bool_byte}
use Rattle.model.specs.Time.{month_days, valid_time}

abbrev rows : List (List ℕ)
rows = (31 ∷ 28 ∷ 31 ∷ 30 ∷ 31 ∷ 30 ∷ 31 ∷ 31 ∷ 30 ∷ 31 ∷ 30 ∷ 31 ∷ []) ∷ (31 ∷ 29 ∷ 31 ∷ 30 ∷ 31 ∷ 30 ∷ 31 ∷ 31 ∷ 30 ∷ 31 ∷ 30 ∷ 31 ∷ []) ∷ []

pub row-days : (leap : Bool) (month : ℕ) → get_or (get_or rows (bool_byte leap) []) month 0 ≡ get_or (month_days leap) month 0
row-days true month = refl
row-days false month = refl

pub row_below : (leap : Bool) → bool_byte leap < 2
row_below true = omega arith
row_below false = omega arith

pub month-early : (t : List ℕ) → get_or t 5 0 < 1 → false ≡ valid_time t
unfolding valid_time
month-early t h = rw (lt-leb 1 (get_or t 5 0) h) (simp and-false)

pub month-late : (t : List ℕ) → 12 < get_or t 5 0 → false ≡ valid_time t
unfolding valid_time
month-late t h = rw (lt-leb (get_or t 5 0) 12 h) (simp and-false)
