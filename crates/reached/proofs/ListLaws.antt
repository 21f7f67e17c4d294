-- The bad block list, gone over word by word, and whole.
use Prim.Native.Nat.{◌+◌, ◌<◌, ◌≤◌, suc, ℕ}
use mathlib.Core.Bool.{Bool, ◌||◌, false, true}
use mathlib.Core.List.{List, [], ◌∷◌}
use mathlib.Core.Path.{◌≡◌, refl}
use native.Mathlib.Numerals.{add-one}
use lib.Dec.{eqb}
use lib.ListN.{drop, drop_of_length-le, get_or, length}
use lib.Seq.{drop-cons}
use Rattle.std.specs.List.{list_any}
use Rattle.model.specs.Counts.{is_listed}

module _ (bad : List ℕ) (block i : ℕ) (listed : Bool) where
  pub listed_more : i < length bad → (listed || is_listed (drop i bad) block) ≡ ((listed || eqb (get_or bad i 0) block) || is_listed (drop (i + 1) bad) block)
  listed_more h = rw (drop-cons bad i 0 h, add-one i) (go listed)
    where
      go : (x : Bool) → (x || (eqb (get_or bad i 0) block || is_listed (drop (suc i) bad) block)) ≡ ((x || eqb (get_or bad i 0) block) || is_listed (drop (suc i) bad) block)
      go true = refl
      go false = refl

  pub listed-all : length bad ≤ i → (listed || is_listed (drop i bad) block) ≡ listed
  listed-all h = rw (drop_of_length-le bad {i = i} h) (go listed)
    where
      go : (x : Bool) → (x || false) ≡ x
      go true = refl
      go false = refl

pub any-listed : (bad : List ℕ) (block : ℕ) → list_any (λ b. eqb b block) bad ≡ is_listed bad block
any-listed [] block = refl
any-listed (b ∷ bad) block = rw (any-listed bad block)
