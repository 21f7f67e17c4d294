-- The rule on the bad block list, judged word by word; it is the rule on each of them.
use Rattle.std.proofs.Common.{◌≡◌, ℕ, ◌+◌, ◌<◌, ◌≤◌, true, false, List, [], ◌∷◌, length, get_or, drop, refl, add-one, drop_of_length-le, drop-cons}
use Rattle.std.specs.List.{list_all}
use Rattle.layout.specs.Superblock.{good_bad_block, good_bad_blocks}

module _ (n : ℕ) (bad : List ℕ) (i : ℕ) where
  pub list-stop : i < length bad → good_bad_block n (get_or bad i 0) ≡ false → good_bad_blocks n (drop i bad) ≡ false
  list-stop h e = rw (drop-cons bad i 0 h, e)

  pub list-more : i < length bad → good_bad_block n (get_or bad i 0) ≡ true → good_bad_blocks n (drop i bad) ≡ good_bad_blocks n (drop (i + 1) bad)
  list-more h e = rw (drop-cons bad i 0 h, e, add-one i)

  pub list_done : length bad ≤ i → good_bad_blocks n (drop i bad) ≡ true
  list_done h = rw (drop_of_length-le bad {i = i} h)

pub all-blocks : (n : ℕ) (bad : List ℕ) → list_all (good_bad_block n) bad ≡ good_bad_blocks n bad
all-blocks n [] = refl
all-blocks n (b ∷ bad) = rw (all-blocks n bad)
