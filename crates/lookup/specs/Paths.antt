-- What is asked at a path (RULES, "Refusal numbers, in order"): the check first, then 8, then 9 and 10 as met from the left.
use Rattle.std.specs.Prelude.{ℕ, suc, zero, List}
use Rattle.std.proofs.Math.Option.{Option, none, some}
use Rattle.page.specs.declared.Format.{Format}
use Rattle.fields.specs.PathBytes.{path_of}
use Rattle.layout.specs.See.{check_image}
use Rattle.layout.specs.declared.Superblock.{Superblock}
use Rattle.model.specs.Check.{Result, and_then, fault, ok}
use Rattle.model.specs.Lookup.{look_up, tell}
use Rattle.model.specs.Names.{Path}
use Rattle.model.specs.Refusal.{way}
use Rattle.model.specs.Tree.{Root, Slot, Tree}

module _ {A : Type 0} where
  -- a refusal's number, 0 being none
  abbrev pub refusing : ℕ → Result A → Result A
  refusing zero rest = rest
  refusing (suc n) rest = fault (suc n) 0

  -- Names are looked up from the left: 9 where one on the way is absent, 10 where a file stands there. An absent last name is 9.
  unfoldable pub at_path : Root → Path → (Slot → Tree → Result A) → Result A
  at_path root path ask = refusing (way (look_up root) path) (tell ask (fault 9 0) (look_up root path))

  -- bytes that are no path are 8
  abbrev pub with_path : Option Path → (Path → Result A) → Result A
  with_path none ask = fault 8 0
  with_path (some path) ask = ask path

  -- a whole call: the check (1 to 7), the path (8), then what is asked of the tree
  unfoldable pub on_card : Format → List ℕ → List ℕ → (Superblock → Root → Path → Result A) → Result A
  on_card format image bytes ask = and_then (check_image format image) (λ x. with_path (path_of bytes) (ask x.0 x.1))

-- what a call finds: the card's superblock, and what stands at the path
abbrev pub stands_there : Superblock → Slot → Tree → Result (Superblock × Slot × Tree)
stands_there s h inside = ok (s, h, inside)

abbrev pub found_at : Superblock → Root → Path → Result (Superblock × Slot × Tree)
found_at s root path = at_path root path (stands_there s)

abbrev pub standing_of : Format → List ℕ → List ℕ → Result (Superblock × Slot × Tree)
standing_of format image bytes = on_card format image bytes found_at
