-- What two images are compared by, as the check gives it: the tree, the free count and the held back one.
use Rattle.std.specs.Prelude.{ℕ, List}
use Rattle.std.proofs.Math.Option.{Option, none}
use Rattle.page.specs.declared.Format.{Format}
use Rattle.layout.specs.declared.Superblock.{Superblock}
use Rattle.layout.specs.See.{check_image}
use Rattle.model.specs.Check.{Marks, Result, fault, ok}
use Rattle.model.specs.Names.{Path}
use Rattle.model.specs.Standing.{Standing, stands_at}
use Rattle.model.specs.Tree.{Root}
use Rattle.tree.specs.Counted.{check_of}
use Rattle.tree.specs.declared.Counts.{Counts}

-- What stands at a path: kind, mode, attribute, both times and file bytes; nothing where the check refuses the image.
abbrev pub standing_in : Result (Superblock × Root × Marks) → Path → Option Standing
standing_in (fault n p) q = none
standing_in (ok x) q = stands_at x.1 q

unfoldable pub tree_in : Format → List ℕ → Path → Option Standing
tree_in format image q = standing_in (check_image format image) q

-- a count of an image; 0 where the check refuses it
abbrev pub count_by : (Counts → ℕ) → Result Counts → ℕ
count_by count (fault n p) = 0
count_by count (ok c) = count c

-- how many free table words there are whose clusters may be taken, and how many whose clusters may not
unfoldable pub free_in : Format → List ℕ → ℕ
free_in format image = count_by (λ c. c.free) (check_of format image)

unfoldable pub held_in : Format → List ℕ → ℕ
held_in format image = count_by (λ c. c.held) (check_of format image)
