-- The pages of an image that the check of a card needs (RULES, "Refusal numbers, in order"), as a list: by its superblock and its tree.
use Rattle.std.specs.Prelude.{ℕ, List, ◌∷◌, ◌++◌, map}
use Rattle.model.specs.Needed.{entry_pages_of}
use Rattle.model.specs.Tree.{Root}
use Rattle.model.specs.View.{pages_of}
use Rattle.layout.specs.declared.Superblock.{Superblock}
use Rattle.layout.specs.See.{image_page}
use Rattle.layout.specs.Table.{names_of}

-- page 0, both pages of the indirect cluster, both pages of each table cluster
abbrev pub opening_pages : List ℕ → Superblock → List ℕ
opening_pages image s = 0 ∷ pages_of (s.indirect ∷ names_of image s)

-- then every entry page of every directory
abbrev pub needed_pages : List ℕ → Superblock → Root → List ℕ
needed_pages image s root = opening_pages image s ++ map (image_page s.geometry) (entry_pages_of root)
