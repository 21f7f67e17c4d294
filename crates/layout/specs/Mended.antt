-- How many chunks were corrected in the pages that the check of an image needs, each page once (request 11 of document 02).
use Rattle.std.specs.Prelude.{◌≡◌, ℕ, ◌+◌, List, Result as Returned, Ok, Err}
use Rattle.page.specs.declared.Format.{Format}
use Rattle.page.specs.Mended.{mended_chunks, wrapped}
use Rattle.model.specs.Check.{Marks, Result, fault, ok}
use Rattle.model.specs.Needed.{total_over}
use Rattle.model.specs.Tree.{Root}
use Rattle.layout.specs.declared.Opened.{Opened}
use Rattle.layout.specs.declared.Refusal.{Refusal}
use Rattle.layout.specs.declared.Superblock.{Superblock}
use Rattle.layout.specs.Needed.{needed_pages, opening_pages}
use Rattle.layout.specs.See.{check_image}

-- the corrected chunks of these pages
abbrev pub mended_over : Format → List ℕ → List ℕ → ℕ
mended_over format image pages = total_over (mended_chunks format image) pages

-- of a card by its superblock and its tree
abbrev pub mended_in : List ℕ → Superblock → Root → ℕ
mended_in image s root = mended_over s.geometry.format image (needed_pages image s root)

-- Of an image that the check accepts; a refused one has none.
abbrev pub mended_by : List ℕ → Result (Superblock × Root × Marks) → ℕ
mended_by image (fault n p) = 0
mended_by image (ok x) = mended_in image x.0 x.1

unfoldable pub mended_of : Format → List ℕ → ℕ
mended_of format image = mended_by image (check_image format image)

-- ---- as the code counts

-- of the pages that opening a card needs
abbrev pub opening_mended : Format → List ℕ → Result Superblock → ℕ
opening_mended format image (fault n p) = 0
opening_mended format image (ok s) = mended_over format image (opening_pages image s)

-- as a card that is open tells it; a refusal tells none
abbrev pub mended_told : Returned Opened Refusal → ℕ
mended_told (Ok o) = o.mended
mended_told (Err r) = 0

-- Where a part of a card is sound, the corrected chunks of its pages were added to the count.
abbrev pub Adds : Returned (Unit {0}) Refusal → ℕ → ℕ → ℕ → Type 0
Adds (Ok u) before total after = wrapped after ≡ wrapped (before + total)
Adds (Err r) before total after = Unit {0}
