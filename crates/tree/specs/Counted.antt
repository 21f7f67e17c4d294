-- The check of an image (RULES, "Refusal numbers, in order"): refusals 1 to 7 in their order, or free, reached, orphaned
-- and held back, each by its own definition, and the chunks that were corrected.
use Rattle.std.specs.Prelude.{◌≡◌, ℕ, ◌+◌, List}
use Rattle.page.specs.declared.Format.{Format}
use Rattle.layout.specs.declared.Superblock.{Superblock}
use Rattle.layout.specs.Mended.{mended_in}
use Rattle.layout.specs.See.{check_image, see}
use Rattle.layout.specs.Superblock.{may_take_by}
use Rattle.model.specs.Check.{Marks, Result, and_then, fault, ok}
use Rattle.model.specs.Counts.{free_count, held_count, orphan_count, reached_count}
use Rattle.model.specs.Needed.{entry_pages_of, total_over}
use Rattle.model.specs.Tree.{Root}
use Rattle.model.specs.View.{View}
use Rattle.tree.specs.Mended.{mended_page}
use Rattle.tree.specs.declared.Counts.{Counts}

-- N, the counts over the allocatable clusters, and so many corrected chunks
abbrev pub counts_with : Superblock → View → Root → ℕ → Counts
counts_with s v root mended =
    record {
      clusters = s.clusters;
      free = free_count (may_take_by s) s.end v;
      reached = reached_count s.end root;
      orphaned = orphan_count s.end v root;
      held = held_count (may_take_by s) s.end v;
      mended = mended;
    }

-- of an image: its chunks that were corrected in the pages that the check needs
abbrev pub counts_in : List ℕ → Superblock → Root → Counts
counts_in image s root = counts_with s (see s image) root (mended_in image s root)

unfoldable pub check_of : Format → List ℕ → Result Counts
check_of format image = and_then (check_image format image) (λ x. ok (counts_in image x.0 x.1))

-- the count of corrected chunks, from so many on, with those of the tree's pages
abbrev pub with_tree : Superblock → List ℕ → ℕ → Root → ℕ
with_tree s image opening root = opening + total_over (mended_page s.geometry image) (entry_pages_of root)

-- ---- what holds of the counts

-- the superblock of a card that passes the check
abbrev pub superblock_in : Result (Superblock × Root × Marks) → Result Superblock
superblock_in (fault n p) = fault n p
superblock_in (ok x) = ok x.0

-- Free, reached, orphaned and held back clusters of an image that passes the check add up to its allocatable ones.
abbrev pub CountsAddUp : Type 0
CountsAddUp =
    (format : Format) (image : List ℕ) (s : Superblock) (c : Counts) → superblock_in (check_image format image) ≡ ok s → check_of format image ≡ ok c
    → c.free + c.reached + c.orphaned + c.held ≡ s.end
