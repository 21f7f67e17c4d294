-- The pages in which corrected chunks are counted, each once (request 11 of document 02).
use Rattle.std.specs.Prelude.{ℕ, ◌≤◌, List, ◌++◌, map, ◌≡◌}
use Rattle.std.proofs.Math.Option.{Option}
use Rattle.page.specs.declared.Format.{Format}
use Rattle.layout.specs.declared.Superblock.{Superblock}
use Rattle.layout.specs.Needed.{needed_pages}
use Rattle.layout.specs.See.{check_image, image_page}
use Rattle.lookup.specs.Mended.{read_pages}
use Rattle.model.specs.Check.{Marks, ok}
use Rattle.model.specs.Entry.{Entry}
use Rattle.model.specs.Lookup.{found, look_up}
use Rattle.model.specs.Names.{Path}
use Rattle.model.specs.Tree.{Root, Slot, Tree, times}

-- Of an accepted image: no page stands twice among those that the check needs; nor is one that a read of a file copies from among them or
-- copied from twice.
pub record PagesOnce (image : List ℕ) (s : Superblock) (root : Root) : Type 0 where
  pub needed : (p : ℕ) → times (needed_pages image s root) p ≤ 1
  pub read : (path : Path) (e : Entry) (chain : List ℕ) (pages : List (Option (List ℕ))) (inside : Tree) → look_up root path ≡ found (Slot.file e chain pages) inside
      → (offset count p : ℕ) → times (needed_pages image s root ++ map (image_page s.geometry) (read_pages offset count (Slot.file e chain pages) inside)) p ≤ 1

abbrev pub CountedOnce : Type 0
CountedOnce = (format : Format) (image : List ℕ) (s : Superblock) (root : Root) (m : Marks) → check_image format image ≡ ok (s, root, m) → PagesOnce image s root
