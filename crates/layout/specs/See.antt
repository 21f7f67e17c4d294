-- The view of an image: the one place where bytes and the model meet.
use Rattle.std.specs.Prelude.{ℕ, ◌+◌, ◌*◌, cond, List, length, ◌==◌, nat_lt, slice_index}
use Rattle.std.proofs.Math.Option.{Option, none}
use Rattle.page.specs.declared.Format.{Format}
use Rattle.page.specs.Page.{page_at}
use Rattle.model.specs.Check.{Result, fault, ok, and_then, check_tree, Marks}
use Rattle.model.specs.Pages.{decoded}
use Rattle.model.specs.Tree.{Root}
use Rattle.model.specs.View.{View}
use Rattle.model.specs.Writes.{links_of}
use Rattle.layout.specs.declared.Geometry.{Geometry}
use Rattle.layout.specs.declared.Superblock.{Superblock}
use Rattle.layout.specs.Table.{open_card, table_of}

-- The image's page that is page `a` of the allocatable clusters: they begin at cluster alloc_offset, two pages to a cluster.
abbrev pub image_page : Geometry → ℕ → ℕ
image_page geometry a = 2 * geometry.offset + a

-- a page of the allocatable clusters, which are `count` many
unfoldable pub page_in : Geometry → ℕ → List ℕ → ℕ → Option (List ℕ)
page_in geometry count image a = cond (nat_lt a (2 * count)) (page_at geometry.format image (image_page geometry a)) none

-- The view by where the pages lie and the table's words: an entry is what its page says, a link what its word says.
abbrev pub view_by : Geometry → List ℕ → List ℕ → View
view_by geometry table image =
    record {
      page = page_in geometry (length table) image;
      entry = λ a. decoded (page_in geometry (length table) image a);
      link = links_of (length table) (λ c. slice_index table c);
    }

abbrev pub see : Superblock → List ℕ → View
see s image = view_by s.geometry (table_of image s) image

module _ {A : Type 0} where
  -- a fault of the view, with the image's page number
  abbrev pub on_image : Geometry → Result A → Result A
  on_image geometry (fault n p) = fault n (cond (n == 2) (image_page geometry p) p)
  on_image geometry (ok a) = ok a

-- The whole check of an image: refusals 1 to 7 in order; the superblock, the tree and what was reached.
abbrev pub checked_by : List ℕ → Superblock → Result (Superblock × Root × Marks)
checked_by image s = and_then (on_image s.geometry (check_tree (see s image))) (λ x. ok (s, x.0, x.1))

unfoldable pub check_image : Format → List ℕ → Result (Superblock × Root × Marks)
check_image format image = and_then (open_card format image) (checked_by image)
