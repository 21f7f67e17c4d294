-- The image that an accepted change leaves (RULES, "Changes"): the pages of the new clusters, of the directory's entry and of
-- the change's own, then the table's pages. A page's data as read is compared where a page is not written in any case.
use Rattle.std.specs.Prelude.{ℕ, zero, suc, ◌+◌, ◌-◌, ◌*◌, ◌<◌, min, false, List, [], ◌∷◌, ◌≡◌, get_or, length}
use Rattle.std.proofs.Math.Option.{Option, none, some}
use Rattle.std.proofs.lemmas.List.Edits.{sets}
use Rattle.page.specs.declared.Format.{Format}
use Rattle.page.specs.Page.{page_at, put}
use Rattle.model.specs.Bytes.{little_bytes}
use Rattle.model.specs.Plan.{Plan}
use Rattle.model.specs.Writes.{PageWrite, page_writes, words_after}
use Rattle.layout.specs.declared.Superblock.{Superblock}
use Rattle.layout.specs.declared.Geometry.{Geometry}
use Rattle.layout.specs.See.{image_page, see}
use Rattle.layout.specs.Table.{names_of, table_clusters, table_of, table_page}

-- pages of the allocatable clusters, written in turn
abbrev pub write_pages : Geometry → List PageWrite → List ℕ → List ℕ
write_pages geometry [] image = image
write_pages geometry (w ∷ ws) image = write_pages geometry ws (put geometry.format w.always (image_page geometry w.page) w.bytes image)

-- each a write of 512 bytes to a page of the allocatable clusters
abbrev pub Lands : ℕ → List PageWrite → Type 0
Lands end [] = Unit {0}
Lands end (w ∷ ws) = (w.page < 2 * end) × (length w.bytes ≡ 512) × Lands end ws

-- A page of the table in which `count` words from its first on are those of the clusters from `first` on; its other bytes stay.
unfoldable pub with_words : (ℕ → ℕ) → ℕ → ℕ → List ℕ → List ℕ
with_words words first zero page = page
with_words words first (suc count) page = sets (with_words words first count page) (4 * count) (little_bytes 4 (words (first + count)))

-- 128 words to a page; words from alloc_end on belong to no cluster and stay
abbrev pub words_in : ℕ → ℕ → ℕ
words_in end t = min 128 (end - 128 * t)

-- a page whose data, as read, is changed; an unreadable page stays, and an open card's table has none
abbrev pub altered_by : Format → ℕ → (List ℕ → List ℕ) → List ℕ → Option (List ℕ) → List ℕ
altered_by format p f image none = image
altered_by format p f image (some page) = put format false p (f page) image

unfoldable pub alter_page : Format → ℕ → (List ℕ → List ℕ) → List ℕ → List ℕ
alter_page format p f image = altered_by format p f image (page_at format image p)

-- the first k pages of the table, each rewritten where its data changes
unfoldable pub store_table : Format → List ℕ → ℕ → (ℕ → ℕ) → ℕ → List ℕ → List ℕ
store_table format names end words zero image = image
store_table format names end words (suc t) image =
    alter_page format (table_page names t) (with_words words (128 * t) (words_in end t)) (store_table format names end words t image)

unfoldable pub image_after : Superblock → List ℕ → Plan → List ℕ
image_after s image plan =
    store_table s.geometry.format (names_of image s) s.end (words_after plan (λ c. get_or (table_of image s) c 0)) (2 * table_clusters s.end)
    (write_pages s.geometry (page_writes (see s image) plan) image)
