-- An image that the check accepts: the bench card (RULES, "Numbers to meet") with N 56, alloc_offset 10, alloc_end 30, indirect cluster 8,
-- table cluster 9, backup blocks 6 and 5, and only a root of length 2. Its bytes are those of the card that `figures` runs on.
use Rattle.std.specs.Prelude.{ℕ, ◌*◌, List, [], ◌∷◌, ◌++◌, ◌≡◌, length, replicate}
use Rattle.page.specs.declared.Format.{Format}
use Rattle.change.specs.Changed.{changed}
use Rattle.layout.specs.Superblock.{format_text, version_text}
use Rattle.model.specs.Bench.{bench_time, bytes, path_a}
use Rattle.model.specs.Bytes.{little_bytes}
use Rattle.model.specs.Change.{create, directory_mode}
use Rattle.model.specs.Check.{fault, ok}
use Rattle.model.specs.Entry.{Entry}
use Rattle.model.specs.Names.{Name, dot_dot_name, dot_name}
use Rattle.model.specs.Pages.{Field, fill, new_page, zero_page}
use Rattle.model.specs.Plan.{new_entry}
use Rattle.page.specs.Page.{cluster_bytes, written}
use Rattle.tree.specs.Counted.{check_of}

-- ---- its pages

-- bytes at a place, and words one after the other
abbrev pub field : ℕ → List ℕ → Field
field from bytes = record { from = from; count = length bytes; bytes = bytes }

abbrev pub word_bytes : List ℕ → List ℕ
word_bytes [] = []
word_bytes (w ∷ ws) = little_bytes 4 w ++ word_bytes ws

-- The superblock. 0x2E, 0x150 and 0x151 are as on a card of source 001 and not judged; 0xD0 to 0x14F are ones: no bad block.
unfoldable pub bench_superblock : List ℕ
bench_superblock =
    fill zero_page
    (field 0x00 format_text
    ∷ field 0x1C (version_text 0x32)
    ∷ field 0x28 (little_bytes 2 512)
    ∷ field 0x2A (little_bytes 2 2)
    ∷ field 0x2C (little_bytes 2 16)
    ∷ field 0x2E (little_bytes 2 0xFF00)
    ∷ field 0x30 (little_bytes 4 56)
    ∷ field 0x34 (little_bytes 4 10)
    ∷ field 0x38 (little_bytes 4 30)
    ∷ field 0x40 (little_bytes 4 6)
    ∷ field 0x44 (little_bytes 4 5)
    ∷ field 0x50 (little_bytes 4 8)
    ∷ field 0xD0 (replicate 128 0xFF)
    ∷ field 0x150 (2 ∷ 0x52 ∷ [])
    ∷ [])

-- The indirect cluster names table cluster 9; words that name none are ones.
unfoldable pub bench_names : List ℕ
bench_names = word_bytes (9 ∷ replicate 127 0xFFFFFFFF)

-- The root ends at cluster 0 and the other 29 clusters are free; words from alloc_end on are ones.
unfoldable pub bench_table : List ℕ
bench_table = word_bytes (0xFFFFFFFF ∷ replicate 29 0x7FFFFFFF ++ replicate 98 0xFFFFFFFF)

unfoldable pub ones_page : List ℕ
ones_page = replicate 512 0xFF

-- `.` with the root's length, and `..`
abbrev pub bench_dot : ℕ → Name → Entry
bench_dot length n = new_entry directory_mode length 0 0 bench_time n

-- ---- the image

-- A card as it is erased: every byte is ones, which in a raw image are also the code of a chunk of ones.
unfoldable pub erased : Format → ℕ → List ℕ
erased format clusters = replicate (cluster_bytes format * clusters) 0xFF

-- pages with their data, written in turn
abbrev pub write_all : Format → List (ℕ × List ℕ) → List ℕ → List ℕ
write_all format [] image = image
write_all format (w ∷ ws) image = write_all format ws (written format image w.0 w.1)

unfoldable pub bench_pages : List (ℕ × List ℕ)
bench_pages =
    (0, bench_superblock)
    ∷ (16, bench_names)
    ∷ (17, ones_page)
    ∷ (18, bench_table)
    ∷ (19, ones_page)
    ∷ (20, new_page (bench_dot 2 dot_name))
    ∷ (21, new_page (bench_dot 0 dot_dot_name))
    ∷ []

unfoldable pub bench_image : Format → List ℕ
bench_image format = write_all format bench_pages (erased format 56)

-- In both formats the check accepts it, with the counts to meet; a file that fills the card is accepted, and one byte more is 12.
pub record AcceptedIn (format : Format) : Type 0 where
  pub counts : check_of format (bench_image format) ≡ ok (record { clusters = 56; free = 29; reached = 1; orphaned = 0; held = 0; mended = 0 })
  pub full : (changed format (create path_a bench_time (bytes 28672)) (bench_image format)).answer ≡ ok tt
  pub too_much : (changed format (create path_a bench_time (bytes 28673)) (bench_image format)).answer ≡ fault 12 0

abbrev pub BenchAccepted : Type 0
BenchAccepted = (format : Format) → AcceptedIn format
