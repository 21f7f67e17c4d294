-- Reading copies bytes from the offset until the file or the buffer ends (RULES, "Changes"). Data pages are read only where they have
-- a byte to copy; number 2 for the first of them comes last.
use Rattle.std.specs.Prelude.{ℕ, ◌%◌, ◌+◌, ◌-◌, ◌/◌, cond, List, [], ◌++◌, ◌∷◌, eqb, leb, drop, take}
use Rattle.std.proofs.Math.Option.{Option, none, some}
use Rattle.page.specs.declared.Format.{Format}
use Rattle.layout.specs.See.{on_image}
use Rattle.model.specs.Bytes.{slice}
use Rattle.model.specs.Check.{Result, and_then, fault, ok}
use Rattle.model.specs.Names.{Path}
use Rattle.model.specs.Tree.{Root, Slot, Tree}
use Rattle.model.specs.View.{pages_of}
use Rattle.lookup.specs.Paths.{at_path, on_card}

-- how many bytes there are to copy: what is left of the file, at most what the buffer holds
abbrev pub bytes_to_copy : ℕ → ℕ → ℕ → ℕ
bytes_to_copy size offset count = cond (leb count (size - offset)) count (size - offset)

module _ {A : Type 0} where
  -- of a file's pages those with one of the `count` bytes from the offset on, 512 bytes to a page
  unfoldable pub pages_with : ℕ → ℕ → List A → List A
  pages_with offset count pages = cond (eqb count 0) [] (drop (offset / 512) (take ((offset + count + 511) / 512) pages))

-- the data of pages, one after the other: 2 for the first unreadable one
unfoldable pub data_of_pages : List ℕ → List (Option (List ℕ)) → Result (List ℕ)
data_of_pages [] pages = ok []
data_of_pages (p ∷ ps) [] = ok []
data_of_pages (p ∷ ps) (none ∷ pages) = fault 2 p
data_of_pages (p ∷ ps) (some bytes ∷ pages) = and_then (data_of_pages ps pages) (λ rest. ok (bytes ++ rest))

abbrev pub bytes_from : ℕ → ℕ → List ℕ → List (Option (List ℕ)) → Result (List ℕ)
bytes_from offset count chain pages =
    and_then (data_of_pages (pages_with offset count (pages_of chain)) (pages_with offset count pages)) (λ bytes. ok (slice bytes (offset % 512) count))

-- reading a directory is 10; an offset beyond the file's length is 15
abbrev pub read_from : ℕ → ℕ → Slot → Tree → Result (List ℕ)
read_from offset count Slot.dead inside = fault 9 0
read_from offset count (Slot.file e chain pages) inside =
    cond (leb offset e.length) (bytes_from offset (bytes_to_copy e.length offset count) chain pages) (fault 15 0)
read_from offset count (Slot.directory e chain) inside = fault 10 0

abbrev pub read_in : Root → Path → ℕ → ℕ → Result (List ℕ)
read_in root path offset count = at_path root path (read_from offset count)

-- the page that goes with number 2 is the image's
abbrev pub read_of : Format → List ℕ → List ℕ → ℕ → ℕ → Result (List ℕ)
read_of format image bytes offset count = on_card format image bytes (λ s root path. on_image s.geometry (read_in root path offset count))
