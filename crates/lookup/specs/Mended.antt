-- What a call reports of the chunks that were corrected in the pages it needed, each page once (request 11 of document 02).
use Rattle.std.specs.Prelude.{ℕ, ◌+◌, ◌<◌, ◌^◌, List, [], map, ◌≡◌, Ok, Err}
use Rattle.std.specs.Prelude.{Result as Returned}
use Rattle.page.specs.declared.Format.{Format}
use Rattle.page.specs.Mended.{wrapped}
use Rattle.layout.specs.Mended.{mended_of, mended_over}
use Rattle.layout.specs.See.{image_page}
use Rattle.layout.specs.declared.Refusal.{Refusal}
use Rattle.model.specs.Check.{Result, fault, ok}
use Rattle.model.specs.Tree.{Slot, Tree}
use Rattle.model.specs.View.{pages_of}
use Rattle.lookup.specs.Paths.{at_path, on_card}
use Rattle.lookup.specs.Read.{bytes_to_copy, pages_with}

module _ {A : Type 0} where
  -- a lent count afterwards: the total of a call that is accepted; a refused one leaves it
  abbrev pub reported : Result A → ℕ → ℕ → ℕ
  reported (fault n p) total before = before
  reported (ok x) total before = total

-- ---- a read adds the data pages that it copies from: those with a byte to copy

abbrev pub read_pages : ℕ → ℕ → Slot → Tree → List ℕ
read_pages offset count Slot.dead inside = []
read_pages offset count (Slot.file e chain pages) inside = pages_with offset (bytes_to_copy e.length offset count) (pages_of chain)
read_pages offset count (Slot.directory e chain) inside = []

-- the corrected chunks of the image's pages that these are
abbrev pub read_data_of : Format → List ℕ → List ℕ → ℕ → ℕ → Result ℕ
read_data_of format image bytes offset count =
    on_card format image bytes (λ s root path. at_path root path (λ h inside.
    ok (mended_over s.geometry.format image (map (image_page s.geometry) (read_pages offset count h inside)))))

abbrev pub or_none : Result ℕ → ℕ
or_none (fault n p) = 0
or_none (ok chunks) = chunks

-- of the pages that the check needs, and of these
unfoldable pub read_mended : Format → List ℕ → List ℕ → ℕ → ℕ → ℕ
read_mended format image bytes offset count = mended_of format image + or_none (read_data_of format image bytes offset count)

-- ---- as the code counts

-- a read that is accepted added the chunks of its pages to the count, and they are few enough for 64 bits
abbrev pub ReadAdds : Returned ℕ Refusal → ℕ → ℕ → ℕ → Type 0
ReadAdds (Ok n) before total after = (wrapped after ≡ wrapped (before + total)) × (total < 2 ^ 40)
ReadAdds (Err f) before total after = Unit {0}
