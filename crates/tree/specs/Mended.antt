-- The corrected chunks of a page of the allocatable clusters, and the count that grows by them.
use Rattle.std.specs.Prelude.{ℕ, ◌+◌, List}
use Rattle.std.proofs.Math.Option.{Option, none, some}
use Rattle.page.specs.Mended.{mended_chunks, wrapped}
use Rattle.layout.specs.declared.Geometry.{Geometry}
use Rattle.layout.specs.See.{image_page}

-- how many chunks of a page were corrected
abbrev pub mended_page : Geometry → List ℕ → ℕ → ℕ
mended_page geometry image p = mended_chunks geometry.format image (image_page geometry p)

-- a count after a page was asked for: where it was read its chunks are added
abbrev pub count_after : Option (List ℕ) → ℕ → ℕ → ℕ
count_after none chunks before = before
count_after (some page) chunks before = wrapped (before + chunks)
