-- Which chunks of a page were corrected as it was read (request 11 of document 02).
use Rattle.std.specs.Prelude.{ℕ, ◌%◌, ◌^◌, Bool, true, false, cond, List, Option, Some, None}
use Rattle.ecc.specs.declared.Four.{Four}
use Rattle.ecc.specs.declared.Verdict.{Verdict}
use Rattle.ecc.specs.declared.Verdict.TheVariants.{Good, DataBit, CodeBit, Unreadable}
use Rattle.ecc.specs.Four.{count_of}
use Rattle.page.specs.declared.Format.{Format}
use Rattle.page.specs.declared.Format.TheVariants.{Plain, Raw}
use Rattle.page.specs.Page.{is_inside, is_some, read_raw, stored_page, verdict_of}

-- A chunk is corrected where one of its data bits or one of its code bits had to flip.
abbrev pub is_mended : Verdict → Bool
is_mended Good = false
is_mended (DataBit byte bit) = true
is_mended CodeBit = true
is_mended Unreadable = false

-- No chunk was.
abbrev pub none_mended : Four Bool
none_mended = record { chunk0 = false; chunk1 = false; chunk2 = false; chunk3 = false }

-- Each of a raw page's four chunks by itself; of a page that is unreadable none was.
abbrev pub mended_by : Verdict → Verdict → Verdict → Verdict → Four Bool
mended_by v0 v1 v2 v3 = record { chunk0 = is_mended v0; chunk1 = is_mended v1; chunk2 = is_mended v2; chunk3 = is_mended v3 }

unfoldable pub mended_raw : List ℕ → Four Bool
mended_raw page =
    cond (is_some (read_raw page)) (mended_by (verdict_of page 0) (verdict_of page 1) (verdict_of page 2) (verdict_of page 3)) none_mended

-- A plain page has no code: nothing of it is corrected.
abbrev pub mended_stored : Format → List ℕ → Four Bool
mended_stored Raw page = mended_raw page
mended_stored Plain page = none_mended

-- Page p of an image; none where it is unreadable or the image does not hold it.
unfoldable pub mended_at : Format → List ℕ → ℕ → Four Bool
mended_at format image p = cond (is_inside format image p) (mended_stored format (stored_page format image p)) none_mended

-- The same by what a read tells: of a page with no data no chunk was.
abbrev pub mended_in : Option (Four Bool) → Four Bool
mended_in None = none_mended
mended_in (Some m) = m

-- how many chunks that is, 0 to 4
abbrev pub chunks_in : Four Bool → ℕ
chunks_in m = count_of m

unfoldable pub mended_chunks : Format → List ℕ → ℕ → ℕ
mended_chunks format image p = chunks_in (mended_at format image p)

-- a count as the code keeps it while it grows: 64 bits hold every whole one
abbrev pub wrapped : ℕ → ℕ
wrapped n = n % 2 ^ 64
