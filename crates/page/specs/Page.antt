-- Pages of a card image and their code (RULES, "Pages and their code"). Each rule speaks of one page; only `pages_in`,
-- `page_at` and `put` know how an image of each format keeps it. No crate above opens them: it goes by PageLaws.
use Rattle.std.specs.Prelude.{◌≡◌, ℕ, ◌+◌, ◌*◌, ◌/◌, Bool, true, false, cond, not, ◌&&◌, ◌||◌, List, [], ◌∷◌, ◌++◌, length, take, drop, ◌==◌, nat_lt, slice_index}
use Rattle.std.proofs.Math.Option.{Option, none, some}
use Rattle.ecc.specs.declared.Code.{Code}
use Rattle.ecc.specs.declared.Four.{Four}
use Rattle.ecc.specs.declared.Verdict.{Verdict}
use Rattle.ecc.specs.declared.Verdict.TheVariants.{Good, DataBit, CodeBit, Unreadable}
use Rattle.ecc.specs.Code.{code_of}
use Rattle.ecc.specs.Judge.{judge, corrected, Placed}
use Rattle.page.specs.declared.Format.{Format}
use Rattle.page.specs.declared.Format.TheVariants.{Plain, Raw}

-- `count` elements of a list, from index `from` on
abbrev pub part : List ℕ → ℕ → ℕ → List ℕ
part list from count = take count (drop from list)

-- a list with `bytes` in the place of what stands from index `from` on
abbrev pub put_at : List ℕ → ℕ → List ℕ → List ℕ
put_at list from bytes = take from list ++ (bytes ++ drop (from + length bytes) list)

-- ---- where a page lies

-- A page is 512 data bytes, in a raw image with 16 spare bytes after them, in a plain one with none. Two pages make a cluster.
abbrev pub page_bytes : Format → ℕ
page_bytes Raw = 528
page_bytes Plain = 512

abbrev pub cluster_bytes : Format → ℕ
cluster_bytes Raw = 1056
cluster_bytes Plain = 1024

-- how many pages that many bytes hold whole
unfoldable pub pages_in : Format → ℕ → ℕ
pages_in format bytes = bytes / page_bytes format

-- pages lie one after the other, from the image's first byte on
unfoldable pub page_start : Format → ℕ → ℕ
page_start format p = page_bytes format * p

-- the bytes that the image keeps of page p
abbrev pub stored_page : Format → List ℕ → ℕ → List ℕ
stored_page format image p = part image (page_start format p) (page_bytes format)

-- the image holds page p whole
abbrev pub is_inside : Format → List ℕ → ℕ → Bool
is_inside format image p = nat_lt p (pages_in format (length image))

-- ---- a raw page that is read

-- Chunk k of a raw page, or of a page's data: the data bytes 128k to 128k+127.
abbrev pub chunk_of : List ℕ → ℕ → List ℕ
chunk_of page k = part page (128 * k) 128

-- Spare bytes 3k to 3k+2 hold the code of chunk k.
abbrev pub stored_code : List ℕ → ℕ → Code
stored_code page k =
    record { byte0 = slice_index page (512 + 3 * k); byte1 = slice_index page (512 + 3 * k + 1); byte2 = slice_index page (512 + 3 * k + 2) }

-- Each of the four chunks is judged by itself.
unfoldable pub verdict_of : List ℕ → ℕ → Verdict
verdict_of page k = judge (chunk_of page k) (stored_code page k)

abbrev pub verdicts_of : List ℕ → Four Verdict
verdicts_of page = record { chunk0 = verdict_of page 0; chunk1 = verdict_of page 1; chunk2 = verdict_of page 2; chunk3 = verdict_of page 3 }

-- A chunk is good, corrected, or unreadable.
abbrev pub is_readable : Verdict → Bool
is_readable Good = true
is_readable (DataBit byte bit) = true
is_readable CodeBit = true
is_readable Unreadable = false

-- All four chunks are.
abbrev pub all_readable : Verdict → Verdict → Verdict → Verdict → Bool
all_readable v0 v1 v2 v3 = is_readable v0 && (is_readable v1 && (is_readable v2 && is_readable v3))

-- the place that each verdict names lies in its chunk
abbrev pub AllPlaced : Four Verdict → Type 0
AllPlaced verdicts = Placed verdicts.chunk0 × Placed verdicts.chunk1 × Placed verdicts.chunk2 × Placed verdicts.chunk3

-- the data of a raw page, each chunk as its verdict corrects it
unfoldable pub corrected_data : List ℕ → Verdict → Verdict → Verdict → Verdict → List ℕ
corrected_data page v0 v1 v2 v3 =
    corrected v0 (chunk_of page 0) ++ (corrected v1 (chunk_of page 1) ++ (corrected v2 (chunk_of page 2) ++ corrected v3 (chunk_of page 3)))

-- A page with an unreadable chunk is unreadable. Spare bytes 12 to 15 are ignored.
abbrev pub data_by : List ℕ → Verdict → Verdict → Verdict → Verdict → Option (List ℕ)
data_by page v0 v1 v2 v3 = cond (all_readable v0 v1 v2 v3) (some (corrected_data page v0 v1 v2 v3)) none

unfoldable pub read_raw : List ℕ → Option (List ℕ)
read_raw page = data_by page (verdict_of page 0) (verdict_of page 1) (verdict_of page 2) (verdict_of page 3)

-- ---- a page that is read

-- A plain page is its data: none is unreadable.
abbrev pub read_stored : Format → List ℕ → Option (List ℕ)
read_stored Raw page = read_raw page
read_stored Plain page = some page

-- The data of page p as read; none where it is unreadable or the image does not hold it.
unfoldable pub page_at : Format → List ℕ → ℕ → Option (List ℕ)
page_at format image p = cond (is_inside format image p) (read_stored format (stored_page format image p)) none

abbrev pub is_some : Option (List ℕ) → Bool
is_some none = false
is_some (some bytes) = true

abbrev pub or_kept : Option (List ℕ) → List ℕ → List ℕ
or_kept none buffer = buffer
or_kept (some bytes) buffer = bytes

-- What a read answers and leaves: whether there is data, and the data in the buffer, or the buffer as it was.
pub record Read (found : Option (List ℕ)) (before : List ℕ) (answer : Bool) (after : List ℕ) : Type 0 where
  pub readable : answer ≡ is_some found
  pub buffer : after ≡ or_kept found before

-- ---- a page that is written

-- Every written raw page gets a fresh code for each chunk; spare bytes 12 to 15 of the old raw page are kept.
abbrev pub code_bytes : Code → List ℕ
code_bytes code = code.byte0 ∷ code.byte1 ∷ code.byte2 ∷ []

unfoldable pub fresh_code : List ℕ → ℕ → List ℕ
fresh_code bytes k = code_bytes (code_of (chunk_of bytes k))

unfoldable pub coded_page : List ℕ → List ℕ → List ℕ
coded_page old bytes =
    bytes ++ (fresh_code bytes 0 ++ (fresh_code bytes 1 ++ (fresh_code bytes 2 ++ (fresh_code bytes 3 ++ part old 524 4))))

-- what an image keeps of a page that is written: its data alone in a plain one
abbrev pub stored_as : Format → List ℕ → List ℕ → List ℕ
stored_as Raw old bytes = coded_page old bytes
stored_as Plain old bytes = bytes

-- how many bytes of a page a write sets: all but spare bytes 12 to 15
abbrev pub written_bytes : Format → ℕ
written_bytes Raw = 524
written_bytes Plain = 512

-- two lists are equal, as a test
abbrev pub same_bytes : List ℕ → List ℕ → Bool
same_bytes [] [] = true
same_bytes [] (b ∷ m) = false
same_bytes (a ∷ l) [] = false
same_bytes (a ∷ l) (b ∷ m) = a == b && same_bytes l m

-- the data as read is these bytes already; an unreadable page never is
abbrev pub holds : Option (List ℕ) → List ℕ → Bool
holds none bytes = false
holds (some old) bytes = same_bytes old bytes

-- a page of the image is to be written: always, or only where its data, as read, changes
abbrev pub is_put : Format → Bool → ℕ → List ℕ → List ℕ → Bool
is_put format always p bytes image = is_inside format image p && (always || not (holds (page_at format image p) bytes))

-- The image with `bytes` as the data of page p, in a raw one freshly coded, and nothing else changed; where page p
-- is not to be written, the image as it is.
unfoldable pub put : Format → Bool → ℕ → List ℕ → List ℕ → List ℕ
put format always p bytes image =
    cond (is_put format always p bytes image) (put_at image (page_start format p) (stored_as format (stored_page format image p) bytes)) image

-- A page of a newly taken cluster and a new entry's page are written in any case.
abbrev pub written : Format → List ℕ → ℕ → List ℕ → List ℕ
written format image p bytes = put format true p bytes image

-- Any other page only where its data, as read, changes: a flipped bit in data that stays is left as it is.
abbrev pub rewritten : Format → List ℕ → ℕ → List ℕ → List ℕ
rewritten format image p bytes = put format false p bytes image
