-- The page layer's word to the layers above, which go by these laws alone, whatever the image's format. `put` is `written`
-- where `always` is true and `rewritten` where it is false; every law holds of both.
use Rattle.std.specs.Prelude.{◌≡◌, ℕ, ◌+◌, ◌*◌, ◌/◌, ◌%◌, ◌<◌, ◌≤◌, Bool, false, cond, ◌⊎◌, List, length, ◌==◌, ◌≢◌, slice_index}
use Rattle.std.proofs.Math.Option.{none, some}
use Rattle.page.specs.declared.Format.{Format}
use Rattle.page.specs.Mended.{mended_chunks}
use Rattle.page.specs.Page.{cluster_bytes, page_at, page_bytes, page_start, pages_in, put, written_bytes}

-- the image holds page p whole
abbrev pub Inside : Format → List ℕ → ℕ → Type 0
Inside format image p = p < pages_in format (length image)

-- every element is a byte
abbrev pub AllBytes : List ℕ → Type 0
AllBytes list = (i : ℕ) → slice_index list i < 256

-- Of a page of 512 bytes that is put into an image:
pub record PutLaws (format : Format) (always : Bool) (p : ℕ) (bytes image : List ℕ) : Type 0 where
  -- the image keeps its length
  pub length-put : length (put format always p bytes image) ≡ length image
  -- the page reads back
  pub read-written : Inside format image p → page_at format (put format always p bytes image) p ≡ some bytes
  -- every other page reads as before
  pub read-other : (q : ℕ) → (q ≢ p) → page_at format (put format always p bytes image) q ≡ page_at format image q
  -- no byte changes but the page's data and codes: spare bytes 12 to 15 stay too
  pub outside : (i : ℕ) → (i < page_start format p) ⊎ (page_start format p + written_bytes format ≤ i)
      → slice_index (put format always p bytes image) i ≡ slice_index image i
  -- what is read, of every page
  pub page-put : Inside format image p → (q : ℕ) → page_at format (put format always p bytes image) q ≡ cond (p == q) (some bytes) (page_at format image q)
  -- puts of two different pages commute
  pub commute : (also : Bool) (q : ℕ) (more : List ℕ) → length more ≡ 512 → (p ≢ q)
      → put format always p bytes (put format also q more image) ≡ put format also q more (put format always p bytes image)

-- Of a page that is read:
pub record ReadLaws (format : Format) (image : List ℕ) (p : ℕ) (bytes : List ℕ) : Type 0 where
  -- it lies in the image
  pub page-in : Inside format image p
  -- it has 512 bytes of data
  pub page-length : length bytes ≡ 512
  -- which are bytes where the image's are
  pub page-bytes : AllBytes image → AllBytes bytes
  -- rewriting it with the same data changes nothing, not even a flipped bit
  pub rewritten-same : put format false p bytes image ≡ image

pub record PageLaws (format : Format) : Type 0 where
  pub of-put : (always : Bool) (p : ℕ) (bytes image : List ℕ) → length bytes ≡ 512 → PutLaws format always p bytes image
  pub of-read : (image : List ℕ) (p : ℕ) (bytes : List ℕ) → page_at format image p ≡ some bytes → ReadLaws format image p bytes
  -- a page past the last whole one is never read
  pub page-past : (image : List ℕ) (p : ℕ) → pages_in format (length image) ≤ p → page_at format image p ≡ none
  -- a page has four chunks to correct
  pub mended-most : (image : List ℕ) (p : ℕ) → mended_chunks format image p ≤ 4
  -- an image of whole clusters has two pages for each
  pub cluster-pages : (bytes : ℕ) → bytes % cluster_bytes format ≡ 0 → pages_in format bytes ≡ 2 * (bytes / cluster_bytes format)
  -- a page read depends only on its own bytes and the image's length
  pub page-local : (image other : List ℕ) (p : ℕ) → length image ≡ length other
      → ((i : ℕ) → page_start format p ≤ i → i < page_start format p + page_bytes format → slice_index image i ≡ slice_index other i)
      → page_at format image p ≡ page_at format other p

-- of both formats
abbrev pub LawsOfPages : Type 0
LawsOfPages = (format : Format) → PageLaws format
