-- Images that hold the same data, each in its own format, and raw images whose codes all match (request 2 of document 02).
use Rattle.std.specs.Prelude.{◌≡◌, ℕ, ◌+◌, ◌*◌, ◌/◌, ◌%◌, ◌<◌, ◌≤◌, Bool, true, List, length, replicate, ◌==◌, ◌≢◌, slice_index}
use Rattle.ecc.specs.declared.Verdict.TheVariants.{Good}
use Rattle.page.specs.declared.Format.{Format}
use Rattle.page.specs.declared.Format.TheVariants.{Plain, Raw}
use Rattle.page.specs.Mended.{mended_chunks}
use Rattle.page.specs.Page.{cluster_bytes, is_some, page_at, page_start, pages_in, put, stored_page, verdict_of}
use Rattle.page.specs.PageLaws.{Inside}

-- As many pages, with nothing after the last one, and of each page the same data as read.
pub record SameData (one other : Format) (image twin : List ℕ) : Type 0 where
  pub pages : ℕ
  pub long : length image ≡ page_start one pages
  pub twin-long : length twin ≡ page_start other pages
  pub read : (p : ℕ) → p < pages → page_at one image p ≡ page_at other twin p

-- chunk k of page p of a raw image is good
abbrev pub GoodChunk : List ℕ → ℕ → ℕ → Type 0
GoodChunk raw p k = verdict_of (stored_page Raw raw p) k ≡ Good

-- Every chunk of every page of a raw image is good. Bits that are ignored may be anything.
abbrev pub CodesMatch : List ℕ → Type 0
CodesMatch raw = (p k : ℕ) → p < pages_in Raw (length raw) → k < 4 → GoodChunk raw p k

-- spare byte j of page p of a raw image
abbrev pub spare_byte : List ℕ → ℕ → ℕ → ℕ
spare_byte raw p j = slice_index (stored_page Raw raw p) (512 + j)

-- What the layers above use of them:
pub record TwinLaws : Type 0 where
  -- to have the same data holds both ways and through a third image
  pub same_back : {one other : Format} {image twin : List ℕ} → SameData one other image twin → SameData other one twin image
  pub same-through : {one other third : Format} {image twin last : List ℕ} → SameData one other image twin → SameData other third twin last
      → SameData one third image last
  -- every page, also past the last one, reads the same
  pub same-page : {one other : Format} {image twin : List ℕ} → SameData one other image twin → (p : ℕ) → page_at one image p ≡ page_at other twin p
  -- both are whole clusters or neither is, and as many
  pub same_whole : {one other : Format} {image twin : List ℕ} → SameData one other image twin
      → (length image % cluster_bytes one == 0) ≡ (length twin % cluster_bytes other == 0)
  pub same-clusters : {one other : Format} {image twin : List ℕ} → SameData one other image twin
      → length image / cluster_bytes one ≡ length twin / cluster_bytes other
  -- a page that is put into both leaves the same data
  pub put_both : {one other : Format} {image twin : List ℕ} (always : Bool) (p : ℕ) (bytes : List ℕ) → length bytes ≡ 512 → SameData one other image twin
      → SameData one other (put one always p bytes image) (put other always p bytes twin)
  -- a page that is put into a raw image whose codes match leaves codes that match
  pub put-codes : (always : Bool) (p : ℕ) (bytes raw : List ℕ) → length bytes ≡ 512 → CodesMatch raw → CodesMatch (put Raw always p bytes raw)
  -- the chunks of a page that is written are good, and those of every other page stay so
  pub written-codes : (p : ℕ) (bytes raw : List ℕ) (k : ℕ) → length bytes ≡ 512 → Inside Raw raw p → k < 4 → GoodChunk (put Raw true p bytes raw) p k
  pub other-codes : (always : Bool) (p : ℕ) (bytes raw : List ℕ) (q k : ℕ) → length bytes ≡ 512 → (q ≢ p) → Inside Raw raw q
      → GoodChunk raw q k → GoodChunk (put Raw always p bytes raw) q k
  -- spare bytes 12 to 15 of every page stay; where all is zero they are too
  pub spare-put : (always : Bool) (p : ℕ) (bytes raw : List ℕ) (q j : ℕ) → length bytes ≡ 512 → 12 ≤ j → j < 16
      → spare_byte (put Raw always p bytes raw) q j ≡ spare_byte raw q j
  pub spare-zero : (n p j : ℕ) → j < 16 → spare_byte (replicate n 0) p j ≡ 0
  -- where the codes match every page is readable, and in a plain image every page is
  pub codes-readable : (raw : List ℕ) (p : ℕ) → CodesMatch raw → Inside Raw raw p → is_some (page_at Raw raw p) ≡ true
  pub plain-readable : (image : List ℕ) (p : ℕ) → Inside Plain image p → is_some (page_at Plain image p) ≡ true
  -- no chunk is corrected where the codes match, nor in a plain image
  pub codes-mended : (raw : List ℕ) (p : ℕ) → CodesMatch raw → mended_chunks Raw raw p ≡ 0
  pub plain-mended : (image : List ℕ) (p : ℕ) → mended_chunks Plain image p ≡ 0
  -- a plain image is known by its data
  pub plain-one : {one : Format} {image twin other : List ℕ} → SameData one Plain image twin → SameData one Plain image other → twin ≡ other
  -- whole pages hold just those pages, and whole clusters are whole pages
  pub pages-start : (format : Format) (n : ℕ) → pages_in format (page_start format n) ≡ n
  pub clusters-start : (format : Format) (n : ℕ) → cluster_bytes format * n ≡ page_start format (2 * n)
