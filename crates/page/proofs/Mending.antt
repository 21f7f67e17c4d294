-- Which chunks of a page were corrected, case by case: in the image or not, plain, rightly coded.
use Rattle.std.proofs.Common.{◌≡◌, ℕ, ◌+◌, ◌^◌, ◌<◌, ◌≤◌, Bool, true, false, cond, List, length, sym, refl, ap, ◌∙◌, add_assoc, arith, ltb-true, le-ltb, lt-ltb}
use mathlib.Core.Option.{none}
use native.Mathlib.Nat.{mod-add-mod}
use Rattle.ecc.specs.declared.Four.{Four}
use Rattle.ecc.specs.declared.Verdict.TheVariants.{Good}
use Rattle.page.specs.declared.Format.{Format}
use Rattle.page.specs.declared.Format.TheVariants.{Plain, Raw}
use Rattle.ecc.specs.Four.{one}
use Rattle.page.specs.Mended.{chunks_in, mended_at, mended_by, mended_chunks, mended_raw, mended_stored, none_mended, wrapped}
use Rattle.page.specs.Page.{is_inside, is_some, page_at, pages_in, read_raw, read_stored, stored_page, verdict_of}
use Rattle.page.specs.Twins.{CodesMatch}
use Rattle.page.proofs.Formats.{whole-inside}
use Rattle.page.proofs.Puts.{Whole, counted-whole, page-inside, page-outside}

mended-inside : (format : Format) (image : List ℕ) (p : ℕ) → Whole format image p → mended_at format image p ≡ mended_stored format (stored_page format image p)
unfolding mended_at
mended-inside format image p h = rw (lt-ltb p (pages_in format (length image)) (whole-inside format (length image) p h))

mended-outside : (format : Format) (image : List ℕ) (p : ℕ) → pages_in format (length image) ≤ p → mended_at format image p ≡ none_mended
unfolding mended_at
mended-outside format image p h = rw (le-ltb p (pages_in format (length image)) h)

-- what is told of a page below the count, by the bytes kept of it, and of one that is not
module _ (format : Format) (image : List ℕ) (p : ℕ) {count : ℕ} (e : count ≡ pages_in format (length image)) where
  pub told-inside : {stored : List ℕ} → p < count → stored ≡ stored_page format image p
      → (page_at format image p ≡ read_stored format stored) × (mended_at format image p ≡ mended_stored format stored)
  told-inside h f =
      let whole = counted-whole format image p e h in
      (page-inside format image p whole ∙ ap (read_stored format) (sym f), mended-inside format image p whole ∙ ap (mended_stored format) (sym f))

  pub told-outside : count ≤ p → (page_at format image p ≡ none) × (mended_at format image p ≡ none_mended)
  told-outside h = let past = rw e at h in (page-outside format image p past, mended-outside format image p past)

-- ---- a count that wraps: what is added later may be added at once
pub count-on : (m x y : ℕ) {n : ℕ} → n ≡ wrapped (m + x) → wrapped (n + y) ≡ wrapped (m + (x + y))
count-on m x y e = rw e (mod-add-mod (m + x) (2 ^ 64) y ∙ ap wrapped (add_assoc m x y))

-- what is added is the count of the chunks told of the page
pub chunks-added : (format : Format) (image : List ℕ) (p before : ℕ) {m : Four Bool} {n : ℕ} → m ≡ mended_at format image p → n ≡ wrapped (before + chunks_in m)
    → n ≡ wrapped (before + mended_chunks format image p)
unfolding mended_chunks
chunks-added format image p before e f = rw e at f

-- ---- how many chunks
one-most : (b : Bool) → one b ≤ 1
one-most true = omega arith
one-most false = omega arith

pub mended-most : (format : Format) (image : List ℕ) (p : ℕ) → mended_chunks format image p ≤ 4
unfolding mended_chunks
mended-most format image p =
    let m = mended_at format image p in
    omega (arith, one-most m.chunk0, one-most m.chunk1, one-most m.chunk2, one-most m.chunk3)

-- a page inside the image by what it holds, and one outside: none either way
none_so : (format : Format) (image : List ℕ) (p : ℕ) → (is_inside format image p ≡ true → mended_stored format (stored_page format image p) ≡ none_mended)
    → mended_chunks format image p ≡ 0
unfolding mended_chunks mended_at
none_so format image p h = go (is_inside format image p) h
  where
    go : (b : Bool) → (b ≡ true → mended_stored format (stored_page format image p) ≡ none_mended)
        → chunks_in (cond b (mended_stored format (stored_page format image p)) none_mended) ≡ 0
    go true g = ap chunks_in (g refl)
    go false g = refl

pub plain-mended : (image : List ℕ) (p : ℕ) → mended_chunks Plain image p ≡ 0
plain-mended image p = none_so Plain image p (λ e. refl)

-- four good chunks, by whether the page is readable
good_none : (page : List ℕ) → verdict_of page 0 ≡ Good → verdict_of page 1 ≡ Good → verdict_of page 2 ≡ Good → verdict_of page 3 ≡ Good → mended_raw page ≡ none_mended
unfolding mended_raw
good_none page v0 v1 v2 v3 = rw (v0, v1, v2, v3) (go (is_some (read_raw page)))
  where
    go : (b : Bool) → cond b (mended_by Good Good Good Good) none_mended ≡ none_mended
    go true = refl
    go false = refl

pub codes-mended : (raw : List ℕ) (p : ℕ) → CodesMatch raw → mended_chunks Raw raw p ≡ 0
codes-mended image p codes =
    none_so Raw image p
    (λ e. let i = ltb-true p (pages_in Raw (length image)) e in
    good_none (stored_page Raw image p) (codes p 0 i (omega arith)) (codes p 1 i (omega arith)) (codes p 2 i (omega arith)) (codes p 3 i (omega arith)))
