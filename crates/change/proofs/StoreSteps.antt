-- The table stored word by word and page by page: one law for each way of a turn.
use Prim.Native.Nat.{ℕ, ◌*◌, ◌+◌}
use mathlib.Core.Bool.{Bool, false, true}
use mathlib.Core.List.{List, ◌++◌}
use mathlib.Core.Option.{Option, none, some}
use mathlib.Core.Path.{◌∙◌, ◌≡◌, ap, ap₂, refl, sym}
use native.Mathlib.Numerals.{add-one}
use lib.Seq.{sets}
use Rattle.page.specs.declared.Format.{Format}
use Rattle.page.specs.Page.{Read, is_some, or_kept, page_at, put}
use Rattle.layout.specs.declared.Superblock.{Superblock}
use Rattle.layout.specs.Table.{data_of, names_of, table_clusters, table_names, table_page}
use Rattle.model.specs.Bytes.{little_bytes}
use Rattle.model.proofs.Equality.{tf}
use Rattle.change.specs.Image.{alter_page, altered_by, store_table, with_words, words_in}

-- ---- the words of a page
module _ (words : ℕ → ℕ) (first : ℕ) (before : List ℕ) where
  pub no-words-yet : before ≡ with_words words first 0 before
  unfolding with_words
  no-words-yet = refl

  pub word-put : (i : ℕ) {page after : List ℕ} → page ≡ with_words words first i before → after ≡ sets page (4 * i) (little_bytes 4 (words (first + i)))
      → after ≡ with_words words first (i + 1) before
  unfolding with_words
  word-put i e f = rw (add-one i) (f ∙ ap (λ (l : List ℕ). sets l (4 * i) (little_bytes 4 (words (first + i)))) e)

-- ---- one page: as read it is altered, and unreadable it stays
module _ (format : Format) (p : ℕ) (alter : List ℕ → List ℕ) (image : List ℕ) {buffer page : List ℕ} {r : Bool} (read : Read (page_at format image p) buffer r page) where
  pub altered : {bytes after : List ℕ} → r ≡ true → bytes ≡ alter page → after ≡ put format false p bytes image → after ≡ alter_page format p alter image
  unfolding alter_page
  altered {bytes} e f g = g ∙ go (page_at format image p) (sym read.readable ∙ e) read.buffer
    where
      go : (o : Option (List ℕ)) → is_some o ≡ true → page ≡ or_kept o buffer → put format false p bytes image ≡ altered_by format p alter image o
      go none t q = tf t refl
      go (some d) t q = ap (λ (l : List ℕ). put format false p l image) (f ∙ ap alter q)

  pub left_alone : r ≡ false → image ≡ alter_page format p alter image
  unfolding alter_page
  left_alone e = go (page_at format image p) (sym read.readable ∙ e)
    where
      go : (o : Option (List ℕ)) → is_some o ≡ false → image ≡ altered_by format p alter image o
      go none t = refl
      go (some d) t = tf refl t

-- ---- all pages in turn
module _ (format : Format) (names : List ℕ) (end : ℕ) (words : ℕ → ℕ) (before : List ℕ) where
  pub no-pages-yet : before ≡ store_table format names end words 0 before
  unfolding store_table
  no-pages-yet = refl

  pub page-stored : (t : ℕ) {p : ℕ} {image after : List ℕ} → image ≡ store_table format names end words t before → p ≡ table_page names t
      → after ≡ alter_page format p (with_words words (128 * t) (words_in end t)) image → after ≡ store_table format names end words (t + 1) before
  unfolding store_table
  page-stored t e f g = rw (add-one t) (g ∙ ap₂ (λ (q : ℕ) (i : List ℕ). alter_page format q (with_words words (128 * t) (words_in end t)) i) f e)

-- ---- the names in the indirect cluster's two pages
pub by_names : (image : List ℕ) (s : Superblock) (words : ℕ → ℕ) (end : ℕ) {first second after : List ℕ} → end ≡ s.end
    → first ≡ data_of (page_at s.geometry.format image (2 * s.indirect)) → second ≡ data_of (page_at s.geometry.format image (2 * s.indirect + 1))
    → after ≡ store_table s.geometry.format (table_names (first ++ second) (table_clusters s.end)) end words (2 * table_clusters s.end) image
    → after ≡ store_table s.geometry.format (names_of image s) s.end words (2 * table_clusters s.end) image
by_names image s words end {first} {second} e f g h =
    h ∙ ap₂ (λ (names : List ℕ) (n : ℕ). store_table s.geometry.format names n words (2 * table_clusters s.end) image)
    (ap₂ (λ (a b : List ℕ). table_names (a ++ b) (table_clusters s.end)) f g) e
