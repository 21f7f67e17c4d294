-- The table's words: loading them one by one, their number, and which stands where.
use Rattle.std.proofs.Common.{◌≡◌, ℕ, ◌+◌, ◌*◌, ◌/◌, ◌%◌, ◌<◌, min, Bool, true, List, length, get_or, set, ap, ◌∙◌, arith}
use Rattle.page.specs.declared.Format.{Format}
use Rattle.page.specs.Page.{page_at, is_some, Read}
use Rattle.model.specs.Bytes.{word}
use Rattle.layout.specs.declared.Superblock.{Superblock}
use Rattle.layout.specs.Table.{data_of, names_of, table_clusters, table_page, table_word, table_of}
use Rattle.layout.proofs.Stages.{there, read-data}
use Rattle.layout.proofs.UpTo.{length-up_to, get_or-up_to, filled, filled_more}

-- how many clusters the table has, as the code divides
pub div_ceil-clusters : (end : ℕ) → end / 256 + min 1 (end % 256) ≡ table_clusters end
div_ceil-clusters end = omega arith

-- the page in the buffer is the one with word c
abbrev pub Holding : Format → List ℕ → List ℕ → ℕ → List ℕ → Type 0
Holding format image names c page = page ≡ data_of (page_at format image (table_page names (c / 128)))

pub just-read : (format : Format) (image names : List ℕ) (c : ℕ) {page before after : List ℕ} {p : ℕ} {r : Bool} → p ≡ table_page names (c / 128)
    → is_some (page_at format image (table_page names (c / 128))) ≡ true → Read (page_at format image p) before r after → page ≡ after → Holding format image names c page
just-read format image names c {page} {before} {after} {p} e h r same =
    let found : is_some (page_at format image p) ≡ true = rw e h in
    same ∙ r.buffer ∙ read-data (page_at format image p) before (there (page_at format image p) found) ∙ ap (λ (q : ℕ). data_of (page_at format image q)) e

module _ (format : Format) (image names before table page : List ℕ) (c : ℕ) where
  pub word_more : c < length before → Holding format image names c page → (w : ℕ) → w ≡ word page (4 * (c % 128))
      → table ≡ filled (table_word format image names) before c → set table c w ≡ filled (table_word format image names) before (c + 1)
  word_more h here w e t =
      let value : w ≡ table_word format image names c = e ∙ ap (λ (l : List ℕ). word l (4 * (c % 128))) here in
      rw (t, value) (filled_more (table_word format image names) before c h)

  pub still-held : Holding format image names c page → ((c + 1) % 128 ≡ 0 → ⊥) → Holding format image names (c + 1) page
  still-held here h = let same : (c + 1) / 128 ≡ c / 128 = omega arith in rw same here

-- ---- for the layers above
pub length-table : (image : List ℕ) (s : Superblock) → length (table_of image s) ≡ s.end
unfolding table_of
length-table image s = length-up_to (table_word s.geometry.format image (names_of image s)) s.end

pub get_or-table : (image : List ℕ) (s : Superblock) (c : ℕ) → c < s.end → get_or (table_of image s) c 0 ≡ table_word s.geometry.format image (names_of image s) c
unfolding table_of
get_or-table image s c h = get_or-up_to (table_word s.geometry.format image (names_of image s)) s.end c h
