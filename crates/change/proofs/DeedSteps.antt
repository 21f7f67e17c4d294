-- A change put down, step by step: the table's words linked anew, the pages written, and then the table's pages.
use Rattle.std.specs.Prelude.{Some, slice_get}
use Rattle.page.specs.declared.Format.{Format}
use Rattle.layout.specs.See.{image_page}
use Rattle.layout.specs.declared.Geometry.{Geometry}
use Prim.Native.Nat.{ℕ, ◌*◌, ◌+◌, ◌<◌, ◌≤◌}
use mathlib.Core.Bool.{true}
use mathlib.Core.List.{List, [], ◌++◌, ◌∷◌}
use mathlib.Core.Option.{some}
use mathlib.Core.Path.{◌∙◌, ◌≡◌, ap, ap₂, refl, sym}
use native.Mathlib.Omega.{arith}
use lib.ListN.{get_or, length}
use Rattle.page.specs.Page.{is_some, page_at, put}
use Rattle.layout.specs.declared.Superblock.{Superblock}
use Rattle.layout.specs.Table.{names_of, open_card, table_clusters}
use Rattle.layout.proofs.OpenFacts.{names-kept, open-facts}
use Rattle.model.specs.Check.{ok}
use Rattle.model.specs.Pages.{data_pages, zero_page}
use Rattle.model.specs.Tree.{hit, times}
use Rattle.model.specs.View.{most_clusters, pages_of, top_bit}
use Rattle.model.specs.Writes.{PageWrite, cluster_writes}
use Rattle.model.proofs.Frame.{hit-0}
use Rattle.change.specs.Deeds.{grown, image_by, relinked, writes_of}
use Rattle.change.specs.Image.{Lands, store_table, write_pages}
use Rattle.change.specs.Words.{chained, cleared_from}
use Rattle.change.proofs.PageWrites.{low-page-kept}
use Rattle.change.proofs.WriteLaws.{written-append}

-- ---- the words: a directory's chain led on to its growth is a chain of two low clusters
pub pair-low : (last : ℕ) (growth : List ℕ) (added : ℕ) → last < top_bit → Some added ≡ slice_get growth 0 → (x : ℕ) → top_bit ≤ x → times growth x ≡ 0 → hit last x + (hit added x + 0) ≡ 0
pair-low last [] added low first x high none = cc
pair-low last (g ∷ gs) added low first x high none = let e : added ≡ g = cc in rw e (omega (arith, hit-0 last x (λ z. omega arith)))

module _ (last : ℕ) where
  led_on : (growth table : List ℕ) → 0 < length growth → chained (last ∷ get_or growth 0 0 ∷ []) table ≡ grown last growth table
  led_on [] table more = absurd (omega arith)
  led_on (g ∷ gs) table more = refl

  not-led : (growth table : List ℕ) → length growth ≤ 0 → table ≡ grown last growth table
  not-led [] table none = refl
  not-led (g ∷ gs) table none = absurd (omega arith)

module _ (back count : ℕ) (taken : List ℕ) (last : ℕ) (growth table : List ℕ) {freed linked : List ℕ}
    (free : freed ≡ cleared_from back count table) (link : linked ≡ chained taken freed) where
  so_far : linked ≡ chained taken (cleared_from back count table)
  so_far = link ∙ ap (chained taken) free

  pub relinked-grown : {led : List ℕ} → 0 < length growth → led ≡ chained (last ∷ get_or growth 0 0 ∷ []) linked → led ≡ relinked back count taken last growth table
  relinked-grown more lead = lead ∙ led_on last growth linked more ∙ ap (grown last growth) so_far

  pub relinked-only : length growth ≤ 0 → linked ≡ relinked back count taken last growth table
  relinked-only none = so_far ∙ not-led last growth (chained taken (cleared_from back count table)) none

-- ---- the pages
module _ (geometry : Geometry) (image : List ℕ) where
  pub no-zeros : (growth : List ℕ) → length growth ≡ 0 → image ≡ write_pages geometry (cluster_writes (pages_of growth) (some zero_page ∷ some zero_page ∷ [])) image
  no-zeros [] h = refl
  no-zeros (g ∷ gs) h = absurd (omega arith)

  pub zeros-written : (growth : List ℕ) {at : ℕ} {zeros one both : List ℕ} → (length growth ≡ 0 → ⊥) → length growth ≤ 1 → zeros ≡ zero_page
      → at ≡ image_page geometry (2 * get_or growth 0 0) → one ≡ put geometry.format true at zeros image → both ≡ put geometry.format true (at + 1) zeros one
      → both ≡ write_pages geometry (cluster_writes (pages_of growth) (some zero_page ∷ some zero_page ∷ [])) image
  zeros-written [] h k z p e f = absurd (h refl)
  zeros-written (g ∷ []) {at} {zeros} {one} h k z p e f =
      let place : at + 1 ≡ image_page geometry (2 * g + 1) = omega arith in
      f ∙ ap₂ (λ (q : ℕ) (d : List ℕ). put geometry.format true q d one) place z ∙ ap (put geometry.format true (image_page geometry (2 * g + 1)) zero_page) (e ∙ ap₂ (λ (q : ℕ) (d : List ℕ). put geometry.format true q d image) p z)
  zeros-written (g ∷ h ∷ gs) n k z p e f = absurd (omega arith)

  -- growth, data, the directory's entry and the change's own, one after the other
  pub all-written : (growth taken bytes : List ℕ) (directory own : PageWrite) {zeroed filled entered whole : List ℕ}
      → zeroed ≡ write_pages geometry (cluster_writes (pages_of growth) (some zero_page ∷ some zero_page ∷ [])) image
      → filled ≡ write_pages geometry (cluster_writes (pages_of taken) (data_pages bytes)) zeroed
      → entered ≡ write_pages geometry (directory ∷ []) filled → whole ≡ write_pages geometry (own ∷ []) entered
      → whole ≡ write_pages geometry (writes_of growth taken bytes directory own) image
  all-written growth taken bytes directory own e f g h =
      let zeros = cluster_writes (pages_of growth) (some zero_page ∷ some zero_page ∷ []) in
      let filling = cluster_writes (pages_of taken) (data_pages bytes) in
      h ∙ ap (write_pages geometry (own ∷ [])) (g ∙ ap (write_pages geometry (directory ∷ [])) (f ∙ ap (write_pages geometry filling) e))
      ∙ sym (written-append geometry zeros (filling ++ (directory ∷ own ∷ [])) image ∙ written-append geometry filling (directory ∷ own ∷ []) (write_pages geometry zeros image))

-- ---- the pages of the last two writes lie among the allocatable clusters
lands-behind : (end : ℕ) (xs zs : List PageWrite) → Lands end (xs ++ zs) → Lands end zs
lands-behind end [] zs h = h
lands-behind end (w ∷ xs) zs h = lands-behind end xs zs h.2

pub entries-land : (end : ℕ) (growth taken bytes : List ℕ) (directory own : PageWrite) → Lands end (writes_of growth taken bytes directory own)
    → (directory.page < 2 * end) × (own.page < 2 * end)
entries-land end growth taken bytes directory own h =
    let both =
    lands-behind end (cluster_writes (pages_of taken) (data_pages bytes)) _
    (lands-behind end (cluster_writes (pages_of growth) (some zero_page ∷ some zero_page ∷ [])) _ h) in
    (both.0, both.2.0)

-- ---- the table after the pages: they lie behind the indirect cluster, so its names stay
module _ (format : Format) (image : List ℕ) (s : Superblock) (opened : open_card format image ≡ ok s) where
  pub opened-most : s.end ≤ most_clusters
  opened-most = let facts = open-facts format image s opened in omega (arith, facts.room, facts.most)

  module _ (ws : List PageWrite) (lands : Lands s.end ws) {after : List ℕ} (pages : after ≡ write_pages s.geometry ws image) where
    kept : (q : ℕ) → q < 2 * s.geometry.offset → page_at s.geometry.format after q ≡ page_at s.geometry.format image q
    kept q h = ap (λ (i : List ℕ). page_at s.geometry.format i q) pages ∙ low-page-kept s.geometry s.end ws image lands q h

    first-kept : page_at s.geometry.format after (2 * s.indirect) ≡ page_at s.geometry.format image (2 * s.indirect)
    first-kept = kept (2 * s.indirect) (omega (arith, (open-facts format image s opened).indirect-below))

    second-kept : page_at s.geometry.format after (2 * s.indirect + 1) ≡ page_at s.geometry.format image (2 * s.indirect + 1)
    second-kept = kept (2 * s.indirect + 1) (omega (arith, (open-facts format image s opened).indirect-below))

    pub first-readable : is_some (page_at s.geometry.format after (2 * s.indirect)) ≡ true
    first-readable = ap is_some (first-kept ∙ (open-facts format image s opened).first_read)

    pub second-readable : is_some (page_at s.geometry.format after (2 * s.indirect + 1)) ≡ true
    second-readable = ap is_some (second-kept ∙ (open-facts format image s opened).second-read)

    pub stored : (table : List ℕ) {whole : List ℕ}
        → whole ≡ store_table s.geometry.format (names_of after s) s.end (λ c. get_or table c 0) (2 * table_clusters s.end) after → whole ≡ image_by s image ws table
    stored table e =
        e ∙ ap₂ (λ (names i : List ℕ). store_table s.geometry.format names s.end (λ c. get_or table c 0) (2 * table_clusters s.end) i)
        (names-kept image after s first-kept second-kept) pages

-- ---- what was put down, by other names for its pages and words
pub image-as : (s : Superblock) (image : List ℕ) {writes others : List PageWrite} {table words whole : List ℕ} → whole ≡ image_by s image writes table → writes ≡ others → table ≡ words
    → whole ≡ image_by s image others words
image-as s image e w t = e ∙ ap₂ (image_by s image) w t
