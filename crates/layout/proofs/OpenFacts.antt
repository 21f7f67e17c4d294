-- What is known of a card that is open, for the layers above: each fact is won from the guard that was passed.
use Rattle.std.proofs.Common.{◌≡◌, ℕ, ◌+◌, ◌*◌, ◌/◌, ◌%◌, ◌<◌, ◌≤◌, true, eqb, leb, List, [], ◌∷◌, ◌++◌, length, get_or, sym, ap, ◌∙◌, subst, arith, eqb-true, leb-true}
use Rattle.page.specs.declared.Format.{Format}
use Rattle.page.specs.Page.{cluster_bytes, page_at, pages_in}
use Rattle.page.proofs.Formats.{cluster-pages, whole-clusters}
use Rattle.model.specs.Bytes.{word}
use Rattle.model.specs.Check.{ok}
use Rattle.model.specs.Tree.{times}
use Rattle.model.specs.View.{most_clusters, pages_of}
use Rattle.model.proofs.Equality.{and_l, and_r}
use Rattle.model.proofs.Frame.{hit-self}
use Rattle.model.proofs.PlanFits.{length-pages}
use Rattle.layout.specs.declared.Superblock.{Superblock}
use Rattle.layout.specs.Superblock.{bad_blocks_of, least_clusters, clusters_in, good_length, good_text, good_version, fixed_numbers, good_bad_blocks, good_numbers, good_superblock, superblock_of}
use Rattle.layout.specs.Table.{unless, with_page, good_name, good_table_names, table_clusters, open_table, open_card, data_of, names_of, table_page}
use Rattle.layout.proofs.Names.{Named, in-range, name-good, name-once}
use Rattle.layout.proofs.Stages.{Readable, unless-ok, page-ok, pages-ok, pages-pass, same_ok}
use Rattle.layout.proofs.TablePages.{get_or-pages}
use Rattle.layout.proofs.UpTo.{length-up_to}

-- ---- the guards that an open card passed
pub record GoodTable (image : List ℕ) (s : Superblock) : Type 0 where
  pub indirect-good : good_name s.geometry.offset s.bad s.indirect ≡ true
  pub first_read : Readable s.geometry.format image (2 * s.indirect)
  pub second-read : Readable s.geometry.format image (2 * s.indirect + 1)
  pub names-good : good_table_names s.geometry.offset s.bad (s.indirect ∷ []) (names_of image s) ≡ true
  pub table-read : (t : ℕ) → t < 2 * table_clusters s.end → Readable s.geometry.format image (table_page (names_of image s) t)

pub record GoodCard (format : Format) (image : List ℕ) (s : Superblock) : Type 0 where
  pub length-good : good_length format (length image) ≡ true
  pub page-read : Readable format image 0
  pub text-good : good_text (data_of (page_at format image 0)) ≡ true
  pub numbers-good : good_superblock format (clusters_in format (length image)) (data_of (page_at format image 0)) ≡ true
  pub superblock : superblock_of format (data_of (page_at format image 0)) ≡ s
  pub table : GoodTable image s

many : (image : List ℕ) (s : Superblock) → length (names_of image s) ≡ table_clusters s.end
many image s = length-up_to (λ i. word (data_of (page_at s.geometry.format image (2 * s.indirect)) ++ data_of (page_at s.geometry.format image (2 * s.indirect + 1))) (4 * i)) (table_clusters s.end)

pub table-good : (image : List ℕ) (s a : Superblock) → open_table image s ≡ ok a → (s ≡ a) × GoodTable image s
unfolding open_table
table-good image s a e =
    let name = unless-ok (good_name s.geometry.offset s.bad s.indirect) 5 _ a e in
    let first = page-ok (2 * s.indirect) (page_at s.geometry.format image (2 * s.indirect)) _ a name.1 in
    let second = page-ok (2 * s.indirect + 1) (page_at s.geometry.format image (2 * s.indirect + 1)) _ a first.1 in
    let names = unless-ok (good_table_names s.geometry.offset s.bad (s.indirect ∷ []) (names_of image s)) 5 _ a second.1 in
    let pages = pages-ok s.geometry.format image (pages_of (names_of image s)) (ok s) a names.1 in (
      same_ok s a pages.0,
      record {
        indirect-good = name.0;
        first_read = first.0;
        second-read = second.0;
        names-good = names.0;
        table-read = λ t h.
            let inside : t < 2 * length (names_of image s) = omega (arith, many image s) in
            rw (get_or-pages (names_of image s) t inside) at (pages.1 t (omega (arith, length-pages (names_of image s))));
      },
    )

pub card-good : (format : Format) (image : List ℕ) (s : Superblock) → open_card format image ≡ ok s → GoodCard format image s
unfolding open_card
card-good format image s e =
    let size = unless-ok (good_length format (length image)) 1 _ s e in
    let page = page-ok 0 (page_at format image 0) _ s size.1 in
    let text = unless-ok (good_text (data_of (page_at format image 0))) 3 _ s page.1 in
    let numbers = unless-ok (good_superblock format (clusters_in format (length image)) (data_of (page_at format image 0))) 4 _ s text.1 in
    let rest = table-good image (superblock_of format (data_of (page_at format image 0))) s numbers.1 in
    record {
      length-good = size.0;
      page-read = page.0;
      text-good = text.0;
      numbers-good = numbers.0;
      superblock = rest.0;
      table = rw rest.0 at rest.1;
    }

pub good-table : (image : List ℕ) (s : Superblock) → GoodTable image s → open_table image s ≡ ok s
unfolding open_table unless with_page
good-table image s g =
    rw (g.indirect-good, g.first_read, g.second-read, g.names-good)
    (pages-pass s.geometry.format image (pages_of (names_of image s)) (ok s) (λ i h.
    let inside : i < 2 * length (names_of image s) = omega (arith, length-pages (names_of image s)) in
    rw (get_or-pages (names_of image s) i inside) (g.table-read i (omega (arith, many image s)))))

pub good-card : (format : Format) (image : List ℕ) (s : Superblock) → GoodCard format image s → open_card format image ≡ ok s
unfolding open_card unless with_page
good-card format image s g =
    rw (g.length-good, g.page-read, g.text-good, g.numbers-good, g.superblock) (good-table image s g.table)

-- ---- the numbers
pub record Numbers (format : Format) (bytes : ℕ) (s : Superblock) : Type 0 where
  pub long : bytes ≡ cluster_bytes format * s.clusters
  pub pages : pages_in format bytes ≡ 2 * s.clusters
  pub least : least_clusters ≤ s.clusters
  pub most : s.clusters ≤ most_clusters
  pub some_end : 1 ≤ s.end
  pub room : s.geometry.offset + s.end ≤ s.clusters

numbers : (format : Format) (bytes : ℕ) (page : List ℕ) → good_length format bytes ≡ true → good_superblock format (clusters_in format bytes) page ≡ true → Numbers format bytes (superblock_of format page)
numbers format bytes page l n = go (superblock_of format page) (and_l _ (good_bad_blocks (clusters_in format bytes) (bad_blocks_of page)) (and_r (fixed_numbers page) _ (and_r (good_version page) _ n)))
  where
    go : (s : Superblock) → good_numbers (clusters_in format bytes) s ≡ true → Numbers format bytes s
    go s g =
        let whole : bytes % cluster_bytes format ≡ 0 = eqb-true (bytes % cluster_bytes format) 0 (and_l _ _ l) in
        let range = and_r (eqb (bytes / cluster_bytes format % 8) 0) _ (and_r (eqb (bytes % cluster_bytes format) 0) _ l) in
        let low : 32 ≤ bytes / cluster_bytes format = leb-true 32 (bytes / cluster_bytes format) (and_l _ _ range) in
        let high : bytes / cluster_bytes format ≤ most_clusters = leb-true (bytes / cluster_bytes format) most_clusters (and_r (leb 32 (bytes / cluster_bytes format)) _ range) in
        let count : s.clusters ≡ bytes / cluster_bytes format = eqb-true s.clusters (bytes / cluster_bytes format) (and_l _ _ g) in
        let more = and_r (eqb s.clusters (bytes / cluster_bytes format)) _ g in
        let some : 1 ≤ s.end = leb-true 1 s.end (and_l _ _ more) in
        let fits : s.geometry.offset + s.end ≤ bytes / cluster_bytes format = leb-true (s.geometry.offset + s.end) (bytes / cluster_bytes format) (and_l _ _ (and_r (leb 1 s.end) _ more)) in
        record {
          long = whole-clusters format bytes whole ∙ ap (λ n. cluster_bytes format * n) (sym count);
          pages = cluster-pages format bytes whole ∙ ap (λ n. 2 * n) (sym count);
          least = omega arith;
          most = omega arith;
          some_end = some;
          room = omega arith;
        }

pub end-most : (format : Format) (bytes : ℕ) (page : List ℕ) → good_length format bytes ≡ true → good_superblock format (clusters_in format bytes) page ≡ true
    → (superblock_of format page).end ≤ most_clusters
end-most format bytes page l n = let z = numbers format bytes page l n in omega (arith, z.room, z.most)

card-numbers : (format : Format) (image : List ℕ) (s : Superblock) → GoodCard format image s → Numbers format (length image) s
card-numbers format image s g = rw g.superblock at (numbers format (length image) (data_of (page_at format image 0)) g.length-good g.numbers-good)

-- the card's numbers tell its image's format
in-format : (format : Format) (image : List ℕ) (s : Superblock) → GoodCard format image s → format ≡ s.geometry.format
in-format format image s g = ap (λ (x : Superblock). x.geometry.format) g.superblock

pub open-format : (format : Format) (image : List ℕ) (s : Superblock) → open_card format image ≡ ok s → format ≡ s.geometry.format
open-format format image s e = in-format format image s (card-good format image s e)

pub own-format : (format : Format) (image : List ℕ) (s : Superblock) → open_card format image ≡ ok s → open_card s.geometry.format image ≡ ok s
own-format format image s e = subst (λ (f : Format). open_card f image ≡ ok s) (open-format format image s e) e

-- ---- all that is known of an open card
pub record OpenFacts (image : List ℕ) (s : Superblock) : Type 0 where
  -- N clusters, two pages to each
  pub long : length image ≡ cluster_bytes s.geometry.format * s.clusters
  pub pages : pages_in s.geometry.format (length image) ≡ 2 * s.clusters
  pub least : least_clusters ≤ s.clusters
  pub most : s.clusters ≤ most_clusters
  -- the allocatable clusters lie in the image
  pub some_end : 1 ≤ s.end
  pub room : s.geometry.offset + s.end ≤ s.clusters
  -- the indirect cluster and the table's clusters lie before them, after cluster 0, and are all different
  pub indirect-above : 1 ≤ s.indirect
  pub indirect-below : s.indirect < s.geometry.offset
  pub many : length (names_of image s) ≡ table_clusters s.end
  pub range : (i : ℕ) → i < table_clusters s.end → (1 ≤ get_or (names_of image s) i 0) × (get_or (names_of image s) i 0 < s.geometry.offset)
  pub apart : (i : ℕ) → i < table_clusters s.end → get_or (names_of image s) i 0 ≡ s.indirect → ⊥
  pub once : (i j : ℕ) → i < table_clusters s.end → j < table_clusters s.end
      → get_or (names_of image s) i 0 ≡ get_or (names_of image s) j 0 → i ≡ j
  -- every page of them that the check needs is readable
  pub superblock-read : Readable s.geometry.format image 0
  pub superblock-is : superblock_of s.geometry.format (data_of (page_at s.geometry.format image 0)) ≡ s
  pub first_read : Readable s.geometry.format image (2 * s.indirect)
  pub second-read : Readable s.geometry.format image (2 * s.indirect + 1)
  pub table-read : (t : ℕ) → t < 2 * table_clusters s.end → Readable s.geometry.format image (table_page (names_of image s) t)

pub open-facts : (format : Format) (image : List ℕ) (s : Superblock) → open_card format image ≡ ok s → OpenFacts image s
open-facts format image s e =
    let g = card-good format image s e in
    go (subst (λ (f : Format). GoodCard f image s) (in-format format image s g) g)
  where
    go : GoodCard s.geometry.format image s → OpenFacts image s
    go g =
        let n = card-numbers s.geometry.format image s g in
        let t = g.table in
        let size = many image s in
        let indirect = in-range s.geometry.offset s.indirect s.bad t.indirect-good in
        let name : (i : ℕ) → i < table_clusters s.end → Named s.geometry.offset (s.indirect ∷ []) (get_or (names_of image s) i 0) =
        λ i h. name-good s.geometry.offset s.bad (s.indirect ∷ []) (names_of image s) t.names-good i (omega arith) in
        record {
          long = n.long;
          pages = n.pages;
          least = n.least;
          most = n.most;
          some_end = n.some_end;
          room = n.room;
          indirect-above = indirect.0;
          indirect-below = indirect.1;
          many = size;
          range = λ i h. ((name i h).0, (name i h).1);
          apart = λ i h q. let z : times (s.indirect ∷ []) s.indirect ≡ 0 = rw q at (name i h).2 in omega (arith, hit-self s.indirect);
          once = λ i j h k. name-once s.geometry.offset s.bad (s.indirect ∷ []) (names_of image s) t.names-good i j (omega arith) (omega arith);
          superblock-read = g.page-read;
          superblock-is = g.superblock;
          first_read = t.first_read;
          second-read = t.second-read;
          table-read = t.table-read;
        }

-- ---- an image that keeps what the check up to the table goes by
pub names-kept : (image other : List ℕ) (s : Superblock) → page_at s.geometry.format other (2 * s.indirect) ≡ page_at s.geometry.format image (2 * s.indirect)
    → page_at s.geometry.format other (2 * s.indirect + 1) ≡ page_at s.geometry.format image (2 * s.indirect + 1) → names_of other s ≡ names_of image s
names-kept image other s first second = rw (first, second)

-- The check up to the table goes by the image's length, page 0, the indirect cluster's pages, and that the table's pages are readable.
pub open_kept : (format : Format) (image other : List ℕ) (s : Superblock) → open_card format image ≡ ok s → length other ≡ length image → page_at s.geometry.format other 0 ≡ page_at s.geometry.format image 0
    → page_at s.geometry.format other (2 * s.indirect) ≡ page_at s.geometry.format image (2 * s.indirect) → page_at s.geometry.format other (2 * s.indirect + 1) ≡ page_at s.geometry.format image (2 * s.indirect + 1)
    → ((t : ℕ) → t < 2 * table_clusters s.end → Readable s.geometry.format other (table_page (names_of image s) t)) → open_card format other ≡ ok s
open_kept format image other s e size zero first second reads =
    let g = card-good format image s e in
    let f = in-format format image s g in
    good-card format other s (subst (λ (x : Format). GoodCard x other s) (sym f) (go (subst (λ (x : Format). GoodCard x image s) f g)))
  where
    go : GoodCard s.geometry.format image s → GoodCard s.geometry.format other s
    go g =
        let t = g.table in
        record {
          length-good = rw size g.length-good;
          page-read = rw zero g.page-read;
          text-good = rw zero g.text-good;
          numbers-good = rw (size, zero) g.numbers-good;
          superblock = rw zero g.superblock;
          table =
              record {
                indirect-good = t.indirect-good;
                first_read = rw first t.first_read;
                second-read = rw second t.second-read;
                names-good = rw (first, second) t.names-good;
                table-read = λ i h. rw (names-kept image other s first second) (reads i h);
              };
        }
