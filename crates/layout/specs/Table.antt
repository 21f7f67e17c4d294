-- The indirect cluster, the table's clusters and the table's words (RULES, "Superblock and table"): refusals 1 to 5 in the check's order.
use Rattle.std.specs.Prelude.{◌≡◌, ℕ, ◌+◌, ◌*◌, ◌/◌, ◌%◌, Bool, true, false, not, ◌&&◌, List, [], ◌∷◌, ◌++◌, length, drop, ◌==◌, nat_le, nat_lt, slice_index, Result as Returned, Ok, Err}
use Rattle.std.proofs.Math.Option.{Option, none, some}
use Rattle.page.specs.declared.Format.{Format}
use Rattle.page.specs.Page.{page_at}
use Rattle.model.specs.Bytes.{word}
use Rattle.model.specs.Check.{Result, fault, ok}
use Rattle.model.specs.Counts.{block_of, is_listed}
use Rattle.model.specs.Tree.{times}
use Rattle.model.specs.View.{pages_of}
use Rattle.layout.specs.declared.Opened.{Opened}
use Rattle.layout.specs.declared.Refusal.{Refusal}
use Rattle.layout.specs.declared.Refusal.TheVariants.{UnreadablePage}
use Rattle.layout.specs.declared.Superblock.{Superblock}
use Rattle.layout.specs.Refusal.{told_by}
use Rattle.layout.specs.Superblock.{clusters_in, good_length, good_text, good_superblock, superblock_of, up_to}

-- One word for each allocatable cluster, 256 words to a cluster.
abbrev pub table_clusters : ℕ → ℕ
table_clusters end = (end + 255) / 256

-- The first words of the indirect cluster name the table's clusters.
abbrev pub table_names : List ℕ → ℕ → List ℕ
table_names indirect k = up_to (λ i. word indirect (4 * i)) k

-- A name is a card cluster from 1 to alloc_offset - 1 that lies in no listed block; no two are equal, the indirect
-- cluster's own included.
abbrev pub in_range : ℕ → ℕ → Bool
in_range offset name = nat_le 1 name && nat_lt name offset

abbrev pub good_name : ℕ → List ℕ → ℕ → Bool
good_name offset bad name = in_range offset name && not (is_listed bad (block_of name))

abbrev pub good_table_names : ℕ → List ℕ → List ℕ → List ℕ → Bool
good_table_names offset bad seen [] = true
good_table_names offset bad seen (n ∷ ns) = (good_name offset bad n && times seen n == 0) && good_table_names offset bad (n ∷ seen) ns

-- ---- the check up to the table

module _ {A : Type 0} where
  -- a rule that is broken gives its number
  unfoldable pub unless : Bool → ℕ → Result A → Result A
  unless true n rest = rest
  unless false n rest = fault n 0

  -- a page that is needed: 2 with its number where it is unreadable
  unfoldable pub with_page : ℕ → Option (List ℕ) → (List ℕ → Result A) → Result A
  with_page p none rest = fault 2 p
  with_page p (some page) rest = rest page

  abbrev pub need_page : Format → List ℕ → ℕ → (List ℕ → Result A) → Result A
  need_page format image p rest = with_page p (page_at format image p) rest

  unfoldable pub need_pages : Format → List ℕ → List ℕ → Result A → Result A
  need_pages format image [] rest = rest
  need_pages format image (p ∷ ps) rest = need_page format image p (λ page. need_pages format image ps rest)

-- The indirect cluster's name is judged before its pages are read; both its pages, all its names, then both pages of each table cluster in turn.
unfoldable pub open_table : List ℕ → Superblock → Result Superblock
open_table image s =
    unless (good_name s.geometry.offset s.bad s.indirect) 5
    (need_page s.geometry.format image (2 * s.indirect) (λ first.
    need_page s.geometry.format image (2 * s.indirect + 1) (λ second.
    unless (good_table_names s.geometry.offset s.bad (s.indirect ∷ []) (table_names (first ++ second) (table_clusters s.end))) 5
    (need_pages s.geometry.format image (pages_of (table_names (first ++ second) (table_clusters s.end))) (ok s)))))

-- Length, page 0, format text, the other superblock rules, the table.
unfoldable pub open_card : Format → List ℕ → Result Superblock
open_card format image =
    unless (good_length format (length image)) 1
    (need_page format image 0 (λ page.
    unless (good_text page) 3
    (unless (good_superblock format (clusters_in format (length image)) page) 4
    (open_table image (superblock_of format page)))))

-- what the answer of a call says: of a card that is refused nothing but why
abbrev pub told_opened : Returned Opened Refusal → Result Superblock
told_opened answer = told_by (λ o. o.superblock) answer

-- A call that needs a page: it is in the buffer, or the call is refused with its number and the buffer as it was.
abbrev pub Needs : ℕ → Option (List ℕ) → List ℕ → Returned (Unit {0}) Refusal → List ℕ → Type 0
Needs p found before (Ok u) after = found ≡ some after
Needs p found before (Err r) after = (found ≡ none) × (r ≡ UnreadablePage p) × (after ≡ before)

-- ---- the table's words

abbrev pub data_of : Option (List ℕ) → List ℕ
data_of none = []
data_of (some page) = page

abbrev pub names_of : List ℕ → Superblock → List ℕ
names_of image s =
    table_names (data_of (page_at s.geometry.format image (2 * s.indirect)) ++ data_of (page_at s.geometry.format image (2 * s.indirect + 1))) (table_clusters s.end)

-- Word c of the table: 128 words to a page, two pages to a table cluster.
abbrev pub table_page : List ℕ → ℕ → ℕ
table_page names t = 2 * slice_index names (t / 2) + t % 2

abbrev pub table_word : Format → List ℕ → List ℕ → ℕ → ℕ
table_word format image names c = word (data_of (page_at format image (table_page names (c / 128)))) (4 * (c % 128))

-- one word for each allocatable cluster
unfoldable pub table_of : List ℕ → Superblock → List ℕ
table_of image s = up_to (table_word s.geometry.format image (names_of image s)) s.end

-- what a lent table holds after the card was opened: the words first; on a refusal what it held
abbrev pub table_after : List ℕ → Result Superblock → List ℕ → List ℕ
table_after image (fault n p) before = before
table_after image (ok s) before = table_of image s ++ drop s.end before
