-- The lookup as the code does it: along a file's pages, and from one directory to the next.
use Rattle.std.specs.Prelude.{ℕ, suc, zero, ◌+◌, ◌-◌, ◌/◌, ◌<◌, ◌≤◌, false, true, cond, List, [], ◌++◌, ◌∷◌, map, ◌⊎◌, ◌≡◌, length, Option, Some, None, Ok, Err}
use Rattle.std.specs.Prelude.{Result as Returned}
use Rattle.std.proofs.Math.Option.{Option as Maybe, none, some}
use Rattle.fields.specs.PathBytes.{name_at}
use Rattle.layout.specs.Table.{data_of}
use Rattle.model.specs.Bytes.{word}
use Rattle.model.specs.Entry.{Entry, directory_clusters, entry_of, file_clusters, is_directory}
use Rattle.model.specs.Holds.{Chain, HoldsSlots}
use Rattle.model.specs.Names.{Name, Path}
use Rattle.model.specs.Tree.{Slot, Tree, entry_pages}
use Rattle.model.specs.View.{View, pages_of}
use Rattle.reached.specs.Table.{first_link_of}
use Rattle.tree.specs.Scan.{bearing, scan, unread}
use Rattle.tree.specs.Slots.{next_of, slot_pages}
use Rattle.layout.specs.declared.Refusal.{Refusal}
use Rattle.layout.specs.declared.Refusal.TheVariants as is
use Rattle.lookup.specs.declared.way.EntryAt.{EntryAt}
use Rattle.tree.specs.declared.along.Place.{Place}

-- ---- the pages of a file

-- the data of pages, one after the other
unfoldable pub data_along : View → List ℕ → List ℕ
data_along v [] = []
data_along v (p ∷ ps) = data_of (v.page p) ++ data_along v ps

-- how many pages hold `count` bytes that begin at byte `skip` of the first
abbrev pub pages_for : ℕ → ℕ → ℕ
pages_for skip count = (skip + count + 511) / 512

-- the pages of `count` bytes of a file from byte `skip` of its page `low` on, which lies in cluster `start`
abbrev pub pages_from : List ℕ → ℕ → ℕ → ℕ → ℕ → List ℕ
pages_from table start low skip count = slot_pages table start low (pages_for skip count)

-- what a copy of them knows: they are the pages `low` to `high` - 1, readable, and there is a byte to copy
abbrev pub CanCopy : View → List ℕ → ℕ → ℕ → ℕ → ℕ → ℕ → Type 0
CanCopy v table start low high skip count =
    (skip < 512) × (high ≡ low + pages_for skip count) × (scan (unread v) (pages_from table start low skip count) low ≡ None) × (0 < count)

-- a piece of a page from byte `skip` on: all that is left, or all that the page has
pub record Piece (skip left n : ℕ) : Type 0 where
  pub some_bytes : 0 < n
  pub within : skip + n ≤ 512
  pub wanted : n ≤ left
  pub whole : (n ≡ left) ⊎ (skip + n ≡ 512)

-- ---- from one directory to the next

-- the view holds this slot, whose entry is e and whose chain begins with cluster `first`, and all that is inside it
abbrev pub Stands : View → ℕ → Entry → Slot → Tree → Type 0
Stands v first e Slot.dead s = ⊥
Stands v first e (Slot.file d chain pages) s =
    (d ≡ e) × (is_directory e ≡ false) × (length chain ≡ file_clusters e) × Chain v (first_link_of first) chain × (pages ≡ map v.page (pages_of chain))
Stands v first e (Slot.directory d chain) s =
    (d ≡ e) × (is_directory e ≡ true) × (2 ≤ e.length) × (length chain ≡ directory_clusters e) × Chain v (first_link_of first) chain
    × ((below : ℕ) × HoldsSlots v below (entry_pages (Slot.directory d chain)) s)

-- of an entry that was found
abbrev pub StandsAt : View → EntryAt → Slot → Tree → Type 0
StandsAt v e h s = Stands v e.first (entry_of e.page) h s

-- at the entry in page p, by what was read there
abbrev pub landed : ℕ → Maybe (List ℕ) → Returned EntryAt Refusal
landed p none = Err is.Absent
landed p (some page) = Ok (record { at = p; first = word page 0x10; page = page })

abbrev pub landed_at : View → Option Place → Returned EntryAt Refusal
landed_at v None = Err is.Absent
landed_at v (Some place) = landed place.page (v.page place.page)

-- one name further: from the entry in a page, whose chain begins with cluster `first`, to the entry with this name in it
unfoldable pub entered : View → List ℕ → ℕ → List ℕ → Name → Returned EntryAt Refusal
entered v table first page n =
    cond (is_directory (entry_of page))
    (landed_at v (scan (bearing v n) (slot_pages table (next_of table first) 0 ((entry_of page).length - 2)) 0))
    (Err is.WrongKind)

-- a refusal ends the way
abbrev pub further : Returned EntryAt Refusal → (EntryAt → Returned EntryAt Refusal) → Returned EntryAt Refusal
further (Ok here) next = next here
further (Err r) next = Err r

unfoldable pub onward : View → List ℕ → Returned EntryAt Refusal → Path → Returned EntryAt Refusal
onward v table here [] = here
onward v table here (n ∷ names) = further here (λ e. onward v table (entered v table e.first e.page n) names)

-- The root's own first entry is in page 0, its chain begins with cluster 0.
abbrev pub at_root : Maybe (List ℕ) → Returned EntryAt Refusal
at_root none = Err is.Absent
at_root (some page) = Ok (record { at = 0; first = 0; page = page })

unfoldable pub descended : View → List ℕ → Path → Returned EntryAt Refusal
descended v table names = onward v table (at_root (v.page 0)) names

-- `count` names of a path's bytes, from place i on
abbrev pub names_from : List ℕ → ℕ → ℕ → Path
names_from bytes i zero = []
names_from bytes i (suc count) = name_at bytes i ∷ names_from bytes (suc i) count
