-- The line of one entry, and what stands inside it, by what the code read of its page.
use Prim.Native.Nat.{ℕ, ◌+◌, ◌-◌, ◌≤◌}
use mathlib.Core.Bool.{false, true}
use mathlib.Core.List.{List, []}
use mathlib.Core.Option.{Option, none, some}
use mathlib.Core.Path.{◌∙◌, ◌≡◌, ap, refl}
use native.Mathlib.Omega.{arith}
use lib.IntN.{ℤ}
use lib.ListN.{drop, length, length-take}
use Rattle.fields.proofs.NameLaws.{name-short}
use Rattle.tree.specs.Scan.{lives}
use Rattle.fields.specs.Calendar.{shown_as}
use Rattle.std.specs.Prelude as code
use Rattle.model.specs.declared.Moment.{Moment}
use Rattle.model.specs.Bytes.{slice}
use Rattle.model.specs.Calendar.{shown}
use Rattle.model.specs.Entry.{Entry, entry_of, is_directory, is_live}
use Rattle.tree.specs.Slots.{next_of}
use Rattle.listing.specs.declared.path.Path.{Path}
use Rattle.listing.specs.Paths.{path_bytes}
use Rattle.listing.specs.Sizes.{name_room}
use Rattle.listing.specs.Render.{Leads, Texts, inside_at, line_at}
use Rattle.listing.specs.Stamps.{shown_text}
use Rattle.listing.specs.Text.{directory_letter, entry_line, file_letter, stamp_text, within}

pub name-fits : (page name : List ℕ) → name ≡ (entry_of page).name → length name ≤ 32
name-fits page name e = omega (arith, ap length e, name-short (slice page 0x40 32), length-take 32 (drop 0x40 page))

-- ---- an unreadable page and a dead entry

module _ (path : List ℕ) (o : Option Entry) (quiet : false ≡ lives o) where
  pub no_line : (minutes : ℤ) → [] ≡ line_at minutes path o
  no_line minutes = go o quiet
    where
      go : (o : Option Entry) → false ≡ lives o → [] ≡ line_at minutes path o
      go none h = refl
      go (some e) h = rw (← h)

  no-inside : (table : List ℕ) (deeper : Texts) → [] ≡ inside_at table deeper path o
  no-inside table deeper = go o quiet
    where
      go : (o : Option Entry) → false ≡ lives o → [] ≡ inside_at table deeper path o
      go none h = refl
      go (some e) h = rw (← h)

-- it leads to no directory
pub leads-nowhere : (table : List ℕ) (o : Option Entry) (path : Path) → false ≡ lives o → Leads table (path_bytes path) o path.len code.None
leads-nowhere table o path quiet = record { grows = tt; text = λ deeper. no-inside (path_bytes path) o quiet table deeper }

-- ---- a live entry

shown-text : (o : Option Moment) → shown_text (shown_as o) ≡ stamp_text o
shown-text none = refl
shown-text (some m) = refl

-- its length, and its path with its name, as the code has them
pub record Seen (path : List ℕ) (o : Option Entry) (e : Entry) (size : ℕ) (own : List ℕ) : Type 0 where
  pub shown : o ≡ some e
  pub live : true ≡ is_live e
  pub length-is : size ≡ e.length
  pub path-is : own ≡ within path e.name

pub seen_by : {path : List ℕ} {o : Option Entry} (page : List ℕ) {name : List ℕ} {size : ℕ} {own : List ℕ} → o ≡ some (entry_of page) → true ≡ is_live (entry_of page)
    → size ≡ (entry_of page).length → name ≡ (entry_of page).name → own ≡ within path name → Seen path o (entry_of page) size own
seen_by {path} page see live long named grown =
    record { shown = see; live = live; length-is = long; path-is = grown ∙ ap (within path) named }

module _ {path : List ℕ} {o : Option Entry} {e : Entry} {size : ℕ} {own : List ℕ} (seen : Seen path o e size own) where
  module _ (minutes : ℤ) (changed : code.Option Moment) (stamp : changed ≡ shown_as (shown minutes e.modified)) where
    pub file-line : false ≡ is_directory e → entry_line file_letter size own (shown_text changed) ≡ line_at minutes path o
    file-line kind = rw (seen.shown, ← kind, ← seen.live, seen.length-is, seen.path-is, stamp, shown-text (shown minutes e.modified))

    pub directory-line : true ≡ is_directory e → entry_line directory_letter size own (shown_text changed) ≡ line_at minutes path o
    directory-line kind = rw (seen.shown, ← kind, ← seen.live, seen.length-is, seen.path-is, stamp, shown-text (shown minutes e.modified))

  -- a file leads to none
  pub file-leads : (table : List ℕ) (len : ℕ) → false ≡ is_directory e → Leads table path o len code.None
  file-leads table len kind = record { grows = tt; text = λ deeper. rw (seen.shown, ← kind) }

  pub directory-leads : {at : Path} (table : List ℕ) (len first start count : ℕ) → true ≡ is_directory e → path_bytes at ≡ own → at.len ≤ len + name_room
      → first ≡ e.first_cluster → start ≡ next_of table first → count ≡ size - 2
      → Leads table path o len (code.Some (record { path = at; start = start; count = count }))
  directory-leads table len first start count kind same long f s c =
      record {
        grows = long;
        text = λ deeper. rw (seen.shown, ← kind, c, s, f, same, seen.length-is, seen.path-is);
      }
