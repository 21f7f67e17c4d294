-- A scan along the slots of a directory, counted from slot 2, or the pages of a file: the first one that is looked for.
use Rattle.std.specs.Prelude.{◌≡◌, ℕ, suc, ◌-◌, ◌<◌, Bool, false, cond, not, ◌&&◌, List, [], ◌∷◌, Option, None, Some, nat_le}
use Rattle.std.proofs.Math.Option.{Option as Maybe, none, some}
use Rattle.model.specs.Bytes.{page_limit}
use Rattle.model.specs.Entry.{Entry, is_live}
use Rattle.model.specs.Names.{Name, same_name}
use Rattle.model.specs.View.{View}
use Rattle.page.specs.Page.{is_some}
use Rattle.tree.specs.Slots.{slot_pages}
use Rattle.tree.specs.declared.along.Place.{Place}

-- the first slot that a test of slot and page takes
unfoldable pub scan : (ℕ → ℕ → Bool) → List ℕ → ℕ → Option Place
scan test [] k = None
scan test (p ∷ ps) k = cond (test k p) (Some (record { slot = k; page = p })) (scan test ps (suc k))

-- a slot is one of the `count` that were scanned, and its page one that two words can name
abbrev pub Within : ℕ → Option Place → Type 0
Within count None = Unit {0}
Within count (Some place) = (place.page < page_limit) × (place.slot < count)

-- the answer of a scan: of the slots `low` to `high` - 1, and of the first `count`
abbrev pub FirstFrom : (ℕ → ℕ → Bool) → List ℕ → ℕ → ℕ → ℕ → Option Place → Type 0
FirstFrom test table start low high r = (r ≡ scan test (slot_pages table start low (high - low)) low) × Within high r

abbrev pub FirstOf : (ℕ → ℕ → Bool) → List ℕ → ℕ → ℕ → Option Place → Type 0
FirstOf test table start count r = (r ≡ scan test (slot_pages table start 0 count) 0) × Within count r

-- what a call tells, true or false, is the test's answer
abbrev pub Computes : (ℕ → ℕ → Bool → Type 0) → (ℕ → ℕ → Bool) → Type 0
Computes post tests = (k p : ℕ) (r : Bool) → post k p r → r ≡ tests k p

-- a live entry that bears the name
abbrev pub bears : Name → Maybe Entry → Bool
bears n none = false
bears n (some e) = is_live e && same_name e.name n

abbrev pub bearing : View → Name → ℕ → ℕ → Bool
bearing v n k p = bears n (v.entry p)

-- a live entry in slot `from` or a later one
abbrev pub lives : Maybe Entry → Bool
lives none = false
lives (some e) = is_live e

abbrev pub living_from : View → ℕ → ℕ → ℕ → Bool
living_from v from k p = nat_le from k && lives (v.entry p)

-- a dead entry
abbrev pub dies : Maybe Entry → Bool
dies none = false
dies (some e) = not (is_live e)

abbrev pub dying : View → ℕ → ℕ → Bool
dying v k p = dies (v.entry p)

-- a page that is unreadable
abbrev pub unread : View → ℕ → ℕ → Bool
unread v k p = not (is_some (v.page p))
