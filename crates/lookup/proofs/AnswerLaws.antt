-- What an answer of the code tells, by what was asked.
use Rattle.std.specs.Prelude.{Ok, Err}
use Rattle.std.specs.Prelude.{Result as Returned}
use Prim.Native.Nat.{ℕ}
use mathlib.Core.Path.{◌∙◌, ◌≡◌, ap}
use Rattle.fields.specs.Entries.{fields_of_entry}
use Rattle.fields.specs.declared.entries.Entry as fields
use Rattle.layout.specs.Refusal.{number_of, page_of, told}
use Rattle.layout.specs.declared.Refusal.{Refusal}
use Rattle.model.specs.Check.{Result, and_then, fault, ok}
use Rattle.model.specs.Entry.{Entry, entry_of}
use Rattle.model.specs.Tree.{Slot, Tree}
use Rattle.model.specs.View.{View}
use Rattle.lookup.specs.Answers.{TellsEntry}
use Rattle.lookup.specs.Descend.{Stands, StandsAt}
use Rattle.lookup.specs.Find.{found_entry}
use Rattle.lookup.specs.declared.way.EntryAt.{EntryAt}

-- a refusal, whatever is told of an answer that is none
pub tells-refused : {A B : Type 0} (x : Result A) (see : A → B) (f : Refusal) (r : Returned B Refusal) → r ≡ Err f → x ≡ fault (number_of f) (page_of f) → told r ≡ and_then x (λ a. ok (see a))
unfolding and_then
tells-refused x see f r g e = rw (g, e)

-- an answer, by what is told of it
pub tells-value : {A B : Type 0} (x : Result A) (see : A → B) (a : A) (b : B) → x ≡ ok a → b ≡ see a → told {A = B} (Ok b) ≡ and_then x (λ a. ok (see a))
unfolding and_then
tells-value x see a b e f = rw (e, f)

-- the entry that stands there is the one found
pub stands-entry : (v : View) (first : ℕ) (e : Entry) (h : Slot) (s : Tree) → Stands v first e h s → found_entry h s ≡ ok e
stands-entry v first e Slot.dead s x = absurd x
stands-entry v first e (Slot.file d cs ds) s x = ap {B = Result Entry} ok x.0
stands-entry v first e (Slot.directory d cs) s x = ap {B = Result Entry} ok x.0

pub find_at : (x : Result Entry) (v : View) (e : EntryAt) (d : fields.Entry) → ((h : Slot) × (s : Tree) × StandsAt v e h s × (x ≡ found_entry h s)) → d ≡ fields_of_entry (entry_of e.page)
    → TellsEntry x (Ok d)
find_at x v e d y b = tells-value x fields_of_entry (entry_of e.page) d (y.3 ∙ stands-entry v e.first (entry_of e.page) y.0 y.1 y.2) b
