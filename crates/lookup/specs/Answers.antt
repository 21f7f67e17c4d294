-- What the answers of the calls say: the value, or the paper's number.
use Rattle.std.specs.Prelude.{ℕ, List, ◌++◌, ◌≡◌, drop, length, Option, Some, None}
use Rattle.std.specs.Prelude.{Result as Returned}
use Rattle.std.proofs.Math.Option.{Option as Maybe, none, some}
use Rattle.fields.specs.Entries.{fields_of_entry}
use Rattle.fields.specs.declared.entries.Entry.{Entry}
use Rattle.layout.specs.Refusal.{told}
use Rattle.layout.specs.declared.Refusal.{Refusal}
use Rattle.model.specs.Check.{Result, and_then, fault, ok}
use Rattle.model.specs.Entry as model
use Rattle.lookup.specs.declared.stepping.Stepped.{Stepped}

-- ---- find

-- the entry's fields
abbrev pub TellsEntry : Result model.Entry → Returned Entry Refusal → Type 0
TellsEntry found answer = told answer ≡ and_then found (λ e. ok (fields_of_entry e))

-- ---- a directory step

-- the slot and the entry in it, or the end
abbrev pub stepped_in : Maybe (ℕ × model.Entry) → Option Stepped
stepped_in none = None
stepped_in (some x) = Some (record { slot = x.0; entry = fields_of_entry x.1 })

abbrev pub TellsStep : Result (Maybe (ℕ × model.Entry)) → Returned (Option Stepped) Refusal → Type 0
TellsStep step answer = told answer ≡ and_then step (λ o. ok (stepped_in o))

-- ---- a read

-- the rest of the buffer stays; on a refusal all of it
abbrev pub buffer_after : Result (List ℕ) → List ℕ → List ℕ
buffer_after (fault n p) before = before
buffer_after (ok bytes) before = bytes ++ drop (length bytes) before

pub record TellsRead (bytes : Result (List ℕ)) (answer : Returned ℕ Refusal) (before after : List ℕ) : Type 0 where
  pub count : told answer ≡ and_then bytes (λ b. ok (length b))
  pub buffer : after ≡ buffer_after bytes before
