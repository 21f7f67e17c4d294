-- What a call's number says, and what stands afterwards in what was lent to it: a refusal yields its number, and page for 2, no other value.
use Rattle.std.specs.Prelude.{ℕ, cond, eqb}
use Rattle.std.proofs.Math.Option.{Option, none, some}
use Rattle.model.specs.Check.{Result, fault, ok}

-- what a refusal with that number and page leaves in the page's number
abbrev pub page_left : ℕ → ℕ → ℕ → ℕ
page_left number page before = cond (eqb number 2) page before

module _ {A : Type 0} where
  -- 0 where the call is accepted
  abbrev pub number_in : Result A → ℕ
  number_in (fault n p) = n
  number_in (ok x) = 0

  abbrev pub page_after : Result A → ℕ → ℕ
  page_after (fault n p) before = page_left n p before
  page_after (ok x) before = before

  -- 1 where a step leads to an entry, 0 at the end
  abbrev pub found_in : Option A → ℕ
  found_in none = 0
  found_in (some x) = 1

module _ {A B : Type 0} where
  -- a value that an accepted call gives, a number or bytes
  abbrev pub value_after : (A → B) → Result A → B → B
  value_after f (fault n p) before = before
  value_after f (ok x) before = f x

  -- a value of the entry that a step leads to; at the end there is none
  abbrev pub entry_after : (A → B) → Result (Option A) → B → B
  entry_after f (fault n p) before = before
  entry_after f (ok none) before = before
  entry_after f (ok (some x)) before = f x
