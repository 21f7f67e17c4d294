-- The paper's number for each refusal, the page that goes with number 2 (RULES, "Refusal numbers, in order"), and what a
-- call tells by them.
use Rattle.std.specs.Prelude.{ℕ, Result as Returned, Ok, Err}
use Rattle.model.specs.Check.{Result, fault, ok}
use Rattle.layout.specs.declared.Refusal.{Refusal}
use Rattle.layout.specs.declared.Refusal.TheVariants as is

abbrev pub number_of : Refusal → ℕ
number_of is.BadShift = 17
number_of is.BadLength = 1
number_of (is.UnreadablePage page) = 2
number_of is.BadText = 3
number_of is.BadSuperblock = 4
number_of is.BadTableName = 5
number_of is.BadChain = 6
number_of is.BadEntry = 7
number_of is.BadPath = 8
number_of is.BadTime = 14
number_of is.Absent = 9
number_of is.WrongKind = 10
number_of is.Exists = 11
number_of is.NotEmpty = 13
number_of is.BadOffset = 15
number_of is.Locked = 16
number_of is.NoRoom = 12
number_of is.WrongOutput = 23

abbrev pub page_of : Refusal → ℕ
page_of is.BadShift = 0
page_of is.BadLength = 0
page_of (is.UnreadablePage page) = page
page_of is.BadText = 0
page_of is.BadSuperblock = 0
page_of is.BadTableName = 0
page_of is.BadChain = 0
page_of is.BadEntry = 0
page_of is.BadPath = 0
page_of is.BadTime = 0
page_of is.Absent = 0
page_of is.WrongKind = 0
page_of is.Exists = 0
page_of is.NotEmpty = 0
page_of is.BadOffset = 0
page_of is.Locked = 0
page_of is.NoRoom = 0
page_of is.WrongOutput = 0

module _ {A B : Type 0} where
  -- what a call tells: its value as it is seen, or the refusal's number and page
  abbrev pub told_by : (A → B) → Returned A Refusal → Result B
  told_by see (Ok a) = ok (see a)
  told_by see (Err r) = fault (number_of r) (page_of r)

module _ {A : Type 0} where
  -- the same of a value that is seen as it is
  abbrev pub told : Returned A Refusal → Result A
  told (Ok a) = ok a
  told (Err r) = fault (number_of r) (page_of r)
