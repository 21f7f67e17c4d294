-- What the laws of the changes in a directory share: an outcome by a test, what a call leaves, and the slots that are scanned.
use Rattle.std.specs.Option.{is_some}
use Rattle.std.specs.Prelude.{Err, None, Option, Some}
use Rattle.std.specs.Prelude.{Result as Returned}
use Prim.Native.Nat.{ℕ, ◌-◌, ◌<◌}
use mathlib.Core.Bool.{Bool, false, true}
use mathlib.Core.List.{List}
use mathlib.Core.Path.{◌∙◌, ◌≡◌, ap, refl, sym}
use native.Mathlib.Omega.{arith}
use Rattle.layout.specs.declared.Refusal.{Refusal}
use Rattle.layout.specs.declared.Refusal.TheVariants as is
use Rattle.layout.specs.Refusal.{number_of, page_of, told}
use Rattle.model.specs.Check.{fault}
use Rattle.tree.specs.declared.along.Place.{Place}
use Rattle.tree.specs.Scan.{scan}
use Rattle.tree.specs.Slots.{next_of, slot_pages}
use Rattle.lookup.specs.declared.way.EntryAt.{EntryAt}
use Rattle.change.specs.Answers.{Leaves}
use Rattle.change.specs.Calls.{pick_outcome, slots_of}
use Rattle.change.specs.Changed.{Outcome}
use Rattle.change.specs.Deeds.{entries_of}

-- what is known of both ways is known of the one that a test picks
pub picked : (test : Bool) (a b : Outcome) {outcome : Outcome} → (test ≡ true → a ≡ outcome) → (test ≡ false → b ≡ outcome) → pick_outcome test a b ≡ outcome
picked true a b on off = on refl
picked false a b on off = off refl

-- each refusal has a number above 0
pub numbered : (f : Refusal) → 0 < number_of f
numbered is.BadShift = omega arith
numbered is.BadLength = omega arith
numbered (is.UnreadablePage page) = omega arith
numbered is.BadText = omega arith
numbered is.BadSuperblock = omega arith
numbered is.BadTableName = omega arith
numbered is.BadChain = omega arith
numbered is.BadEntry = omega arith
numbered is.BadPath = omega arith
numbered is.BadTime = omega arith
numbered is.Absent = omega arith
numbered is.WrongKind = omega arith
numbered is.Exists = omega arith
numbered is.NotEmpty = omega arith
numbered is.BadOffset = omega arith
numbered is.Locked = omega arith
numbered is.NoRoom = omega arith
numbered is.WrongOutput = omega arith

module _ {outcome : Outcome} {answer : Returned (Unit {0}) Refusal} {image : List ℕ} where
  pub leaves : outcome ≡ record { answer = told answer; image = image } → Leaves outcome answer image
  leaves e = record { told = ap (λ (x : Outcome). x.answer) (sym e); left = ap (λ (x : Outcome). x.image) (sym e) }

  pub leaves-as : {other : Outcome} → outcome ≡ other → Leaves other answer image → Leaves outcome answer image
  leaves-as e h =
      record { told = h.told ∙ ap (λ (x : Outcome). x.answer) (sym e); left = h.left ∙ ap (λ (x : Outcome). x.image) (sym e) }

-- a refusal that is handed on
pub leaves-refused : {outcome : Outcome} {r : Refusal} {result : Returned (Unit {0}) Refusal} {image : List ℕ} → outcome ≡ record { answer = fault (number_of r) (page_of r); image = image } → result ≡ Err r → Leaves outcome result image
leaves-refused {outcome} {r} {result} {image} e h = leaves {answer = result} (e ∙ ap (λ (x : Returned (Unit {0}) Refusal). record { answer = told x; image = image }) (sym h))

-- ---- whether a scan has found a place
pub some-there : (o : Option Place) → is_some o ≡ true → (place : Place) × (o ≡ Some place)
some-there None h = absurd cc
some-there (Some place) h = (place, refl)

pub none-there : (o : Option Place) → is_some o ≡ false → o ≡ None
none-there None h = refl
none-there (Some place) h = cc

-- ---- the slots that the code scans are the directory's
module _ (table : List ℕ) (directory : EntryAt) {start count entries : ℕ} (starts : start ≡ next_of table directory.first) (counted : count ≡ entries - 2)
    (entries-are : entries ≡ entries_of directory) where
  pub scan-so : (test : ℕ → ℕ → Bool) {found : Option Place} → found ≡ scan test (slot_pages table start 0 count) 0 → scan test (slots_of table directory) 0 ≡ found
  scan-so test e = sym (rw (starts, counted, entries-are) at e)
