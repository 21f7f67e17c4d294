-- The format that a number names, and each call's answer in it. No length is right for a number that names none: 1.
use Rattle.std.specs.Prelude.{ℕ, cond, List, eqb, ℤ}
use Rattle.std.proofs.Math.Option.{Option}
use Rattle.page.specs.declared.Format.{Format}
use Rattle.page.specs.declared.Format.TheVariants.{Plain, Raw}
use Rattle.model.specs.Calendar.{is_shift}
use Rattle.model.specs.Change.{Change}
use Rattle.model.specs.Check.{Result, fault}
use Rattle.model.specs.Entry.{Entry}
use Rattle.tree.specs.Counted.{check_of}
use Rattle.tree.specs.declared.Counts.{Counts}
use Rattle.lookup.specs.Find.{find_of}
use Rattle.layout.specs.Mended.{mended_of}
use Rattle.lookup.specs.Mended.{read_mended}
use Rattle.lookup.specs.Read.{read_of}
use Rattle.lookup.specs.Step.{step_of}
use Rattle.listing.specs.Text.{listing_of, refusal_text}
use Rattle.change.specs.Changed.{Outcome, changed}

-- 0 names raw, 1 plain
abbrev pub by_format : {A : Type 0} → ℕ → A → (Format → A) → A
by_format number refused answer = cond (eqb number 0) (answer Raw) (cond (eqb number 1) (answer Plain) refused)

abbrev pub check_by : ℕ → List ℕ → Result Counts
check_by number image = by_format number (fault 1 0) (λ format. check_of format image)

abbrev pub find_by : ℕ → List ℕ → List ℕ → Result Entry
find_by number image path = by_format number (fault 1 0) (λ format. find_of format image path)

abbrev pub step_by : ℕ → List ℕ → List ℕ → ℕ → Result (Option (ℕ × Entry))
step_by number image path slot = by_format number (fault 1 0) (λ format. step_of format image path slot)

abbrev pub read_by : ℕ → List ℕ → List ℕ → ℕ → ℕ → Result (List ℕ)
read_by number image path offset count = by_format number (fault 1 0) (λ format. read_of format image path offset count)

-- what is reported besides: the corrected chunks of the pages that the check needs, and with those that a read copies from
abbrev pub mended_by : ℕ → List ℕ → ℕ
mended_by number image = by_format number 0 (λ format. mended_of format image)

abbrev pub read_mended_by : ℕ → List ℕ → List ℕ → ℕ → ℕ → ℕ
read_mended_by number image path offset count = by_format number 0 (λ format. read_mended format image path offset count)

-- a shift that is not allowed is refused before the format too
abbrev pub list_by : ℕ → List ℕ → ℤ → List ℕ
list_by number image minutes =
    by_format number (cond (is_shift minutes) (refusal_text 1 0) (refusal_text 17 0)) (λ format. listing_of format image minutes)

abbrev pub change_by : ℕ → Change → List ℕ → Outcome
change_by number c image = by_format number (record { answer = fault 1 0; image = image }) (λ format. changed format c image)
