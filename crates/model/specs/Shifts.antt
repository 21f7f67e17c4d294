-- What is claimed of the shifting rule, for every valid time and every whole number of minutes, and numbers to meet.
use Rattle.std.specs.Prelude.{◌*◌, ◌+◌, ◌-◌, suc, zero, ℕ, true, List, ◌≡◌, ◌+ℤ◌, negsuc, neg_ℤ, pos, ℤ, take}
use Rattle.std.proofs.Math.Option.{none, some}
use Rattle.model.specs.declared.Date.{Date}
use Rattle.model.specs.declared.Moment.{Moment}
use Rattle.model.specs.Time.{is_leap, month_days, valid_moment}
use Rattle.model.specs.Calendar.{minute_of_day, shifted}
use Rattle.model.specs.Needed.{total_over}

-- ---- minutes since 1980 began: a second way through the calendar, by whole years and months

-- the days of these months
abbrev pub days_of : List ℕ → ℕ
days_of months = total_over (λ days. days) months

-- the days of the first so many years
unfoldable pub days_of_years : ℕ → ℕ
days_of_years zero = 0
days_of_years (suc k) = days_of_years k + days_of (month_days (is_leap (1980 + k)))

abbrev pub day_number : Date → ℕ
day_number d = days_of_years (d.year - 1980) + days_of (take (d.month - 1) (month_days (is_leap d.year))) + (d.day - 1)

abbrev pub minute_number : Moment → ℕ
minute_number m = day_number m.date * 1440 + minute_of_day m

-- ---- the claims

-- where a shift of a valid time leads to another
pub record ShiftLeads (minutes : ℤ) (m n : Moment) : Type 0 where
  pub valid : valid_moment n ≡ true
  pub exact : pos (minute_number n) ≡ pos (minute_number m) +ℤ minutes
  pub seconds : n.second ≡ m.second
  pub back : shifted (neg_ℤ minutes) n ≡ some m

-- A shift of 0 stays; one that leads somewhere leads exactly there; and one leads to every valid time that lies so many minutes away.
pub record ShiftsReturn : Type 0 where
  pub stays : (m : Moment) → valid_moment m ≡ true → shifted (pos 0) m ≡ some m
  pub leads : (minutes : ℤ) (m n : Moment) → valid_moment m ≡ true → shifted minutes m ≡ some n → ShiftLeads minutes m n
  pub reaches : (minutes : ℤ) (m n : Moment) → valid_moment m ≡ true → valid_moment n ≡ true → n.second ≡ m.second
      → pos (minute_number n) ≡ pos (minute_number m) +ℤ minutes → shifted minutes m ≡ some n

-- ---- numbers to meet: both ends of the allowed shifts, at ends of months, years and the calendar

abbrev pub at : ℕ → ℕ → ℕ → ℕ → ℕ → ℕ → Moment
at year month day hour minute second = record { date = record { year = year; month = month; day = day }; hour = hour; minute = minute; second = second }

-- the last second of a day 300 minutes ahead, and its first 1,260 minutes behind
abbrev pub LastAhead : ℕ → ℕ → ℕ → ℕ → ℕ → ℕ → Type 0
LastAhead year month day y m d = shifted (pos 300) (at year month day 23 59 59) ≡ some (at y m d 4 59 59)

abbrev pub FirstBehind : ℕ → ℕ → ℕ → ℕ → ℕ → ℕ → Type 0
FirstBehind year month day y m d = shifted (negsuc 1259) (at year month day 0 0 0) ≡ some (at y m d 3 0 0)

pub record ShiftNumbers : Type 0 where
  pub stays : shifted (pos 0) (at 2000 2 29 12 34 56) ≡ some (at 2000 2 29 12 34 56)
  -- 28 and 29 February
  pub ahead-2000 : LastAhead 2000 2 28 2000 2 29
  pub ahead-2023 : LastAhead 2023 2 28 2023 3 1
  pub ahead-2024 : LastAhead 2024 2 28 2024 2 29
  pub ahead-2100 : LastAhead 2100 2 28 2100 3 1
  pub leap-day-2000 : LastAhead 2000 2 29 2000 3 1
  pub leap-day-2024 : LastAhead 2024 2 29 2024 3 1
  pub behind-2000 : FirstBehind 2000 3 1 2000 2 29
  pub behind-2023 : FirstBehind 2023 3 1 2023 2 28
  pub behind-2024 : FirstBehind 2024 3 1 2024 2 29
  pub behind-2100 : FirstBehind 2100 3 1 2100 2 28
  pub to-28-2000 : FirstBehind 2000 2 29 2000 2 28
  pub to-28-2024 : FirstBehind 2024 2 29 2024 2 28
  -- other months' ends, and a year's
  pub april : LastAhead 2026 4 30 2026 5 1
  pub may : FirstBehind 2026 5 1 2026 4 30
  pub january : LastAhead 2026 1 31 2026 2 1
  pub february : FirstBehind 2026 2 1 2026 1 31
  pub new-year : LastAhead 1999 12 31 2000 1 1
  pub old-year : FirstBehind 2000 1 1 1999 12 31
  -- the last and the first minute that stay in 1980 to 9999, and the ones beyond them
  pub last-in : shifted (pos 300) (at 9999 12 31 18 59 59) ≡ some (at 9999 12 31 23 59 59)
  pub last_out : shifted (pos 300) (at 9999 12 31 19 0 0) ≡ none
  pub first-in : shifted (negsuc 1259) (at 1980 1 1 21 0 0) ≡ some (at 1980 1 1 0 0 0)
  pub first_out : shifted (negsuc 1259) (at 1980 1 1 20 59 59) ≡ none
