-- From one day to the next, and a time shifted by minutes (RULES, "Listing").
use Rattle.std.specs.Prelude.{◌%◌, ◌*◌, ◌+◌, ◌-◌, ◌/◌, suc, zero, ℕ, Bool, ◌&&◌, cond, List, ltb, ◌+ℤ◌, negsuc, pos, ℤ}
use Rattle.std.proofs.Math.Option.{Option, none, some}
use Rattle.std.specs.Int.Signed.{le_z}
use Rattle.model.specs.declared.Date.{Date}
use Rattle.model.specs.declared.Moment.{Moment}
use Rattle.model.specs.Time.{days_in, in_years, moment_of, valid_time}

-- ---- days

-- One further in the month; after its last day the first of the next month; after 31 December 1 January of the next year.
abbrev pub day_after : Date → Date
day_after d =
    cond (ltb d.day (days_in d.year d.month)) (record { year = d.year; month = d.month; day = d.day + 1 })
    (cond (ltb d.month 12) (record { year = d.year; month = d.month + 1; day = 1 })
    (record { year = d.year + 1; month = 1; day = 1 }))

-- One back in the month; before its first day the last of the month before; before 1 January 31 December of the year before.
abbrev pub day_before : Date → Date
day_before d =
    cond (ltb 1 d.day) (record { year = d.year; month = d.month; day = d.day - 1 })
    (cond (ltb 1 d.month) (record { year = d.year; month = d.month - 1; day = days_in d.year (d.month - 1) })
    (record { year = d.year - 1; month = 12; day = 31 }))

unfoldable pub days_later : ℕ → Date → Date
days_later zero d = d
days_later (suc k) d = days_later k (day_after d)

unfoldable pub days_earlier : ℕ → Date → Date
days_earlier zero d = d
days_earlier (suc k) d = day_before (days_earlier k d)

-- ---- minutes

-- a day has 1,440; which of them the clock shows
abbrev pub minute_of_day : Moment → ℕ
minute_of_day m = m.hour * 60 + m.minute

-- that minute of a day; the seconds stay
abbrev pub clock_at : Moment → Date → ℕ → Moment
clock_at m d minute = record { date = d; hour = minute / 60; minute = minute % 60; second = m.second }

-- The minute that lies so far from the midnight with which the moment's day begins: from 1,440 on it is in a later day,
-- below 0 in an earlier one, with -1 (`negsuc 0`) the last minute of the day before.
unfoldable pub from_midnight : ℤ → Moment → Moment
from_midnight (pos n) m = clock_at m (days_later (n / 1440) m.date) (n % 1440)
from_midnight (negsuc n) m = clock_at m (days_earlier (n / 1440 + 1) m.date) (1439 - n % 1440)

-- so many minutes ahead, or behind where they are negative, whatever year that is
abbrev pub moved : ℤ → Moment → Moment
moved minutes m = from_midnight (pos (minute_of_day m) +ℤ minutes) m

-- The shifting rule, for any whole number of minutes: nothing where the result is not in 1980 to 9999.
unfoldable pub shifted : ℤ → Moment → Option Moment
shifted minutes m = cond (in_years (moved minutes m).date.year) (some (moved minutes m)) none

-- the shifts that a listing takes: from 1,260 minutes behind Japan (`negsuc 1259`) to 300 ahead
abbrev pub is_shift : ℤ → Bool
is_shift minutes = le_z (negsuc 1259) minutes && le_z minutes (pos 300)

-- What is shown of a stored time: the shifted one. Nothing where the time is invalid or no listing takes the shift.
unfoldable pub shown : ℤ → List ℕ → Option Moment
shown minutes t = cond (valid_time t && is_shift minutes) (shifted minutes (moment_of t)) none
