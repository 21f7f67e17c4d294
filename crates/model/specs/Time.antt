-- When a time is valid (RULES, "Changes"): as a calendar and a clock show it, and as eight bytes.
use Rattle.std.specs.Prelude.{◌%◌, ◌-◌, ℕ, Bool, ◌&&◌, ◌||◌, false, not, true, List, [], ◌∷◌, eqb, leb, get_or, length}
use Rattle.model.specs.declared.Date.{Date}
use Rattle.model.specs.declared.Moment.{Moment}
use Rattle.model.specs.Bytes.{half}

-- divided by 4, but of the years that end a century only those divided by 400
abbrev pub is_leap : ℕ → Bool
is_leap year = eqb (year % 4) 0 && (not (eqb (year % 100) 0) || eqb (year % 400) 0)

-- the days of each month, one row for ordinary and one for leap years
abbrev pub month_days : Bool → List ℕ
month_days false = 31 ∷ 28 ∷ 31 ∷ 30 ∷ 31 ∷ 30 ∷ 31 ∷ 31 ∷ 30 ∷ 31 ∷ 30 ∷ 31 ∷ []
month_days true = 31 ∷ 29 ∷ 31 ∷ 30 ∷ 31 ∷ 30 ∷ 31 ∷ 31 ∷ 30 ∷ 31 ∷ 30 ∷ 31 ∷ []

-- a month from 1 to 12
abbrev pub days_in : ℕ → ℕ → ℕ
days_in year month = get_or (month_days (is_leap year)) (month - 1) 0

abbrev pub in_years : ℕ → Bool
in_years year = leb 1980 year && leb year 9999

-- Month 1 to 12, year 1980 to 9999, day from 1 to the month's last.
abbrev pub valid_date : Date → Bool
valid_date d =
    leb 1 d.month
    && (leb d.month 12 && (in_years d.year && (leb 1 d.day && leb d.day (days_in d.year d.month))))

-- Second and minute to 59, hour to 23.
abbrev pub valid_moment : Moment → Bool
valid_moment m = leb m.second 59 && (leb m.minute 59 && (leb m.hour 23 && valid_date m.date))

-- what eight bytes show: after byte 0 second, minute, hour, day, month, and a half for the year
abbrev pub moment_of : List ℕ → Moment
moment_of t =
    record {
      date = record { year = half t 6; month = get_or t 5 0; day = get_or t 4 0 };
      hour = get_or t 3 0;
      minute = get_or t 2 0;
      second = get_or t 1 0;
    }

-- Eight bytes: 0 zero, and a valid moment.
unfoldable pub valid_time : List ℕ → Bool
valid_time t = eqb (length t) 8 && (eqb (get_or t 0 0) 0 && valid_moment (moment_of t))
