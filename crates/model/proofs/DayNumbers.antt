-- A day later is one more in the number of days, by whole years and months; so a shift adds its minutes.
use Prim.Native.Nat.{◌*◌, ◌+◌, ◌-◌, ◌/◌, ◌<◌, ◌≤◌, suc, zero, ℕ}
use mathlib.Core.Bool.{Bool, false, true}
use mathlib.Core.List.{List, [], ◌∷◌}
use mathlib.Core.Path.{◌∙◌, ◌≡◌, ap, refl, sym}
use native.Mathlib.Omega.{arith}
use lib.IntN.{◌+ℤ◌, negsuc, pos, ℤ}
use lib.ListN.{get_or, length, take}
use Rattle.model.specs.declared.Date.{Date}
use Rattle.model.specs.declared.Moment.{Moment}
use Rattle.model.specs.Time.{days_in, in_years, is_leap, month_days}
use Rattle.model.specs.Calendar.{day_after, day_before, days_earlier, days_later, from_midnight, minute_of_day}
use Rattle.model.specs.Shifts.{day_number, days_of, days_of_years, minute_number}
use Rattle.model.proofs.Calendar.{Dated, after-before, by_after, dated-after, dated-before, dated-earlier, december, year-before}
use Rattle.model.proofs.Shifts.{Valid, earlier-by, later-by, sub_more, year-from}

total-take : (l : List ℕ) (k : ℕ) → k < length l → days_of (take (suc k) l) ≡ days_of (take k l) + get_or l k 0
total-take [] k h = absurd (omega arith)
total-take (x ∷ l) zero h = omega arith
total-take (x ∷ l) (suc k) h = omega (arith, total-take l k (omega arith))

months : (leap : Bool) → length (month_days leap) ≡ 12
months true = refl
months false = refl

-- the days of the months before this one and its own
month-total : (year month : ℕ) → 1 ≤ month → month ≤ 12
    → days_of (take (month + 1 - 1) (month_days (is_leap year))) ≡ days_of (take (month - 1) (month_days (is_leap year))) + days_in year month
month-total year month from to =
    let next : month + 1 - 1 ≡ suc (month - 1) = omega (arith, from) in
    rw next (total-take (month_days (is_leap year)) (month - 1) (omega (arith, to, months (is_leap year))))

-- all twelve
year-total : (leap : Bool) → days_of (month_days leap) ≡ days_of (take 11 (month_days leap)) + 31
year-total true = refl
year-total false = refl

module _ (d : Date) (z : Dated d) (from : 1980 ≤ d.year) where
  pub number-after : day_number (day_after d) ≡ day_number d + 1
  unfolding days_of_years
  number-after =
      by_after d (λ e. day_number e ≡ day_number d + 1)
      (λ h. omega (arith, z.day-from))
      (λ h k. omega (arith, h, z.day-from, z.day-to, month-total d.year d.month z.month-from z.month-to))
      (λ h k.
      let same : d.month ≡ 12 = omega (arith, k, z.month-to) in
      let years : d.year + 1 - 1980 ≡ suc (d.year - 1980) = omega (arith, from) in
      let this : 1980 + (d.year - 1980) ≡ d.year = omega (arith, from) in
      let last : d.day ≡ 31 = omega (arith, h, z.day-to, ap (days_in d.year) same, december d.year) in
      rw (years, this, same, last) (omega (arith, year-total (is_leap d.year))))

  year-after : 1980 ≤ (day_after d).year
  year-after = by_after d (λ e. 1980 ≤ e.year) (λ h. from) (λ h k. from) (λ h k. omega (arith, from))

pub number-later : (k : ℕ) (d : Date) → Dated d → 1980 ≤ d.year → day_number (days_later k d) ≡ day_number d + k
unfolding days_later
number-later zero d z from = omega arith
number-later (suc k) d z from = omega (arith, number-later k (day_after d) (dated-after d z) (year-after d z from), number-after d z from)

pub number-earlier : (k : ℕ) (d : Date) → Dated d → 1980 ≤ (days_earlier k d).year → day_number d ≡ day_number (days_earlier k d) + k
unfolding days_earlier
number-earlier zero d z from = omega arith
number-earlier (suc k) d z from =
    let e = days_earlier k d in
    let dated = dated-earlier k d z in
    let above : 1980 ≤ e.year = omega (arith, from, year-before e) in
    let one : day_number e ≡ day_number (day_before e) + 1 = sym (ap day_number (after-before e dated (omega (arith, above)))) ∙ number-after (day_before e) (dated-before e dated) from in
    omega (arith, number-earlier k d z above, one)

-- ---- minutes

module _ (m : Moment) (v : Valid m) where
  abbrev midnight : ℕ
  midnight = day_number m.date * 1440

  pub exact-by : (s z : ℤ) → z ≡ pos (minute_of_day m) +ℤ s → in_years (from_midnight z m).date.year ≡ true
      → pos (minute_number (from_midnight z m)) ≡ pos (minute_number m) +ℤ s
  unfolding from_midnight
  exact-by s (pos k) e i =
      let days = number-later (k / 1440) m.date v.dated (year-from m.date.year v.year-in) in
      let sum : minute_number (from_midnight (pos k) m) ≡ midnight + k = omega (arith, days) in
      ap pos sum
      ∙ later-by (minute_of_day m) k s e (λ s. pos (midnight + k) ≡ pos (midnight + minute_of_day m) +ℤ s)
      (λ j h. ap pos (omega (arith, h)))
      (λ j h. ap pos (omega (arith, h)) ∙ sym (sub_more (midnight + minute_of_day m) (suc j) (omega (arith, h))))
  exact-by s (negsuc k) e i =
      let days = number-earlier (k / 1440 + 1) m.date v.dated (year-from (days_earlier (k / 1440 + 1) m.date).year i) in
      earlier-by (minute_of_day m) k s e (λ s. pos (minute_number (from_midnight (negsuc k) m)) ≡ pos (midnight + minute_of_day m) +ℤ s)
      (λ j h. ap pos (omega (arith, days, h)) ∙ sym (sub_more (midnight + minute_of_day m) (suc j) (omega (arith, days, h))))
