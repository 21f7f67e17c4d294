-- The calendar's laws: the day before the day after is the day itself, and the other way round; so for many days.
use Prim.Native.Nat.{◌+◌, ◌-◌, ◌<◌, ◌≤◌, suc, zero, ℕ}
use mathlib.Core.Bool.{Bool, ◌&&◌, false, true}
use mathlib.Core.List.{List, [], ◌∷◌}
use mathlib.Core.Path.{◌∙◌, ◌≡◌, ap, refl, sym}
use native.Mathlib.Omega.{arith}
use borrow.Author.Tests.{le-ltb, leb-true, lt-ltb, ltb-false, ltb-true}
use lib.Dec.{leb, ltb}
use lib.ListN.{get_or, length}
use Rattle.model.specs.declared.Date.{Date}
use Rattle.model.specs.Time.{days_in, is_leap, month_days}
use Rattle.model.specs.Calendar.{day_after, day_before, days_earlier, days_later}
use Rattle.model.proofs.Equality.{and_l, and_r}

-- a day of some year's calendar
pub record Dated (d : Date) : Type 0 where
  pub month-from : 1 ≤ d.month
  pub month-to : d.month ≤ 12
  pub day-from : 1 ≤ d.day
  pub day-to : d.day ≤ days_in d.year d.month

abbrev pub on : ℕ → ℕ → ℕ → Date
on year month day = record { year = year; month = month; day = day }

-- ---- the table: every month has a day, and December has 31

abbrev some_each : List ℕ → Bool
some_each [] = true
some_each (x ∷ l) = leb 1 x && some_each l

each-some : (l : List ℕ) (k : ℕ) → some_each l ≡ true → k < length l → 1 ≤ get_or l k 0
each-some [] k e h = absurd (omega arith)
each-some (x ∷ l) zero e h = leb-true 1 x (and_l (leb 1 x) (some_each l) e)
each-some (x ∷ l) (suc k) e h = each-some l k (and_r (leb 1 x) (some_each l) e) (omega arith)

days-some : (year month : ℕ) → month ≤ 12 → 1 ≤ days_in year month
days-some year month h = go (is_leap year)
  where
    go : (leap : Bool) → 1 ≤ get_or (month_days leap) (month - 1) 0
    go true = each-some (month_days true) (month - 1) refl (omega arith)
    go false = each-some (month_days false) (month - 1) refl (omega arith)

pub december : (year : ℕ) → days_in year 12 ≡ 31
december year = go (is_leap year)
  where
    go : (leap : Bool) → get_or (month_days leap) 11 0 ≡ 31
    go true = refl
    go false = refl

-- ---- a step, by which of its three ways it goes

module _ (year month day : ℕ) where
  pub after-day : day < days_in year month → day_after (on year month day) ≡ on year month (day + 1)
  after-day h = rw (lt-ltb day (days_in year month) h)

  pub after-month : days_in year month ≤ day → month < 12 → day_after (on year month day) ≡ on year (month + 1) 1
  after-month h k = rw (le-ltb day (days_in year month) h, lt-ltb month 12 k)

  pub after-year : days_in year month ≤ day → 12 ≤ month → day_after (on year month day) ≡ on (year + 1) 1 1
  after-year h k = rw (le-ltb day (days_in year month) h, le-ltb month 12 k)

  pub before-day : 1 < day → day_before (on year month day) ≡ on year month (day - 1)
  before-day h = rw (lt-ltb 1 day h)

  pub before-month : day ≤ 1 → 1 < month → day_before (on year month day) ≡ on year (month - 1) (days_in year (month - 1))
  before-month h k = rw (le-ltb 1 day h, lt-ltb 1 month k)

  pub before-year : day ≤ 1 → month ≤ 1 → day_before (on year month day) ≡ on (year - 1) 12 31
  before-year h k = rw (le-ltb 1 day h, le-ltb 1 month k)

-- the three ways of a step, for what holds of the day that it leads to
pub by_after : (d : Date) (P : Date → Type 0) → (d.day < days_in d.year d.month → P (on d.year d.month (d.day + 1)))
    → (days_in d.year d.month ≤ d.day → d.month < 12 → P (on d.year (d.month + 1) 1))
    → (days_in d.year d.month ≤ d.day → 12 ≤ d.month → P (on (d.year + 1) 1 1)) → P (day_after d)
by_after d P in-month in-year next = go (ltb d.day (days_in d.year d.month)) refl (ltb d.month 12) refl
  where
    go : (b : Bool) → ltb d.day (days_in d.year d.month) ≡ b → (c : Bool) → ltb d.month 12 ≡ c → P (day_after d)
    go true e c f = let h = ltb-true d.day _ e in rw (after-day d.year d.month d.day h) (in-month h)
    go false e true f =
        let h = ltb-false d.day _ e in
        let k = ltb-true d.month 12 f in
        rw (after-month d.year d.month d.day h k) (in-year h k)
    go false e false f =
        let h = ltb-false d.day _ e in
        let k = ltb-false d.month 12 f in
        rw (after-year d.year d.month d.day h k) (next h k)

pub by_before : (d : Date) (P : Date → Type 0) → (1 < d.day → P (on d.year d.month (d.day - 1)))
    → (d.day ≤ 1 → 1 < d.month → P (on d.year (d.month - 1) (days_in d.year (d.month - 1)))) → (d.day ≤ 1 → d.month ≤ 1 → P (on (d.year - 1) 12 31))
    → P (day_before d)
by_before d P in-month in-year next = go (ltb 1 d.day) refl (ltb 1 d.month) refl
  where
    go : (b : Bool) → ltb 1 d.day ≡ b → (c : Bool) → ltb 1 d.month ≡ c → P (day_before d)
    go true e c f = let h = ltb-true 1 d.day e in rw (before-day d.year d.month d.day h) (in-month h)
    go false e true f =
        let h = ltb-false 1 d.day e in
        let k = ltb-true 1 d.month f in
        rw (before-month d.year d.month d.day h k) (in-year h k)
    go false e false f =
        let h = ltb-false 1 d.day e in
        let k = ltb-false 1 d.month f in
        rw (before-year d.year d.month d.day h k) (next h k)

module _ (d : Date) (z : Dated d) where
  pub dated-after : Dated (day_after d)
  dated-after =
      by_after d Dated
      (λ h. record { month-from = z.month-from; month-to = z.month-to; day-from = omega arith; day-to = omega (arith, h) })
      (λ h k. record { month-from = omega arith; month-to = omega (arith, k); day-from = omega arith; day-to = days-some d.year (d.month + 1) (omega (arith, k)) })
      (λ h k. record { month-from = omega arith; month-to = omega arith; day-from = omega arith; day-to = days-some (d.year + 1) 1 (omega arith) })

  pub dated-before : Dated (day_before d)
  dated-before =
      by_before d Dated
      (λ h. record { month-from = z.month-from; month-to = z.month-to; day-from = omega (arith, h); day-to = omega (arith, z.day-to) })
      (λ h k. record { month-from = omega (arith, k); month-to = omega (arith, z.month-to); day-from = days-some d.year (d.month - 1) (omega (arith, z.month-to)); day-to = omega arith })
      (λ h k. record { month-from = omega arith; month-to = omega arith; day-from = omega arith; day-to = omega (arith, december (d.year - 1)) })

  pub before-after : day_before (day_after d) ≡ d
  before-after =
      by_after d (λ e. day_before e ≡ d)
      (λ h. before-day d.year d.month (d.day + 1) (omega (arith, z.day-from)) ∙ ap (on d.year d.month) (omega arith))
      (λ h k.
      let same : d.month + 1 - 1 ≡ d.month = omega arith in
      let last : days_in d.year d.month ≡ d.day = omega (arith, h, z.day-to) in
      before-month d.year (d.month + 1) 1 (omega arith) (omega (arith, z.month-from)) ∙ rw (same, last))
      (λ h k.
      let same : d.month ≡ 12 = omega (arith, k, z.month-to) in
      let last : days_in d.year d.month ≡ d.day = omega (arith, h, z.day-to) in
      let many : d.day ≡ 31 = sym last ∙ ap (days_in d.year) same ∙ december d.year in
      let year : d.year + 1 - 1 ≡ d.year = omega arith in
      before-year (d.year + 1) 1 1 (omega arith) (omega arith) ∙ rw (year, same, many))

  pub after-before : 1 ≤ d.year → day_after (day_before d) ≡ d
  after-before some =
      by_before d (λ e. day_after e ≡ d)
      (λ h. after-day d.year d.month (d.day - 1) (omega (arith, z.day-to)) ∙ ap (on d.year d.month) (omega (arith, h)))
      (λ h k.
      let same : d.month - 1 + 1 ≡ d.month = omega (arith, k) in
      let first : d.day ≡ 1 = omega (arith, h, z.day-from) in
      after-month d.year (d.month - 1) (days_in d.year (d.month - 1)) (omega arith) (omega (arith, z.month-to, k)) ∙ rw (same, first))
      (λ h k.
      let same : d.month ≡ 1 = omega (arith, k, z.month-from) in
      let first : d.day ≡ 1 = omega (arith, h, z.day-from) in
      let year : d.year - 1 + 1 ≡ d.year = omega (arith, some) in
      after-year (d.year - 1) 12 31 (omega (arith, december (d.year - 1))) (omega arith) ∙ rw (year, same, first))

-- going back the years do not rise
pub year-before : (d : Date) → (day_before d).year ≤ d.year
year-before d = by_before d (λ e. e.year ≤ d.year) (λ h. omega arith) (λ h k. omega arith) (λ h k. omega arith)

-- ---- many days

pub dated-later : (k : ℕ) (d : Date) → Dated d → Dated (days_later k d)
unfolding days_later
dated-later zero d z = z
dated-later (suc k) d z = dated-later k (day_after d) (dated-after d z)

pub dated-earlier : (k : ℕ) (d : Date) → Dated d → Dated (days_earlier k d)
unfolding days_earlier
dated-earlier zero d z = z
dated-earlier (suc k) d z = dated-before (days_earlier k d) (dated-earlier k d z)

pub earlier-later : (k : ℕ) (d : Date) → Dated d → days_earlier k (days_later k d) ≡ d
unfolding days_later days_earlier
earlier-later zero d z = refl
earlier-later (suc k) d z = ap day_before (earlier-later k (day_after d) (dated-after d z)) ∙ before-after d z

pub later-earlier : (k : ℕ) (d : Date) → Dated d → 1 ≤ (days_earlier k d).year → days_later k (days_earlier k d) ≡ d
unfolding days_later days_earlier
later-earlier zero d z h = refl
later-earlier (suc k) d z h =
    let e = days_earlier k d in
    let dated = dated-earlier k d z in
    let some : 1 ≤ e.year = omega (arith, h, year-before e) in
    ap (days_later k) (after-before e dated some) ∙ later-earlier k d z some
