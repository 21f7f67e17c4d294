-- A shift of 0 leaves a time, the opposite shift takes back to it, and what a shift gives is valid.
use Prim.Native.Nat.{◌%◌, ◌*◌, ◌+◌, ◌-◌, ◌/◌, ◌<◌, ◌≤◌, suc, zero, ℕ}
use mathlib.Core.Bool.{Bool, false, true}
use mathlib.Core.Option.{some}
use mathlib.Core.Path.{◌∙◌, ◌≡◌, ap, refl, sym}
use native.Mathlib.Omega.{arith}
use borrow.Author.Tests.{le-leb, le-ltb, leb-true, lt-ltb, ltb-false, ltb-true}
use lib.Dec.{leb, ltb}
use lib.IntN.{◌+ℤ◌, negsuc, neg_ℤ, pos, sub_ℕ, ℤ}
use lib.Signed.{mag, non_neg}
use Rattle.model.specs.declared.Date.{Date}
use Rattle.model.specs.declared.Moment.{Moment}
use Rattle.model.specs.Time.{days_in, in_years, valid_date, valid_moment}
use Rattle.model.specs.Calendar.{clock_at, days_earlier, days_later, from_midnight, minute_of_day, moved, shifted}
use Rattle.model.proofs.Calendar.{Dated, dated-earlier, dated-later, earlier-later, later-earlier}
use Rattle.model.proofs.Chains.{cond-ok}
use Rattle.model.proofs.Equality.{and_l, and_r, tf}
use Rattle.model.proofs.StepHolds.{some_inj}

-- ---- what valid means

pub record Valid (m : Moment) : Type 0 where
  pub second-to : m.second ≤ 59
  pub minute-to : m.minute ≤ 59
  pub hour-to : m.hour ≤ 23
  pub dated : Dated m.date
  pub year-in : in_years m.date.year ≡ true

pub date-facts : (d : Date) → valid_date d ≡ true → Dated d × (in_years d.year ≡ true)
date-facts d e =
    let past_first = and_r (leb 1 d.month) _ e in
    let past-month = and_r (leb d.month 12) _ past_first in
    let past-year = and_r (in_years d.year) _ past-month in (
      record {
        month-from = leb-true 1 d.month (and_l (leb 1 d.month) _ e);
        month-to = leb-true d.month 12 (and_l (leb d.month 12) _ past_first);
        day-from = leb-true 1 d.day (and_l (leb 1 d.day) _ past-year);
        day-to = leb-true d.day (days_in d.year d.month) (and_r (leb 1 d.day) _ past-year);
      },
      and_l (in_years d.year) _ past-month,
    )

pub valid-facts : (m : Moment) → valid_moment m ≡ true → Valid m
valid-facts m e =
    let past-second = and_r (leb m.second 59) _ e in
    let past-minute = and_r (leb m.minute 59) _ past-second in
    let date = date-facts m.date (and_r (leb m.hour 23) _ past-minute) in
    record {
      second-to = leb-true m.second 59 (and_l (leb m.second 59) _ e);
      minute-to = leb-true m.minute 59 (and_l (leb m.minute 59) _ past-second);
      hour-to = leb-true m.hour 23 (and_l (leb m.hour 23) _ past-minute);
      dated = date.0;
      year-in = date.1;
    }

pub valid-by : (m : Moment) → Valid m → valid_moment m ≡ true
valid-by m v =
    rw (le-leb m.second 59 v.second-to, le-leb m.minute 59 v.minute-to, le-leb m.hour 23 v.hour-to, le-leb 1 m.date.month v.dated.month-from, le-leb m.date.month 12 v.dated.month-to, v.year-in, le-leb 1 m.date.day v.dated.day-from, le-leb m.date.day (days_in m.date.year m.date.month) v.dated.day-to)

pub year-from : (year : ℕ) → in_years year ≡ true → 1980 ≤ year
year-from year e = leb-true 1980 year (and_l (leb 1980 year) (leb year 9999) e)

-- ---- the clock

pub minute-below : (m : Moment) → Valid m → minute_of_day m < 1440
minute-below m v = omega (arith, v.minute-to, v.hour-to)

-- the minute of the day that a clock shows is the one it was set to
clock-shows : (m : Moment) (d : Date) (n : ℕ) → minute_of_day (clock_at m d n) ≡ n
clock-shows m d n = omega arith

-- a clock set to what it shows
pub clock-same : (m : Moment) → Valid m → clock_at m m.date (minute_of_day m) ≡ m
clock-same m v =
    let hours : minute_of_day m / 60 ≡ m.hour = omega (arith, v.minute-to) in
    let minutes : minute_of_day m % 60 ≡ m.minute = omega (arith, v.minute-to) in
    rw (hours, minutes)

-- ---- differences

pub sub-less : (a b : ℕ) → a < b → sub_ℕ a b ≡ negsuc (b - suc a)
sub-less a b h = rw (lt-ltb a b h)

pub sub_more : (a b : ℕ) → b ≤ a → sub_ℕ a b ≡ pos (a - b)
sub_more a b h = rw (le-ltb a b h)

-- equal differences
pub sub-cross : (a b c d : ℕ) → a + d ≡ c + b → sub_ℕ a b ≡ sub_ℕ c d
sub-cross a b c d e = go (ltb a b) refl
  where
    go : (x : Bool) → ltb a b ≡ x → sub_ℕ a b ≡ sub_ℕ c d
    go true f =
        let h = ltb-true a b f in
        sub-less a b h ∙ ap negsuc (omega (arith, h, e)) ∙ sym (sub-less c d (omega (arith, h, e)))
    go false f =
        let h = ltb-false a b f in
        sub_more a b h ∙ ap pos (omega (arith, h, e)) ∙ sym (sub_more c d (omega (arith, h, e)))

less_by : (a j : ℕ) → pos a +ℤ neg_ℤ (pos j) ≡ sub_ℕ a j
less_by a zero = ap pos (omega arith) ∙ sym (sub_more a 0 (omega arith))
less_by a (suc j) = refl

-- ---- so many days and a minute

module _ (q t : ℕ) (below : t < 1440) (m : Moment) where
  pub later_of : from_midnight (pos (t + q * 1440)) m ≡ clock_at m (days_later q m.date) t
  unfolding from_midnight
  later_of =
      let days : (t + q * 1440) / 1440 ≡ q = omega (arith, below) in
      let minute : (t + q * 1440) % 1440 ≡ t = omega (arith, below) in
      rw (days, minute)

pub earlier-of : (q t : ℕ) → t < 1440 → (m : Moment) → from_midnight (sub_ℕ t (q * 1440)) m ≡ clock_at m (days_earlier q m.date) t
unfolding from_midnight days_earlier days_later
earlier-of zero t below m =
    let days : (t - 0) / 1440 ≡ 0 = omega (arith, below) in
    let minute : (t - 0) % 1440 ≡ t = omega (arith, below) in
    rw (sub_more t 0 (omega arith), days, minute)
earlier-of (suc p) t below m =
    let days : (suc p * 1440 - suc t) / 1440 + 1 ≡ suc p = omega (arith, below) in
    let minute : 1439 - (suc p * 1440 - suc t) % 1440 ≡ t = omega (arith, below) in
    rw (sub-less t (suc p * 1440) (omega (arith, below)), days, minute)

-- ---- the minute that a shift leads to, and from there the opposite one

signs : {A : Type 0} (n k : ℕ) → pos n ≡ negsuc k → A
signs n k e = tf {b = true} refl (ap non_neg e)

-- the shift, by its sign and the minutes before and after it
pub later-by : (t k : ℕ) (s : ℤ) → pos k ≡ pos t +ℤ s → (P : ℤ → Type 0) → ((j : ℕ) → k ≡ t + j → P (pos j)) → ((j : ℕ) → k + suc j ≡ t → P (negsuc j)) → P s
later-by t k (pos j) e P ahead behind = ahead j (ap mag e)
later-by t k (negsuc j) e P ahead behind = go (ltb t (suc j)) refl
  where
    go : (b : Bool) → ltb t (suc j) ≡ b → P (negsuc j)
    go true f = signs k (suc j - suc t) (e ∙ sub-less t (suc j) (ltb-true t (suc j) f))
    go false f =
        let less = ltb-false t (suc j) f in
        let rest : k ≡ t - suc j = ap mag (e ∙ sub_more t (suc j) less) in
        behind j (omega (arith, less, rest))

pub earlier-by : (t k : ℕ) (s : ℤ) → negsuc k ≡ pos t +ℤ s → (P : ℤ → Type 0) → ((j : ℕ) → k + t ≡ j → P (negsuc j)) → P s
earlier-by t k (pos j) e P behind = signs (t + j) k (sym e)
earlier-by t k (negsuc j) e P behind = go (ltb t (suc j)) refl
  where
    go : (b : Bool) → ltb t (suc j) ≡ b → P (negsuc j)
    go true f =
        let more = ltb-true t (suc j) f in
        let rest : k ≡ suc j - suc t = ap mag (e ∙ sub-less t (suc j) more) in
        behind j (omega (arith, more, rest))
    go false f = signs (t - suc j) k (sym (e ∙ sub_more t (suc j) (ltb-false t (suc j) f)))

module _ (t k : ℕ) (s : ℤ) where
  back-later : pos k ≡ pos t +ℤ s → pos (k % 1440) +ℤ neg_ℤ s ≡ sub_ℕ t (k / 1440 * 1440)
  back-later e =
      later-by t k s e (λ s. pos (k % 1440) +ℤ neg_ℤ s ≡ sub_ℕ t (k / 1440 * 1440))
      (λ j sum. less_by (k % 1440) j ∙ sub-cross (k % 1440) j t (k / 1440 * 1440) (omega (arith, sum)))
      (λ j sum. ap pos (omega (arith, sum)) ∙ sym (sub_more t (k / 1440 * 1440) (omega (arith, sum))))

  back_earlier : negsuc k ≡ pos t +ℤ s → pos (1439 - k % 1440) +ℤ neg_ℤ s ≡ pos (t + (k / 1440 + 1) * 1440)
  back_earlier e =
      earlier-by t k s e (λ s. pos (1439 - k % 1440) +ℤ neg_ℤ s ≡ pos (t + (k / 1440 + 1) * 1440)) (λ j sum. ap pos (omega (arith, sum)))

-- ---- the laws

module _ (m : Moment) (v : Valid m) where
  abbrev T : ℕ
  T = minute_of_day m

  pub moved-zero : moved (pos 0) m ≡ m
  unfolding from_midnight days_later
  moved-zero =
      let below = minute-below m v in
      let days : (T + 0) / 1440 ≡ 0 = omega (arith, below) in
      let minute : (T + 0) % 1440 ≡ T = omega (arith, below) in
      rw (days, minute) (clock-same m v)

  -- from a later day back, and from an earlier one
  from-later : (q r : ℕ) (z : ℤ) → z ≡ sub_ℕ T (q * 1440) → from_midnight z (clock_at m (days_later q m.date) r) ≡ m
  from-later q r z e =
      rw e (earlier-of q T (minute-below m v) (clock_at m (days_later q m.date) r) ∙ ap (λ d. clock_at m d T) (earlier-later q m.date v.dated) ∙ clock-same m v)

  from-earlier : (q r : ℕ) (z : ℤ) → z ≡ pos (T + q * 1440) → 1 ≤ (days_earlier q m.date).year → from_midnight z (clock_at m (days_earlier q m.date) r) ≡ m
  from-earlier q r z e from =
      rw e (later_of q T (minute-below m v) (clock_at m (days_earlier q m.date) r) ∙ ap (λ d. clock_at m d T) (later-earlier q m.date v.dated from) ∙ clock-same m v)

  pub back_by : (s z : ℤ) → z ≡ pos T +ℤ s → in_years (from_midnight z m).date.year ≡ true
      → from_midnight (pos (minute_of_day (from_midnight z m)) +ℤ neg_ℤ s) (from_midnight z m) ≡ m
  unfolding from_midnight
  back_by s (pos k) e i =
      from-later (k / 1440) (k % 1440) _ (ap (λ (n : ℕ). pos n +ℤ neg_ℤ s) (clock-shows m m.date (k % 1440)) ∙ back-later T k s e)
  back_by s (negsuc k) e i =
      from-earlier (k / 1440 + 1) (1439 - k % 1440) _ (ap (λ (n : ℕ). pos n +ℤ neg_ℤ s) (clock-shows m m.date (1439 - k % 1440)) ∙ back_earlier T k s e) (omega (arith, year-from (days_earlier (k / 1440 + 1) m.date).year i))

  pub moved-valid : (z : ℤ) → in_years (from_midnight z m).date.year ≡ true → Valid (from_midnight z m)
  unfolding from_midnight
  moved-valid (pos k) i =
      record { second-to = v.second-to; minute-to = omega arith; hour-to = omega arith; dated = dated-later (k / 1440) m.date v.dated; year-in = i }
  moved-valid (negsuc k) i =
      record { second-to = v.second-to; minute-to = omega arith; hour-to = omega arith; dated = dated-earlier (k / 1440 + 1) m.date v.dated; year-in = i }

  pub moved-second : (z : ℤ) → (from_midnight z m).second ≡ m.second
  unfolding from_midnight
  moved-second (pos k) = refl
  moved-second (negsuc k) = refl

-- what a shift that stays in the years gives
pub shifted_in : (s : ℤ) (m : Moment) → in_years (moved s m).date.year ≡ true → shifted s m ≡ some (moved s m)
unfolding shifted
shifted_in s m i = rw i

pub shifted-is : (s : ℤ) (m n : Moment) → shifted s m ≡ some n → (in_years (moved s m).date.year ≡ true) × (moved s m ≡ n)
unfolding shifted
shifted-is s m n e = let z = cond-ok (in_years (moved s m).date.year) (some (moved s m)) n e in (z.0, some_inj z.1)
