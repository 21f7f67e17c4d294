-- A minute after a shift that a listing takes: in the day before, in the day itself, or in the day after; and the code's signed numbers there.
use Prim.Native.Nat.{◌%◌, ◌-◌, ◌/◌, ◌<◌, ◌≤◌, suc, ℕ}
use mathlib.Core.Bool.{Bool, ◌||◌, and-false, false, not, true}
use mathlib.Core.List.{List}
use mathlib.Core.Path.{◌∙◌, ◌≡◌, ap, ap₂, refl, sym}
use native.Mathlib.Omega.{arith}
use borrow.Author.Tests.{leb-true, ltb-false, ltb-true}
use lib.Dec.{T, eqb, leb, ltb}
use lib.IntN.{◌+ℤ◌, ◌-ℤ◌, nat_abs, negsuc, pos, sub_ℕ, ℤ}
use lib.ListN.{get_or, length}
use lib.Signed.{lt_z, mag, non_neg}
use mir.Syntax.{w32}
use mir.Val.{Fits, SFits, of_z, to_z}
use mir.ValLaws.{to_z-of_z}
use Rattle.std.specs.Prelude.{None, Some}
use Rattle.model.specs.declared.Date.{Date}
use Rattle.model.specs.declared.Moment.{Moment}
use Rattle.model.specs.Time.{in_years, moment_of, valid_date, valid_moment, valid_time}
use Rattle.model.specs.Calendar.{clock_at, day_after, day_before, days_earlier, days_later, from_midnight, is_shift, minute_of_day, moved, shifted, shown}
use Rattle.model.proofs.Calendar.{Dated}
use Rattle.model.proofs.Equality.{and_l, and_r, tf}
use Rattle.model.proofs.Shifts.{Valid, date-facts, earlier-by, minute-below, sub-less, sub_more, valid-facts}
use Rattle.fields.specs.Calendar.{shown_as}

-- ---- a number in reach, and its bits

abbrev read : ℤ → ℤ
read z = to_z w32 (of_z w32 z)

pub small-fits : (z : ℤ) → mag z < 4000 → SFits w32 z
small-fits z h = record { sfits = omega (arith, h) }

pub small-read : (z : ℤ) → mag z < 4000 → read z ≡ z
small-read z h = to_z-of_z w32 z (small-fits z h)

-- a sum or difference that is known to be a small natural
pub record Lands (x : ℤ) (k : ℕ) : Type 0 where
  pub fits : SFits w32 x
  pub cast : T (non_neg (read x)) × Fits w32 (nat_abs (read x))
  pub value : nat_abs (read x) ≡ k

pub lands : (x : ℤ) (k : ℕ) → x ≡ pos k → k < 4000 → Lands x k
lands x k e h =
    let same : read x ≡ pos k = ap read e ∙ small-read (pos k) h in
    record { fits = rw e (small-fits (pos k) h); cast = rw same (tt, record { fits = omega (arith, h) }); value = ap nat_abs same }

-- ---- the shifted minute

-- the allowed shifts, by their sign
shift-ahead : (j : ℕ) → is_shift (pos j) ≡ true → j ≤ 300
shift-ahead j e = leb-true j 300 e

shift_behind : (j : ℕ) → is_shift (negsuc j) ≡ true → j ≤ 1259
shift_behind j e = leb-true j 1259 (and_l (leb j 1259) true e)

pub near : (t : ℕ) (s : ℤ) → t < 1440 → is_shift s ≡ true → mag (pos t +ℤ s) < 1740
near t (pos j) h e = omega (arith, h, shift-ahead j e)
near t (negsuc j) h e = go (ltb t (suc j)) refl
  where
    go : (b : Bool) → ltb t (suc j) ≡ b → mag (sub_ℕ t (suc j)) < 1740
    go true f = rw (sub-less t (suc j) (ltb-true t (suc j) f)) (omega (arith, h, shift_behind j e))
    go false f = rw (sub_more t (suc j) (ltb-false t (suc j) f)) (omega (arith, h))

-- ---- the three ways of the code, by the shifted minute z from the moment's own midnight

-- what the code knows before it tests
pub record Shifts (m : Moment) (s z : ℤ) : Type 0 where
  pub valid : Valid m
  pub allowed : is_shift s ≡ true
  pub sum : z ≡ pos (minute_of_day m) +ℤ s

module _ {m : Moment} {s z : ℤ} (known : Shifts m s z) where
  pub reach : mag z < 4000
  reach = omega (arith, ap mag known.sum, near (minute_of_day m) s (minute-below m known.valid) known.allowed)

  -- below 0: not more than a day
  behind : lt_z (read z) (pos 0) ≡ true → (n : ℕ) × (z ≡ negsuc n) × (n < 1440)
  behind e = go z known.sum (ap (λ (y : ℤ). lt_z y (pos 0)) (sym (small-read z reach)) ∙ e)
    where
      go : (y : ℤ) → y ≡ pos (minute_of_day m) +ℤ s → lt_z y (pos 0) ≡ true → (n : ℕ) × (y ≡ negsuc n) × (n < 1440)
      go (pos n) f l = absurd (omega (arith, ltb-true n 0 l))
      go (negsuc n) f l =
          (n, refl, earlier-by (minute_of_day m) n s f (λ s. is_shift s ≡ true → n < 1440) (λ j sum a. omega (arith, sum, shift_behind j a)) known.allowed)

  on-day : lt_z (read z) (pos 0) ≡ false → (n : ℕ) × (z ≡ pos n)
  on-day e = go z (ap (λ (y : ℤ). lt_z y (pos 0)) (sym (small-read z reach)) ∙ e)
    where
      go : (y : ℤ) → lt_z y (pos 0) ≡ false → (n : ℕ) × (y ≡ pos n)
      go (pos n) l = (n, refl)
      go (negsuc n) l = tf {b = true} refl l

  day-left : (b : Bool) (n : ℕ) → z ≡ pos n → lt_z (read z) (pos 1440) ≡ b → ltb n 1440 ≡ b
  day-left b n e f = ap (λ (y : ℤ). lt_z y (pos 1440)) (sym (small-read z reach ∙ e)) ∙ f

  -- in the day before
  pub lands-before : lt_z (read z) (pos 0) ≡ true → (k : ℕ) × Lands (read z +ℤ pos 1440) k × (clock_at m (day_before m.date) k ≡ moved s m)
  unfolding from_midnight days_earlier
  lands-before e =
      let w = behind e in
      let n = w.0 in
      let sum : read z +ℤ pos 1440 ≡ pos (1440 - suc n) = ap (λ (y : ℤ). y +ℤ pos 1440) (small-read z reach ∙ w.1) ∙ sub_more 1440 (suc n) (omega (arith, w.2)) in
      let days : n / 1440 ≡ 0 = omega (arith, w.2) in
      let minute : 1439 - n % 1440 ≡ 1440 - suc n = omega (arith, w.2) in
      (1440 - suc n, lands _ (1440 - suc n) sum (omega arith), sym (ap (λ (y : ℤ). from_midnight y m) (sym known.sum ∙ w.1) ∙ rw (days, minute)))

  -- in the day itself
  pub lands_within : lt_z (read z) (pos 0) ≡ false → lt_z (read z) (pos 1440) ≡ true → (k : ℕ) × Lands z k × (clock_at m m.date k ≡ moved s m)
  unfolding from_midnight days_later
  lands_within e f =
      let w = on-day e in
      let n = w.0 in
      let below = ltb-true n 1440 (day-left true n w.1 f) in
      let days : n / 1440 ≡ 0 = omega (arith, below) in
      let minute : n % 1440 ≡ n = omega (arith, below) in
      (n, lands z n w.1 (omega (arith, below)), sym (ap (λ (y : ℤ). from_midnight y m) (sym known.sum ∙ w.1) ∙ rw (days, minute)))

  -- in the day after
  pub lands-after : lt_z (read z) (pos 0) ≡ false → lt_z (read z) (pos 1440) ≡ false → (k : ℕ) × Lands (read z -ℤ pos 1440) k × (clock_at m (day_after m.date) k ≡ moved s m)
  unfolding from_midnight days_later
  lands-after e f =
      let w = on-day e in
      let n = w.0 in
      let from = ltb-false n 1440 (day-left false n w.1 f) in
      let to : n < 1740 = omega (arith, ap mag (sym w.1 ∙ known.sum), near (minute_of_day m) s (minute-below m known.valid) known.allowed) in
      let sum : read z -ℤ pos 1440 ≡ pos (n - 1440) = ap (λ (y : ℤ). y -ℤ pos 1440) (small-read z reach ∙ w.1) ∙ sub_more n 1440 from in
      let days : n / 1440 ≡ 1 = omega (arith, from, to) in
      let minute : n % 1440 ≡ n - 1440 = omega (arith, from, to) in
      (n - 1440, lands _ (n - 1440) sum (omega (arith, to)), sym (ap (λ (y : ℤ). from_midnight y m) (sym known.sum ∙ w.1) ∙ rw (days, minute)))

-- ---- what the code's functions ask

-- a day's month is in the table, and its year can be counted on and back
pub date-room : (d : Date) → valid_date d ≡ true → Dated d × (1980 ≤ d.year) × (d.year ≤ 9999)
date-room d e =
    let facts = date-facts d e in
    (facts.0, leb-true 1980 d.year (and_l (leb 1980 d.year) _ facts.1), leb-true d.year 9999 (and_r (leb 1980 d.year) _ facts.1))

pub moment-date : (m : Moment) → valid_moment m ≡ true → valid_date m.date ≡ true
moment-date m e = and_r (leb m.hour 23) _ (and_r (leb m.minute 59) _ (and_r (leb m.second 59) _ e))

pub shifts_by : (m : Moment) (s z : ℤ) → (valid_moment m ≡ true) × (is_shift s ≡ true) → SFits w32 s → z ≡ pos (minute_of_day m) +ℤ read s → Shifts m s z
shifts_by m s z pre fits e =
    record { valid = valid-facts m pre.0; allowed = pre.1; sum = e ∙ ap (λ (y : ℤ). pos (minute_of_day m) +ℤ y) (to_z-of_z w32 s fits) }

-- ---- what is shown

module _ (s : ℤ) (t : List ℕ) where
  pub shown-invalid : valid_time t ≡ false → None ≡ shown_as (shown s t)
  unfolding shown
  shown-invalid e = rw e

  pub shown-elsewhere : is_shift s ≡ false → None ≡ shown_as (shown s t)
  unfolding shown
  shown-elsewhere e = rw e (simp and-false)

  module _ (valid : valid_time t ≡ true) (allowed : is_shift s ≡ true) where
    pub shown-out : in_years (moved s (moment_of t)).date.year ≡ false → None ≡ shown_as (shown s t)
    unfolding shown shifted
    shown-out e = rw (valid, allowed, e)

    pub shown-in : in_years (moved s (moment_of t)).date.year ≡ true → Some (moved s (moment_of t)) ≡ shown_as (shown s t)
    unfolding shown shifted
    shown-in e = rw (valid, allowed, e)

pub valid-shown : (t : List ℕ) → valid_time t ≡ true → valid_moment (moment_of t) ≡ true
unfolding valid_time
valid-shown t e = and_r (eqb (get_or t 0 0) 0) _ (and_r (eqb (length t) 8) _ e)

pub moved_by : {s told : ℤ} (t : List ℕ) {m n : Moment} → told ≡ s → m ≡ moment_of t → n ≡ moved told m → n ≡ moved s (moment_of t)
moved_by t e f g = g ∙ ap₂ moved e f

-- the moment of a valid time, and a shift that a listing takes
pub takes-shift : (s : ℤ) (t : List ℕ) (valid allowed : Bool) → valid ≡ valid_time t → allowed ≡ is_shift s → (not valid || not allowed) ≡ false
    → (valid_moment (moment_of t) ≡ true) × (is_shift s ≡ true)
unfolding valid_time
takes-shift s t true true e f h = (and_r (eqb (get_or t 0 0) 0) _ (and_r (eqb (length t) 8) _ (sym e)), sym f)
takes-shift s t true false e f h = cc
takes-shift s t false a e f h = cc
