-- Every date is so many days after 1 January 1980, so its number tells it; and a shift reaches the time that lies so many minutes away.
use Prim.Native.Nat.{◌*◌, ◌+◌, ◌-◌, ◌<◌, ◌≤◌, suc, zero, ℕ}
use mathlib.Core.Bool.{Bool, false, true}
use mathlib.Core.Logic.{◌⊎◌, inl, inr, ⊎_elim}
use mathlib.Core.Option.{some}
use mathlib.Core.Path.{◌∙◌, ◌≡◌, ap, refl, sym}
use native.Mathlib.Omega.{arith}
use borrow.Author.Tests.{leb-false, leb-true, ltb-false, ltb-true}
use lib.Dec.{leb, ltb}
use lib.IntN.{◌+ℤ◌, neg_ℤ, pos, sub_ℕ, ℤ}
use Rattle.model.specs.declared.Date.{Date}
use Rattle.model.specs.declared.Moment.{Moment}
use Rattle.model.specs.Time.{in_years}
use Rattle.model.specs.Calendar.{clock_at, day_after, day_before, days_earlier, days_later, from_midnight, minute_of_day, moved, shifted}
use Rattle.model.specs.Shifts.{ShiftsReturn, day_number, days_of_years, minute_number}
use Rattle.model.proofs.Calendar.{Dated, after-before, by_before, dated-before, earlier-later, on}
use Rattle.model.proofs.DayNumbers.{exact-by, number-after}
use Rattle.model.proofs.Shifts.{Valid, back_by, clock-same, earlier-of, later-by, later_of, minute-below, moved-second, moved-valid, moved-zero, shifted_in, shifted-is, sub-cross, sub_more, valid-by, valid-facts, year-from}

-- ---- the day before

abbrev epoch : Date
epoch = on 1980 1 1

-- what a day is after
Follows : Date → Type 0
Follows d = (1980 ≤ (day_before d).year) × (day_number d ≡ day_number (day_before d) + 1)

module _ (d : Date) (z : Dated d) (from : 1980 ≤ d.year) where
  follows : 1980 ≤ (day_before d).year → Follows d
  unfolding Follows
  follows h =
      (h, sym (ap day_number (after-before d z (omega (arith, from)))) ∙ number-after (day_before d) (dated-before d z) h)

  first-or : (d ≡ epoch) ⊎ Follows d
  first-or =
      by_before d (λ e. (1980 ≤ e.year → Follows d) → (d ≡ epoch) ⊎ Follows d) (λ h f. inr (f from)) (λ h k f. inr (f from)) (λ h k f. go h k f (ltb 1980 d.year) refl) follows
    where
      go : d.day ≤ 1 → d.month ≤ 1 → (1980 ≤ d.year - 1 → Follows d) → (b : Bool) → ltb 1980 d.year ≡ b → (d ≡ epoch) ⊎ Follows d
      go h k f true e = inr (f (omega (arith, ltb-true 1980 d.year e)))
      go h k f false e =
          let year : d.year ≡ 1980 = omega (arith, from, ltb-false 1980 d.year e) in
          let month : d.month ≡ 1 = omega (arith, k, z.month-from) in
          let day : d.day ≡ 1 = omega (arith, h, z.day-from) in
          inl (rw (year, month, day))

-- ---- a date by its number

later_last : (k : ℕ) (d : Date) → days_later k (day_after d) ≡ day_after (days_later k d)
unfolding days_later
later_last zero d = refl
later_last (suc k) d = later_last k (day_after d)

later-sum : (a b : ℕ) (d : Date) → days_later (a + b) d ≡ days_later b (days_later a d)
unfolding days_later
later-sum zero b d = let none : 0 + b ≡ b = omega arith in rw none
later-sum (suc a) b d = let next : suc a + b ≡ suc (a + b) = omega arith in rw next (later-sum a b (day_after d))

since : (n : ℕ) (d : Date) → Dated d → 1980 ≤ d.year → day_number d ≡ n → days_later n epoch ≡ d
unfolding days_later Follows days_of_years
since zero d z from e = ⊎_elim (λ first. sym first) (λ f. absurd (omega (arith, e, f.1))) (first-or d z from)
since (suc n) d z from e =
    ⊎_elim
    (λ first. absurd (let none : day_number d ≡ 0 = ap day_number first in omega (arith, e, none)))
    (λ f. later_last n epoch ∙ ap day_after (since n (day_before d) (dated-before d z) f.0 (omega (arith, e, f.1))) ∙ after-before d z (omega (arith, from)))
    (first-or d z from)

-- the date whose number is k more
later-is : (k : ℕ) (d e : Date) → Dated d → 1980 ≤ d.year → Dated e → 1980 ≤ e.year → day_number e ≡ day_number d + k → days_later k d ≡ e
later-is k d e z from y above sum =
    ap (days_later k) (sym (since (day_number d) d z from refl)) ∙ sym (later-sum (day_number d) k epoch) ∙ since (day_number d + k) e y above sum

-- ---- a time by its number

module _ (s : ℤ) (m n : Moment) (v : Valid m) (w : Valid n) (second : n.second ≡ m.second) (sum : pos (minute_number n) ≡ pos (minute_number m) +ℤ s) where
  abbrev T : ℕ
  T = minute_of_day m

  abbrev U : ℕ
  U = minute_of_day n

  abbrev D : ℕ
  D = day_number m.date

  abbrev E : ℕ
  E = day_number n.date

  -- the clock of n, set on its own day
  set-as : clock_at m n.date U ≡ n
  set-as = rw (← second) (clock-same n w)

  -- in the same day or a later one
  reach-later : D ≤ E → moved s m ≡ n
  reach-later h =
      let k = E - D in
      let minutes : pos T +ℤ s ≡ pos (U + k * 1440) =
      later-by (minute_number m) (minute_number n) s sum (λ s. pos T +ℤ s ≡ pos (U + k * 1440))
      (λ j e. ap pos (omega (arith, h, e)))
      (λ j e. sub_more T (suc j) (omega (arith, h, e)) ∙ ap pos (omega (arith, h, e))) in
      let days = later-is k m.date n.date v.dated (year-from m.date.year v.year-in) w.dated (year-from n.date.year w.year-in) (omega (arith, h)) in
      ap (λ (z : ℤ). from_midnight z m) minutes ∙ later_of k U (minute-below n w) m ∙ ap (λ d. clock_at m d U) days ∙ set-as

  -- in an earlier one
  reach-earlier : E < D → moved s m ≡ n
  reach-earlier h =
      let k = D - E in
      let minutes : pos T +ℤ s ≡ sub_ℕ U (k * 1440) =
      later-by (minute_number m) (minute_number n) s sum (λ s. pos T +ℤ s ≡ sub_ℕ U (k * 1440))
      (λ j e. absurd (omega (arith, h, e, minute-below n w)))
      (λ j e. sub-cross T (suc j) U (k * 1440) (omega (arith, h, e))) in
      let days = later-is k n.date m.date w.dated (year-from n.date.year w.year-in) v.dated (year-from m.date.year v.year-in) (omega (arith, h)) in
      let back : days_earlier k m.date ≡ n.date = ap (days_earlier k) (sym days) ∙ earlier-later k n.date w.dated in
      ap (λ (z : ℤ). from_midnight z m) minutes ∙ earlier-of k U (minute-below n w) m ∙ ap (λ d. clock_at m d U) back ∙ set-as

  reached : shifted s m ≡ some n
  reached = go (leb D E) refl
    where
      lands : moved s m ≡ n → shifted s m ≡ some n
      lands same = shifted_in s m (ap (λ (x : Moment). in_years x.date.year) same ∙ w.year-in) ∙ ap some same

      go : (b : Bool) → leb D E ≡ b → shifted s m ≡ some n
      go true e = lands (reach-later (leb-true D E e))
      go false e = lands (reach-earlier (leb-false D E e))

-- ---- the claim

pub shifts-return : ShiftsReturn
shifts-return =
    record {
      stays = λ m e.
          let v = valid-facts m e in
          let same = moved-zero m v in
          shifted_in (pos 0) m (ap (λ (n : Moment). in_years n.date.year) same ∙ v.year-in) ∙ ap some same;
      leads = λ s m n e h.
          let v = valid-facts m e in
          let is = shifted-is s m n h in
          let back = back_by m v s (pos (minute_of_day m) +ℤ s) refl is.0 in
          record {
            valid = rw (← is.1) (valid-by (moved s m) (moved-valid m v (pos (minute_of_day m) +ℤ s) is.0));
            exact = rw (← is.1) (exact-by m v s (pos (minute_of_day m) +ℤ s) refl is.0);
            seconds = rw (← is.1) (moved-second m v (pos (minute_of_day m) +ℤ s));
            back = rw (← is.1) (shifted_in (neg_ℤ s) (moved s m) (ap (λ (n : Moment). in_years n.date.year) back ∙ v.year-in) ∙ ap some back);
          };
      reaches = λ s m n e f same sum. reached s m n (valid-facts m e) (valid-facts n f) same sum;
    }
