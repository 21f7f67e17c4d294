-- The numbers of the shifting rule, computed from the definitions.
use mathlib.Core.Path.{refl}
use Rattle.model.specs.Calendar.{days_earlier, days_later, from_midnight, shifted}
use Rattle.model.specs.Shifts.{ShiftNumbers}

pub shift-numbers : ShiftNumbers
unfolding shifted from_midnight days_later days_earlier
shift-numbers =
    record {
      stays = refl;
      ahead-2000 = refl;
      ahead-2023 = refl;
      ahead-2024 = refl;
      ahead-2100 = refl;
      leap-day-2000 = refl;
      leap-day-2024 = refl;
      behind-2000 = refl;
      behind-2023 = refl;
      behind-2024 = refl;
      behind-2100 = refl;
      to-28-2000 = refl;
      to-28-2024 = refl;
      april = refl;
      may = refl;
      january = refl;
      february = refl;
      new-year = refl;
      old-year = refl;
      last-in = refl;
      last_out = refl;
      first-in = refl;
      first_out = refl;
    }
