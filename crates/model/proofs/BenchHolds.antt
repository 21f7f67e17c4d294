-- The bench card's numbers, computed from the definitions.
use mathlib.Core.Bool.{false, true}
use mathlib.Core.List.{[], ◌∷◌}
use mathlib.Core.Path.{◌≡◌, refl}
use Rattle.model.specs.Bench.{BenchNumbers, bench, locked_bench}
use Rattle.model.specs.Check.{and_then, check_tree}
use Rattle.model.specs.Pages.{data_pages, new_page, zero_page}
use Rattle.model.specs.Perform.{perform}
use Rattle.model.specs.Plan.{free_below}
use Rattle.model.specs.Refusal.{lock_refusal, refusal}
use Rattle.model.specs.Time.{valid_time}
use Rattle.model.specs.View.{Link, link_of}

pub bench-numbers : BenchNumbers
unfolding bench locked_bench perform check_tree and_then refusal lock_refusal free_below valid_time data_pages new_page zero_page
bench-numbers =
    record {
      fresh = refl;
      full = refl;
      too_much = refl;
      full_again = refl;
      too_much_again = refl;
      removed_first = refl;
      created_first = refl;
      saved = refl;
      locked_counts = refl;
      locked_create = refl;
      locked_make = refl;
      locked_absent = refl;
    }

-- The numbers of times and table words that are marked P, for the one list of them.
pub record RuleNumbers : Type 0 where
  pub leap_day2000 : valid_time (0 ∷ 0 ∷ 0 ∷ 0 ∷ 29 ∷ 2 ∷ 0xD0 ∷ 0x07 ∷ []) ≡ true
  pub leap_day2100 : valid_time (0 ∷ 0 ∷ 0 ∷ 0 ∷ 29 ∷ 2 ∷ 0x34 ∷ 0x08 ∷ []) ≡ false
  pub word_free : link_of 0x7FFFFFFF ≡ Link.free
  pub word_next : link_of 0x80000001 ≡ Link.next 1
  pub word_end : link_of 0xFFFFFFFF ≡ Link.last

pub rule-numbers : RuleNumbers
unfolding valid_time
rule-numbers = record { leap_day2000 = refl; leap_day2100 = refl; word_free = refl; word_next = refl; word_end = refl }
