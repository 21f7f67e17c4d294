-- A new entry's fields fit: its clusters are few and low, its time has eight bytes. So it is read back from its page.
use Prim.Native.Nat.{◌<◌, ◌^◌, ◌≤◌, suc, zero, ℕ}
use mathlib.Core.Bool.{true}
use mathlib.Core.List.{List, [], ◌∷◌}
use mathlib.Core.Option.{Option, some}
use mathlib.Core.Path.{◌≡◌, ap}
use native.Mathlib.Decide.{dec_lt}
use native.Mathlib.Omega.{arith}
use borrow.Author.Tests.{eqb-true}
use lib.ListN.{length}
use Rattle.model.specs.Change.{Rules}
use Rattle.model.specs.Counts.{total_below}
use Rattle.model.specs.Entry.{Entry}
use Rattle.model.specs.Names.{Name, legal_bytes}
use Rattle.model.specs.Pages.{decoded, new_page}
use Rattle.model.specs.Plan.{first_of, new_entry}
use Rattle.model.specs.Time.{valid_time}
use Rattle.model.specs.Tree.{times}
use Rattle.model.proofs.Equality.{and_l}
use Rattle.model.proofs.Frame.{hit-self}
use Rattle.model.proofs.PageBytes.{Whole, entry_new, length-padded, name-padded}
use Rattle.model.proofs.SlotOfName.{total-times}

pub eight-bytes : (t : List ℕ) → valid_time t ≡ true → length t ≡ 8
unfolding valid_time
eight-bytes t e = eqb-true (length t) 8 (and_l _ _ e)

total-le : (f : ℕ → ℕ) (k : ℕ) → ((c : ℕ) → f c ≤ 1) → total_below f k ≤ k
total-le f zero h = omega arith
total-le f (suc k) h = omega (arith, total-le f k h, h k)

-- clusters below a limit, each once, are no more than the limit
pub few : (end : ℕ) (cs : List ℕ) → ((c : ℕ) → times cs c ≤ 1) → ((c : ℕ) → end ≤ c → times cs c ≡ 0) → length cs ≤ end
few end cs h k = omega (arith, total-times cs end k, total-le (times cs) end h)

pub first_fits : (y : Rules) (cs : List ℕ) → ((c : ℕ) → y.alloc_end ≤ c → times cs c ≡ 0) → first_of cs < 256 ^ 4
first_fits y [] k = omega arith
first_fits y (x ∷ cs) k = go (dec_lt x y.alloc_end)
  where
    go : Dec (x < y.alloc_end) → x < 256 ^ 4
    go (yes z) = omega (arith, y.limited)
    go (no z) = absurd (omega (arith, k x (omega arith), hit-self x))

pub whole : (mode size first entry : ℕ) (t : List ℕ) (n : Name) → mode < 256 ^ 2 → size < 256 ^ 4 → first < 256 ^ 4 → entry < 256 ^ 4 → valid_time t ≡ true
    → length n < 32 → legal_bytes n ≡ true → Whole (new_entry mode size first entry t n)
whole mode size first entry t n a b c e ok short legal =
    record {
      fit = record { mode_fits = a; length_fits = b; first_fits = c; eight = eight-bytes t ok };
      created_eight = eight-bytes t ok;
      dir_entry_fits = e;
      attribute_fits = omega arith;
      field = length-padded n short;
      name = name-padded n short legal;
    }

pub decoded-new : (e : Entry) → Whole e → decoded (some (new_page e)) ≡ some e
decoded-new e w = ap {B = Option Entry} some (entry_new e w)
