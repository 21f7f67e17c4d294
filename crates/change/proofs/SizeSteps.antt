-- The first cluster of a chain, and the page of an entry behind the last one: one law for each way.
use Rattle.std.specs.Prelude.{None}
use Prim.Native.Nat.{ℕ, ◌*◌, ◌+◌}
use mathlib.Core.List.{List, [], ◌∷◌}
use mathlib.Core.Path.{◌≡◌, refl}
use native.Mathlib.Omega.{arith}
use lib.ListN.{get_or, length}
use Rattle.model.specs.Plan.{first_of}
use Rattle.change.specs.Deeds.{page_by}

pub first-none : (clusters : List ℕ) → length clusters ≡ 0 → 4294967295 ≡ first_of clusters
first-none [] h = refl
first-none (c ∷ cs) h = absurd (omega arith)

pub first_some : (clusters : List ℕ) → (length clusters ≡ 0 → ⊥) → get_or clusters 0 0 ≡ first_of clusters
first_some [] h = absurd (h refl)
first_some (c ∷ cs) h = refl

pub page-behind : (last : ℕ) (growth : List ℕ) → length growth ≡ 0 → last * 2 + 1 ≡ page_by None last growth
page-behind last [] h = omega arith
page-behind last (g ∷ gs) h = absurd (omega arith)

pub page-added : (last : ℕ) (growth : List ℕ) → (length growth ≡ 0 → ⊥) → get_or growth 0 0 * 2 ≡ page_by None last growth
page-added last [] h = absurd (h refl)
page-added last (g ∷ gs) h = omega arith
