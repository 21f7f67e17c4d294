-- A change on a view: the card is checked first (1 to 7), then the refusals in their order, then the view after it.
use Rattle.std.specs.Prelude.{suc, zero, ℕ}
use Rattle.std.proofs.Math.Option.{Option, none, some}
use Rattle.model.specs.Change.{Change, Rules}
use Rattle.model.specs.Check.{Marks, Result, check_tree, fault, ok}
use Rattle.model.specs.Plan.{Plan, after, plan_of}
use Rattle.model.specs.Refusal.{refusal}
use Rattle.model.specs.Tree.{Root}
use Rattle.model.specs.View.{View}

pub data Answer : Type 0 where
  refused : ℕ → ℕ → Answer
  done : View → Answer

-- An accepted change has a plan (`writes_give_view`). Without one, which never comes, what the change needs would be absent: 9.
abbrev pub write : View → Option Plan → Answer
write v none = refused 9 0
write v (some p) = done (after v p)

abbrev pub decide : ℕ → Answer → Answer
decide zero a = a
decide (suc n) a = refused (suc n) 0

abbrev pub perform_on : Rules → Change → View → Result (Root × Marks) → Answer
perform_on y c v (fault n p) = refused n p
perform_on y c v (ok x) = decide (refusal y c v x.0) (write v (plan_of y c v x.0))

unfoldable pub perform : Rules → Change → View → Answer
perform y c v = perform_on y c v (check_tree v)
