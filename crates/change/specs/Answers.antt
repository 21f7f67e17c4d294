-- What a change tells: nothing but that it was done, or the paper's number and the page for 2.
use Rattle.std.specs.Prelude.{ℕ, List, ◌≡◌}
use Rattle.std.specs.Prelude.{Result as Returned}
use Rattle.layout.specs.declared.Refusal.{Refusal}
use Rattle.layout.specs.Refusal.{told}
use Rattle.change.specs.Changed.{Outcome}

-- A call leaves an outcome: its answer tells the outcome's, and the image afterwards is the outcome's.
pub record Leaves (outcome : Outcome) (answer : Returned (Unit {0}) Refusal) (image : List ℕ) : Type 0 where
  pub told : told answer ≡ outcome.answer
  pub left : image ≡ outcome.image
