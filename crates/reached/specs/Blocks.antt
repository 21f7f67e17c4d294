-- The erase block that was looked up last, as the passes over the table keep it.
use Rattle.std.specs.Prelude.{List, ◌≡◌, ℕ}
use Rattle.model.specs.Counts.{is_listed}
use Rattle.reached.specs.declared.takeable.Looked.{Looked}

-- what is kept of it is what the list says
abbrev pub Knows : List ℕ → Looked → Type 0
Knows bad last = last.listed ≡ is_listed bad last.block
