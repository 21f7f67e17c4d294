use Rattle.std.proofs.Common.{◌≡◌, ℕ, List}
use Rattle.model.specs.Check.{ok}
use Rattle.convert.proofs.AllPages.{all_from}
use Rattle.convert.proofs.judge_pages.Given as goal

abbrev pub invariant-loop-p : goal.invariant-loop-p
invariant-loop-p l = (made : List ℕ) → all_from l.format l.image (ok made) 0 ≡ all_from l.format l.image (ok made) l.p
