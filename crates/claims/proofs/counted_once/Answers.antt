-- The lists have each page once because no cluster is reached twice, and the table lies apart from all of them.
use Rattle.claims.proofs.PagesOnce.{counted-once}
use Rattle.claims.proofs.counted_once.Goals as goal

pub returns : goal.returns
returns c = counted-once
