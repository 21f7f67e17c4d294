-- The names are the card's, by the pages of its indirect cluster.
use mathlib.Core.Path.{◌≡◌}
use native.Mathlib.Omega.{arith}
use lib.ListN.{get_or, length}
use Rattle.layout.specs.Table.{table_clusters}
use Rattle.change.proofs.StoreSteps.{by_names}
use Rattle.change.proofs.store.store_table.Goals as goal

pub returns : goal.returns
returns c =
    let a = c.args in
    let many : c.div_ceil-count.result ≡ table_clusters a.s.end = omega (arith, c.div_ceil-count.ensures) in
    by_names a.image.now a.s (λ x. get_or a.table.now x 0) (length a.table.now) c.requires.1 (c.read-indirect.ensures.first c.requires.2) (c.read-indirect.ensures.second c.requires.3) (rw many at c.store_pages.ensures)
