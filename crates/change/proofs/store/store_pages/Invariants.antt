-- The loop's invariant: the first t pages are stored.
use mathlib.Core.List.{◌++◌}
use mathlib.Core.Path.{◌≡◌}
use lib.ListN.{get_or, length}
use Rattle.layout.specs.Table.{table_names}
use Rattle.change.specs.Image.{store_table}
use Rattle.change.proofs.store.store_pages.Given as goal

abbrev pub invariant-loop-t : goal.invariant-loop-t
invariant-loop-t l =
    l.image ≡ store_table l.format (table_names (l.indirect.first ++ l.indirect.second) l.count) (length l.table) (λ c. get_or l.table c 0) l.t l.initial.image
