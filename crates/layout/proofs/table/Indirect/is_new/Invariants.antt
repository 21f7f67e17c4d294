use Rattle.std.proofs.Common.{◌≡◌, ◌++◌}
use Rattle.model.specs.Tree.{times}
use Rattle.layout.specs.Table.{table_names}
use Rattle.layout.proofs.table.Indirect.is_new.Given as goal

abbrev pub invariant-loop-i : goal.invariant-loop-i
invariant-loop-i l = times (table_names (l.self.first ++ l.self.second) l.i) l.name ≡ 0
