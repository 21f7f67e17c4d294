use Rattle.std.proofs.Common.{◌≡◌, ◌*◌, ◌++◌}
use Rattle.model.specs.Bytes.{word}
use Rattle.layout.proofs.Names.{good_from}
use Rattle.layout.proofs.table.Indirect.good_names.Given as goal

abbrev pub invariant-loop-i : goal.invariant-loop-i
invariant-loop-i l =
    good_from (λ j. word (l.self.first ++ l.self.second) (4 * j)) l.s.indirect l.s.geometry.offset l.s.bad l.count 0
    ≡ good_from (λ j. word (l.self.first ++ l.self.second) (4 * j)) l.s.indirect l.s.geometry.offset l.s.bad l.count l.i
