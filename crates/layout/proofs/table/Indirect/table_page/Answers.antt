-- Name t / 2 of the list is the word that was read; past the list it is zero.
use Rattle.std.proofs.Common.{◌*◌, ◌/◌, ◌++◌, arith}
use lib.ListN.{get_or-eq_default}
use Rattle.model.specs.Bytes.{word}
use Rattle.layout.specs.Table.{table_names}
use Rattle.layout.proofs.UpTo.{get_or-up_to, length-up_to}
use Rattle.layout.proofs.table.Indirect.table_page.Goals as goal

pub returns-then-count-i : goal.returns-then-count-i
returns-then-count-i c =
    let a = c.args in
    let names = table_names (a.self.now.first ++ a.self.now.second) a.count in
    omega (arith, get_or-eq_default names 0 {n = a.t / 2} (omega (arith, length-up_to (λ i. word (a.self.now.first ++ a.self.now.second) (4 * i)) a.count)))

pub returns : goal.returns
returns c =
    let a = c.args in
    rw (c.name_at.ensures, get_or-up_to (λ i. word (a.self.now.first ++ a.self.now.second) (4 * i)) a.count (a.t / 2) (omega arith))
