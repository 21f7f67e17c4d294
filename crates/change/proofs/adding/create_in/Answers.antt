-- In the slot that is vacant, a file with its bytes.
use mathlib.Core.Path.{sym}
use native.Mathlib.Omega.{arith}
use Rattle.change.specs.Calls.{as_file}
use Rattle.change.proofs.AddAnswers.{added-refused, added-so}
use Rattle.change.proofs.CallLaws.{leaves-as, leaves-refused}
use Rattle.change.proofs.adding.create_in.Goals as goal

pub add-requires : goal.add-requires
add-requires c = c.requires c.in_ok-dead.dead (sym c.in_ok-dead.ensures)

pub returns-in_err-dead : goal.returns-in_err-dead
returns-in_err-dead c =
    let a = c.args in
    leaves-refused (added-refused a.s a.image.now a.table.now a.directory a.name.now a.time.now (as_file a.bytes.now) (λ d. a.bytes.now) (sym c.in_err-dead.ensures)) (grind arith)

pub returns : goal.returns
returns c =
    let a = c.args in
    leaves-as (added-so a.s a.image.now a.table.now a.directory a.name.now a.time.now (as_file a.bytes.now) (λ d. a.bytes.now) (sym c.in_ok-dead.ensures)) c.add.ensures
