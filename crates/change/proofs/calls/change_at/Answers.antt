-- Where the names before the last lead, and what the directory's own business then gives.
use native.Mathlib.Omega.{arith}
use mathlib.Core.Path.{refl}
use Rattle.change.proofs.CallLaws.{leaves-as, leaves-refused}
use Rattle.change.proofs.CallSteps.{at-can, at-refused, at_in}
use Rattle.change.proofs.calls.change_at.Goals as goal

pub change_in-requires : goal.change_in-requires
change_in-requires c =
    let a = c.args in
    at-can a.image.now a.s a.table.now a.change a.path.now a.count c.requires _ c.in_ok-directory.ensures _ refl _ c.name_at.ensures

pub returns-in_err-directory : goal.returns-in_err-directory
returns-in_err-directory c =
    let a = c.args in
    leaves-refused (at-refused a.image.now a.s a.table.now a.change a.path.now a.count c.requires _ c.in_err-directory.ensures _ refl) (grind arith)

pub returns : goal.returns
returns c =
    let a = c.args in
    leaves-as (at_in a.image.now a.s a.table.now a.change a.path.now a.count c.requires _ c.in_ok-directory.ensures _ refl _ c.name_at.ensures) c.change_in.ensures
