-- What the check refuses is refused; any other card is changed, by the words of its own table.
use mathlib.Core.Path.{sym}
use native.Mathlib.Omega.{arith}
use lib.Seq.{length-take-le}
use Rattle.lookup.proofs.CardLaws.{words-fit}
use Rattle.change.specs.Changed.{path_in}
use Rattle.change.specs.Kinds.{change_of}
use Rattle.change.proofs.CallLaws.{leaves-as, leaves-refused}
use Rattle.change.proofs.CallSteps.{check-refused, in-own-format, words-loaded}
use Rattle.change.proofs.calls.make_change.Goals as goal

pub slice_bounds-table-end : goal.slice_bounds-table-end
slice_bounds-table-end c =
    let a = c.args in
    words-fit a.format a.image.now _ c.in_ok-s.ensures.checked _ _ c.open_checked.ensures.working_room

pub slice_bounds-change_card-end : goal.slice_bounds-change_card-end
slice_bounds-change_card-end c =
    let a = c.args in
    sym (length-take-le _ _ (words-fit a.format a.image.now _ c.in_ok-s.ensures.checked _ _ c.open_checked.ensures.working_room))

pub change_card-requires : goal.change_card-requires
change_card-requires c =
    let a = c.args in
    words-loaded a.format a.image.now _ c.in_ok-s.ensures.checked _ _ c.open_checked.ensures.working_room

pub returns-in_err-s : goal.returns-in_err-s
returns-in_err-s c =
    let a = c.args in
    leaves-refused (check-refused a.format a.image.now _ _ c.in_err-s.ensures.checked a.change a.path.now) (grind arith)

pub returns : goal.returns
returns c =
    let a = c.args in
    leaves-as (in-own-format a.format a.image.now _ c.in_ok-s.ensures.checked (change_of a.change (path_in a.path.now))) c.change_card.ensures
