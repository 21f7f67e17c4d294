-- In the slot that is vacant, a directory with its first two entries.
use mathlib.Core.List.{List}
use mathlib.Core.Path.{◌∙◌, ap, refl, subst, sym}
use Prim.Native.Nat.{ℕ}
use native.Mathlib.Omega.{arith}
use Rattle.change.specs.Calls.{CanAdd, added, as_directory, dots_at}
use Rattle.change.proofs.AddAnswers.{added-refused, added-so, dots-so, number_fits}
use Rattle.change.proofs.CallLaws.{leaves-as, leaves-refused}
use Rattle.change.proofs.adding.make_in.Goals as goal

pub number_by-number-requires : goal.number_by-number-requires
number_by-number-requires c =
    let a = c.args in
    number_fits a.s a.image.now a.table.now a.directory a.name.now a.time.now as_directory (dots_at a.directory a.time.now) (λ d. refl) c.requires (sym c.in_ok-dead.ensures) c.word_at.ensures

pub add-requires : goal.add-requires
add-requires c =
    let a = c.args in
    let dots = dots-so a.directory c.in_ok-dead.dead a.time.now c.word_at.ensures c.number_by-number.ensures c.first_entries-dots.ensures in
    subst (λ (d : List ℕ). CanAdd a.s a.image.now a.table.now a.directory (as_directory c.in_ok-dead.dead) a.time.now a.name.now d) (sym dots) (c.requires c.in_ok-dead.dead (sym c.in_ok-dead.ensures))

pub returns-in_err-dead : goal.returns-in_err-dead
returns-in_err-dead c =
    let a = c.args in
    leaves-refused (added-refused a.s a.image.now a.table.now a.directory a.name.now a.time.now as_directory (dots_at a.directory a.time.now) (sym c.in_err-dead.ensures)) (grind arith)

pub returns : goal.returns
returns c =
    let a = c.args in
    let dots = dots-so a.directory c.in_ok-dead.dead a.time.now c.word_at.ensures c.number_by-number.ensures c.first_entries-dots.ensures in
    leaves-as
    (added-so a.s a.image.now a.table.now a.directory a.name.now a.time.now as_directory (dots_at a.directory a.time.now) (sym c.in_ok-dead.ensures)
    ∙ ap (λ (d : List ℕ). added a.s a.image.now a.table.now a.directory (as_directory c.in_ok-dead.dead) a.time.now a.name.now d) (sym dots)) c.add.ensures
