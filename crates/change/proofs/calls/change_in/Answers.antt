-- Each change is its own function's outcome; one that is of an entry is refused where there is none.
use mathlib.Core.Path.{◌∙◌, ap, refl, subst}
use native.Mathlib.Omega.{arith}
use Rattle.change.specs.Calls.{DeleteLands, RemoveLands, ReplaceLands, deleted_entry, removed_entry, replaced_entry}
use Rattle.change.specs.Kinds.{CanChange, changed_in}
use Rattle.change.proofs.CallLaws.{leaves-as, leaves-refused}
use Rattle.change.proofs.EditAnswers.{can-there, edited-refused, edited-there}
use Rattle.change.proofs.calls.change_in.Goals as goal

pub create_in-requires : goal.create_in-requires
create_in-requires c =
    let a = c.args in
    subst (CanChange a.s a.image.now a.table.now a.directory a.name.now) c.in-Create.is c.requires

pub replace_entry-requires : goal.replace_entry-requires
replace_entry-requires c =
    let a = c.args in
    can-there a.s a.image.now a.table.now a.directory a.name.now c.in_ok-entry-in-Replace.ensures (ReplaceLands a.s a.image.now a.table.now a.directory c.in-Replace.time.now c.in-Replace.bytes.now) refl (subst (CanChange a.s a.image.now a.table.now a.directory a.name.now) c.in-Replace.is c.requires)

pub returns-in_err-entry-in-Replace : goal.returns-in_err-entry-in-Replace
returns-in_err-entry-in-Replace c =
    let a = c.args in
    leaves-refused (ap (changed_in a.s a.image.now a.table.now a.directory a.name.now) c.in-Replace.is ∙ edited-refused a.s a.image.now a.table.now a.directory a.name.now c.in_err-entry-in-Replace.ensures (λ entry. replaced_entry a.s a.image.now a.table.now a.directory entry c.in-Replace.time.now c.in-Replace.bytes.now) refl) (grind arith)

pub returns-in_ok-entry-in-Replace : goal.returns-in_ok-entry-in-Replace
returns-in_ok-entry-in-Replace c =
    let a = c.args in
    leaves-as (ap (changed_in a.s a.image.now a.table.now a.directory a.name.now) c.in-Replace.is ∙ edited-there a.s a.image.now a.table.now a.directory a.name.now c.in_ok-entry-in-Replace.ensures (λ entry. replaced_entry a.s a.image.now a.table.now a.directory entry c.in-Replace.time.now c.in-Replace.bytes.now) refl) c.replace_entry.ensures

pub delete_entry-requires : goal.delete_entry-requires
delete_entry-requires c =
    let a = c.args in
    can-there a.s a.image.now a.table.now a.directory a.name.now c.in_ok-entry-in-Delete.ensures (DeleteLands a.s a.image.now a.table.now a.directory) refl (subst (CanChange a.s a.image.now a.table.now a.directory a.name.now) c.in-Delete.is c.requires)

pub returns-in_err-entry-in-Delete : goal.returns-in_err-entry-in-Delete
returns-in_err-entry-in-Delete c =
    let a = c.args in
    leaves-refused (ap (changed_in a.s a.image.now a.table.now a.directory a.name.now) c.in-Delete.is ∙ edited-refused a.s a.image.now a.table.now a.directory a.name.now c.in_err-entry-in-Delete.ensures (deleted_entry a.s a.image.now a.table.now a.directory) refl) (grind arith)

pub returns-in_ok-entry-in-Delete : goal.returns-in_ok-entry-in-Delete
returns-in_ok-entry-in-Delete c =
    let a = c.args in
    leaves-as (ap (changed_in a.s a.image.now a.table.now a.directory a.name.now) c.in-Delete.is ∙ edited-there a.s a.image.now a.table.now a.directory a.name.now c.in_ok-entry-in-Delete.ensures (deleted_entry a.s a.image.now a.table.now a.directory) refl) c.delete_entry.ensures

pub remove_entry-requires : goal.remove_entry-requires
remove_entry-requires c =
    let a = c.args in
    can-there a.s a.image.now a.table.now a.directory a.name.now c.in_ok-entry-in-Remove.ensures (RemoveLands a.s a.image.now a.table.now a.directory) refl (subst (CanChange a.s a.image.now a.table.now a.directory a.name.now) c.in-Remove.is c.requires)

pub returns-in_err-entry-in-Remove : goal.returns-in_err-entry-in-Remove
returns-in_err-entry-in-Remove c =
    let a = c.args in
    leaves-refused (ap (changed_in a.s a.image.now a.table.now a.directory a.name.now) c.in-Remove.is ∙ edited-refused a.s a.image.now a.table.now a.directory a.name.now c.in_err-entry-in-Remove.ensures (removed_entry a.s a.image.now a.table.now a.directory) refl) (grind arith)

pub returns-in_ok-entry-in-Remove : goal.returns-in_ok-entry-in-Remove
returns-in_ok-entry-in-Remove c =
    let a = c.args in
    leaves-as (ap (changed_in a.s a.image.now a.table.now a.directory a.name.now) c.in-Remove.is ∙ edited-there a.s a.image.now a.table.now a.directory a.name.now c.in_ok-entry-in-Remove.ensures (removed_entry a.s a.image.now a.table.now a.directory) refl) c.remove_entry.ensures
