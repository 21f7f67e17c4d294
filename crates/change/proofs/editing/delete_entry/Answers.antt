-- Refused on a directory and by a lock; a file is taken away with the clusters that its length needs.
use mathlib.Core.Path.{◌∙◌, sym}
use Rattle.change.proofs.CallLaws.{leaves}
use Rattle.change.proofs.EditAnswers.{deleted-done, deleted-kind, deleted-locked}
use Rattle.change.proofs.editing.delete_entry.Goals as goal

pub returns-then-is_directory : goal.returns-then-is_directory
returns-then-is_directory c =
    let a = c.args in
    leaves (deleted-kind a.s a.image.now a.table.now a.directory a.entry (sym c.is_directory.ensures ∙ c.if-is_directory.true))

pub returns-then-either_locked : goal.returns-then-either_locked
returns-then-either_locked c =
    let a = c.args in
    leaves (deleted-locked a.s a.image.now a.table.now a.directory a.entry (sym c.is_directory.ensures ∙ c.if-is_directory.false) (sym c.either_locked.ensures ∙ c.if-either_locked.true))

pub returns : goal.returns
returns c =
    let a = c.args in
    leaves (deleted-done a.s a.image.now a.table.now a.directory a.entry c.word_at.ensures (sym c.is_directory.ensures ∙ c.if-is_directory.false) (sym c.either_locked.ensures ∙ c.if-either_locked.false) c.clusters_for-count.ensures c.take_away.ensures)
