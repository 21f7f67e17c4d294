-- Refused on a file, where a live entry is in the directory, and by a lock; otherwise it is taken away with its whole chain.
use mathlib.Core.Path.{◌∙◌, sym}
use Rattle.layout.specs.See.{view_by}
use Rattle.tree.specs.Scan.{living_from}
use Rattle.change.proofs.CallLaws.{leaves, none-there, scan-so, some-there}
use Rattle.change.proofs.EditAnswers.{removed-done, removed-kind, removed-live, removed-locked}
use Rattle.change.proofs.editing.remove_entry.Goals as goal

pub returns-then-not-is_directory : goal.returns-then-not-is_directory
returns-then-not-is_directory c =
    let a = c.args in
    leaves (removed-kind a.s a.image.now a.table.now a.directory a.entry (sym c.is_directory.ensures ∙ c.if-not-is_directory.true))

pub returns-then-is_some : goal.returns-then-is_some
returns-then-is_some c =
    let a = c.args in
    let v = view_by a.s.geometry a.table.now a.image.now in
    let live = scan-so a.table.now a.entry c.next_of-start.ensures c.slots_of.ensures c.word_at-entries.ensures (living_from v 0) c.first_live.ensures.0 in
    let there = some-there _ (sym c.is_some.ensures ∙ c.if-is_some.true) in
    leaves (removed-live a.s a.image.now a.table.now a.directory a.entry c.word_at-entries.ensures (sym c.is_directory.ensures ∙ c.if-not-is_directory.false) there.0 (live ∙ there.1))

pub returns-then-either_locked : goal.returns-then-either_locked
returns-then-either_locked c =
    let a = c.args in
    let v = view_by a.s.geometry a.table.now a.image.now in
    let live = scan-so a.table.now a.entry c.next_of-start.ensures c.slots_of.ensures c.word_at-entries.ensures (living_from v 0) c.first_live.ensures.0 in
    leaves (removed-locked a.s a.image.now a.table.now a.directory a.entry c.word_at-entries.ensures (sym c.is_directory.ensures ∙ c.if-not-is_directory.false) (live ∙ none-there _ (sym c.is_some.ensures ∙ c.if-is_some.false)) (sym c.either_locked.ensures ∙ c.if-either_locked.true))

pub take_away-requires : goal.take_away-requires
take_away-requires c =
    let a = c.args in
    let v = view_by a.s.geometry a.table.now a.image.now in
    let live = scan-so a.table.now a.entry c.next_of-start.ensures c.slots_of.ensures c.word_at-entries.ensures (living_from v 0) c.first_live.ensures.0 in
    (c.requires.0, c.requires.1 (sym c.is_directory.ensures ∙ c.if-not-is_directory.false) (live ∙ none-there _ (sym c.is_some.ensures ∙ c.if-is_some.false)) (sym c.either_locked.ensures ∙ c.if-either_locked.false))

pub returns : goal.returns
returns c =
    let a = c.args in
    let v = view_by a.s.geometry a.table.now a.image.now in
    let live = scan-so a.table.now a.entry c.next_of-start.ensures c.slots_of.ensures c.word_at-entries.ensures (living_from v 0) c.first_live.ensures.0 in
    leaves (removed-done a.s a.image.now a.table.now a.directory a.entry c.word_at-entries.ensures (sym c.is_directory.ensures ∙ c.if-not-is_directory.false) (live ∙ none-there _ (sym c.is_some.ensures ∙ c.if-is_some.false)) (sym c.either_locked.ensures ∙ c.if-either_locked.false) c.directory_clusters.ensures c.take_away.ensures)
