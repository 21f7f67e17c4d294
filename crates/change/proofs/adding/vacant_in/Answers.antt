-- The directory's slots are scanned for the name, and then for a dead one.
use mathlib.Core.Path.{◌∙◌, sym}
use Rattle.change.proofs.AddAnswers.{vacant-at, vacant-kind, vacant-there}
use Rattle.change.proofs.CallLaws.{none-there, some-there}
use Rattle.change.proofs.adding.vacant_in.Goals as goal

pub returns-then-not-is_directory : goal.returns-then-not-is_directory
returns-then-not-is_directory c =
    let a = c.args in
    vacant-kind a.s a.image.now a.table.now a.directory.now a.name.now (sym c.is_directory.ensures ∙ c.if-not-is_directory.true)

pub returns-then-is_some : goal.returns-then-is_some
returns-then-is_some c =
    let a = c.args in
    let there = some-there _ (sym c.is_some.ensures ∙ c.if-is_some.true) in
    vacant-there a.s a.image.now a.table.now a.directory.now a.name.now (sym c.is_directory.ensures ∙ c.if-not-is_directory.false) c.next_of-start.ensures c.slots_of-count.ensures
    c.word_at.ensures c.find_name.ensures.0 there.0 there.1

pub returns : goal.returns
returns c =
    let a = c.args in
    vacant-at a.s a.image.now a.table.now a.directory.now a.name.now (sym c.is_directory.ensures ∙ c.if-not-is_directory.false) c.next_of-start.ensures c.slots_of-count.ensures
    c.word_at.ensures c.find_name.ensures.0 (none-there _ (sym c.is_some.ensures ∙ c.if-is_some.false)) c.first_dead.ensures.0
