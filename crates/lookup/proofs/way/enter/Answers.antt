-- `enter` reads the page of the entry that the scan of the directory's slots finds, as the definition says.
use Rattle.std.specs.Prelude.{None}
use mathlib.Core.Path.{◌∙◌, ◌≡◌, sym}
use native.Mathlib.Omega.{arith}
use Rattle.lookup.proofs.EnterSteps.{entered-absent, entered-kind, entered-read, entered-unread}
use Rattle.lookup.proofs.way.enter.Goals as goal

pub returns-then-not-is_directory : goal.returns-then-not-is_directory
returns-then-not-is_directory c =
    let a = c.args in
    entered-kind a.card.now a.directory.now a.name.now (sym c.is_directory.ensures ∙ c.if-not-is_directory.true)

pub returns-in_err-place : goal.returns-in_err-place
returns-in_err-place c =
    let a = c.args in
    let none : c.find_name.result ≡ None = grind arith in
    let refused = entered-absent a.card.now a.directory.now a.name.now (sym c.is_directory.ensures ∙ c.if-not-is_directory.false) _ _ _ _ c.next_of-start.ensures c.slots_of-count.ensures c.word_at.ensures c.find_name.ensures.0 none in
    grind (arith, refused)

pub returns-then-not-read_slot : goal.returns-then-not-read_slot
returns-then-not-read_slot c =
    let a = c.args in
    entered-unread a.card.now a.directory.now a.name.now (sym c.is_directory.ensures ∙ c.if-not-is_directory.false) _ _ _ _ c.next_of-start.ensures c.slots_of-count.ensures c.word_at.ensures c.find_name.ensures.0 c.in_ok-place.place (grind arith) _ _ _ c.read_slot.ensures c.if-not-read_slot.true

pub returns : goal.returns
returns c =
    let a = c.args in
    entered-read a.card.now a.directory.now a.name.now (sym c.is_directory.ensures ∙ c.if-not-is_directory.false) _ _ _ _ c.next_of-start.ensures c.slots_of-count.ensures c.word_at.ensures c.find_name.ensures.0 c.in_ok-place.place (grind arith) _ _ _ c.read_slot.ensures _ c.if-not-read_slot.false c.word_at-2.ensures
