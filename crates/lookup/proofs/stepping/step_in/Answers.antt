-- `step_in` reads the entry in the first live slot that the scan finds; the laws say that the tree has it there.
use Rattle.std.specs.Prelude.{None}
use mathlib.Core.Path.{◌∙◌, ◌≡◌, refl, sym}
use native.Mathlib.Omega.{arith}
use Rattle.layout.specs.declared.Refusal.TheVariants.{WrongKind}
use Rattle.model.proofs.Equality.{tf}
use Rattle.tree.proofs.LookLaws.{was_read}
use Rattle.tree.proofs.PageReads.{readable}
use Rattle.lookup.specs.Answers.{stepped_in}
use Rattle.lookup.proofs.AnswerLaws.{tells-refused}
use Rattle.lookup.proofs.StepLaws.{live-as, step_end, step-file, step-readable, step-slot}
use Rattle.lookup.proofs.stepping.step_in.Goals as goal

pub returns-then-not-is_directory : goal.returns-then-not-is_directory
returns-then-not-is_directory c =
    λ h s x. tells-refused _ stepped_in WrongKind _ refl (step-file c.args.card.now c.args.directory.now c.args.slot h s x (sym c.is_directory.ensures ∙ c.if-not-is_directory.true))

pub returns-in_default : goal.returns-in_default
returns-in_default c =
    let none : c.first_live.result ≡ None = grind arith in
    let scanned = live-as c.args.card.now c.args.directory.now c.args.slot _ _ _ _ c.next_of-start.ensures c.slots_of-count.ensures c.word_at.ensures c.slots_of.ensures c.first_live.ensures.0 in
    λ h s x. step_end c.args.card.now c.args.directory.now c.args.slot h s x (sym c.is_directory.ensures ∙ c.if-not-is_directory.false) (scanned ∙ none)

pub returns-then-not-read_slot : goal.returns-then-not-read_slot
returns-then-not-read_slot c =
    let scanned = live-as c.args.card.now c.args.directory.now c.args.slot _ _ _ _ c.next_of-start.ensures c.slots_of-count.ensures c.word_at.ensures c.slots_of.ensures c.first_live.ensures.0 in
    λ h s x. absurd (let f = step-readable c.args.card.now c.args.directory.now c.args.slot h s x (sym c.is_directory.ensures ∙ c.if-not-is_directory.false) _ (scanned ∙ c.in-Some.is) in tf (readable c.read_slot.ensures f.1) c.if-not-read_slot.true)

pub returns : goal.returns
returns c =
    let scanned = live-as c.args.card.now c.args.directory.now c.args.slot _ _ _ _ c.next_of-start.ensures c.slots_of-count.ensures c.word_at.ensures c.slots_of.ensures c.first_live.ensures.0 in
    λ h s x. step-slot c.args.card.now c.args.directory.now c.args.slot h s x (sym c.is_directory.ensures ∙ c.if-not-is_directory.false) _ (scanned ∙ c.in-Some.is) _ _ (was_read c.read_slot.ensures c.if-not-read_slot.false) c.entry_of.ensures
