-- What the step in the image's format tells, in numbers and fields.
use mathlib.Core.Path.{◌∙◌, ap, refl, sym}
use Rattle.std.specs.Prelude.{Ok}
use Rattle.layout.specs.Mended.{mended_of}
use Rattle.layout.specs.Refusal.{told}
use Rattle.lookup.specs.Answers.{stepped_in}
use Rattle.lookup.specs.Step.{step_of}
use Rattle.model.specs.Check.{fault}
use Rattle.ps2card.proofs.AnswerLaws.{told-end, told-refused, told-slot}
use Rattle.ps2card.proofs.FormatLaws.{known_so}
use Rattle.ps2card.proofs.entries.ps2card_step.Goals as goal

pub returns-in-Err : goal.returns-in-Err
returns-in-Err c =
    let a = c.args in
    let refused = told-refused stepped_in (sym (ap told c.in-Err.is) ∙ c.step.ensures.told) in
    rw (known_so (fault 1 0) (λ f. step_of f a.image.now a.path.now a.slot) a.format c.format_of.ensures c.in-Some.is ∙ refused)
    (record {
      value = c.tell_refusal-in-Err.ensures.0;
      page_after = c.tell_refusal-in-Err.ensures.1;
      mended_after = rw refused at c.step.ensures.counted;
      found_after = refl;
      at_after = refl;
      mode_after = refl;
      length_after = refl;
      created_after = refl;
      first_after = refl;
      dir_entry_after = refl;
      modified_after = refl;
      attribute_after = refl;
      name_after = refl;
    })

pub returns-in-Ok-None : goal.returns-in-Ok-None
returns-in-Ok-None c =
    let a = c.args in
    let ended = told-end (sym (ap told (c.in-Ok-None.is ∙ ap Ok c.in-Ok-None.field-0-is)) ∙ c.step.ensures.told) in
    let mended = known_so 0 (λ f. mended_of f a.image.now) a.format c.format_of.ensures c.in-Some.is in
    rw (known_so (fault 1 0) (λ f. step_of f a.image.now a.path.now a.slot) a.format c.format_of.ensures c.in-Some.is ∙ ended)
    (record {
      value = refl;
      page_after = refl;
      mended_after = rw ended at c.step.ensures.counted ∙ sym mended;
      found_after = refl;
      at_after = refl;
      mode_after = refl;
      length_after = refl;
      created_after = refl;
      first_after = refl;
      dir_entry_after = refl;
      modified_after = refl;
      attribute_after = refl;
      name_after = refl;
    })

pub returns-in-Ok-Some : goal.returns-in-Ok-Some
returns-in-Ok-Some c =
    let a = c.args in
    let e = told-slot (sym (ap told (c.in-Ok-Some.is ∙ ap Ok c.in-Ok-Some.field-0-is)) ∙ c.step.ensures.told) in
    let mended = known_so 0 (λ f. mended_of f a.image.now) a.format c.format_of.ensures c.in-Some.is in
    rw (known_so (fault 1 0) (λ f. step_of f a.image.now a.path.now a.slot) a.format c.format_of.ensures c.in-Some.is ∙ e.1)
    (record {
      value = refl;
      page_after = refl;
      mended_after = rw e.1 at c.step.ensures.counted ∙ sym mended;
      found_after = refl;
      at_after = ap (λ s. s.slot) e.2;
      mode_after = rw e.2 at c.hand_out.ensures.mode_after;
      length_after = rw e.2 at c.hand_out.ensures.length_after;
      created_after = rw e.2 at c.hand_out.ensures.created_after;
      first_after = rw e.2 at c.hand_out.ensures.first_after;
      dir_entry_after = rw e.2 at c.hand_out.ensures.dir_entry_after;
      modified_after = rw e.2 at c.hand_out.ensures.modified_after;
      attribute_after = rw e.2 at c.hand_out.ensures.attribute_after;
      name_after = rw e.2 at c.hand_out.ensures.name_after;
    })
