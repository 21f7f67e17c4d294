-- What the find in the image's format tells, in numbers and fields.
use mathlib.Core.Path.{◌∙◌, refl, sym}
use Rattle.fields.specs.Entries.{fields_of_entry}
use Rattle.layout.specs.Mended.{mended_of}
use Rattle.lookup.specs.Find.{find_of}
use Rattle.model.specs.Check.{fault}
use Rattle.ps2card.proofs.AnswerLaws.{told-refused, told-value}
use Rattle.ps2card.proofs.FormatLaws.{known_so}
use Rattle.ps2card.proofs.entries.ps2card_find.Goals as goal

pub returns-in-Err : goal.returns-in-Err
returns-in-Err c =
    let a = c.args in
    let refused = told-refused fields_of_entry c.in-Err.ensures.told in
    rw (known_so (fault 1 0) (λ f. find_of f a.image.now a.path.now) a.format c.format_of.ensures c.in-Some.is ∙ refused)
    (record {
      value = c.tell_refusal-in-Err.ensures.0;
      page_after = c.tell_refusal-in-Err.ensures.1;
      mended_after = rw refused at c.in-Err.ensures.counted;
      mode_after = refl;
      length_after = refl;
      created_after = refl;
      first_after = refl;
      dir_entry_after = refl;
      modified_after = refl;
      attribute_after = refl;
      name_after = refl;
    })

pub returns-in-Ok : goal.returns-in-Ok
returns-in-Ok c =
    let a = c.args in
    let e = told-value fields_of_entry c.in-Ok.ensures.told in
    let mended = known_so 0 (λ f. mended_of f a.image.now) a.format c.format_of.ensures c.in-Some.is in
    rw (known_so (fault 1 0) (λ f. find_of f a.image.now a.path.now) a.format c.format_of.ensures c.in-Some.is ∙ e.1)
    (record {
      value = refl;
      page_after = refl;
      mended_after = rw e.1 at c.in-Ok.ensures.counted ∙ sym mended;
      mode_after = rw e.2 at c.hand_out.ensures.mode_after;
      length_after = rw e.2 at c.hand_out.ensures.length_after;
      created_after = rw e.2 at c.hand_out.ensures.created_after;
      first_after = rw e.2 at c.hand_out.ensures.first_after;
      dir_entry_after = rw e.2 at c.hand_out.ensures.dir_entry_after;
      modified_after = rw e.2 at c.hand_out.ensures.modified_after;
      attribute_after = rw e.2 at c.hand_out.ensures.attribute_after;
      name_after = rw e.2 at c.hand_out.ensures.name_after;
    })
