-- What the read in the image's format tells, in numbers; the buffer is as the read left it.
use mathlib.Core.Path.{◌∙◌, refl, sym}
use lib.ListN.{length}
use Rattle.lookup.specs.Mended.{read_mended}
use Rattle.lookup.specs.Read.{read_of}
use Rattle.model.specs.Check.{fault}
use Rattle.ps2card.proofs.AnswerLaws.{told-refused, told-value}
use Rattle.ps2card.proofs.FormatLaws.{known_so}
use Rattle.ps2card.proofs.reading.ps2card_read.Goals as goal

pub returns-in-Err : goal.returns-in-Err
returns-in-Err c =
    let a = c.args in
    let refused = told-refused length c.in-Err.ensures.told.count in
    rw (known_so (fault 1 0) (λ f. read_of f a.image.now a.path.now a.offset (length a.out.now)) a.format c.format_of.ensures c.in-Some.is ∙ refused)
    (record {
      value = c.tell_refusal-in-Err.ensures.0;
      page_after = c.tell_refusal-in-Err.ensures.1;
      count_after = refl;
      mended_after = rw refused at c.in-Err.ensures.counted;
      out_after = rw refused at c.in-Err.ensures.told.buffer;
    })

pub returns-in-Ok : goal.returns-in-Ok
returns-in-Ok c =
    let a = c.args in
    let e = told-value length c.in-Ok.ensures.told.count in
    let mended = known_so 0 (λ f. read_mended f a.image.now a.path.now a.offset (length a.out.now)) a.format c.format_of.ensures c.in-Some.is in
    rw (known_so (fault 1 0) (λ f. read_of f a.image.now a.path.now a.offset (length a.out.now)) a.format c.format_of.ensures c.in-Some.is ∙ e.1)
    (record {
      value = refl;
      page_after = refl;
      count_after = e.2;
      mended_after = rw e.1 at c.in-Ok.ensures.counted ∙ sym mended;
      out_after = rw e.1 at c.in-Ok.ensures.told.buffer;
    })
