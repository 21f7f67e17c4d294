-- The parts of a line one after the other.
use Rattle.std.proofs.Common.{◌∙◌, ap, ap₂}
use Rattle.layout.specs.Refusal.{page_of}
use Rattle.listing.specs.Text.{decimal_of, page_text, refusal_text}
use Rattle.listing.proofs.EmitLaws.{page-other, page-two, writes-append, writes_as, writes_none}
use Rattle.listing.proofs.emit.Text.put_refusal.Goals.{then-number-eq2, else-number-eq2}
use Rattle.listing.proofs.emit.Text.put_refusal.Goals as goal

pub returns : goal.returns
unfolding refusal_text
returns c =
    let is = c.number-number.ensures in
    let number = writes-append c.put.ensures (writes_as (ap decimal_of is) c.put_number.ensures) in
    elim c.if-number-eq2.branch [
      | then-number-eq2 w ↦
          let page = writes-append w.put_byte.ensures w.put_number-then-number-eq2.ensures in
          writes-append (writes-append number (writes_as (page-two _ _ w.if-number-eq2.true ∙ ap₂ page_text is w.page.ensures) page)) (rw w.self-is at c.put_byte-2.ensures)
      | else-number-eq2 w ↦
          writes-append (writes-append number (writes_as (page-other _ (page_of c.args.refusal) w.if-number-eq2.false ∙ ap (λ n. page_text n (page_of c.args.refusal)) is) (writes_none _))) (rw w.self-is at c.put_byte-2.ensures)
    ]
