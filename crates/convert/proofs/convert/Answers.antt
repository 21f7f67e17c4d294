-- Where all was judged good every page is readable and the output as long as needed; a refusal touches nothing.
use Rattle.std.proofs.Common.{◌≡◌, ℕ, List, length, replicate, sym, ap, ◌∙◌, rules}
use Rattle.std.specs.Prelude.{Ok}
use Rattle.page.specs.declared.Format.{Format}
use Rattle.page.specs.Page.{page_at, pages_in}
use Rattle.model.specs.Check.{Result, ok}
use Rattle.layout.specs.Table.{data_of}
use Rattle.convert.specs.Converted.{Converts, converted, filled, in_format, output_after}
use Rattle.convert.proofs.ConvertLaws.{can-convert}
use Rattle.convert.proofs.convert.Goals as goal

done : (from to : Format) (image before after : List ℕ) → ok (in_format from to image) ≡ converted from to image (length before)
    → after ≡ filled to (λ p. data_of (page_at from image p)) (pages_in from (length image)) (replicate (length before) 0)
    → Converts (converted from to image (length before)) (Ok tt) before after
unfolding in_format
done from to image before after e wrote =
    let can = can-convert from to image (length before) (in_format from to image) (sym e) in
    let is : after ≡ in_format from to image = wrote ∙ ap (λ (n : ℕ). filled to (λ p. data_of (page_at from image p)) (pages_in from (length image)) (replicate n 0)) can.0.long in
    record { told = ap {B = Result (List ℕ)} ok is ∙ e; output = is ∙ ap (λ r. output_after r before) e }

pub write_pages-requires : goal.write_pages-requires
write_pages-requires c =
    let a = c.args in
    let image = a.image.now in
    (can-convert a.from a.to image (length a.out.now) (in_format a.from a.to image) (sym c.in_ok-judge.ensures)).0.readable

pub returns : goal.returns
returns c =
    let a = c.args in
    let zeros = c.fill.ensures.after (λ y e. search rules) in
    done a.from a.to a.image.now a.out.now _ c.in_ok-judge.ensures
    (c.write_pages.ensures ∙ ap (λ (out : List ℕ). filled a.to (λ p. data_of (page_at a.from a.image.now p)) (pages_in a.from (length a.image.now)) out) zeros)
