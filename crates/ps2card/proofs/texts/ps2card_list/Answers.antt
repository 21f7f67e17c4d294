-- An image of no bytes has the line of refusal 1.
use mathlib.Core.Path.{◌∙◌, ◌≡◌, ap, refl, sym}
use mathlib.Core.List.{List, []}
use Prim.Native.Nat.{ℕ}
use mathlib.Core.Bool.{cond}
use lib.IntN.{ℤ}
use mir.Syntax.{w32}
use mir.ValLaws.{to_z-of_z}
use Rattle.model.specs.Calendar.{is_shift}
use Rattle.page.specs.declared.Format.TheVariants.{Raw}
use Rattle.layout.specs.See.{check_image}
use Rattle.layout.specs.Table.{open_card, unless}
use Rattle.model.specs.Check.{and_then}
use Rattle.listing.specs.Text.{listing_of, refusal_text}
use Rattle.ps2card.proofs.FormatLaws.{unknown-so}
use Rattle.ps2card.proofs.texts.ps2card_list.Goals as goal

-- no card, by the minutes
abbrev none : ℤ → List ℕ
none minutes = cond (is_shift minutes) (refusal_text 1 0) (refusal_text 17 0)

none-listed : (minutes : ℤ) → listing_of Raw [] minutes ≡ none minutes
unfolding listing_of check_image open_card unless and_then
none-listed minutes = refl

pub returns-in-None : goal.returns-in-None
returns-in-None c =
    let a = c.args in
    let image = a.image.now in
    let e = unknown-so (none a.minutes) (λ f. listing_of f image a.minutes) a.format c.format_of.ensures c.in-None.is ∙ sym (none-listed a.minutes) ∙ ap (listing_of Raw []) (sym (to_z-of_z w32 a.minutes c.ranges.minutes)) in
    rw e (record {
      value = c.list-in-None.ensures.length;
      out_after = c.list-in-None.ensures.text;
    })
