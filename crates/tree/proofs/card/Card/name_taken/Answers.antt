-- The scan for the name finds a place exactly where a live entry before the slot bears it.
use Rattle.std.proofs.Common.{◌≡◌, ◌∙◌, refl}
use Rattle.std.specs.Prelude.{Option, None, Some, is_some}
use Rattle.tree.specs.declared.along.Place.{Place}
use Rattle.tree.proofs.ScanLaws.{is_found, taken_as}
use Rattle.tree.proofs.card.Card.name_taken.Goals as goal

found : (r : Option Place) → is_some r ≡ is_found r
found None = refl
found (Some p) = refl

pub returns : goal.returns
returns c = c.is_some.ensures ∙ found c.find_name.result ∙ taken_as _ _ _ _ _ _ _ c.find_name.ensures c.entry_name.ensures
