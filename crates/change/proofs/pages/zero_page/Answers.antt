-- A page of zeros, by its definition.
use mathlib.Core.Path.{refl}
use Rattle.model.specs.Pages.{zero_page}
use Rattle.change.proofs.pages.zero_page.Goals as goal

pub returns : goal.returns
unfolding zero_page
returns c = refl
