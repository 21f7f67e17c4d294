-- A card by its image and the words of its table.
use Rattle.std.specs.Prelude.{◌≡◌, ℕ, List, Option, None, Some}
use Rattle.std.proofs.Math.Option.{none}
use Rattle.layout.specs.See.{image_page, page_in, view_by}
use Rattle.layout.specs.declared.Geometry.{Geometry}
use Rattle.model.specs.View.{View}
use Rattle.page.specs.Page.{page_at}
use Rattle.tree.specs.declared.card.Card.{Card}

-- the view that its pages and its table's words give
abbrev pub view_of : Card → View
view_of card = view_by card.geometry card.table.now card.image.now

-- where a page of the `count` allocatable clusters lies in the image; it has no data where it lies nowhere
abbrev pub Lies : Geometry → ℕ → List ℕ → ℕ → Option ℕ → Type 0
Lies geometry count image page None = page_in geometry count image page ≡ none
Lies geometry count image page (Some p) = (p ≡ image_page geometry page) × (page_in geometry count image page ≡ page_at geometry.format image p)
