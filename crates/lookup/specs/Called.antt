-- What the way of a call answers, for the questions that go on from it.
use Rattle.std.specs.Prelude.{ℕ, ◌<◌, ◌^◌, List, ◌≡◌, length, Option, Ok, Err}
use Rattle.std.specs.Prelude.{Result as Returned}
use Rattle.page.specs.declared.Format.{Format}
use Rattle.layout.specs.Mended.{mended_of}
use Rattle.layout.specs.Refusal.{number_of, page_of}
use Rattle.layout.specs.See.{on_image}
use Rattle.layout.specs.declared.Refusal.{Refusal}
use Rattle.layout.specs.declared.Superblock.{Superblock}
use Rattle.model.specs.Check.{Result, fault, ok}
use Rattle.model.specs.Needed.{total_over}
use Rattle.model.specs.Tree.{Slot, Tree}
use Rattle.tree.specs.Card.{view_of}
use Rattle.tree.specs.Mended.{mended_page}
use Rattle.tree.specs.declared.card.Card.{Card}
use Rattle.lookup.specs.Answers.{TellsRead, TellsStep}
use Rattle.lookup.specs.Descend.{StandsAt}
use Rattle.lookup.specs.Mended.{ReadAdds, read_pages}
use Rattle.lookup.specs.Paths.{standing_of}
use Rattle.lookup.specs.Read.{read_from}
use Rattle.lookup.specs.Step.{step_from}
use Rattle.lookup.specs.declared.call.Stood.{Stood}
use Rattle.lookup.specs.declared.stepping.Stepped.{Stepped}
use Rattle.lookup.specs.declared.way.EntryAt.{EntryAt}

-- the refusal; or where the clusters of the image's card lie, and the entry of what stands at the path, as the card's view holds it
abbrev pub TellsAs : List ℕ → Result (Superblock × Slot × Tree) → Returned Stood Refusal → Type 0
TellsAs image (fault n p) (Err f) = (n ≡ number_of f) × (p ≡ page_of f)
TellsAs image (fault n p) (Ok s) = ⊥
TellsAs image (ok x) (Err f) = ⊥
TellsAs image (ok x) (Ok s) = (s.card.image.now ≡ image) × (x.0.geometry ≡ s.card.geometry) × StandsAt (view_of s.card) s.entry x.1 x.2

-- of a whole call
abbrev pub TellsStood : Format → List ℕ → List ℕ → Returned Stood Refusal → Type 0
TellsStood format image bytes r = TellsAs image (standing_of format image bytes) r

-- the chunks that the check corrected
abbrev pub TellsTotal : Format → List ℕ → Returned Stood Refusal → Type 0
TellsTotal format image (Err f) = Unit {0}
TellsTotal format image (Ok s) = (s.mended ≡ mended_of format image) × (s.mended < 2 ^ 32)

-- ---- what is asked of an entry on a card, whatever stands there

abbrev pub StepsAt : Card → EntryAt → ℕ → Returned (Option Stepped) Refusal → Type 0
StepsAt card e slot r = (h : Slot) (s : Tree) → StandsAt (view_of card) e h s → TellsStep (step_from slot h s) r

abbrev pub ReadsAt : Card → EntryAt → ℕ → Returned ℕ Refusal → List ℕ → List ℕ → Type 0
ReadsAt card e from r before after =
    (h : Slot) (s : Tree) → StandsAt (view_of card) e h s → TellsRead (on_image card.geometry (read_from from (length before) h s)) r before after

-- with the count: of a read that is accepted the chunks of the file's pages are added
abbrev pub CountsAt : Card → EntryAt → ℕ → Returned ℕ Refusal → ℕ → ℕ → ℕ → Type 0
CountsAt card e from r room before after =
    (h : Slot) (s : Tree) → StandsAt (view_of card) e h s → ReadAdds r before (total_over (mended_page card.geometry card.image.now) (read_pages from room h s)) after
