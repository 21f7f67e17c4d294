-- A read at a path: what it answers is what the slot there gives, and what it reports the check's count with its own pages'.
use Rattle.std.specs.Prelude.{Ok}
use Rattle.std.specs.Prelude.{Result as Returned}
use Prim.Native.Nat.{◌+◌, ◌<◌, ◌^◌, ℕ}
use mathlib.Core.List.{List, map}
use mathlib.Core.Path.{◌∙◌, ◌≡◌, ap, sym}
use native.Mathlib.Omega.{arith}
use lib.ListN.{length}
use Rattle.page.specs.declared.Format.{Format}
use Rattle.page.specs.Mended.{mended_chunks, wrapped}
use Rattle.layout.specs.declared.Geometry.{Geometry}
use Rattle.layout.specs.declared.Refusal.{Refusal}
use Rattle.layout.specs.declared.Superblock.{Superblock}
use Rattle.layout.specs.Refusal.{told}
use Rattle.layout.specs.Mended.{mended_of, mended_over}
use Rattle.layout.specs.See.{image_page, on_image}
use Rattle.model.proofs.NeededPages.{total-map}
use Rattle.model.specs.Check.{and_then, ok}
use Rattle.model.specs.Needed.{total_over}
use Rattle.model.specs.Tree.{Slot, Tree}
use Rattle.tree.specs.Mended.{mended_page}
use Rattle.tree.specs.declared.card.Card.{Card}
use Rattle.lookup.specs.Answers.{TellsRead}
use Rattle.lookup.specs.Mended.{ReadAdds, or_none, read_data_of, read_mended, read_pages, reported}
use Rattle.lookup.specs.Paths.{standing_of}
use Rattle.lookup.specs.Read.{read_from, read_of}
use Rattle.lookup.proofs.AskLaws.{asked, onward, read-so}
use Rattle.lookup.proofs.MendedLaws.{reports}

module _ (format : Format) (image bytes : List ℕ) (from room : ℕ) (s : Superblock) (h : Slot) (t : Tree) (stands : standing_of format image bytes ≡ ok (s, h, t))
    (card : Card) (own : card.image.now ≡ image) (same : s.geometry ≡ card.geometry) where
  pub read-there : (r : Returned ℕ Refusal) (before after : List ℕ) → TellsRead (on_image card.geometry (read_from from room h t)) r before after → TellsRead (read_of format image bytes from room) r before after
  unfolding and_then
  read-there r before after told =
      rw (read-so format image bytes from room ∙ asked (λ g h t. on_image g (read_from from room h t)) format image bytes ∙ ap (λ x. and_then x (onward (λ g h t. on_image g (read_from from room h t)))) stands ∙ ap (λ g. on_image g (read_from from room h t)) same) told

  -- the read's own pages
  data_is : or_none (read_data_of format image bytes from room) ≡ total_over (mended_page card.geometry card.image.now) (read_pages from room h t)
  unfolding and_then
  data_is =
      rw own
      (ap or_none (asked (λ (g : Geometry) (h : Slot) (t : Tree). ok (mended_over g.format image (map (image_page g) (read_pages from room h t)))) format image bytes
      ∙ ap (λ x. and_then x (onward (λ (g : Geometry) (h : Slot) (t : Tree). ok (mended_over g.format image (map (image_page g) (read_pages from room h t)))))) stands)
      ∙ ap (λ (g : Geometry). mended_over g.format image (map (image_page g) (read_pages from room h t))) same
      ∙ total-map (mended_chunks card.geometry.format image) (image_page card.geometry) (read_pages from room h t))

  -- the count that was grown is the sum over all pages
  whole_is : (checked count settled : ℕ) → checked ≡ mended_of format image → checked < 2 ^ 32
      → wrapped count ≡ wrapped (checked + total_over (mended_page card.geometry card.image.now) (read_pages from room h t)) → total_over (mended_page card.geometry card.image.now) (read_pages from room h t) < 2 ^ 40
      → settled ≡ count → settled < 2 ^ 64 → settled ≡ read_mended format image bytes from room
  unfolding read_mended
  whole_is checked count settled e small c few f fits =
      let sum : settled ≡ checked + total_over (mended_page card.geometry card.image.now) (read_pages from room h t) = omega arith in
      sum ∙ ap (λ (n : ℕ). n + total_over (mended_page card.geometry card.image.now) (read_pages from room h t)) e ∙ ap (λ (n : ℕ). mended_of format image + n) (sym data_is)

  -- what a read that is accepted reports
  pub read-reports : (n checked count settled before : ℕ) → checked ≡ mended_of format image → checked < 2 ^ 32
      → ReadAdds (Ok n) checked (total_over (mended_page card.geometry card.image.now) (read_pages from room h t)) count → settled ≡ count → settled < 2 ^ 64
      → told {A = ℕ} (Ok n) ≡ and_then (read_of format image bytes from room) (λ b. ok (length b))
      → settled ≡ reported (read_of format image bytes from room) (read_mended format image bytes from room) before
  read-reports n checked count settled before e small c f fits tells =
      whole_is checked count settled e small c.0 c.1 f fits ∙ reports (read_of format image bytes from room) length (read_mended format image bytes from room) before tells
