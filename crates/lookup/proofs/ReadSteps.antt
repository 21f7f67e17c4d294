-- What the code computes on the way of a read, as the definitions have it.
use Rattle.std.specs.Prelude.{Some, None, Ok, Err, min}
use Rattle.std.specs.Prelude.{Option, Result as Returned}
use Rattle.layout.specs.declared.Refusal.{Refusal}
use Prim.Native.Nat.{◌%◌, ◌*◌, ◌+◌, ◌-◌, ◌/◌, ◌<◌, ◌≤◌, ℕ}
use mathlib.Core.Bool.{Bool, false, true}
use mathlib.Core.List.{List, [], ◌++◌}
use mathlib.Core.Path.{◌∙◌, ◌≡◌, ap, refl, sym}
use native.Mathlib.Omega.{arith}
use borrow.Author.Tests.{leb-false, leb-true}
use lib.Dec.{leb}
use lib.ListN.{drop, length}
use Rattle.page.specs.Mended.{wrapped}
use Rattle.layout.specs.See.{image_page, on_image}
use Rattle.layout.specs.declared.Refusal.TheVariants.{UnreadablePage}
use Rattle.model.specs.Bytes.{slice}
use Rattle.model.specs.Check.{Result, ok}
use Rattle.model.specs.Entry.{entry_of, is_directory}
use Rattle.model.specs.Needed.{total_over}
use Rattle.model.specs.Tree.{Slot, Tree}
use Rattle.model.specs.View.{View}
use Rattle.model.proofs.NeededPages.{total-most}
use Rattle.page.proofs.Mending.{mended-most}
use Rattle.tree.specs.Card.{view_of}
use Rattle.tree.specs.Mended.{mended_page}
use Rattle.tree.specs.declared.card.Card.{Card}
use Rattle.tree.proofs.PageReads.{view-sized}
use Rattle.lookup.specs.declared.way.EntryAt.{EntryAt}
use Rattle.lookup.specs.Answers.{TellsRead}
use Rattle.lookup.specs.Descend.{StandsAt, data_along, pages_for}
use Rattle.tree.specs.Scan.{scan, unread}
use Rattle.lookup.specs.Mended.{ReadAdds, read_pages}
use Rattle.lookup.specs.Read.{bytes_to_copy, read_from}
use Rattle.tree.specs.Slots.{cluster_at, slot_pages}
use Rattle.tree.specs.declared.along.Place.{Place}
use Rattle.lookup.proofs.CopyLaws.{slice-length}
use Rattle.lookup.proofs.PagesLaws.{joined_length, pages-count}
use Rattle.lookup.proofs.ReadLaws.{data_pages, pages-none, pages-read, read-bytes, read_none, read-refused, read_told, read-unreadable}

-- where a scan of the pages up to the last needed byte's finds no unreadable one, none of those that are copied is
module _ (v : View) (t : List ℕ) (from n start : ℕ) (r : Option Place)
    (scanned : r ≡ scan (unread v) (slot_pages t start (from / 512) ((from + n + 511) / 512 - from / 512)) (from / 512)) where
  pub copy-ready : r ≡ None → scan (unread v) (slot_pages t start (from / 512) (pages_for (from % 512) n)) (from / 512) ≡ None
  copy-ready q = let pages : (from + n + 511) / 512 - from / 512 ≡ pages_for (from % 512) n = omega arith in sym (rw pages at scanned) ∙ q

module _ (card : Card) (file : EntryAt) (from room size n : ℕ) (is_size : size ≡ (entry_of file.page).length) (is_least : n ≡ min room (size - from)) where
  count-is : n ≡ bytes_to_copy (entry_of file.page).length from room
  count-is = go (leb room (size - from)) refl
    where
      go : (b : Bool) → leb room (size - from) ≡ b → n ≡ bytes_to_copy (entry_of file.page).length from room
      go true q = rw (← is_size, q) (omega (arith, leb-true room (size - from) q))
      go false q = rw (← is_size, q) (omega (arith, leb-false room (size - from) q))

  pub tells_none : (h : Slot) (s : Tree) → StandsAt (view_of card) file h s → is_directory (entry_of file.page) ≡ false → from ≤ size → n ≡ 0 → (before : List ℕ)
      → TellsRead (on_image card.geometry (read_from from room h s)) (Ok 0) before before
  tells_none h s x f a z before = read_told card.geometry (read_from from room h s) [] before before 0 (read_none (view_of card) card.table.now (λ z. refl) file.first from room (entry_of file.page) h s x f (omega arith) (sym count-is ∙ z)) refl refl

  -- nothing to copy adds nothing
  pub counted_none : (h : Slot) (s : Tree) → StandsAt (view_of card) file h s → is_directory (entry_of file.page) ≡ false → from ≤ size → n ≡ 0 → (count : ℕ)
      → ReadAdds (Ok 0) count (total_over (mended_page card.geometry card.image.now) (read_pages from room h s)) count
  counted_none h s x f a z count =
      let none : total_over (mended_page card.geometry card.image.now) (read_pages from room h s) ≡ 0 = ap (total_over (mended_page card.geometry card.image.now)) (pages-none (view_of card) card.table.now (λ z. refl) file.first from room (entry_of file.page) h s x f (omega arith) (sym count-is ∙ z)) in
      let same : count ≡ count + total_over (mended_page card.geometry card.image.now) (read_pages from room h s) = omega arith in
      (ap wrapped same, omega arith)

  module _ (start high : ℕ) (begins : start ≡ cluster_at card.table.now file.first (from / 512)) (ends : high ≡ (from + n) / 512 + min 1 ((from + n) % 512)) (r : Option Place)
      (scanned : r ≡ scan (unread (view_of card)) (slot_pages card.table.now start (from / 512) (high - from / 512)) (from / 512)) where
    pages-are : high - from / 512 ≡ pages_for (from % 512) n
    pages-are = omega arith

    same-scan : scan (unread (view_of card)) (data_pages (view_of card) card.table.now (λ z. refl) file.first from room (entry_of file.page)) (from / 512) ≡ r
    same-scan = sym (rw (begins, pages-are, count-is) at scanned)

    ready : r ≡ None → scan (unread (view_of card)) (slot_pages card.table.now start (from / 512) (pages_for (from % 512) n)) (from / 512) ≡ None
    ready = let last : high ≡ (from + n + 511) / 512 = omega arith in copy-ready (view_of card) card.table.now from n start r (rw last at scanned)

    module _ (h : Slot) (s : Tree) (x : StandsAt (view_of card) file h s) (f : is_directory (entry_of file.page) ≡ false) (a : from ≤ size) (b : n ≡ 0 → ⊥) where
      pub tells-unreadable : (at : Place) (k : Refusal) → k ≡ UnreadablePage (image_page card.geometry at.page) → r ≡ Some at → (before : List ℕ)
          → TellsRead (on_image card.geometry (read_from from room h s)) (Err k) before before
      tells-unreadable at k j i before =
          read-refused card.geometry (read_from from room h s) 2 at.page k before
          (read-unreadable (view_of card) card.table.now (λ z. refl) file.first from room (entry_of file.page) h s x f (omega arith) (omega (arith, count-is, b)) at (same-scan ∙ i)) (rw j)

      pub tells-bytes : r ≡ None → (before copied : List ℕ)
          → copied ≡ slice (data_along (view_of card) (slot_pages card.table.now start (from / 512) (pages_for (from % 512) n))) (from % 512) n
          → TellsRead (on_image card.geometry (read_from from room h s)) (Ok n) before (copied ++ drop n before)
      tells-bytes i before copied c =
          let g : read_from from room h s ≡ ok (slice (data_along (view_of card) (data_pages (view_of card) card.table.now (λ z. refl) file.first from room (entry_of file.page))) (from % 512) (bytes_to_copy (entry_of file.page).length from room)) =
          read-bytes (view_of card) card.table.now (λ z. refl) file.first from room (entry_of file.page) h s x f (omega arith) (omega (arith, count-is, b)) (same-scan ∙ i) in
          let j : length (data_along (view_of card) (slot_pages card.table.now start (from / 512) (pages_for (from % 512) n))) ≡ 512 * pages_for (from % 512) n =
          joined_length (view_of card) (view-sized card.geometry (length card.table.now) card.image.now) (slot_pages card.table.now start (from / 512) (pages_for (from % 512) n)) (from / 512) (ready i)
          ∙ ap (λ (m : ℕ). 512 * m) (pages-count (view_of card) (view-sized card.geometry (length card.table.now) card.image.now) card.table.now start (from / 512) (pages_for (from % 512) n)) in
          read_told card.geometry (read_from from room h s) (slice (data_along (view_of card) (slot_pages card.table.now start (from / 512) (pages_for (from % 512) n))) (from % 512) n) before (copied ++ drop n before) n
          (rw (begins, count-is) g) (slice-length (data_along (view_of card) (slot_pages card.table.now start (from / 512) (pages_for (from % 512) n))) (from % 512) n (omega arith)) (ap (λ (b : List ℕ). b ++ drop n before) c)

      pub counted-bytes : (before after : ℕ) → pages_for (from % 512) n < 4294967296
          → wrapped after ≡ wrapped (before + total_over (mended_page card.geometry card.image.now) (slot_pages card.table.now start (from / 512) (pages_for (from % 512) n)))
          → ReadAdds (Ok n) before (total_over (mended_page card.geometry card.image.now) (read_pages from room h s)) after
      counted-bytes before after small c =
          let pages : read_pages from room h s ≡ slot_pages card.table.now start (from / 512) (pages_for (from % 512) n) = rw (begins, count-is) (pages-read (view_of card) card.table.now (λ z. refl) file.first from room (entry_of file.page) h s x f (omega arith) (omega (arith, count-is, b))) in (
            rw pages c,
            rw pages (omega (arith, total-most (mended_page card.geometry card.image.now) 4 (λ p. mended-most card.geometry.format card.image.now _) (slot_pages card.table.now start (from / 512) (pages_for (from % 512) n)), pages-count (view_of card) (view-sized card.geometry (length card.table.now) card.image.now) card.table.now start (from / 512) (pages_for (from % 512) n))),
          )

-- the read at a path is the one from the slot there
pub read_at : (x y : Result (List ℕ)) (r : Returned ℕ Refusal) (before after : List ℕ) → x ≡ y → TellsRead y r before after → TellsRead x r before after
read_at x y r before after e told = rw e told
