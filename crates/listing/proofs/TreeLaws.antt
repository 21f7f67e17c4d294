-- The text along the pages of a directory's slots is the text of the tree that the view holds there.
use Prim.Native.Nat.{ℕ, suc, zero, ◌-◌, ◌≤◌}
use mathlib.Core.Bool.{◌&&◌, true}
use mathlib.Core.List.{List, [], ◌++◌, ◌∷◌, append-nil}
use mathlib.Core.Option.{some}
use mathlib.Core.Path.{◌∙◌, ◌≡◌, ap, ap₂, refl, sym}
use native.Mathlib.Omega.{arith}
use lib.Dec.{leb, leb→le}
use lib.IntN.{ℤ}
use Rattle.lookup.proofs.EnterLaws.{file-kind, some_same}
use Rattle.lookup.proofs.FindLaws.{directory-live, file-live}
use Rattle.model.proofs.Equality.{and_l, and_r, to-T}
use Rattle.model.specs.Entry.{Entry, is_directory, is_subdirectory}
use Rattle.model.specs.Holds.{HoldsCard, HoldsSlot, HoldsSlots, deepest}
use Rattle.model.specs.Names.{dot_name, good_name, same_name}
use Rattle.model.specs.Tree.{Root, Slot, Tree, end, entry_pages, node, root_slot}
use Rattle.model.specs.View.{View}
use Rattle.reached.specs.Table.{table_links}
use Rattle.tree.proofs.ChainPages.{directory-pages}
use Rattle.tree.specs.Slots.{next_of, slot_pages}
use Rattle.listing.specs.Render.{joined, slots_text}
use Rattle.listing.specs.Text.{directory_letter, file_letter, line_of, tree_text, within}

subdirectory-kind : (e : Entry) → is_subdirectory e ≡ true → is_directory e ≡ true
subdirectory-kind e h = and_l _ _ (and_l _ _ h)

subdirectory-length : (e : Entry) → is_subdirectory e ≡ true → 2 ≤ e.length
subdirectory-length e h = leb→le 2 _ (to-T (and_r (is_directory e && good_name e.name) (leb 2 e.length) h))

module _ (minutes : ℤ) (v : View) (t : List ℕ) (links : (c : ℕ) → v.link c ≡ table_links t c) where
  -- a directory's slots from 2 on, as the code steps through them
  own-pages : (e : Entry) (cs : List ℕ) (below : ℕ) (p : ℕ) (s : Tree) → HoldsSlot v below p (Slot.directory e cs)
      → entry_pages (Slot.directory e cs) ≡ slot_pages t (next_of t e.first_cluster) 0 (e.length - 2)
  own-pages e cs below p s x = (directory-pages v t links e.first_cluster cs x.4 e.length (subdirectory-length e x.1) x.3).2

  pub slots-text : (below : ℕ) (path ps : List ℕ) (tree : Tree) → HoldsSlots v below ps tree → slots_text minutes v t below path ps ≡ tree_text minutes path tree
  unfolding slots_text joined tree_text
  slots-text zero path [] end x = refl
  slots-text (suc below) path [] end x = refl
  slots-text below path (p ∷ ps) end x = absurd x
  slots-text below path [] (node h s later) x = absurd x
  slots-text zero path (p ∷ ps) (node Slot.dead s later) x = rw (x.0.1, x.0.2) (slots-text zero path ps later x.3)
  slots-text (suc below) path (p ∷ ps) (node Slot.dead s later) x = rw (x.0.1, x.0.2) (slots-text (suc below) path ps later x.3)
  slots-text zero path (p ∷ ps) (node (Slot.file e cs ds) s later) x =
      rw (x.0.0, file-kind e x.0.1, file-live e x.0.1) (ap (λ l. line_of minutes file_letter path e ++ l) (slots-text zero path ps later x.3))
  slots-text (suc below) path (p ∷ ps) (node (Slot.file e cs ds) s later) x =
      rw (x.0.0, file-kind e x.0.1, file-live e x.0.1, append-nil (line_of minutes file_letter path e))
      (ap (λ l. line_of minutes file_letter path e ++ l) (slots-text (suc below) path ps later x.3))
  slots-text zero path (p ∷ ps) (node (Slot.directory e cs) s later) x = absurd (omega (arith, x.0.2))
  slots-text (suc below) path (p ∷ ps) (node (Slot.directory e cs) s later) x =
      let inside = slots-text below (within path e.name) (entry_pages (Slot.directory e cs)) s x.2 in
      rw (x.0.0, subdirectory-kind e x.0.1, directory-live e x.0.1, ← own-pages e cs (suc below) p s x.0)
      (ap₂ (λ a b. line_of minutes directory_letter path e ++ a ++ b) inside (slots-text (suc below) path ps later x.3))

  -- the root's slots are behind cluster 0
  pub root-text : (r : Root) → HoldsCard v r → slots_text minutes v t deepest [] (slot_pages t (next_of t 0) 0 (r.root_entry.length - 2)) ≡ tree_text minutes [] r.slots
  root-text r x =
      let two : 2 ≤ r.root_entry.length = leb→le 2 _ (to-T (and_r (is_directory r.root_entry && same_name r.root_entry.name dot_name) _ x.good)) in
      let pages = directory-pages v t links 0 r.chain x.links r.root_entry.length two x.long in
      rw (← pages.2) (slots-text deepest [] (entry_pages (root_slot r)) r.slots x.rep)

  -- by what the code read of the root's first page
  pub root-read : (r : Root) → HoldsCard v r → (e : Entry) (path : List ℕ) (start count size : ℕ) → v.entry 0 ≡ some e → path ≡ [] → start ≡ next_of t 0 → count ≡ size - 2
      → size ≡ e.length → slots_text minutes v t deepest path (slot_pages t start 0 count) ≡ tree_text minutes [] r.slots
  root-read r x e path start count size shown a b c d =
      let same : r.root_entry ≡ e = some_same _ _ (sym x.root_page ∙ shown) in
      rw (a, b, c, d, ← same) (root-text r x)
