-- The pages of the allocatable clusters that the check of a card needs: every entry page of every directory (request 11 of document 02).
use Rattle.std.specs.Prelude.{◌+◌, ℕ, List, [], ◌++◌, ◌∷◌, take}
use Rattle.model.specs.Tree.{Root, Slot, Tree, dead, directory, end, file, node, root_slot}
use Rattle.model.specs.View.{pages_of}

-- a directory's entry pages, the first two and dead ones too: as many as its length counts. Of an odd one the chain's last page is none.
abbrev pub directory_pages : Slot → List ℕ
directory_pages dead = []
directory_pages (file e cs ds) = []
directory_pages (directory e cs) = take e.length (pages_of cs)

-- of all directories among a directory's slots and below them
unfoldable pub pages_below : Tree → List ℕ
pages_below end = []
pages_below (node h inside later) = directory_pages h ++ (pages_below inside ++ pages_below later)

-- of a whole card
abbrev pub entry_pages_of : Root → List ℕ
entry_pages_of r = directory_pages (root_slot r) ++ pages_below r.slots

-- a number of each page, summed over pages
abbrev pub total_over : (ℕ → ℕ) → List ℕ → ℕ
total_over f [] = 0
total_over f (p ∷ ps) = f p + total_over f ps
