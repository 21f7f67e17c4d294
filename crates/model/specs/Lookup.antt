-- What stands at a path of the tree. Names are looked up from the left.
use Rattle.std.specs.Prelude.{suc, ℕ, Bool, cond, false, List, [], ◌∷◌}
use Rattle.model.specs.Names.{Name, Path, same_name}
use Rattle.model.specs.Tree.{Root, Slot, Tree, end, entry_pages, node, root_slot}

abbrev pub is_named : Slot → Name → Bool
is_named Slot.dead n = false
is_named (Slot.file e cs ds) n = same_name e.name n
is_named (Slot.directory e cs) n = same_name e.name n

pub data Found : Type 0 where
  absent : Found
  found : Slot → Tree → Found

-- in a directory's slots
abbrev pub look_in : Tree → Path → Found
look_in end q = absent
look_in (node h s t) [] = absent
look_in (node h s t) (n ∷ []) = cond (is_named h n) (found h s) (look_in t (n ∷ []))
look_in (node h s t) (n ∷ m ∷ q) = cond (is_named h n) (look_in s (m ∷ q)) (look_in t (n ∷ m ∷ q))

-- from a slot on: itself, or what is inside it
abbrev pub look_from : Slot → Tree → Path → Found
look_from h s [] = found h s
look_from h s (m ∷ q) = look_in s (m ∷ q)

abbrev pub look_up : Root → Path → Found
look_up r q = look_from (root_slot r) r.slots q

module _ {B : Type 0} (f : Slot → Tree → B) (otherwise : B) where
  -- what is told of what was found
  abbrev pub tell : Found → B
  tell absent = otherwise
  tell (found h s) = f h s

-- the first of some pages, and those after it
abbrev pub first_page : List ℕ → ℕ
first_page [] = 0
first_page (p ∷ ps) = p

abbrev pub later_pages : List ℕ → List ℕ
later_pages [] = []
later_pages (p ∷ ps) = ps

-- the page of the entry at a path, in slots whose pages these are
abbrev pub page_among : List ℕ → Tree → Path → ℕ
page_among ps end q = 0
page_among ps (node h s t) [] = 0
page_among ps (node h s t) (n ∷ []) = cond (is_named h n) (first_page ps) (page_among (later_pages ps) t (n ∷ []))
page_among ps (node h s t) (n ∷ m ∷ q) = cond (is_named h n) (page_among (entry_pages h) s (m ∷ q)) (page_among (later_pages ps) t (n ∷ m ∷ q))

-- the page of the entry at a path; for the root its own first entry's
abbrev pub page_at_path : Root → Path → ℕ
page_at_path r [] = 0
page_at_path r (n ∷ q) = page_among (entry_pages (root_slot r)) r.slots (n ∷ q)

-- the lowest dead slot of a directory, or the place after the last one; and the slot of a name; both counted from slot 2
abbrev pub first_dead : Tree → ℕ
first_dead end = 0
first_dead (node Slot.dead s t) = 0
first_dead (node (Slot.file e cs ds) s t) = suc (first_dead t)
first_dead (node (Slot.directory e cs) s t) = suc (first_dead t)

abbrev pub index_of : Name → Tree → ℕ
index_of n end = 0
index_of n (node h s t) = cond (is_named h n) 0 (suc (index_of n t))
