-- When a view holds a card: the rules of chains, entries and directories as statements, with no order among them.
use Rattle.std.specs.Prelude.{◌*◌, ◌+◌, ◌<◌, ◌≤◌, pred, suc, ℕ, ◌&&◌, false, true, List, [], ◌∷◌, map, ◌≡◌, length}
use Rattle.std.proofs.Math.Option.{some}
use Rattle.model.specs.Entry.{Entry, directory_clusters, file_clusters, is_directory, is_file, is_live, is_root, is_subdirectory}
use Rattle.model.specs.Names.{Name, dot_dot_name, dot_name, same_name}
use Rattle.model.specs.Tree.{Root, Slot, Tree, dead, directory, end, entry_pages, file, name_uses, node, reached, root_slot}
use Rattle.model.specs.View.{Link, View, first_link, pages_of}

-- directories lie at most this many below the root
abbrev pub deepest : ℕ
deepest = 7

-- the most names of a path: a file may stand in the deepest directory
abbrev pub most_names : ℕ
most_names = suc deepest

-- The clusters are a chain behind a link: each word leads to the next cluster, and the end mark stands at the last. So none is free.
abbrev pub Chain : View → Link → List ℕ → Type 0
Chain v l [] = l ≡ Link.last
Chain v l (c ∷ cs) = (l ≡ Link.next c) × Chain v (v.link c) cs

-- Entries 0 and 1 are live directories named `.` and `..`; their other fields are not judged.
abbrev pub DotEntry : View → Name → ℕ → Type 0
DotEntry v n p = (e : Entry) × (v.entry p ≡ some e) × ((is_directory e && same_name e.name n) ≡ true)

abbrev pub DotEntries : View → List ℕ → Type 0
DotEntries v [] = ⊥
DotEntries v (c ∷ cs) = DotEntry v dot_name (2 * c) × DotEntry v dot_dot_name (2 * c + 1)

-- Page p holds this slot, at a place where directories may still go `below` deep.
abbrev pub HoldsSlot : View → ℕ → ℕ → Slot → Type 0
HoldsSlot v below p dead = (e : Entry) × (v.entry p ≡ some e) × (is_live e ≡ false)
HoldsSlot v below p (file e cs ds) =
    (v.entry p ≡ some e) × (is_file e ≡ true) × (length cs ≡ file_clusters e) × Chain v (first_link e) cs × (ds ≡ map v.page (pages_of cs))
HoldsSlot v below p (directory e cs) =
    (v.entry p ≡ some e) × (is_subdirectory e ≡ true) × (0 < below) × (length cs ≡ directory_clusters e) × Chain v (first_link e) cs × DotEntries v cs

abbrev pub UniqueNames : Tree → Type 0
UniqueNames t = (n : Name) → name_uses t n ≤ 1

-- The pages hold these slots, one each, with all that is inside them.
abbrev pub HoldsSlots : View → ℕ → List ℕ → Tree → Type 0
HoldsSlots v below [] end = Unit {0}
HoldsSlots v below (p ∷ ps) end = ⊥
HoldsSlots v below [] (node h s t) = ⊥
HoldsSlots v below (p ∷ ps) (node h s t) =
    HoldsSlot v below p h × UniqueNames s × HoldsSlots v (pred below) (entry_pages h) s × HoldsSlots v below ps t

-- The view holds the card: the root begins at cluster 0 and has its length from its own first entry; no cluster is reached twice.
pub record HoldsCard (v : View) (r : Root) : Type 0 where
  pub root_page : v.entry 0 ≡ some r.root_entry
  pub good : is_root r.root_entry ≡ true
  pub long : length r.chain ≡ directory_clusters r.root_entry
  pub links : Chain v (Link.next 0) r.chain
  pub dots : DotEntries v r.chain
  pub uniq : UniqueNames r.slots
  pub rep : HoldsSlots v deepest (entry_pages (root_slot r)) r.slots
  pub once : (c : ℕ) → reached r c ≤ 1
