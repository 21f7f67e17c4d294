-- What an accepted change writes, and the view after it (RULES, "Changes").
use Rattle.std.specs.Prelude.{◌%◌, ◌+◌, ◌-◌, suc, zero, ℕ, Bool, cond, false, true, List, [], ◌++◌, ◌∷◌, map, eqb, drop, get_or, length, take}
use Rattle.std.proofs.Math.Option.{Option, none, some}
use Rattle.model.specs.Change.{Change, Rules, create, delete, directory_mode, file_mode, make_directory, path, remove_directory, replace}
use Rattle.model.specs.Counts.{free_count, held_count, takeable, total_below}
use Rattle.model.specs.Entry.{Entry, clusters_for, end_mark}
use Rattle.model.specs.Lookup.{Found, absent, first_dead, found, index_of, look_in, look_up, page_at_path}
use Rattle.model.specs.Names.{Name, dot_dot_name, dot_name, last_name, parent}
use Rattle.model.specs.Pages.{altered_entry, data_pages, decoded, entry_page, new_page, padded_name, zero_cluster}
use Rattle.model.specs.Tree.{Root, Slot, Tree, entry_pages, slot_count, times}
use Rattle.model.specs.View.{Link, View, pages_of}

-- ---- the allocation table

abbrev pub if_free : Link → ℕ → List ℕ
if_free Link.free k = k ∷ []
if_free Link.last k = []
if_free (Link.next a) k = []

-- the free clusters below k, ascending
unfoldable pub free_below : (ℕ → Link) → ℕ → List ℕ
free_below link zero = []
free_below link (suc k) = free_below link k ++ if_free (link k) k

-- the free clusters of a card that may be taken, ascending
abbrev pub free_clusters : Rules → View → List ℕ
free_clusters y v = free_below (takeable y.may_take v.link) y.alloc_end

-- Clusters are the lowest free ones, ascending: the directory's growth first, then the change's own.
abbrev pub growth_clusters : Rules → View → ℕ → List ℕ
growth_clusters y v growing = take growing (free_clusters y v)

abbrev pub own_clusters : Rules → View → ℕ → ℕ → List ℕ
own_clusters y v growing own = take own (drop growing (free_clusters y v))

-- how many clusters of a list count as free once they are freed, and how many are held back
abbrev pub returned : Rules → List ℕ → ℕ
returned y cs = total_below (λ c. cond (y.may_take c) (times cs c) 0) y.alloc_end

abbrev pub withheld : Rules → List ℕ → ℕ
withheld y cs = total_below (λ c. cond (y.may_take c) 0 (times cs c)) y.alloc_end

-- The free count and the held back one.
abbrev pub free_of : Rules → View → ℕ
free_of y v = free_count y.may_take y.alloc_end v

abbrev pub held_of : Rules → View → ℕ
held_of y v = held_count y.may_take y.alloc_end v

-- the link that leads to these clusters
abbrev pub link_to : List ℕ → Link
link_to [] = Link.last
link_to (c ∷ cs) = Link.next c

-- A new chain's words lead to the next cluster, the end mark at the last; a freed chain's words have their top bit cleared.
abbrev pub write_chain : List ℕ → (ℕ → Link) → ℕ → Link
write_chain [] link x = link x
write_chain (c ∷ cs) link x = cond (eqb c x) (link_to cs) (write_chain cs link x)

abbrev pub free_chain : List ℕ → (ℕ → Link) → ℕ → Link
free_chain [] link x = link x
free_chain (c ∷ cs) link x = cond (eqb c x) Link.free (free_chain cs link x)

-- ---- the plan of a change

-- The directory that a change is in: the page of its entry, the entry and its chain.
pub record Directory : Type 0 where
  pub page : ℕ
  pub entry : Entry
  pub chain : List ℕ

-- What comes into the change's slot: the entry, whether that is a new one, and the pages of the clusters taken for it.
pub record Filling : Type 0 where
  pub entry : Entry
  pub is_new : Bool
  pub pages : List (Option (List ℕ))

-- What a change does in its directory.
pub record Edit : Type 0 where
  -- the slot that changes, counted from slot 2, and the directory's length afterwards
  pub index : ℕ
  pub new_length : ℕ
  -- how many clusters the directory's chain grows by, how many the change takes for itself, and those that it gives back
  pub growing : ℕ
  pub own : ℕ
  pub given : List ℕ
  -- what comes into the slot, by the clusters taken
  pub filling : List ℕ → Filling

-- Which bytes are written, and nothing else: the page of the directory's entry with its new length, zeros in the clusters of its growth,
-- the slot's page, the pages of the clusters taken, and the table words of all these clusters and of those given back.
pub record Plan : Type 0 where
  pub directory : Directory
  pub new_length : ℕ
  pub growth : List ℕ
  pub slot_page : ℕ
  pub taken : List ℕ
  pub given : List ℕ
  pub filling : Filling

-- a directory's entry with another length
abbrev pub with_length : Entry → ℕ → Entry
with_length e n = altered_entry e e.mode n e.first_cluster e.modified

-- The plan of an edit: which clusters are taken, and the slot's page among those of the directory's entries, its growth counted.
abbrev pub made : Rules → View → Directory → Edit → Plan
made y v d u =
    let grown = growth_clusters y v u.growing in
    let own = own_clusters y v u.growing u.own in
    record {
      directory = d;
      new_length = u.new_length;
      growth = grown;
      slot_page = get_or (entry_pages (Slot.directory (with_length d.entry u.new_length) (d.chain ++ grown))) u.index 0;
      taken = own;
      given = u.given;
      filling = u.filling own;
    }

-- ---- what each change puts into its slot

-- the first cluster that an entry names: 0xFFFFFFFF where it has none
abbrev pub first_of : List ℕ → ℕ
first_of [] = end_mark
first_of (c ∷ cs) = c

-- an entry with what a change gives it, all else zero
abbrev pub new_entry : ℕ → ℕ → ℕ → ℕ → List ℕ → Name → Entry
new_entry mode length first dir_entry time n =
    record {
      mode = mode;
      length = length;
      created = time;
      first_cluster = first;
      dir_entry = dir_entry;
      modified = time;
      attribute = 0;
      name_field = padded_name n;
      name = n;
    }

-- A new file has its data on the clusters taken.
abbrev pub new_file : Name → List ℕ → List ℕ → List ℕ → Filling
new_file n time bytes own =
    record { entry = new_entry file_mode (length bytes) (first_of own) 0 time n; is_new = true; pages = data_pages bytes }

-- A new directory has length 2; its `.` holds the parent's first cluster and its own slot as dir_entry, `..` zeros there.
abbrev pub dot_entry : List ℕ → ℕ → ℕ → Entry
dot_entry time parent_cluster slot = new_entry directory_mode 0 parent_cluster slot time dot_name

abbrev pub dot_dot_entry : List ℕ → Entry
dot_dot_entry time = new_entry directory_mode 0 0 0 time dot_dot_name

abbrev pub new_directory : Name → List ℕ → ℕ → ℕ → List ℕ → Filling
new_directory n time parent_cluster slot own =
    record {
      entry = new_entry directory_mode 2 (first_of own) 0 time n;
      is_new = true;
      pages = some (new_page (dot_entry time parent_cluster slot)) ∷ some (new_page (dot_dot_entry time)) ∷ [];
    }

-- Replacing sets length, first cluster and modified.
abbrev pub new_contents : Entry → List ℕ → List ℕ → List ℕ → Filling
new_contents old time bytes own =
    record { entry = altered_entry old old.mode (length bytes) (first_of own) time; is_new = false; pages = data_pages bytes }

-- Removing clears bit 0x8000.
abbrev pub killed : Entry → Entry
killed e = altered_entry e (e.mode - 0x8000) e.length e.first_cluster e.modified

abbrev pub removal : Entry → List ℕ → Filling
removal old own = record { entry = killed old; is_new = false; pages = [] }

-- ---- what each change does in its directory, by the directory's slots

-- A new entry takes the lowest dead slot, else the one after the last, and the length grows by one; where it was even a cluster is added.
abbrev pub length_with_one : Entry → Tree → ℕ
length_with_one e s = cond (eqb (first_dead s) (slot_count s)) (suc e.length) e.length

abbrev pub growth_with_one : Entry → Tree → ℕ
growth_with_one e s = cond (eqb (first_dead s) (slot_count s)) (1 - e.length % 2) 0

abbrev pub adding : Directory → Tree → ℕ → (List ℕ → Filling) → Edit
adding d s own filling =
    record {
      index = first_dead s;
      new_length = length_with_one d.entry s;
      growing = growth_with_one d.entry s;
      own = own;
      given = [];
      filling = filling;
    }

-- the entry of a name is altered in its slot, and the directory keeps its length
abbrev pub altering : Directory → Tree → Name → ℕ → List ℕ → (List ℕ → Filling) → Edit
altering d s n own given filling =
    record { index = index_of n s; new_length = d.entry.length; growing = 0; own = own; given = given; filling = filling }

-- for the file that stands at the last name, and for the directory there; for anything else none
abbrev pub of_file : (Entry → List ℕ → Edit) → Found → Option Edit
of_file f absent = none
of_file f (found Slot.dead s) = none
of_file f (found (Slot.file e cs ds) s) = some (f e cs)
of_file f (found (Slot.directory e cs) s) = none

abbrev pub of_directory : (Entry → List ℕ → Edit) → Found → Option Edit
of_directory f absent = none
of_directory f (found Slot.dead s) = none
of_directory f (found (Slot.file e cs ds) s) = none
of_directory f (found (Slot.directory e cs) s) = some (f e cs)

-- what a change does, by what stands at its last name; a change that is refused there does nothing
abbrev pub edit_for : Change → Directory → Tree → Found → Option Edit
edit_for (create p time bytes) d s g = some (adding d s (clusters_for (length bytes)) (new_file (last_name p) time bytes))
edit_for (make_directory p time) d s g = some (adding d s 1 (new_directory (last_name p) time (first_of d.chain) (2 + first_dead s)))
edit_for (replace p time bytes) d s g = of_file (λ old given. altering d s (last_name p) (clusters_for (length bytes)) given (new_contents old time bytes)) g
edit_for (delete p) d s g = of_file (λ old given. altering d s (last_name p) 0 given (removal old)) g
edit_for (remove_directory p) d s g = of_directory (λ old given. altering d s (last_name p) 0 given (removal old)) g

module _ (y : Rules) where
  abbrev pub plan_by : View → Directory → Option Edit → Option Plan
  plan_by v d none = none
  plan_by v d (some u) = some (made y v d u)

  -- in what was found on the way to the last name, whose entry is in this page
  abbrev pub plan_at : Change → View → ℕ → Found → Option Plan
  plan_at c v page absent = none
  plan_at c v page (found Slot.dead s) = none
  plan_at c v page (found (Slot.file e cs ds) s) = none
  plan_at c v page (found (Slot.directory e cs) s) =
      let d : Directory = record { page = page; entry = e; chain = cs } in
      plan_by v d (edit_for c d s (look_in s (last_name (path c) ∷ [])))

  -- the plan of a change on a card
  abbrev pub plan_of : Change → View → Root → Option Plan
  plan_of c v r = plan_at c v (page_at_path r (parent (path c))) (look_up r (parent (path c)))

-- ---- the view after it

-- the directory's entry afterwards, and the data of its page and of the slot's page
abbrev pub directory_after : Plan → Entry
directory_after p = with_length p.directory.entry p.new_length

abbrev pub directory_bytes : View → Plan → List ℕ
directory_bytes v p = entry_page false (v.page p.directory.page) (directory_after p)

abbrev pub slot_bytes : View → Plan → List ℕ
slot_bytes v p = entry_page p.filling.is_new (v.page p.slot_page) p.filling.entry

module _ {B : Type 0} where
  -- values written to some places, the first of a place before later ones
  abbrev pub set_all : List ℕ → List B → (ℕ → B) → ℕ → B
  set_all [] ds f x = f x
  set_all (p ∷ ps) [] f x = f x
  set_all (p ∷ ps) (d ∷ ds) f x = cond (eqb p x) d (set_all ps ds f x)

abbrev pub after : View → Plan → View
after v p =
    record {
      page = λ a. cond (eqb p.slot_page a) (some (slot_bytes v p))
          (cond (eqb p.directory.page a) (some (directory_bytes v p))
          (set_all (pages_of p.taken) p.filling.pages (set_all (pages_of p.growth) zero_cluster v.page) a));
      entry = λ a. cond (eqb p.slot_page a) (some p.filling.entry)
          (cond (eqb p.directory.page a) (some (directory_after p))
          (set_all (pages_of p.taken) (map decoded p.filling.pages) (set_all (pages_of p.growth) (map decoded zero_cluster) v.entry) a));
      link = write_chain (p.directory.chain ++ p.growth) (write_chain p.taken (free_chain p.given v.link));
    }
