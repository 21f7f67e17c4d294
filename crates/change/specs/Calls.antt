-- The five changes as the code does them in the directory that a path leads to: what is refused there, and the image afterwards.
use Rattle.std.specs.Prelude.{ℕ, ◌+◌, ◌-◌, ◌*◌, ◌/◌, ◌<◌, ◌≤◌, Bool, ◌||◌, false, true, List, ◌++◌, ◌≡◌, Option, None, Some, Ok, Err, leb, length}
use Rattle.std.specs.Prelude.{Result as Returned}
use Rattle.layout.specs.declared.Superblock.{Superblock}
use Rattle.layout.specs.See.{view_by}
use Rattle.layout.specs.declared.Refusal.{Refusal}
use Rattle.layout.specs.declared.Refusal.TheVariants as is
use Rattle.layout.specs.Refusal.{number_of, page_of}
use Rattle.tree.specs.declared.along.Place.{Place}
use Rattle.lookup.specs.declared.way.EntryAt.{EntryAt}
use Rattle.lookup.specs.Descend.{entered}
use Rattle.tree.specs.Scan.{bearing, dying, living_from, scan}
use Rattle.model.specs.Bytes.{word, word_limit}
use Rattle.model.specs.Change.{directory_mode, file_mode}
use Rattle.model.specs.Check.{fault, ok}
use Rattle.model.specs.Entry.{clusters_for, entry_of, is_directory, is_locked}
use Rattle.model.specs.Names.{Name, dot_dot_name, dot_name}
use Rattle.model.specs.Pages.{new_page}
use Rattle.model.specs.Plan.{new_entry}
use Rattle.model.specs.View.{View, most_clusters, top_bit}
use Rattle.tree.specs.Slots.{next_of, slot_pages}
use Rattle.change.specs.declared.entries.NewEntry.{NewEntry}
use Rattle.change.specs.Changed.{Outcome}
use Rattle.change.specs.Deeds.{Open, added_table, added_writes, entries_of, growth_by, image_by, last_of, number_by, removed_table, removed_writes, replaced_table, replaced_writes}
use Rattle.change.specs.Image.{Lands}
use Rattle.change.specs.Words.{free_list}

abbrev pub refused_by : ℕ → List ℕ → Outcome
refused_by n image = record { answer = fault n 0; image = image }

abbrev pub done_with : List ℕ → Outcome
done_with image = record { answer = ok tt; image = image }

abbrev pub pick_outcome : Bool → Outcome → Outcome → Outcome
pick_outcome true a b = a
pick_outcome false a b = b

-- the pages of a directory's slots
abbrev pub slots_of : List ℕ → EntryAt → List ℕ
slots_of table directory = slot_pages table (next_of table directory.first) 0 (entries_of directory - 2)

-- the place of a name, of the lowest dead slot and of the lowest live one
abbrev pub place_of : View → List ℕ → EntryAt → Name → Option Place
place_of v table directory name = scan (bearing v name) (slots_of table directory) 0

abbrev pub dead_of : View → List ℕ → EntryAt → Option Place
dead_of v table directory = scan (dying v) (slots_of table directory) 0

abbrev pub live_of : View → List ℕ → EntryAt → Option Place
live_of v table directory = scan (living_from v 0) (slots_of table directory) 0

-- the slot that a new entry takes, by the lowest dead one: refused where there is no directory, and where the name is there
abbrev pub unless_there : Option Place → Option Place → Returned (Option Place) Refusal
unless_there None dead = Ok dead
unless_there (Some place) dead = Err is.Exists

-- a file in the directory's place is refused
abbrev pub if_directory : Bool → Returned (Option Place) Refusal → Returned (Option Place) Refusal
if_directory true rest = rest
if_directory false rest = Err is.WrongKind

abbrev pub vacancy : Superblock → List ℕ → List ℕ → EntryAt → Name → Returned (Option Place) Refusal
vacancy s image table directory name =
    let v = view_by s.geometry table image in
    if_directory (is_directory (entry_of directory.page)) (unless_there (place_of v table directory name) (dead_of v table directory))

-- the entry of a name in a directory
abbrev pub entry_of_name : Superblock → List ℕ → List ℕ → EntryAt → Name → Returned EntryAt Refusal
entry_of_name s image table directory name = entered (view_by s.geometry table image) table directory.first directory.page name

-- ---- what a new entry is, and what its clusters hold: a file with its bytes, or a directory of length 2 with its first two entries

-- a new file of these bytes, and a new directory, in the slot that they take
abbrev pub as_file : List ℕ → Option Place → NewEntry
as_file bytes dead = record { mode = file_mode; count = length bytes; dead = dead }

abbrev pub as_directory : Option Place → NewEntry
as_directory dead = record { mode = directory_mode; count = 2; dead = dead }

abbrev pub dots_of : ℕ → ℕ → List ℕ → List ℕ
dots_of first number time = new_page (new_entry directory_mode 0 first number time dot_name) ++ new_page (new_entry directory_mode 0 0 0 time dot_dot_name)

-- its first two entries
abbrev pub dots_at : EntryAt → List ℕ → Option Place → List ℕ
dots_at directory time dead = dots_of directory.first (number_by dead (entries_of directory)) time

-- an entry is locked, and an entry or the directory directly around it
abbrev pub locked_at : EntryAt → Bool
locked_at entry = is_locked (entry_of entry.page).mode

abbrev pub either_locked : EntryAt → EntryAt → Bool
either_locked directory entry = locked_at entry || locked_at directory

-- enough clusters are free
abbrev pub enough : Superblock → List ℕ → ℕ → Bool
enough s table need = leb need (length (free_list s table))

-- the clusters that a new entry needs
abbrev pub need_of : EntryAt → Option Place → List ℕ → ℕ
need_of directory dead bytes = clusters_for (length bytes) + growth_by dead (entries_of directory)

-- a refusal leaves the image; what is done with the value of any other answer decides
module _ {A : Type 0} where
  abbrev pub or_refused : List ℕ → Returned A Refusal → (A → Outcome) → Outcome
  or_refused image (Ok x) rest = rest x
  or_refused image (Err r) rest = record { answer = fault (number_of r) (page_of r); image = image }

module _ (s : Superblock) (image table : List ℕ) where
  -- ---- a new entry: 16 where the directory is locked, 12 where fewer clusters are free than it needs
  abbrev pub unless_locked : Bool → Outcome → Outcome
  unless_locked locks rest = pick_outcome locks (refused_by 16 image) rest

  abbrev pub added_image : EntryAt → NewEntry → List ℕ → Name → List ℕ → List ℕ
  added_image directory new time name bytes =
      image_by s image (added_writes s table directory new time name bytes) (added_table s table directory new.dead bytes)

  abbrev pub added : EntryAt → NewEntry → List ℕ → Name → List ℕ → Outcome
  added directory new time name bytes =
      unless_locked (locked_at directory)
      (pick_outcome (enough s table (need_of directory new.dead bytes)) (done_with (added_image directory new time name bytes)) (refused_by 12 image))

  -- what the code knows of a new entry: its numbers fit, and its pages land
  pub record CanAdd (directory : EntryAt) (new : NewEntry) (time name bytes : List ℕ) : Type 0 where
    pub card : Open s image table
    pub some-entries : 1 ≤ entries_of directory
    pub few-entries : entries_of directory ≤ 2 * most_clusters
    pub low-last : last_of table directory < top_bit
    pub low-slot : number_by new.dead (entries_of directory) ≤ 2 * most_clusters
    pub small : enough s table (need_of directory new.dead bytes) ≡ true → new.count < word_limit
    pub lands : locked_at directory ≡ false → enough s table (need_of directory new.dead bytes) ≡ true
        → Lands s.end (added_writes s table directory new time name bytes)

  -- in the slot that it takes, by the lowest dead one (10, 11)
  unfoldable pub added_in : EntryAt → Name → List ℕ → (Option Place → NewEntry) → (Option Place → List ℕ) → Outcome
  added_in directory name time new contents =
      or_refused image (vacancy s image table directory name) (λ dead. added directory (new dead) time name (contents dead))

  abbrev pub CanAddIn : EntryAt → Name → List ℕ → (Option Place → NewEntry) → (Option Place → List ℕ) → Type 0
  CanAddIn directory name time new contents =
      (dead : Option Place) → vacancy s image table directory name ≡ Ok dead → CanAdd directory (new dead) time name (contents dead)

  -- a file with its bytes, and a directory with its first two entries
  abbrev pub created_in : EntryAt → Name → List ℕ → List ℕ → Outcome
  created_in directory name time bytes = added_in directory name time (as_file bytes) (λ dead. bytes)

  abbrev pub made_in : EntryAt → Name → List ℕ → Outcome
  made_in directory name time = added_in directory name time as_directory (dots_at directory time)

  -- ---- an entry that stands: 10 where it is of the other kind
  abbrev pub replaced_image : EntryAt → EntryAt → List ℕ → List ℕ → List ℕ
  replaced_image directory entry time bytes =
      image_by s image (replaced_writes s table directory entry time bytes) (replaced_table s table entry bytes)

  -- 16 where it or its directory is locked, 12 where too few clusters are free; the old ones do not help
  abbrev pub replaced_entry : EntryAt → EntryAt → List ℕ → List ℕ → Outcome
  replaced_entry directory entry time bytes =
      pick_outcome (is_directory (entry_of entry.page)) (refused_by 10 image)
      (unless_locked (either_locked directory entry)
      (pick_outcome (enough s table (clusters_for (length bytes))) (done_with (replaced_image directory entry time bytes)) (refused_by 12 image)))

  abbrev pub removed_image : EntryAt → EntryAt → ℕ → List ℕ
  removed_image directory entry count = image_by s image (removed_writes directory entry) (removed_table table entry count)

  abbrev pub deleted_entry : EntryAt → EntryAt → Outcome
  deleted_entry directory entry =
      pick_outcome (is_directory (entry_of entry.page)) (refused_by 10 image)
      (unless_locked (either_locked directory entry) (done_with (removed_image directory entry (clusters_for (word entry.page 4)))))

  -- 13 where a live entry is in the directory
  abbrev pub unless_live : Option Place → Outcome → Outcome
  unless_live None rest = rest
  unless_live (Some place) rest = refused_by 13 image

  abbrev pub removed_entry : EntryAt → EntryAt → Outcome
  removed_entry directory entry =
      pick_outcome (is_directory (entry_of entry.page))
      (unless_live (live_of (view_by s.geometry table image) table entry)
      (unless_locked (either_locked directory entry) (done_with (removed_image directory entry ((entries_of entry + 1) / 2)))))
      (refused_by 10 image)

  -- what the code knows of the entry: where none of these is met, its pages land
  abbrev pub ReplaceLands : EntryAt → List ℕ → List ℕ → EntryAt → Type 0
  ReplaceLands directory time bytes entry =
      is_directory (entry_of entry.page) ≡ false → either_locked directory entry ≡ false → enough s table (clusters_for (length bytes)) ≡ true
      → Lands s.end (replaced_writes s table directory entry time bytes)

  abbrev pub DeleteLands : EntryAt → EntryAt → Type 0
  DeleteLands directory entry =
      is_directory (entry_of entry.page) ≡ false → either_locked directory entry ≡ false → Lands s.end (removed_writes directory entry)

  abbrev pub RemoveLands : EntryAt → EntryAt → Type 0
  RemoveLands directory entry =
      is_directory (entry_of entry.page) ≡ true → live_of (view_by s.geometry table image) table entry ≡ None → either_locked directory entry ≡ false
      → Lands s.end (removed_writes directory entry)

  -- what is done with the entry of a name: 9 where the name is absent, 10 where a file stands in the directory's place
  unfoldable pub edited_in : EntryAt → Name → (EntryAt → Outcome) → Outcome
  edited_in directory name edit = or_refused image (entry_of_name s image table directory name) edit

  abbrev pub CanEditIn : EntryAt → Name → (EntryAt → Type 0) → Type 0
  CanEditIn directory name lands = (entry : EntryAt) → entry_of_name s image table directory name ≡ Ok entry → Open s image table × lands entry
