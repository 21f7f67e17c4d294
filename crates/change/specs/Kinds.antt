-- Which change a call asks for, and what it does in the directory that its path leads to.
use Rattle.std.specs.Prelude.{ℕ, ◌<◌, Bool, ◌&&◌, true, List, ◌≡◌, ltb, length}
use Rattle.std.proofs.Math.Option.{some}
use Rattle.fields.specs.PathBytes.{path_of}
use Rattle.layout.specs.declared.Superblock.{Superblock}
use Rattle.layout.specs.See.{check_image}
use Rattle.layout.specs.Table.{table_of}
use Rattle.model.specs.Change.{Change, create, delete, make_directory, remove_directory, replace}
use Rattle.model.specs.Check.{Marks, ok}
use Rattle.model.specs.Holds.{most_names}
use Rattle.lookup.specs.declared.way.EntryAt.{EntryAt}
use Rattle.model.specs.Names.{Name, Path}
use Rattle.model.specs.Refusal.{static}
use Rattle.model.specs.Time.{valid_time}
use Rattle.model.specs.Tree.{Root}
use Rattle.change.specs.declared.calls.Change.{Change as Asked}
use Rattle.change.specs.declared.calls.Change.TheVariants as asked
use Rattle.change.specs.Calls.{CanAddIn, CanEditIn, DeleteLands, RemoveLands, ReplaceLands, created_in, deleted_entry, dots_at, edited_in, made_in, as_directory, as_file, removed_entry, replaced_entry}
use Rattle.change.specs.Changed.{Outcome}

abbrev pub change_of : Asked → Path → Change
change_of (asked.Create time bytes) p = create p time.now bytes.now
change_of (asked.Make time) p = make_directory p time.now
change_of (asked.Replace time bytes) p = replace p time.now bytes.now
change_of asked.Delete p = delete p
change_of asked.Remove p = remove_directory p

-- of a well-formed path's number of names: the root is none, and a new directory has fewer than most_names
abbrev pub takes_names : Asked → ℕ → Bool
takes_names (asked.Create time bytes) n = ltb 0 n
takes_names (asked.Make time) n = ltb 0 n && ltb n most_names
takes_names (asked.Replace time bytes) n = ltb 0 n
takes_names asked.Delete n = ltb 0 n
takes_names asked.Remove n = ltb 0 n

-- removing takes no time
abbrev pub takes_time : Asked → Bool
takes_time (asked.Create time bytes) = valid_time time.now
takes_time (asked.Make time) = valid_time time.now
takes_time (asked.Replace time bytes) = valid_time time.now
takes_time asked.Delete = true
takes_time asked.Remove = true

module _ (s : Superblock) (image table : List ℕ) (directory : EntryAt) (name : Name) where
  abbrev pub changed_in : Asked → Outcome
  changed_in (asked.Create time bytes) = created_in s image table directory name time.now bytes.now
  changed_in (asked.Make time) = made_in s image table directory name time.now
  changed_in (asked.Replace time bytes) = edited_in s image table directory name (λ entry. replaced_entry s image table directory entry time.now bytes.now)
  changed_in asked.Delete = edited_in s image table directory name (deleted_entry s image table directory)
  changed_in asked.Remove = edited_in s image table directory name (removed_entry s image table directory)

  -- what the code knows before it begins
  abbrev pub CanChange : Asked → Type 0
  CanChange (asked.Create time bytes) = CanAddIn s image table directory name time.now (as_file bytes.now) (λ dead. bytes.now)
  CanChange (asked.Make time) = CanAddIn s image table directory name time.now as_directory (dots_at directory time.now)
  CanChange (asked.Replace time bytes) = CanEditIn s image table directory name (ReplaceLands s image table directory time.now bytes.now)
  CanChange asked.Delete = CanEditIn s image table directory name (DeleteLands s image table directory)
  CanChange asked.Remove = CanEditIn s image table directory name (RemoveLands s image table directory)

-- ---- what stands fast at each step of a call

-- the check accepted the image, and the table is its own
pub record Loaded (image : List ℕ) (s : Superblock) (table : List ℕ) : Type 0 where
  pub root : Root
  pub marks : Marks
  pub checked : check_image s.geometry.format image ≡ ok (s, root, marks)
  pub words : table ≡ table_of image s

-- the path has that many names, at least one, and neither 8 nor 14 is met
pub record Ready (image : List ℕ) (s : Superblock) (table : List ℕ) (K : Asked) (path : List ℕ) (count : ℕ) : Type 0 where
  pub card : Loaded image s table
  pub names : Path
  pub parsed : path_of path ≡ some names
  pub many : length names ≡ count
  pub some-names : 0 < count
  pub fine : static (change_of K names) ≡ 0
