-- The five changes, with the path, time and data handed in, and what one leaves at its own path.
use Rattle.std.specs.Prelude.{◌≤◌, ℕ, Bool, false, true, List, ◌⊎◌, ◌≡◌, length}
use Rattle.std.proofs.Math.Option.{Option, none, some}
use Rattle.model.specs.Entry.{clusters_for}
use Rattle.model.specs.Names.{Path, parent}
use Rattle.model.specs.Pages.{data_pages}
use Rattle.model.specs.Standing.{Content, Fields, Standing, content}
use Rattle.model.specs.View.{most_clusters}

pub data Change : Type 0 where
  create : Path → List ℕ → List ℕ → Change
  make_directory : Path → List ℕ → Change
  replace : Path → List ℕ → List ℕ → Change
  delete : Path → Change
  remove_directory : Path → Change

abbrev pub path : Change → Path
path (create p time bytes) = p
path (make_directory p time) = p
path (replace p time bytes) = p
path (delete p) = p
path (remove_directory p) = p

-- creating and making are creations, deleting and removing are removals
abbrev pub creates : Change → Bool
creates (create p time bytes) = true
creates (make_directory p time) = true
creates (replace p time bytes) = false
creates (delete p) = false
creates (remove_directory p) = false

abbrev pub removes : Change → Bool
removes (create p time bytes) = false
removes (make_directory p time) = false
removes (replace p time bytes) = false
removes (delete p) = true
removes (remove_directory p) = true

-- one creates and the other removes in the same directory
abbrev pub Crossed : Change → Change → Type 0
Crossed a b =
    (parent (path a) ≡ parent (path b))
    × (((creates a ≡ true) × (removes b ≡ true)) ⊎ ((removes a ≡ true) × (creates b ≡ true)))

-- the clusters that a change takes for itself, its directory's growth aside
abbrev pub size : Change → ℕ
size (create p time bytes) = clusters_for (length bytes)
size (make_directory p time) = 1
size (replace p time bytes) = clusters_for (length bytes)
size (delete p) = 0
size (remove_directory p) = 0

abbrev pub file_mode : ℕ
file_mode = 0x8417

abbrev pub directory_mode : ℕ
directory_mode = 0x8427

abbrev pub content_of : List ℕ → Content
content_of bytes = content (length bytes) (data_pages bytes)

-- a new entry has both times as given, and attribute 0
abbrev pub new_fields : ℕ → List ℕ → Fields
new_fields mode time = record { mode = mode; attribute = 0; created = time; modified = time }

-- the same but for the time of change
abbrev pub modified_at : List ℕ → Fields → Fields
modified_at time f = record { mode = f.mode; attribute = f.attribute; created = f.created; modified = time }

-- Replacing keeps mode, attribute and created.
abbrev pub replaced : List ℕ → List ℕ → Option Standing → Option Standing
replaced time bytes none = none
replaced time bytes (some (Standing.file f c)) = some (Standing.file (modified_at time f) (content_of bytes))
replaced time bytes (some (Standing.directory f)) = none

abbrev pub standing_after : Change → Option Standing → Option Standing
standing_after (create p time bytes) old = some (Standing.file (new_fields file_mode time) (content_of bytes))
standing_after (make_directory p time) old = some (Standing.directory (new_fields directory_mode time))
standing_after (replace p time bytes) old = replaced time bytes old
standing_after (delete p) old = none
standing_after (remove_directory p) old = none

-- What differs from card to card: the allocatable clusters, and which of the free ones may be taken.
pub record Rules : Type 0 where
  pub alloc_end : ℕ
  pub limited : alloc_end ≤ most_clusters
  pub may_take : ℕ → Bool
