-- Demand 3's tree is demand 2's reading: at every path find and reads answer what the tree has there, and the tree is what they answer.
use Rattle.std.specs.Prelude.{ℕ, zero, suc, ◌+◌, ◌*◌, ◌/◌, ◌≤◌, cond, true, List, [], ◌∷◌, ◌++◌, ◌⊎◌, ◌≡◌}
use Rattle.std.proofs.Math.Option.{Option, none, some}
use Rattle.page.specs.declared.Format.{Format}
use Rattle.fields.specs.PathBytes.{path_of}
use Rattle.lookup.specs.Find.{find_of}
use Rattle.lookup.specs.Read.{read_of}
use Rattle.model.specs.Check.{Result, fault, ok}
use Rattle.model.specs.Entry.{Entry, is_directory, is_file}
use Rattle.model.specs.Names.{Path}
use Rattle.model.specs.Standing.{Standing, fields_of}
use Rattle.page.specs.Page.{page_at}
use Rattle.tree.specs.Counted.{check_of}
use Rattle.tree.specs.declared.Counts.{Counts}
use Rattle.claims.specs.Seen.{tree_in}

-- 9 or 10, as met on the way
abbrev pub NothingThere : {A : Type 0} → Result A → Type 0
NothingThere answer = (answer ≡ fault 9 0) ⊎ (answer ≡ fault 10 0)

-- ---- find

-- Find answers an entry of the kind that stands there, with its mode, attribute and both times, and with a file's length.
abbrev pub FindTells : Option Standing → Result Entry → Type 0
FindTells none answer = NothingThere answer
FindTells (some (Standing.file f c)) answer = (e : Entry) × (answer ≡ ok e) × (is_file e ≡ true) × (fields_of e ≡ f) × (e.length ≡ c.size)
FindTells (some (Standing.directory f)) answer = (e : Entry) × (answer ≡ ok e) × (is_directory e ≡ true) × (fields_of e ≡ f)

-- ---- a read of the whole file

-- the pages one after the other; none where one is unreadable
abbrev pub followed_by : List ℕ → Option (List ℕ) → Option (List ℕ)
followed_by bytes none = none
followed_by bytes (some more) = some (bytes ++ more)

abbrev pub whole_of : List (Option (List ℕ)) → Option (List ℕ)
whole_of [] = some []
whole_of (none ∷ pages) = none
whole_of (some bytes ∷ pages) = followed_by bytes (whole_of pages)

-- which of a file's pages is the first unreadable one
abbrev pub first_unreadable : List (Option (List ℕ)) → ℕ
first_unreadable [] = 0
first_unreadable (none ∷ pages) = 0
first_unreadable (some bytes ∷ pages) = suc (first_unreadable pages)

-- The file's bytes; or 2 with a page of the image that is unreadable, the one that a read of the file's first unreadable page alone tells.
abbrev pub BytesOr2 : Format → List ℕ → (ℕ → Result (List ℕ)) → ℕ → Option (List ℕ) → Result (List ℕ) → Type 0
BytesOr2 format image page k (some bytes) answer = answer ≡ ok bytes
BytesOr2 format image page k none answer = (p : ℕ) × (answer ≡ fault 2 p) × (page k ≡ fault 2 p) × (page_at format image p ≡ none)

-- A read from the start into a buffer with room for the file answers its bytes; reading a directory is 10.
-- `page k` is what a read of the file's page k answers.
abbrev pub ReadTells : Format → List ℕ → (ℕ → Result (List ℕ)) → ℕ → Option Standing → Result (List ℕ) → Type 0
ReadTells format image page room none answer = NothingThere answer
ReadTells format image page room (some (Standing.file f c)) answer = c.size ≤ room → BytesOr2 format image page (first_unreadable c.pages) (whole_of c.pages) answer
ReadTells format image page room (some (Standing.directory f)) answer = answer ≡ fault 10 0

-- ---- the tree from the answers

-- a page of a file as a read of it answers
abbrev pub page_told : Result (List ℕ) → Option (List ℕ)
page_told (fault n p) = none
page_told (ok bytes) = some bytes

abbrev pub pages_told : (ℕ → Result (List ℕ)) → ℕ → ℕ → List (Option (List ℕ))
pages_told page k zero = []
pages_told page k (suc count) = page_told (page k) ∷ pages_told page (suc k) count

-- by find's answer and those of the reads of each page
abbrev pub standing_by : Result Entry → (ℕ → Result (List ℕ)) → Option Standing
standing_by (fault n p) page = none
standing_by (ok e) page =
    some
    (cond (is_directory e) (Standing.directory (fields_of e))
    (Standing.file (fields_of e) (record { size = e.length; pages = pages_told page 0 ((e.length + 511) / 512) })))

-- ---- the claim

-- a read of the 512 bytes of a file's page k, or of as many as it has there
abbrev pub page_read : Format → List ℕ → List ℕ → ℕ → Result (List ℕ)
page_read format image path k = read_of format image path (512 * k) 512

pub record Reads (format : Format) (image path : List ℕ) (names : Path) : Type 0 where
  pub find : FindTells (tree_in format image names) (find_of format image path)
  pub read : (room : ℕ) → ReadTells format image (page_read format image path) room (tree_in format image names) (read_of format image path 0 room)
  pub tree : tree_in format image names ≡ standing_by (find_of format image path) (page_read format image path)

-- At every path that can be handed in; and where something stands, there is such a path.
pub record ReadsAll (format : Format) (image : List ℕ) : Type 0 where
  pub everywhere : (path : List ℕ) (names : Path) → path_of path ≡ some names → Reads format image path names
  pub handed : (names : Path) (there : Standing) → tree_in format image names ≡ some there → (path : List ℕ) × (path_of path ≡ some names)

abbrev pub TreeIsReading : Type 0
TreeIsReading = (format : Format) (image : List ℕ) (counts : Counts) → check_of format image ≡ ok counts → ReadsAll format image
