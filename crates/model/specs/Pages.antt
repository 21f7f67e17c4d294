-- What the pages that a change writes hold (RULES, "Changes").
use Rattle.std.specs.Prelude.{◌*◌, ◌-◌, suc, zero, ℕ, Bool, false, true, List, [], ◌++◌, ◌∷◌, drop, length, replicate, take}
use Rattle.std.proofs.Math.Option.{Option, none, some}
use Rattle.std.proofs.lemmas.List.Edits.{sets}
use Rattle.model.specs.Bytes.{little_bytes}
use Rattle.model.specs.Entry.{Entry, clusters_for, entry_of}
use Rattle.model.specs.Names.{Name}

unfoldable pub zero_page : List ℕ
zero_page = replicate 512 0

-- a cluster that is added to a directory is zero
abbrev pub zero_cluster : List (Option (List ℕ))
zero_cluster = some zero_page ∷ some zero_page ∷ []

abbrev pub decoded : Option (List ℕ) → Option Entry
decoded none = none
decoded (some page) = some (entry_of page)

-- a field of a page: where it begins, how many bytes it has, and the bytes
pub record Field : Type 0 where
  pub from : ℕ
  pub count : ℕ
  pub bytes : List ℕ

abbrev pub fill : List ℕ → List Field → List ℕ
fill page [] = page
fill page (f ∷ fs) = sets (fill page fs) f.from f.bytes

-- Replacing and removing, and growing a directory, alter these fields of an entry and keep every other byte of its page.
abbrev pub altered_entry : Entry → ℕ → ℕ → ℕ → List ℕ → Entry
altered_entry e mode length first modified =
    record {
      mode = mode;
      length = length;
      created = e.created;
      first_cluster = first;
      dir_entry = e.dir_entry;
      modified = modified;
      attribute = e.attribute;
      name_field = e.name_field;
      name = e.name;
    }

abbrev pub altered_fields : Entry → List Field
altered_fields e =
    record { from = 0x00; count = 2; bytes = little_bytes 2 e.mode }
    ∷ record { from = 0x04; count = 4; bytes = little_bytes 4 e.length }
    ∷ record { from = 0x10; count = 4; bytes = little_bytes 4 e.first_cluster }
    ∷ record { from = 0x18; count = 8; bytes = e.modified } ∷ []

-- a new entry has all its fields, all else zero
abbrev pub all_fields : Entry → List Field
all_fields e =
    record { from = 0x00; count = 2; bytes = little_bytes 2 e.mode }
    ∷ record { from = 0x04; count = 4; bytes = little_bytes 4 e.length }
    ∷ record { from = 0x08; count = 8; bytes = e.created }
    ∷ record { from = 0x10; count = 4; bytes = little_bytes 4 e.first_cluster }
    ∷ record { from = 0x14; count = 4; bytes = little_bytes 4 e.dir_entry }
    ∷ record { from = 0x18; count = 8; bytes = e.modified }
    ∷ record { from = 0x20; count = 4; bytes = little_bytes 4 e.attribute }
    ∷ record { from = 0x40; count = 32; bytes = e.name_field } ∷ []

unfoldable pub new_page : Entry → List ℕ
new_page e = fill zero_page (all_fields e)

unfoldable pub altered_page : List ℕ → Entry → List ℕ
altered_page page e = fill page (altered_fields e)

-- the page of an entry after a change: new, or the page as read with the entry altered
unfoldable pub entry_page : Bool → Option (List ℕ) → Entry → List ℕ
entry_page true page e = new_page e
entry_page false none e = new_page e
entry_page false (some page) e = altered_page page e

-- Data as the pages of its clusters: data after the file's end in its last cluster is zero.
abbrev pub data_pages_to : ℕ → List ℕ → List (Option (List ℕ))
data_pages_to zero bytes = []
data_pages_to (suc k) bytes = some (take 512 (bytes ++ zero_page)) ∷ data_pages_to k (drop 512 bytes)

unfoldable pub data_pages : List ℕ → List (Option (List ℕ))
data_pages bytes = data_pages_to (2 * clusters_for (length bytes)) bytes

-- a name in its field of 32 bytes
abbrev pub padded_name : Name → List ℕ
padded_name n = n ++ replicate (32 - length n) 0
