-- A directory entry is one page (RULES, "Directories").
--
--   0x00 half  mode        0x8000 exists, 0x20 directory, 0x10 file, 0x02 may be written
--   0x04 word  length      bytes of a file, entries of a directory
--   0x08 8     created
--   0x10 word  first cluster
--   0x14 word  dir_entry
--   0x18 8     modified
--   0x20 word  attribute
--   0x40 32    name, ending at its first zero
use Rattle.std.specs.Prelude.{◌%◌, ◌+◌, ◌/◌, ℕ, Bool, ◌&&◌, ◌||◌, not, List, eqb, leb, ltb}
use Rattle.model.specs.Bytes.{before_zero, half, slice, word}
use Rattle.model.specs.Names.{Name, dot_name, good_name, same_name}

pub record Entry : Type 0 where
  pub mode : ℕ
  pub length : ℕ
  pub created : List ℕ
  pub first_cluster : ℕ
  pub dir_entry : ℕ
  pub modified : List ℕ
  pub attribute : ℕ
  pub name_field : List ℕ
  pub name : Name

abbrev pub entry_of : List ℕ → Entry
entry_of page =
    record {
      mode = half page 0x00;
      length = word page 0x04;
      created = slice page 0x08 8;
      first_cluster = word page 0x10;
      dir_entry = word page 0x14;
      modified = slice page 0x18 8;
      attribute = word page 0x20;
      name_field = slice page 0x40 32;
      name = before_zero (slice page 0x40 32);
    }

-- a word that names no cluster: the first cluster of an empty file, and the end mark of a chain
abbrev pub end_mark : ℕ
end_mark = 0xFFFFFFFF

-- the mode has this bit
abbrev pub has_bit : ℕ → ℕ → Bool
has_bit mode bit = eqb (mode / bit % 2) 1

-- the entry lacks the write bit: the file or directory that it stands for is locked
abbrev pub is_locked : ℕ → Bool
is_locked mode = not (has_bit mode 0x0002)

-- an entry without 0x8000 is dead
abbrev pub is_live : Entry → Bool
is_live e = has_bit e.mode 0x8000

-- A live file: not a directory too, named by the rule; with length 0 its first cluster is 0xFFFFFFFF.
abbrev pub is_file : Entry → Bool
is_file e = is_live e && has_bit e.mode 0x10 && not (has_bit e.mode 0x20) && good_name e.name && (ltb 0 e.length || eqb e.first_cluster end_mark)

abbrev pub is_directory : Entry → Bool
is_directory e = is_live e && has_bit e.mode 0x20 && not (has_bit e.mode 0x10)

-- a directory from slot 2 on: named by the rule, and of length at least 2
abbrev pub is_subdirectory : Entry → Bool
is_subdirectory e = is_directory e && good_name e.name && leb 2 e.length

-- the root's own first entry, named `.`
abbrev pub is_root : Entry → Bool
is_root e = is_directory e && same_name e.name dot_name && leb 2 e.length

-- A file needs length/1,024 clusters rounded up, a directory length/2.
abbrev pub clusters_for : ℕ → ℕ
clusters_for bytes = (bytes + 1023) / 1024

abbrev pub file_clusters : Entry → ℕ
file_clusters e = clusters_for e.length

abbrev pub directory_clusters : Entry → ℕ
directory_clusters e = (e.length + 1) / 2
