-- A change as the code does it: the words of the table, the pages written, and the slot of a new entry.
use Rattle.std.specs.Prelude.{ℕ, ◌+◌, ◌-◌, ◌*◌, ◌%◌, ◌≤◌, false, true, List, [], ◌++◌, ◌∷◌, ◌≡◌, Option, None, Some, drop, get_or, length, take}
use Rattle.std.proofs.Math.Option as math
use Rattle.layout.specs.declared.Superblock.{Superblock}
use Rattle.lookup.specs.declared.way.EntryAt.{EntryAt}
use Rattle.layout.specs.Table.{names_of, open_card, table_clusters}
use Rattle.tree.specs.declared.along.Place.{Place}
use Rattle.model.specs.Bytes.{word}
use Rattle.model.specs.Check.{ok}
use Rattle.model.specs.Entry.{clusters_for, entry_of}
use Rattle.model.specs.Pages.{altered_page, data_pages, new_page, zero_page}
use Rattle.model.specs.Plan.{first_of, killed, new_contents, new_entry, with_length}
use Rattle.model.specs.View.{pages_of}
use Rattle.model.specs.Writes.{PageWrite, cluster_writes}
use Rattle.tree.specs.Slots.{cluster_at}
use Rattle.change.specs.declared.entries.EntryWrite.{EntryWrite}
use Rattle.change.specs.declared.entries.NewEntry.{NewEntry}
use Rattle.change.specs.Image.{Lands, store_table, write_pages}
use Rattle.change.specs.Words.{chained, cleared_from, free_list}

-- ---- the table

-- a directory's chain that grows behind its last cluster
abbrev pub grown : ℕ → List ℕ → List ℕ → List ℕ
grown last [] table = table
grown last (g ∷ gs) table = chained (last ∷ g ∷ []) table

-- the clusters given back are free, those taken are a chain, and the directory's chain has its growth
abbrev pub relinked : ℕ → ℕ → List ℕ → ℕ → List ℕ → List ℕ → List ℕ
relinked first count taken last growth table = grown last growth (chained taken (cleared_from first count table))

-- ---- the pages

abbrev pub write_of : EntryWrite → PageWrite
write_of w = record { always = w.always; page = w.at; bytes = w.page }

-- growth of at most one cluster in zeros, the new clusters' data, the directory's entry, the change's own entry
abbrev pub writes_of : List ℕ → List ℕ → List ℕ → PageWrite → PageWrite → List PageWrite
writes_of growth taken bytes directory own =
    cluster_writes (pages_of growth) (math.some zero_page ∷ math.some zero_page ∷ []) ++ (cluster_writes (pages_of taken) (data_pages bytes) ++ (directory ∷ own ∷ []))

-- the image after pages are written and then the table
abbrev pub image_by : Superblock → List ℕ → List PageWrite → List ℕ → List ℕ
image_by s image writes table =
    store_table s.geometry.format (names_of image s) s.end (λ c. get_or table c 0) (2 * table_clusters s.end) (write_pages s.geometry writes image)

-- ---- what the code knows before it writes

-- a card that is open, and a table of its length
pub record Open (s : Superblock) (image table : List ℕ) : Type 0 where
  pub opened : open_card s.geometry.format image ≡ ok s
  pub long : length table ≡ s.end

-- all free clusters that may be taken in a list, and as many as are needed
pub record Listed (s : Superblock) (table list : List ℕ) (need : ℕ) : Type 0 where
  pub listed : list ≡ free_list s table
  pub room : need ≤ length list

-- as many clusters as the data needs, and pages that land
pub record CanPut (s : Superblock) (image table growth taken bytes : List ℕ) (directory own : PageWrite) : Type 0 where
  pub card : Open s image table
  pub one : length growth ≤ 1
  pub filled : length taken ≡ clusters_for (length bytes)
  pub lands : Lands s.end (writes_of growth taken bytes directory own)

-- ---- the slot of a new entry, by the lowest dead one and the directory's length

abbrev pub growth_by : Option Place → ℕ → ℕ
growth_by None length = 1 - length % 2
growth_by (Some place) length = 0

abbrev pub length_by : Option Place → ℕ → ℕ
length_by None length = length + 1
length_by (Some place) length = length

abbrev pub number_by : Option Place → ℕ → ℕ
number_by None length = length
number_by (Some place) length = place.slot + 2

-- behind the last entry: in the cluster that was added, or the second page of the last one
abbrev pub page_by : Option Place → ℕ → List ℕ → ℕ
page_by None last [] = 2 * last + 1
page_by None last (g ∷ gs) = 2 * g
page_by (Some place) last growth = place.page

-- ---- a new entry in a directory

-- the entries of a directory, by its own entry
abbrev pub entries_of : EntryAt → ℕ
entries_of directory = word directory.page 4

-- the clusters for the directory's growth, and those for the entry's own data
abbrev pub growth_of : Superblock → List ℕ → EntryAt → Option Place → List ℕ
growth_of s table directory dead = take (growth_by dead (entries_of directory)) (free_list s table)

abbrev pub taken_of : Superblock → List ℕ → EntryAt → Option Place → List ℕ → List ℕ
taken_of s table directory dead bytes = take (clusters_for (length bytes)) (drop (growth_by dead (entries_of directory)) (free_list s table))

-- the last cluster of the directory's chain
abbrev pub last_of : List ℕ → EntryAt → ℕ
last_of table directory = cluster_at table directory.first (entries_of directory - 1)

-- the directory's entry with a length
abbrev pub length_write : EntryAt → ℕ → PageWrite
length_write directory length =
    record { always = false; page = directory.at; bytes = altered_page directory.page (with_length (entry_of directory.page) length) }

abbrev pub added_table : Superblock → List ℕ → EntryAt → Option Place → List ℕ → List ℕ
added_table s table directory dead bytes =
    relinked 0 0 (taken_of s table directory dead bytes) (last_of table directory) (growth_of s table directory dead) table

abbrev pub added_writes : Superblock → List ℕ → EntryAt → NewEntry → List ℕ → List ℕ → List ℕ → List PageWrite
added_writes s table directory new time name bytes =
    let growth = growth_of s table directory new.dead in
    let taken = taken_of s table directory new.dead bytes in
    writes_of growth taken bytes (length_write directory (length_by new.dead (entries_of directory)))
    (record {
      always = true;
      page = page_by new.dead (last_of table directory) growth;
      bytes = new_page (new_entry new.mode new.count (first_of taken) 0 time name);
    })

-- ---- an entry that stands; the directory keeps its length

abbrev pub kept_write : EntryAt → PageWrite
kept_write directory = length_write directory (entry_of directory.page).length

-- replacing takes new clusters and gives back the old ones
abbrev pub replaced_table : Superblock → List ℕ → EntryAt → List ℕ → List ℕ
replaced_table s table entry bytes =
    relinked entry.first (clusters_for (word entry.page 4)) (take (clusters_for (length bytes)) (free_list s table)) 0 [] table

abbrev pub replaced_writes : Superblock → List ℕ → EntryAt → EntryAt → List ℕ → List ℕ → List PageWrite
replaced_writes s table directory entry time bytes =
    let taken = take (clusters_for (length bytes)) (free_list s table) in
    writes_of [] taken bytes (kept_write directory)
    (record { always = false; page = entry.at; bytes = altered_page entry.page (new_contents (entry_of entry.page) time bytes taken).entry })

-- removing gives back `count` clusters
abbrev pub removed_table : List ℕ → EntryAt → ℕ → List ℕ
removed_table table entry count = relinked entry.first count [] 0 [] table

abbrev pub removed_writes : EntryAt → EntryAt → List PageWrite
removed_writes directory entry =
    writes_of [] [] [] (kept_write directory) (record { always = false; page = entry.at; bytes = altered_page entry.page (killed (entry_of entry.page)) })
