-- An entry replaced or removed, step by step: what the code has computed is what the definitions of the change name.
use Prim.Native.Nat.{ℕ, ◌+◌, ◌<◌, ◌≤◌}
use mathlib.Core.Bool.{false, true}
use mathlib.Core.List.{List, []}
use mathlib.Core.Path.{◌∙◌, ◌≡◌, ap, ap₂, refl, subst, sym}
use native.Mathlib.Omega.{arith}
use borrow.Author.Tests.{le-leb, lt-leb}
use lib.ListN.{length, take}
use lib.Seq.{length-take-le}
use Rattle.layout.specs.declared.Superblock.{Superblock}
use Rattle.model.specs.Bytes.{word_limit}
use Rattle.model.specs.Entry.{clusters_for, entry_of, is_directory}
use Rattle.model.specs.Pages.{altered_entry, altered_page}
use Rattle.model.specs.Plan.{first_of, killed, with_length}
use Rattle.model.specs.Tree.{times}
use Rattle.model.specs.View.{top_bit}
use Rattle.model.specs.Writes.{PageWrite}
use Rattle.lookup.specs.declared.way.EntryAt.{EntryAt}
use Rattle.change.specs.Calls.{ReplaceLands, done_with, either_locked, refused_by, replaced_entry, replaced_image}
use Rattle.change.specs.Deeds.{Open, length_write, entries_of, kept_write, relinked, removed_writes, replaced_table, replaced_writes, writes_of}
use Rattle.change.specs.Image.{Lands}
use Rattle.change.specs.Words.{free_list}
use Rattle.change.proofs.FreeLaws.{free-few, taken-low}

-- the directory's entry with the length that it has
kept-so : (directory : EntryAt) {entries : ℕ} {kept : List ℕ} → entries ≡ entries_of directory → kept ≡ altered_page directory.page (with_length (entry_of directory.page) entries)
    → ◌≡◌ {A = PageWrite} (record { always = false; page = directory.at; bytes = kept }) (kept_write directory)
kept-so directory e d = ap (λ p. record { always = false; page = directory.at; bytes = p }) d ∙ ap (length_write directory) e

-- ---- removing
module _ (directory entry : EntryAt) {entries : ℕ} {kept gone : List ℕ} (entries-are : entries ≡ entries_of directory)
    (kept-is : kept ≡ altered_page directory.page (with_length (entry_of directory.page) entries)) (gone-is : gone ≡ altered_page entry.page (killed (entry_of entry.page))) where
  pub removed-writes : writes_of [] [] [] (record { always = false; page = directory.at; bytes = kept }) (record { always = false; page = entry.at; bytes = gone })
      ≡ removed_writes directory entry
  removed-writes = ap₂ (λ d g. writes_of [] [] [] d (record { always = false; page = entry.at; bytes = g })) (kept-so directory entries-are kept-is) gone-is

-- ---- replacing: the clusters taken are the first of the free ones
module _ (s : Superblock) (table list bytes : List ℕ) (listed : list ≡ free_list s table) (room : clusters_for (length bytes) ≤ length list) {own : ℕ} (own_is : own ≡ clusters_for (length bytes)) where
  pub own-inside : own ≤ length list
  own-inside = omega arith

  pub own-taken : length (take own list) ≡ clusters_for (length bytes)
  own-taken = length-take-le own list own-inside ∙ own_is

  taken_is : take own list ≡ take (clusters_for (length bytes)) (free_list s table)
  taken_is = ap₂ take own_is listed

  module _ (image : List ℕ) (card : Open s image table) where
    pub few_bytes : length bytes < word_limit
    few_bytes = omega (arith, ap length listed, free-few s.geometry.format image table s card.opened card.long)

    pub own-low : (x : ℕ) → top_bit ≤ x → times (take own list) x + 0 ≡ 0
    own-low x h = rw taken_is (taken-low s.geometry.format image table s card.opened card.long 0 (clusters_for (length bytes)) (free_list s table) refl x h)

  pub replaced-words : (entry : EntryAt) {count size : ℕ} {after : List ℕ} → count ≡ clusters_for size → size ≡ entries_of entry
      → after ≡ relinked entry.first count (take own list) 0 [] table → after ≡ replaced_table s table entry bytes
  replaced-words entry c z e = e ∙ rw (c, z, taken_is)

  module _ (directory entry : EntryAt) (time : List ℕ) {entries start : ℕ} {kept contents : List ℕ} (entries-are : entries ≡ entries_of directory)
      (kept-is : kept ≡ altered_page directory.page (with_length (entry_of directory.page) entries)) (start_is : start ≡ first_of (take own list))
      (contents-are : contents ≡ altered_page entry.page (altered_entry (entry_of entry.page) (entry_of entry.page).mode (length bytes) start time)) where
    pub replaced-writes : writes_of [] (take own list) bytes (record { always = false; page = directory.at; bytes = kept }) (record { always = false; page = entry.at; bytes = contents })
        ≡ replaced_writes s table directory entry time bytes
    replaced-writes = rw (kept-so directory entries-are kept-is, contents-are, start_is, taken_is)

    pub replaced-lands : (end : ℕ) → Lands end (replaced_writes s table directory entry time bytes)
        → Lands end (writes_of [] (take own list) bytes (record { always = false; page = directory.at; bytes = kept }) (record { always = false; page = entry.at; bytes = contents }))
    replaced-lands end h = subst (Lands end) (sym replaced-writes) h

-- ---- judged by its locks and against what is free
module _ (s : Superblock) (image table : List ℕ) (directory entry : EntryAt) (time bytes : List ℕ) where
  pub replaced-kind : is_directory (entry_of entry.page) ≡ true → replaced_entry s image table directory entry time bytes ≡ refused_by 10 image
  replaced-kind d = rw d

  pub replaced-locked : is_directory (entry_of entry.page) ≡ false → either_locked directory entry ≡ true → replaced_entry s image table directory entry time bytes ≡ refused_by 16 image
  replaced-locked f l = rw (f, l)

  module _ (file : is_directory (entry_of entry.page) ≡ false) (unlocked : either_locked directory entry ≡ false) where
    pub replaced-full : length (free_list s table) < clusters_for (length bytes) → replaced_entry s image table directory entry time bytes ≡ refused_by 12 image
    replaced-full h = rw (file, unlocked, lt-leb (clusters_for (length bytes)) (length (free_list s table)) h)

    module _ (room : clusters_for (length bytes) ≤ length (free_list s table)) where
      pub can-land : ReplaceLands s image table directory time bytes entry → Lands s.end (replaced_writes s table directory entry time bytes)
      can-land lands = lands file unlocked (le-leb (clusters_for (length bytes)) (length (free_list s table)) room)

      pub replaced-done : {after : List ℕ} → after ≡ replaced_image s image table directory entry time bytes → replaced_entry s image table directory entry time bytes ≡ done_with after
      replaced-done e = rw (file, unlocked, le-leb (clusters_for (length bytes)) (length (free_list s table)) room) (ap done_with (sym e))
