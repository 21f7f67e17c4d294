-- An entry that is replaced, deleted or removed: each way out of the code is what the definition says.
use Rattle.std.specs.Prelude.{Err, None, Ok, Some}
use Rattle.std.specs.Prelude.{Result as Returned}
use Prim.Native.Nat.{ℕ, ◌+◌, ◌/◌}
use mathlib.Core.Bool.{false, true}
use mathlib.Core.List.{List}
use mathlib.Core.Path.{◌∙◌, ◌≡◌, ap, sym}
use Rattle.layout.specs.declared.Superblock.{Superblock}
use Rattle.layout.specs.See.{view_by}
use Rattle.layout.specs.Refusal.{number_of, page_of}
use Rattle.layout.specs.declared.Refusal.{Refusal}
use Rattle.model.specs.Check.{fault}
use Rattle.tree.specs.declared.along.Place.{Place}
use Rattle.model.specs.Entry.{clusters_for, entry_of, is_directory}
use Rattle.lookup.specs.declared.way.EntryAt.{EntryAt}
use Rattle.change.specs.Calls.{CanEditIn, deleted_entry, done_with, edited_in, either_locked, entry_of_name, live_of, refused_by, removed_entry, removed_image}
use Rattle.change.specs.Changed.{Outcome}
use Rattle.change.specs.Deeds.{Open, entries_of}

-- ---- where the name leads
module _ (s : Superblock) (image table : List ℕ) (directory : EntryAt) (name : List ℕ) {here : Returned EntryAt Refusal} (here-is : here ≡ entry_of_name s image table directory name) where
  pub edited-refused : (edit : EntryAt → Outcome) {r : Refusal} → here ≡ Err r → edited_in s image table directory name edit ≡ record { answer = fault (number_of r) (page_of r); image = image }
  unfolding edited_in
  edited-refused edit e = rw (← here-is, e)

  pub edited-there : (edit : EntryAt → Outcome) {entry : EntryAt} → here ≡ Ok entry → edited_in s image table directory name edit ≡ edit entry
  unfolding edited_in
  edited-there edit e = rw (← here-is, e)

  pub can-there : (lands : EntryAt → Type 0) {entry : EntryAt} → here ≡ Ok entry → CanEditIn s image table directory name lands → Open s image table × lands entry
  can-there lands {entry} e can = can entry (sym here-is ∙ e)

-- ---- what is done there
module _ (s : Superblock) (image table : List ℕ) (directory entry : EntryAt) where
  pub deleted-kind : is_directory (entry_of entry.page) ≡ true → deleted_entry s image table directory entry ≡ refused_by 10 image
  deleted-kind d = rw d

  pub removed-kind : is_directory (entry_of entry.page) ≡ false → removed_entry s image table directory entry ≡ refused_by 10 image
  removed-kind d = rw d

  pub deleted-locked : is_directory (entry_of entry.page) ≡ false → either_locked directory entry ≡ true → deleted_entry s image table directory entry ≡ refused_by 16 image
  deleted-locked file l = rw (file, l)

  module _ {size : ℕ} (size_is : size ≡ entries_of entry) where
    pub deleted-done : {count : ℕ} {after : List ℕ} → is_directory (entry_of entry.page) ≡ false → either_locked directory entry ≡ false → count ≡ clusters_for size
        → after ≡ removed_image s image table directory entry count → deleted_entry s image table directory entry ≡ done_with after
    deleted-done file o c e = rw (file, o) (ap done_with (sym (e ∙ ap (removed_image s image table directory entry) (c ∙ ap clusters_for size_is))))

    module _ (is-directory : is_directory (entry_of entry.page) ≡ true) where
      pub removed-live : (place : Place) → live_of (view_by s.geometry table image) table entry ≡ Some place → removed_entry s image table directory entry ≡ refused_by 13 image
      removed-live place e = rw (is-directory, e)

      pub removed-locked : live_of (view_by s.geometry table image) table entry ≡ None → either_locked directory entry ≡ true → removed_entry s image table directory entry ≡ refused_by 16 image
      removed-locked n l = rw (is-directory, n, l)

      pub removed-done : {count : ℕ} {after : List ℕ} → live_of (view_by s.geometry table image) table entry ≡ None → either_locked directory entry ≡ false
          → count ≡ (size + 1) / 2 → after ≡ removed_image s image table directory entry count → removed_entry s image table directory entry ≡ done_with after
      removed-done n o c e = rw (is-directory, n, o) (ap done_with (sym (e ∙ ap (removed_image s image table directory entry) (c ∙ ap (λ k. (k + 1) / 2) size_is))))
