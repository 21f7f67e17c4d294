-- What the code answers where a path's directory was found is what the model says of a replacement or a removal.
use Rattle.std.specs.Prelude.{Err, None, Ok, Option as Optional, Some}
use Rattle.std.specs.Prelude.{Result as Returned}
use Prim.Native.Nat.{ℕ, pred, ◌+◌, ◌/◌, ◌≤◌}
use mathlib.Core.Bool.{Bool, ◌&&◌, false, true}
use mathlib.Core.List.{List, [], ◌∷◌}
use mathlib.Core.Option.{Option, none, some}
use mathlib.Core.Path.{◌∙◌, ◌≡◌, ap, refl, subst, sym}
use native.Mathlib.Omega.{arith}
use borrow.Author.Tests.{eq-eqb, leb-false, leb-true, ne_eqb}
use lib.Dec.{eqb, leb→le}
use lib.ListN.{get_or, length}
use Rattle.page.specs.declared.Format.{Format}
use Rattle.layout.specs.declared.Superblock.{Superblock}
use Rattle.layout.specs.See.{check_image, see}
use Rattle.layout.specs.Table.{table_of}
use Rattle.layout.proofs.OpenFacts.{own-format}
use Rattle.layout.proofs.TableLaws.{length-table}
use Rattle.tree.specs.declared.along.Place.{Place}
use Rattle.layout.specs.declared.Refusal.{Refusal}
use Rattle.layout.specs.declared.Refusal.TheVariants as is
use Rattle.lookup.specs.Descend.{entered}
use Rattle.lookup.proofs.SlotLaws.{live_at, live-nowhere, name-at, name-found, name-nowhere}
use Rattle.model.specs.Bytes.{word}
use Rattle.model.specs.Change.{Change, creates, delete, path, remove_directory, replace}
use Rattle.model.specs.Check.{Marks, ok}
use Rattle.model.specs.Entry.{Entry, clusters_for, entry_of, is_directory}
use Rattle.model.specs.Holds.{HoldsSlot, HoldsSlots}
use Rattle.model.specs.Lookup.{absent, index_of, look_in}
use Rattle.model.specs.Names.{Path, good_name, last_name}
use Rattle.model.specs.Pages.{decoded}
use Rattle.model.specs.Refusal.{own, static}
use Rattle.model.specs.Tree.{Root, Slot, dead_slots, entry_pages, slot_count}
use Rattle.model.specs.View.{View}
use Rattle.model.proofs.Equality.{and_r, to-T}
use Rattle.tree.proofs.ChainPages.{directory-pages}
use Rattle.lookup.specs.declared.way.EntryAt.{EntryAt}
use Rattle.change.specs.Calls.{CanEditIn, DeleteLands, RemoveLands, ReplaceLands, deleted_entry, done_with, edited_in, either_locked, enough, live_of, or_refused, pick_outcome, place_of, refused_by, removed_entry, removed_image, replaced_entry, replaced_image, slots_of, unless_live, unless_locked}
use Rattle.change.specs.Changed.{Outcome, changed}
use Rattle.change.specs.Deeds.{Open}
use Rattle.change.specs.Words.{free_list}
use Rattle.change.proofs.AddOutcomes.{held-slots}
use Rattle.change.proofs.CallLaws.{picked}
use Rattle.change.proofs.ChangedLaws.{checked-parts}
use Rattle.change.proofs.Edited.{IsDirectory, There, delete-done, directory-here, edit-full, edit-refused, file-here, remove-done, replace-done, unless-locked}
use Rattle.change.proofs.Sites.{Site, entry_in}

-- a page that an entry is read from
page-there : (o : Option (List ℕ)) (e : Entry) → decoded o ≡ some e → (page : List ℕ) × (o ≡ some page)
page-there none e h = absurd (let z : ◌≡◌ {A = ℕ} 0 1 = cc in omega arith)
page-there (some page) e h = (page, refl)

slot-entry : (v : View) (below q : ℕ) (h : Slot) → HoldsSlot v below q h → (e : Entry) × (v.entry q ≡ some e)
slot-entry v below q Slot.dead x = (x.0, x.1)
slot-entry v below q (Slot.file e cs ds) x = (e, x.0)
slot-entry v below q (Slot.directory e cs) x = (e, x.0)

module _ (format : Format) (image : List ℕ) (s : Superblock) (root : Root) (m : Marks) (checked : check_image format image ≡ ok (s, root, m)) (p : Path) (here : EntryAt)
    (site : Site (see s image) (table_of image s) root p here) (directory : is_directory (entry_of here.page) ≡ true) where
  -- the name is not there
  absent-so : place_of (see s image) (table_of image s) here (last_name p) ≡ None → look_in site.slots (last_name p ∷ []) ≡ absent
  absent-so e = name-nowhere (see s image) site.below (slots_of (table_of image s) here) site.slots (held-slots format image s root m checked p here site) (last_name p) e

  arrived-nowhere : place_of (see s image) (table_of image s) here (last_name p) ≡ None → entered (see s image) (table_of image s) here.first here.page (last_name p) ≡ Err is.Absent
  unfolding entered
  arrived-nowhere e = rw (directory, e)

  arrived-at : (place : Place) (entry : List ℕ) → place_of (see s image) (table_of image s) here (last_name p) ≡ Some place → (see s image).page place.page ≡ some entry
      → entered (see s image) (table_of image s) here.first here.page (last_name p) ≡ Ok (entry_in place.page entry)
  unfolding entered
  arrived-at place entry e r = rw (directory, e, r)

  -- the name is there
  pub record Stands (q : ℕ) : Type 0 where
    pub entry : List ℕ
    pub there : There image s site.below (entry_pages (Slot.directory (entry_of here.page) site.chain)) site.slots (last_name p) q entry
    pub arrives : entered (see s image) (table_of image s) here.first here.page (last_name p) ≡ Ok (entry_in q entry)

  stands : (place : Place) → place_of (see s image) (table_of image s) here (last_name p) ≡ Some place → Stands place.page
  stands place e =
      let held = held-slots format image s root m checked p here site in
      let f = name-found (see s image) site.below (slots_of (table_of image s) here) site.slots held (last_name p) place e in
      let n = name-at (see s image) site.below (slots_of (table_of image s) here) site.slots held (last_name p) place e in
      let x = slot-entry (see s image) site.below place.page f.0 f.3 in
      let y = page-there ((see s image).page place.page) x.0 x.1 in
      record {
        entry = y.0;
        there =
            record {
              head = f.0;
              inside = f.1;
              found-so = f.2;
              named = f.5;
              placed = n.1 ∙ ap (λ i. get_or (slots_of (table_of image s) here) i 0) (sym n.0) ∙ ap (λ l. get_or l (index_of (last_name p) site.slots) 0) (sym site.pages);
              read = y.1;
              held = f.3;
              within = f.4;
            };
        arrives = arrived-at place y.0 e y.1;
      }

  -- ---- the outcomes of an entry that stands

  replaced-at : (time bytes : List ℕ) → static (replace p time bytes) ≡ 0 → (q : ℕ) (x : Stands q) → (b : Bool) → is_directory (entry_of x.entry) ≡ b
      → pick_outcome b (refused_by 10 image)
      (unless_locked s image (table_of image s) (either_locked here (entry_in q x.entry))
      (pick_outcome (enough s (table_of image s) (clusters_for (length bytes))) (done_with (replaced_image s image (table_of image s) here (entry_in q x.entry) time bytes)) (refused_by 12 image)))
      ≡ changed format (replace p time bytes) image
  replaced-at time bytes fine q x true e =
      let d = directory-here format image s root m checked p here site q x.entry x.there e in
      sym (edit-refused format image s root m checked (replace p time bytes) fine refl here site 9 (rw d.found-directory))
  replaced-at time bytes fine q x false e =
      let f = file-here format image s root m checked p here site q x.entry x.there e in
      let free = length (free_list s (table_of image s)) in
      unless-locked format image s root m checked (replace p time bytes) fine refl here site (entry_in q x.entry) (rw f.found-file) (rw f.found-file) _
      (λ o. picked (enough s (table_of image s) (clusters_for (length bytes))) _ (refused_by 12 image)
      (λ h. sym (replace-done format image s root m checked p here site q x.entry x.there time bytes fine f o (leb-true (clusters_for (length bytes)) free h)).done)
      (λ h. sym (edit-full format image s root m checked (replace p time bytes) fine refl here site (rw f.found-file) (rw f.found-file o) (leb-false (clusters_for (length bytes)) free h))))

  deleted-at : static (delete p) ≡ 0 → (q : ℕ) (x : Stands q) → (b : Bool) → is_directory (entry_of x.entry) ≡ b
      → pick_outcome b (refused_by 10 image)
      (unless_locked s image (table_of image s) (either_locked here (entry_in q x.entry)) (done_with (removed_image s image (table_of image s) here (entry_in q x.entry) (clusters_for (word x.entry 4)))))
      ≡ changed format (delete p) image
  deleted-at fine q x true e =
      let d = directory-here format image s root m checked p here site q x.entry x.there e in
      sym (edit-refused format image s root m checked (delete p) fine refl here site 9 (rw d.found-directory))
  deleted-at fine q x false e =
      let f = file-here format image s root m checked p here site q x.entry x.there e in
      unless-locked format image s root m checked (delete p) fine refl here site (entry_in q x.entry) (rw f.found-file) (rw f.found-file) _
      (λ o. sym (delete-done format image s root m checked p here site q x.entry x.there fine f o).done)

  -- the slots of a directory that is to go are those that the code scans
  inside-held : (q : ℕ) (entry : List ℕ) (there : There image s site.below (entry_pages (Slot.directory (entry_of here.page) site.chain)) site.slots (last_name p) q entry)
      → IsDirectory format image s root m checked p here site q entry there → HoldsSlots (see s image) (pred site.below) (slots_of (table_of image s) (entry_in q entry)) there.inside
  inside-held q entry there d =
      let two : 2 ≤ word entry 4 = leb→le 2 _ (to-T (and_r (is_directory (entry_of entry) && good_name (entry_of entry).name) _ d.subdirectory)) in
      let z = directory-pages (see s image) (table_of image s) (λ c. refl) (word entry 0x10) d.given d.linked (word entry 4) two d.many in
      rw z.2 at d.held

  removed-at : static (remove_directory p) ≡ 0 → (q : ℕ) (x : Stands q) → (b : Bool) → is_directory (entry_of x.entry) ≡ b
      → pick_outcome b
      (unless_live s image (table_of image s) (live_of (see s image) (table_of image s) (entry_in q x.entry))
      (unless_locked s image (table_of image s) (either_locked here (entry_in q x.entry))
      (done_with (removed_image s image (table_of image s) here (entry_in q x.entry) ((word x.entry 4 + 1) / 2))))) (refused_by 10 image)
      ≡ changed format (remove_directory p) image
  removed-at fine q x false e =
      let f = file-here format image s root m checked p here site q x.entry x.there e in
      sym (edit-refused format image s root m checked (remove_directory p) fine refl here site 9 (rw f.found-file))
  removed-at fine q x true e = go (live_of (see s image) (table_of image s) (entry_in q x.entry)) refl
    where
      d : IsDirectory format image s root m checked p here site q x.entry x.there
      d = directory-here format image s root m checked p here site q x.entry x.there e

      full : (place : Place) → live_of (see s image) (table_of image s) (entry_in q x.entry) ≡ Some place → eqb (slot_count x.there.inside) (dead_slots x.there.inside) ≡ false
      full place h = ne_eqb _ _ (live_at (see s image) (pred site.below) (slots_of (table_of image s) (entry_in q x.entry)) x.there.inside (inside-held q x.entry x.there d) place h)

      go : (z : Optional Place) → live_of (see s image) (table_of image s) (entry_in q x.entry) ≡ z
          → unless_live s image (table_of image s) z
          (unless_locked s image (table_of image s) (either_locked here (entry_in q x.entry)) (done_with (removed_image s image (table_of image s) here (entry_in q x.entry) ((word x.entry 4 + 1) / 2))))
          ≡ changed format (remove_directory p) image
      go None h =
          let empty = live-nowhere (see s image) (pred site.below) (slots_of (table_of image s) (entry_in q x.entry)) x.there.inside (inside-held q x.entry x.there d) h in
          unless-locked format image s root m checked (remove_directory p) fine refl here site (entry_in q x.entry) (rw (d.found-directory, eq-eqb _ _ empty)) (rw d.found-directory) _
          (λ o. sym (remove-done format image s root m checked p here site q x.entry x.there fine d empty o).done)
      go (Some place) h = sym (edit-refused format image s root m checked (remove_directory p) fine refl here site 12 (rw (d.found-directory, full place h)))

  -- ---- what is known of an entry before it is replaced or removed: its pages land

  replace-lands : (time bytes : List ℕ) → static (replace p time bytes) ≡ 0 → (q : ℕ) (x : Stands q) → ReplaceLands s image (table_of image s) here time bytes (entry_in q x.entry)
  replace-lands time bytes fine q x kind unlocked room =
      (replace-done format image s root m checked p here site q x.entry x.there time bytes fine
      (file-here format image s root m checked p here site q x.entry x.there kind) unlocked (leb-true (clusters_for (length bytes)) (length (free_list s (table_of image s))) room)).lands

  delete-lands : static (delete p) ≡ 0 → (q : ℕ) (x : Stands q) → DeleteLands s image (table_of image s) here (entry_in q x.entry)
  delete-lands fine q x kind unlocked =
      (delete-done format image s root m checked p here site q x.entry x.there fine (file-here format image s root m checked p here site q x.entry x.there kind) unlocked).lands

  remove-lands : static (remove_directory p) ≡ 0 → (q : ℕ) (x : Stands q) → RemoveLands s image (table_of image s) here (entry_in q x.entry)
  remove-lands fine q x kind empty unlocked =
      let d = directory-here format image s root m checked p here site q x.entry x.there kind in
      (remove-done format image s root m checked p here site q x.entry x.there fine d
      (live-nowhere (see s image) (pred site.below) (slots_of (table_of image s) (entry_in q x.entry)) x.there.inside (inside-held q x.entry x.there d) empty) unlocked).lands

-- ---- a change of an entry that stands: 9 where the name is absent, and else by what is done there
module _ (format : Format) (image : List ℕ) (s : Superblock) (root : Root) (m : Marks) (checked : check_image format image ≡ ok (s, root, m)) (c : Change) (fine : static c ≡ 0) (standing : creates c ≡ false)
    (missing : own c absent ≡ 9) (here : EntryAt) (site : Site (see s image) (table_of image s) root (path c) here) (directory : is_directory (entry_of here.page) ≡ true) where
  edited-by : (edit : EntryAt → Outcome) → ((q : ℕ) (x : Stands format image s root m checked (path c) here site directory q) → edit (entry_in q x.entry) ≡ changed format c image)
      → edited_in s image (table_of image s) here (last_name (path c)) edit ≡ changed format c image
  unfolding edited_in
  edited-by edit does = go (place_of (see s image) (table_of image s) here (last_name (path c))) refl
    where
      go : (z : Optional Place) → place_of (see s image) (table_of image s) here (last_name (path c)) ≡ z
          → or_refused image (entered (see s image) (table_of image s) here.first here.page (last_name (path c))) edit ≡ changed format c image
      go None e =
          rw (arrived-nowhere format image s root m checked (path c) here site directory e)
          (sym (edit-refused format image s root m checked c fine standing here site 8 (ap (own c) (absent-so format image s root m checked (path c) here site directory e) ∙ missing)))
      go (Some place) e =
          let x = stands format image s root m checked (path c) here site directory place e in
          ap (λ a. or_refused image a edit) x.arrives ∙ does place.page x

  can-by : (lands : EntryAt → Type 0) → ((q : ℕ) (x : Stands format image s root m checked (path c) here site directory q) → lands (entry_in q x.entry))
      → CanEditIn s image (table_of image s) here (last_name (path c)) lands
  can-by lands known entry a = go (place_of (see s image) (table_of image s) here (last_name (path c))) refl
    where
      refused : {A : Type 0} → entered (see s image) (table_of image s) here.first here.page (last_name (path c)) ≡ Err is.Absent → A
      refused e = let z = sym e ∙ a in cc

      go : (z : Optional Place) → place_of (see s image) (table_of image s) here (last_name (path c)) ≡ z → Open s image (table_of image s) × lands entry
      go None e = refused (arrived-nowhere format image s root m checked (path c) here site directory e)
      go (Some place) e =
          let x = stands format image s root m checked (path c) here site directory place e in
          let next : ◌≡◌ {A = Returned EntryAt Refusal} (Ok (entry_in place.page x.entry)) (Ok entry) = sym x.arrives ∙ a in
          let same : entry_in place.page x.entry ≡ entry = cc in
          (record { opened = own-format format image s (checked-parts format image s root m checked).0; long = length-table image s }, subst lands same (known place.page x))

module _ (format : Format) (image : List ℕ) (s : Superblock) (root : Root) (m : Marks) (checked : check_image format image ≡ ok (s, root, m)) (p : Path) (here : EntryAt)
    (site : Site (see s image) (table_of image s) root p here) (directory : is_directory (entry_of here.page) ≡ true) where
  module _ (time bytes : List ℕ) (fine : static (replace p time bytes) ≡ 0) where
    pub replaced-here : edited_in s image (table_of image s) here (last_name p) (λ entry. replaced_entry s image (table_of image s) here entry time bytes) ≡ changed format (replace p time bytes) image
    replaced-here =
        edited-by format image s root m checked (replace p time bytes) fine refl refl here site directory _
        (λ q x. replaced-at format image s root m checked p here site directory time bytes fine q x (is_directory (entry_of x.entry)) refl)

    pub can-replace : CanEditIn s image (table_of image s) here (last_name p) (ReplaceLands s image (table_of image s) here time bytes)
    can-replace =
        can-by format image s root m checked (replace p time bytes) fine refl refl here site directory _
        (replace-lands format image s root m checked p here site directory time bytes fine)

  module _ (fine : static (delete p) ≡ 0) where
    pub deleted-here : edited_in s image (table_of image s) here (last_name p) (deleted_entry s image (table_of image s) here) ≡ changed format (delete p) image
    deleted-here =
        edited-by format image s root m checked (delete p) fine refl refl here site directory _
        (λ q x. deleted-at format image s root m checked p here site directory fine q x (is_directory (entry_of x.entry)) refl)

    pub can-delete : CanEditIn s image (table_of image s) here (last_name p) (DeleteLands s image (table_of image s) here)
    can-delete =
        can-by format image s root m checked (delete p) fine refl refl here site directory _
        (delete-lands format image s root m checked p here site directory fine)

  module _ (fine : static (remove_directory p) ≡ 0) where
    pub removed-here : edited_in s image (table_of image s) here (last_name p) (removed_entry s image (table_of image s) here) ≡ changed format (remove_directory p) image
    removed-here =
        edited-by format image s root m checked (remove_directory p) fine refl refl here site directory _
        (λ q x. removed-at format image s root m checked p here site directory fine q x (is_directory (entry_of x.entry)) refl)

    pub can-remove : CanEditIn s image (table_of image s) here (last_name p) (RemoveLands s image (table_of image s) here)
    can-remove =
        can-by format image s root m checked (remove_directory p) fine refl refl here site directory _
        (remove-lands format image s root m checked p here site directory fine)
