-- A new entry in a directory: each way out of the code is what the definition says.
use Rattle.std.specs.Prelude.{Err, None, Ok, Option, Some}
use Prim.Native.Nat.{ℕ, ◌-◌, ◌<◌}
use mathlib.Core.Bool.{Bool, false, true}
use mathlib.Core.List.{List}
use mathlib.Core.Path.{◌∙◌, ◌≡◌, ap, ap₂, refl, sym}
use native.Mathlib.Omega.{arith}
use Rattle.layout.specs.declared.Superblock.{Superblock}
use Rattle.layout.specs.See.{view_by}
use Rattle.layout.specs.Refusal.{number_of, page_of}
use Rattle.layout.specs.declared.Refusal.{Refusal}
use Rattle.layout.specs.declared.Refusal.TheVariants as is
use Rattle.model.specs.Check.{fault}
use Rattle.tree.specs.declared.along.Place.{Place}
use Rattle.tree.specs.Scan.{bearing, dying, scan}
use Rattle.model.specs.Bytes.{word_limit}
use Rattle.model.specs.Entry.{entry_of, is_directory}
use Rattle.tree.specs.Slots.{next_of, slot_pages}
use Rattle.lookup.specs.declared.way.EntryAt.{EntryAt}
use Rattle.change.specs.declared.entries.NewEntry.{NewEntry}
use Rattle.change.specs.Calls.{CanAddIn, added, added_in, dead_of, dots_of, if_directory, place_of, unless_there, vacancy}
use Rattle.change.specs.Deeds.{entries_of, number_by}
use Rattle.change.proofs.CallLaws.{scan-so}

-- the first two entries of a new directory, with the slot's number
pub dots-so : (directory : EntryAt) (dead : Option Place) (time : List ℕ) {entries number : ℕ} {dots : List ℕ} → entries ≡ entries_of directory → number ≡ number_by dead entries
    → dots ≡ dots_of directory.first number time → dots ≡ dots_of directory.first (number_by dead (entries_of directory)) time
dots-so directory dead time e n d = d ∙ ap (λ k. dots_of directory.first k time) (n ∙ ap (number_by dead) e)

module _ (s : Superblock) (image table : List ℕ) (directory : EntryAt) (name : List ℕ) where
  -- a slot can be taken only in a directory in which nothing stands at the name
  pub vacant-parts : (d : Option Place) → vacancy s image table directory name ≡ Ok d
      → (is_directory (entry_of directory.page) ≡ true) × (place_of (view_by s.geometry table image) table directory name ≡ None) × (dead_of (view_by s.geometry table image) table directory ≡ d)
  vacant-parts d found = go (is_directory (entry_of directory.page)) (place_of (view_by s.geometry table image) table directory name) (dead_of (view_by s.geometry table image) table directory) found
    where
      go : (b : Bool) (x y : Option Place) → if_directory b (unless_there x y) ≡ Ok d → (b ≡ true) × (x ≡ None) × (y ≡ d)
      go true None y e = (refl, refl, cc)
      go true (Some place) y e = cc
      go false x y e = cc

  pub vacant-kind : is_directory (entry_of directory.page) ≡ false → Err is.WrongKind ≡ vacancy s image table directory name
  vacant-kind d = rw d

  -- as the code has found it
  module _ (is-so : is_directory (entry_of directory.page) ≡ true) {start count entries : ℕ} (starts : start ≡ next_of table directory.first) (counted : count ≡ entries - 2)
      (entries-are : entries ≡ entries_of directory) {found : Option Place} (looked : found ≡ scan (bearing (view_by s.geometry table image) name) (slot_pages table start 0 count) 0) where
    pub there-so : place_of (view_by s.geometry table image) table directory name ≡ found
    there-so = scan-so table directory starts counted entries-are (bearing (view_by s.geometry table image) name) looked

    pub vacant-there : (place : Place) → found ≡ Some place → Err is.Exists ≡ vacancy s image table directory name
    vacant-there place e = rw (is-so, there-so ∙ e)

    pub vacant-at : found ≡ None → {dead : Option Place} → dead ≡ scan (dying (view_by s.geometry table image)) (slot_pages table start 0 count) 0 → Ok dead ≡ vacancy s image table directory name
    vacant-at e d = rw (is-so, there-so ∙ e, scan-so table directory starts counted entries-are (dying (view_by s.geometry table image)) d)

  module _ (time : List ℕ) (new : Option Place → NewEntry) (contents : Option Place → List ℕ) where
    pub added-so : {d : Option Place} → vacancy s image table directory name ≡ Ok d → added_in s image table directory name time new contents ≡ added s image table directory (new d) time name (contents d)
    unfolding added_in
    added-so found = rw found

    pub added-refused : {r : Refusal} → vacancy s image table directory name ≡ Err r → added_in s image table directory name time new contents ≡ record { answer = fault (number_of r) (page_of r); image = image }
    unfolding added_in
    added-refused found = rw found

    -- the new slot's number fits a word
    pub number_fits : (low : (d : Option Place) → (new d).dead ≡ d) → CanAddIn s image table directory name time new contents → {d : Option Place} → vacancy s image table directory name ≡ Ok d
        → {entries : ℕ} → entries ≡ entries_of directory → number_by d entries < word_limit
    number_fits low can {d} found e = let z = ap₂ number_by (low d) (sym e) in omega (arith, (can d found).low-slot)
