-- A new entry, step by step: what the code has computed is what the definitions of the change name.
use Rattle.std.specs.Prelude.{Option}
use Prim.Native.Nat.{ℕ, ◌+◌, ◌-◌, ◌<◌, ◌≤◌}
use mathlib.Core.Bool.{false, true}
use mathlib.Core.List.{List}
use mathlib.Core.Path.{◌∙◌, ◌≡◌, ap, ap₂, subst, sym}
use native.Mathlib.Omega.{arith}
use borrow.Author.Tests.{le-leb, lt-leb}
use lib.ListN.{drop, length, length-drop, length-take, take}
use lib.Seq.{length-take-le}
use Rattle.layout.specs.declared.Superblock.{Superblock}
use Rattle.tree.specs.declared.along.Place.{Place}
use Rattle.model.specs.Entry.{clusters_for, entry_of}
use Rattle.model.specs.Pages.{altered_page, new_page}
use Rattle.model.specs.Plan.{first_of, new_entry, with_length}
use Rattle.tree.specs.Slots.{cluster_at}
use Rattle.lookup.specs.declared.way.EntryAt.{EntryAt}
use Rattle.change.specs.declared.entries.NewEntry.{NewEntry}
use Rattle.change.specs.Calls.{added, added_image, done_with, enough, locked_at, need_of, refused_by}
use Rattle.change.specs.Deeds.{Listed, added_table, added_writes, entries_of, growth_by, growth_of, last_of, length_by, page_by, relinked, taken_of, writes_of}
use Rattle.change.specs.Image.{Lands}
use Rattle.change.specs.Words.{free_list}
use Rattle.change.proofs.FreeLaws.{growth-small}

-- what is counted: the directory's entries, the clusters of its growth and of the entry itself, and enough free ones in a list
pub record Counted (s : Superblock) (table list bytes : List ℕ) (directory : EntryAt) (dead : Option Place) (entries growing own : ℕ) : Type 0 where
  pub entries-are : entries ≡ entries_of directory
  pub growing-is : growing ≡ growth_by dead entries
  pub own_is : own ≡ clusters_for (length bytes)
  pub free : Listed s table list (need_of directory dead bytes)

module _ {s : Superblock} {table list bytes : List ℕ} {directory : EntryAt} {dead : Option Place} {entries growing own : ℕ} (counted : Counted s table list bytes directory dead entries growing own) where
  -- ---- the clusters: a directory's growth first, then the entry's own
  growing-by : growing ≡ growth_by dead (entries_of directory)
  growing-by = counted.growing-is ∙ ap (growth_by dead) counted.entries-are

  pub both-fit : growing + own ≤ length list
  both-fit = omega (arith, growing-by, counted.own_is, counted.free.room)

  pub growth-long : growing ≡ length (take growing list)
  growth-long = sym (length-take-le growing list (omega (arith, both-fit)))

  pub one-cluster : length (take growing list) ≤ 1
  one-cluster = omega (arith, length-take growing list, counted.growing-is, growth-small dead entries)

  own_alone : growing + own - growing ≡ own
  own_alone = omega arith

  pub own-long : length (take (growing + own - growing) (drop growing list)) ≡ clusters_for (length bytes)
  own-long =
      let left : length (drop growing list) ≡ length list - growing = length-drop growing list in
      ap (λ n. length (take n (drop growing list))) own_alone ∙ length-take-le own (drop growing list) (omega (arith, both-fit)) ∙ counted.own_is

  growth-so : take growing list ≡ growth_of s table directory dead
  growth-so = ap₂ take growing-by counted.free.listed

  taken-so : take (growing + own - growing) (drop growing list) ≡ taken_of s table directory dead bytes
  taken-so = ap₂ take (own_alone ∙ counted.own_is) (ap₂ drop growing-by counted.free.listed)

  pub room-so : enough s table (need_of directory dead bytes) ≡ true
  room-so = le-leb _ _ (rw counted.free.listed at counted.free.room)

  -- ---- the words
  module _ {last : ℕ} (last-is : last ≡ cluster_at table directory.first (entries - 1)) where
    pub last-by : last ≡ last_of table directory
    last-by = last-is ∙ ap (λ n. cluster_at table directory.first (n - 1)) counted.entries-are

    pub words-so : {after : List ℕ} → after ≡ relinked 0 0 (take (growing + own - growing) (drop growing list)) last (take growing list) table → after ≡ added_table s table directory dead bytes
    words-so e = e ∙ rw (taken-so, growth-so, last-by)

    -- ---- the pages
    module _ (mode count : ℕ) (time name : List ℕ) {slot start long : ℕ} {page longer : List ℕ}
        (slot_is : slot ≡ page_by dead last (take growing list)) (start_is : start ≡ first_of (take (growing + own - growing) (drop growing list)))
        (page-is : page ≡ new_page (new_entry mode count start 0 time name)) (long-is : long ≡ length_by dead entries)
        (longer-is : longer ≡ altered_page directory.page (with_length (entry_of directory.page) long)) where
      pub writes-so : writes_of (take growing list) (take (growing + own - growing) (drop growing list)) bytes
          (record { always = false; page = directory.at; bytes = longer }) (record { always = true; page = slot; bytes = page })
          ≡ added_writes s table directory (record { mode = mode; count = count; dead = dead }) time name bytes
      writes-so = rw (longer-is, page-is, slot_is, start_is, long-is, counted.entries-are, taken-so, growth-so, last-by)

      pub lands-so : (end : ℕ) → Lands end (added_writes s table directory (record { mode = mode; count = count; dead = dead }) time name bytes)
          → Lands end (writes_of (take growing list) (take (growing + own - growing) (drop growing list)) bytes
          (record { always = false; page = directory.at; bytes = longer }) (record { always = true; page = slot; bytes = page }))
      lands-so end h = subst (Lands end) (sym writes-so) h

-- ---- judged by the directory's lock and against what is free
pub need-so : (directory : EntryAt) (dead : Option Place) (bytes : List ℕ) {entries growing own : ℕ} → own ≡ clusters_for (length bytes) → entries ≡ entries_of directory → growing ≡ growth_by dead entries
    → own + growing ≡ need_of directory dead bytes
need-so directory dead bytes o e g = ap₂ (λ a b. a + b) o (g ∙ ap (growth_by dead) e)

module _ (s : Superblock) (image table : List ℕ) (directory : EntryAt) (new : NewEntry) (time name bytes : List ℕ) where
  pub added-locked : locked_at directory ≡ true → added s image table directory new time name bytes ≡ refused_by 16 image
  added-locked l = rw l

  pub added_full : locked_at directory ≡ false → length (free_list s table) < need_of directory new.dead bytes → added s image table directory new time name bytes ≡ refused_by 12 image
  added_full o h = rw (o, lt-leb (need_of directory new.dead bytes) (length (free_list s table)) h)

  pub added-done : {after : List ℕ} → locked_at directory ≡ false → need_of directory new.dead bytes ≤ length (free_list s table) → after ≡ added_image s image table directory new time name bytes
      → added s image table directory new time name bytes ≡ done_with after
  added-done o h e = rw (o, le-leb (need_of directory new.dead bytes) (length (free_list s table)) h) (ap done_with (sym e))
