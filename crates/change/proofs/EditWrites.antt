-- The pages that the code writes for an entry that stands are those of the model's plan.
use Prim.Native.Nat.{ℕ}
use mathlib.Core.Bool.{false}
use mathlib.Core.List.{List, [], ◌++◌, ◌∷◌, append-nil}
use mathlib.Core.Option.{some}
use mathlib.Core.Path.{◌∙◌, ◌≡◌, ap, ap₂, refl, sym}
use lib.ListN.{get_or, length, take}
use Rattle.layout.specs.declared.Superblock.{Superblock}
use Rattle.layout.specs.See.{see}
use Rattle.layout.specs.Table.{table_of}
use Rattle.model.specs.Entry.{clusters_for, entry_of}
use Rattle.model.specs.Lookup.{index_of}
use Rattle.model.specs.Names.{Name, Path}
use Rattle.model.specs.Pages.{altered_page, entry_page}
use Rattle.model.specs.Plan.{Filling, altering, free_clusters, made, new_contents, removal, with_length}
use Rattle.model.specs.Tree.{Root, Slot, entry_pages}
use Rattle.model.specs.View.{pages_of}
use Rattle.model.specs.Writes.{PageWrite, cluster_writes, page_writes}
use Rattle.lookup.specs.declared.way.EntryAt.{EntryAt}
use Rattle.change.specs.Changed.{rules_of}
use Rattle.change.specs.Deeds.{kept_write, removed_writes, replaced_writes}
use Rattle.change.specs.Words.{free_list}
use Rattle.change.proofs.Sites.{Site, directory_at, entry_in}

module _ (image : List ℕ) (s : Superblock) (root : Root) (p : Path) (here : EntryAt)
    (site : Site (see s image) (table_of image s) root p here) (name : Name) (slot : ℕ) (entry : List ℕ)
    (read : (see s image).page slot ≡ some entry) (placed : slot ≡ get_or (entry_pages (Slot.directory (entry_of here.page) site.chain)) (index_of name site.slots) 0)
    (free-is : free_clusters (rules_of s) (see s image) ≡ free_list s (table_of image s)) where
  slot-so : get_or (entry_pages (Slot.directory (with_length (entry_of here.page) (entry_of here.page).length) (site.chain ++ []))) (index_of name site.slots) 0 ≡ slot
  slot-so = ap (λ c. get_or (entry_pages (Slot.directory (with_length (entry_of here.page) (entry_of here.page).length) c)) (index_of name site.slots) 0) (append-nil site.chain) ∙ sym placed

  edited-writes : (k : ℕ) (given : List ℕ) (f : List ℕ → Filling) → ((own : List ℕ) → (f own).is_new ≡ false)
      → page_writes (see s image) (made (rules_of s) (see s image) (directory_at here site.chain) (altering (directory_at here site.chain) site.slots name k given f))
      ≡ cluster_writes (pages_of (take k (free_list s (table_of image s)))) (f (take k (free_list s (table_of image s)))).pages
      ++ (kept_write here
      ∷ record { always = false; page = slot; bytes = altered_page entry (f (take k (free_list s (table_of image s)))).entry } ∷ [])
  unfolding entry_page
  edited-writes k given f old =
      ap₂ (λ x z. x ++ z) (ap (λ l. cluster_writes (pages_of (take k l)) (f (take k l)).pages) free-is)
      (ap₂ (λ (x z : PageWrite). x ∷ z ∷ [])
      (ap (λ o. record { always = false; page = here.at; bytes = entry_page false o (with_length (entry_of here.page) (entry_of here.page).length) }) site.read)
      own-slot)
    where
      own : List ℕ
      own = take k (free_clusters (rules_of s) (see s image))

      at_slot : ℕ
      at_slot = get_or (entry_pages (Slot.directory (with_length (entry_of here.page) (entry_of here.page).length) (site.chain ++ []))) (index_of name site.slots) 0

      own-slot : ◌≡◌ {A = PageWrite} (record { always = (f own).is_new; page = at_slot; bytes = entry_page (f own).is_new ((see s image).page at_slot) (f own).entry })
          (record { always = false; page = slot; bytes = altered_page entry (f (take k (free_list s (table_of image s)))).entry })
      own-slot =
          ap (λ b. record { always = b; page = at_slot; bytes = entry_page b ((see s image).page at_slot) (f own).entry }) (old own)
          ∙ ap (λ q. record { always = false; page = q; bytes = entry_page false ((see s image).page q) (f own).entry }) slot-so
          ∙ ap₂ (λ o l. record { always = false; page = slot; bytes = entry_page false o (f (take k l)).entry }) read free-is

  pub replaced-writes : (given time bytes : List ℕ)
      → page_writes (see s image) (made (rules_of s) (see s image) (directory_at here site.chain) (altering (directory_at here site.chain) site.slots name (clusters_for (length bytes)) given (new_contents (entry_of entry) time bytes)))
      ≡ replaced_writes s (table_of image s) here (entry_in slot entry) time bytes
  replaced-writes given time bytes = edited-writes (clusters_for (length bytes)) given (new_contents (entry_of entry) time bytes) (λ own. refl)

  pub removed-writes : (given : List ℕ)
      → page_writes (see s image) (made (rules_of s) (see s image) (directory_at here site.chain) (altering (directory_at here site.chain) site.slots name 0 given (removal (entry_of entry))))
      ≡ removed_writes here (entry_in slot entry)
  removed-writes given = edited-writes 0 given (removal (entry_of entry)) (λ own. refl)
