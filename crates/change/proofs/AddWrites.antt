-- The pages that the code writes for a new entry are those of the model's plan.
use Rattle.std.specs.Prelude.{Option}
use Prim.Native.Nat.{ℕ, ◌-◌, ◌≤◌}
use mathlib.Core.Bool.{false, true}
use mathlib.Core.List.{List, [], ◌++◌, ◌∷◌}
use mathlib.Core.Option.{some}
use mathlib.Core.Path.{◌∙◌, ◌≡◌, ap, ap₂, sym}
use lib.ListN.{drop, get_or, length, take}
use lib.Seq.{length-take-le}
use Rattle.page.specs.declared.Format.{Format}
use Rattle.layout.specs.declared.Superblock.{Superblock}
use Rattle.layout.specs.See.{see}
use Rattle.layout.specs.Table.{open_card, table_of}
use Rattle.tree.specs.declared.along.Place.{Place}
use Rattle.model.specs.Check.{ok}
use Rattle.model.specs.Entry.{Entry, clusters_for, entry_of}
use Rattle.model.specs.Lookup.{first_dead}
use Rattle.model.specs.Names.{Path}
use Rattle.model.specs.Pages.{altered_page, data_pages, entry_page, new_page, zero_page}
use Rattle.model.specs.Plan.{Filling, adding, first_of, free_clusters, growth_clusters, growth_with_one, length_with_one, made, new_entry, own_clusters, with_length}
use Rattle.model.specs.Tree.{Root, Slot, entry_pages}
use Rattle.model.specs.View.{View, pages_of}
use Rattle.model.specs.Writes.{PageWrite, cluster_writes, page_writes}
use Rattle.tree.specs.Slots.{cluster_at}
use Rattle.lookup.specs.declared.way.EntryAt.{EntryAt}
use Rattle.change.specs.Changed.{rules_of}
use Rattle.change.specs.Deeds.{added_writes, entries_of, growth_by, growth_of, last_of, length_by, page_by, taken_of}
use Rattle.change.specs.Words.{free_list}
use Rattle.change.proofs.AddPlans.{DeadAt, growth-is, length-is, page-is}
use Rattle.change.proofs.Sites.{Site, directory_at}

module _ (format : Format) (image : List ℕ) (s : Superblock) (opened : open_card format image ≡ ok s) (root : Root) (p : Path) (here : EntryAt)
    (site : Site (see s image) (table_of image s) root p here) (dead : Option Place) (d : DeadAt (entry_pages (Slot.directory (entry_of here.page) site.chain)) site.slots dead)
    (last-is : cluster_at (table_of image s) here.first ((entry_of here.page).length - 1) ≡ get_or site.chain (length site.chain - 1) 0)
    (free-is : free_clusters (rules_of s) (see s image) ≡ free_list s (table_of image s)) where
  abbrev v : View
  v = see s image

  abbrev t : List ℕ
  t = table_of image s

  abbrev e : Entry
  e = entry_of here.page

  grows : growth_with_one (entry_of here.page) site.slots ≡ growth_by dead (entries_of here)
  grows = growth-is (entry_of here.page) site.chain site.slots (see s image) site.below site.two site.long site.held dead d

  pub grown-so : growth_clusters (rules_of s) (see s image) (growth_with_one (entry_of here.page) site.slots) ≡ growth_of s (table_of image s) here dead
  grown-so = ap₂ (λ n l. take n l) grows free-is

  pub own-so : (bytes : List ℕ) → own_clusters (rules_of s) (see s image) (growth_with_one (entry_of here.page) site.slots) (clusters_for (length bytes)) ≡ taken_of s (table_of image s) here dead bytes
  own-so bytes = ap₂ (λ n l. take (clusters_for (length bytes)) (drop n l)) grows free-is

  -- with room for the growth
  module _ (room : growth_by dead (entries_of here) ≤ length (free_list s (table_of image s))) where
    growth-long : length (growth_of s (table_of image s) here dead) ≡ growth_by dead (entries_of here)
    growth-long = length-take-le (growth_by dead (entries_of here)) (free_list s (table_of image s)) room

    slot-so : get_or (entry_pages (Slot.directory (with_length (entry_of here.page) (length_with_one (entry_of here.page) site.slots))
        (site.chain ++ growth_clusters (rules_of s) (see s image) (growth_with_one (entry_of here.page) site.slots)))) (first_dead site.slots) 0
        ≡ page_by dead (last_of (table_of image s) here) (growth_of s (table_of image s) here dead)
    slot-so =
        ap (λ g. get_or (entry_pages (Slot.directory (with_length (entry_of here.page) (length_with_one (entry_of here.page) site.slots)) (site.chain ++ g))) (first_dead site.slots) 0) grown-so
        ∙ page-is (entry_of here.page) site.chain site.slots (see s image) site.below site.two site.long site.held dead d (growth_of s (table_of image s) here dead) growth-long
        ∙ ap (λ l. page_by dead l (growth_of s (table_of image s) here dead)) (sym last-is)

    pub added-writes : (f : List ℕ → Filling) (mode size : ℕ) (time name bytes : List ℕ)
        → ((own : List ℕ) → (f own).pages ≡ data_pages bytes) → ((own : List ℕ) → (f own).is_new ≡ true)
        → ((own : List ℕ) → (f own).entry ≡ new_entry mode size (first_of own) 0 time name)
        → page_writes (see s image) (made (rules_of s) (see s image) (directory_at here site.chain) (adding (directory_at here site.chain) site.slots (clusters_for (length bytes)) f))
        ≡ added_writes s (table_of image s) here (record { mode = mode; count = size; dead = dead }) time name bytes
    unfolding entry_page
    added-writes f mode size time name bytes pages new entry =
        ap₂ (λ x z. x ++ z)
        (ap (λ g. cluster_writes (pages_of g) (some zero_page ∷ some zero_page ∷ [])) grown-so)
        (ap₂ (λ x z. x ++ z) (ap₂ (λ o d. cluster_writes (pages_of o) d) (own-so bytes) (pages own)) (ap₂ (λ (x z : PageWrite). x ∷ z ∷ []) directory slot))
      where
        own : List ℕ
        own = own_clusters (rules_of s) (see s image) (growth_with_one (entry_of here.page) site.slots) (clusters_for (length bytes))

        at_slot : ℕ
        at_slot = get_or (entry_pages (Slot.directory (with_length (entry_of here.page) (length_with_one (entry_of here.page) site.slots))
            (site.chain ++ growth_clusters (rules_of s) (see s image) (growth_with_one (entry_of here.page) site.slots)))) (first_dead site.slots) 0

        directory : ◌≡◌ {A = PageWrite} (record { always = false; page = here.at; bytes = entry_page false ((see s image).page here.at) (with_length (entry_of here.page) (length_with_one (entry_of here.page) site.slots)) })
            (record { always = false; page = here.at; bytes = altered_page here.page (with_length (entry_of here.page) (length_by dead (entries_of here))) })
        directory =
            ap₂ (λ o n. record { always = false; page = here.at; bytes = entry_page false o (with_length (entry_of here.page) n) }) site.read
            (length-is (entry_of here.page) site.chain site.slots (see s image) site.below site.two site.long site.held dead d)

        slot : ◌≡◌ {A = PageWrite} (record { always = (f own).is_new; page = at_slot; bytes = entry_page (f own).is_new ((see s image).page at_slot) (f own).entry })
            (record { always = true; page = page_by dead (last_of (table_of image s) here) (growth_of s (table_of image s) here dead); bytes = new_page (new_entry mode size (first_of (taken_of s (table_of image s) here dead bytes)) 0 time name) })
        slot =
            ap (λ b. record { always = b; page = at_slot; bytes = entry_page b ((see s image).page at_slot) (f own).entry }) (new own)
            ∙ ap₂ (λ q x. record { always = true; page = q; bytes = new_page x }) slot-so (entry own ∙ ap (λ o. new_entry mode size (first_of o) 0 time name) (own-so bytes))
