-- What the code answers where a path's directory was found is what the model says of a creation.
use Rattle.std.specs.Prelude.{Option, None, Some}
use Prim.Native.Nat.{ℕ, ◌+◌, ◌*◌, ◌<◌, ◌≤◌}
use mathlib.Core.Bool.{false, true}
use mathlib.Core.List.{List, [], ◌∷◌}
use mathlib.Core.Path.{◌∙◌, ◌≡◌, ap, ap₂, refl, sym}
use native.Mathlib.Decide.{dec_lt}
use native.Mathlib.Omega.{arith}
use borrow.Author.Tests.{leb-false, leb-true}
use lib.ListN.{get_or, length, length-append}
use Rattle.page.specs.declared.Format.{Format}
use Rattle.layout.specs.declared.Superblock.{Superblock}
use Rattle.layout.specs.See.{check_image, see}
use Rattle.layout.specs.Table.{open_card, table_of}
use Rattle.layout.proofs.OpenFacts.{open-facts, own-format}
use Rattle.layout.proofs.TableLaws.{length-table}
use Rattle.tree.specs.declared.along.Place.{Place}
use Rattle.lookup.proofs.SlotLaws.{dead-at, dead-nowhere, name-found, name-nowhere}
use Rattle.model.specs.Bytes.{word_limit}
use Rattle.model.specs.Change.{Change, create, creates, directory_mode, make_directory, path, size}
use Rattle.model.specs.Check.{Marks, ok}
use Rattle.model.specs.Entry.{clusters_for, entry_of, is_directory}
use Rattle.model.specs.Holds.{HoldsCard, HoldsSlots}
use Rattle.model.specs.Lookup.{Found, absent, found, is_named, look_in}
use Rattle.model.specs.Names.{Path, dot_name, last_name, parent}
use Rattle.model.specs.Pages.{new_page}
use Rattle.model.specs.Plan.{new_entry}
use Rattle.model.specs.Refusal.{must_lack, own, static}
use Rattle.model.specs.Tree.{Root, Slot, Tree, entry_pages, reached, times}
use Rattle.model.specs.View.{most_clusters, top_bit}
use Rattle.model.proofs.CheckHolds.{check-holds}
use Rattle.model.proofs.CountLaws.{card-used}
use Rattle.model.proofs.Equality.{tf}
use Rattle.model.proofs.NewEntries.{few}
use Rattle.model.proofs.PageBytes.{length-new}
use Rattle.model.proofs.Sites as tree
use Rattle.lookup.specs.declared.way.EntryAt.{EntryAt}
use Rattle.change.specs.declared.entries.NewEntry.{NewEntry}
use Rattle.change.specs.Calls.{CanAdd, CanAddIn, added, added_in, created_in, dead_of, dots_at, enough, locked_at, made_in, need_of, as_directory, as_file, or_refused, place_of, refused_by, slots_of, unless_there}
use Rattle.change.specs.Changed.{Outcome, changed}
use Rattle.change.specs.Deeds.{entries_of, last_of, number_by}
use Rattle.change.specs.Words.{free_list}
use Rattle.change.proofs.AddAnswers.{vacant-parts}
use Rattle.change.proofs.AddPlans.{DeadAt, slots-many}
use Rattle.change.proofs.Added.{Adds, added-exists, added_full, added-locked, create-done, make-done}
use Rattle.change.proofs.CallLaws.{picked}
use Rattle.change.proofs.ChainWords.{last-times}
use Rattle.change.proofs.ChangedLaws.{checked-parts}
use Rattle.change.proofs.ChangedView.{end_is, no_words}
use Rattle.change.proofs.FreeLaws as free
use Rattle.change.proofs.SiteFacts.{last-is}
use Rattle.change.proofs.Sites.{Site}

module _ (format : Format) (image : List ℕ) (s : Superblock) (root : Root) (m : Marks) (checked : check_image format image ≡ ok (s, root, m)) where
  opened : open_card format image ≡ ok s
  opened = (checked-parts format image s root m checked).0

  holds : HoldsCard (see s image) root
  holds = (check-holds (see s image) root m (checked-parts format image s root m checked).1).0

  pub end-few : s.end ≤ most_clusters
  end-few = let g = open-facts format image s opened in omega (arith, g.room, g.most)

  free-few : length (free_list s (table_of image s)) ≤ most_clusters
  free-few = free.free-few format image (table_of image s) s opened (length-table image s)

  module _ (p : Path) (here : EntryAt) (site : Site (see s image) (table_of image s) root p here) where
    -- the chain's clusters are allocatable ones, each once
    chain-reached : (c : ℕ) → times site.chain c ≤ reached root c
    chain-reached c = omega (arith, (tree.site (see s image) root holds (parent p) (entry_of here.page) site.chain site.slots site.found-so).own c)

    chain-low : (c : ℕ) → s.end ≤ c → times site.chain c ≡ 0
    chain-low c h = omega (arith, chain-reached c, card-used (see s image) root holds c (no_words format image s opened c (omega (arith, end_is format image s opened))))

    chain-few : length site.chain ≤ s.end
    chain-few = few s.end site.chain (λ c. omega (arith, chain-reached c, holds.once c)) chain-low

    pub entries-few : entries_of here ≤ 2 * most_clusters
    entries-few = omega (arith, site.long, chain-few, end-few)

    pub last-low : last_of (table_of image s) here < top_bit
    last-low = go (dec_lt (last_of (table_of image s) here) s.end)
      where
        go : Dec (last_of (table_of image s) here < s.end) → last_of (table_of image s) here < top_bit
        go (yes l) = omega (arith, end-few)
        go (no l) =
            absurd
            (let e = last-is format image s opened root p here site in
            let z : times (here.first ∷ site.rest) (last_of (table_of image s) here) ≡ 0 = ap (λ cs. times cs (last_of (table_of image s) here)) (sym site.starts) ∙ chain-low (last_of (table_of image s) here) (omega arith) in
            let y : 1 ≤ times (here.first ∷ site.rest) (last_of (table_of image s) here) = rw e (last-times here.first site.rest) in
            omega arith)

    -- the pages that are scanned hold the directory's slots
    pub held-slots : HoldsSlots (see s image) site.below (slots_of (table_of image s) here) site.slots
    held-slots = rw site.pages at site.held

    pub dead-so : DeadAt (entry_pages (Slot.directory (entry_of here.page) site.chain)) site.slots (dead_of (see s image) (table_of image s) here)
    dead-so = go (dead_of (see s image) (table_of image s) here) refl
      where
        go : (d : Option Place) → dead_of (see s image) (table_of image s) here ≡ d → DeadAt (entry_pages (Slot.directory (entry_of here.page) site.chain)) site.slots d
        go None e = dead-nowhere (see s image) site.below (slots_of (table_of image s) here) site.slots held-slots e
        go (Some place) e =
            let z = dead-at (see s image) site.below (slots_of (table_of image s) here) site.slots held-slots place e in
            (z.0, z.1, z.2 ∙ ap (λ l. get_or l place.slot 0) (sym site.pages))

    -- the number of the new slot
    numbered : number_by (dead_of (see s image) (table_of image s) here) (entries_of here) ≤ 2 * most_clusters
    numbered = go (dead_of (see s image) (table_of image s) here) dead-so
      where
        go : (d : Option Place) → DeadAt (entry_pages (Slot.directory (entry_of here.page) site.chain)) site.slots d → number_by d (entries_of here) ≤ 2 * most_clusters
        go None z = omega (arith, entries-few)
        go (Some place) z =
            omega (arith, entries-few, z.1, site.two, slots-many (entry_of here.page) site.chain site.slots (see s image) site.below site.two site.long site.held)

    pub absent-so : place_of (see s image) (table_of image s) here (last_name p) ≡ None → look_in site.slots (last_name p ∷ []) ≡ absent
    absent-so lacks = name-nowhere (see s image) site.below (slots_of (table_of image s) here) site.slots held-slots (last_name p) lacks

    there-11 : (h : Slot) (u : Tree) → is_named h (last_name p) ≡ true → must_lack (found h u) ≡ 11
    there-11 Slot.dead u n = tf n refl
    there-11 (Slot.file e cs ds) u n = refl
    there-11 (Slot.directory e cs) u n = refl

    exists-11 : (place : Place) → place_of (see s image) (table_of image s) here (last_name p) ≡ Some place → must_lack (look_in site.slots (last_name p ∷ [])) ≡ 11
    exists-11 place e =
        let f = name-found (see s image) site.below (slots_of (table_of image s) here) site.slots held-slots (last_name p) place e in
        ap must_lack f.2 ∙ there-11 f.0 f.1 f.5

  -- ---- a change that puts a new entry down, with what the model does of it where the name is absent, nothing locked and enough free
  module _ (c : Change) (fine : static c ≡ 0) (creating : creates c ≡ true) (lacking : (g : Found) → own c g ≡ must_lack g) (here : EntryAt)
      (site : Site (see s image) (table_of image s) root (path c) here) (new : NewEntry) (dead-is : new.dead ≡ dead_of (see s image) (table_of image s) here) (time bytes : List ℕ)
      (many : size c ≡ clusters_for (length bytes)) (few_bytes : clusters_for (length bytes) ≤ most_clusters → new.count < word_limit)
      (does : look_in site.slots (last_name (path c) ∷ []) ≡ absent → locked_at here ≡ false → need_of here new.dead bytes ≤ length (free_list s (table_of image s)) → Adds format image s here c new time (last_name (path c)) bytes) where
    at_dead : DeadAt (entry_pages (Slot.directory (entry_of here.page) site.chain)) site.slots new.dead
    at_dead = rw dead-is (dead-so (path c) here site)

    room_for : enough s (table_of image s) (need_of here new.dead bytes) ≡ true → need_of here new.dead bytes ≤ length (free_list s (table_of image s))
    room_for e = leb-true (need_of here new.dead bytes) (length (free_list s (table_of image s))) e

    pub can-add : place_of (see s image) (table_of image s) here (last_name (path c)) ≡ None → CanAdd s image (table_of image s) here new time (last_name (path c)) bytes
    can-add lacks =
        record {
          card = record { opened = own-format format image s opened; long = length-table image s };
          some-entries = omega (arith, site.two);
          few-entries = omega (arith, entries-few (path c) here site);
          low-last = last-low (path c) here site;
          low-slot = rw dead-is (numbered (path c) here site);
          small = λ e. few_bytes (omega (arith, room_for e, free-few));
          lands = λ o e. (does (absent-so (path c) here site lacks) o (room_for e)).lands;
        }

    -- the name is absent: 16, 12, or done
    judged : place_of (see s image) (table_of image s) here (last_name (path c)) ≡ None
        → added s image (table_of image s) here new time (last_name (path c)) bytes ≡ changed format c image
    judged l =
        picked (locked_at here) (refused_by 16 image) _
        (λ o. sym (added-locked format image s root m checked c fine here site creating new.dead at_dead lacks (rw (gone, o))))
        (λ o. picked (enough s (table_of image s) (need_of here new.dead bytes)) _ (refused_by 12 image)
        (λ e. sym (does gone o (room_for e)).done)
        (λ e. sym (added_full format image s root m checked c fine here site creating new.dead at_dead lacks (rw (gone, o))
        (omega (arith, many, leb-false (need_of here new.dead bytes) (length (free_list s (table_of image s))) e)))))
      where
        gone : look_in site.slots (last_name (path c) ∷ []) ≡ absent
        gone = absent-so (path c) here site l

        lacks : own c (look_in site.slots (last_name (path c) ∷ [])) ≡ 0
        lacks = lacking _ ∙ ap must_lack gone

    pub added-at : (x : Option Place) → place_of (see s image) (table_of image s) here (last_name (path c)) ≡ x → (rest : Option Place → Outcome)
        → rest new.dead ≡ added s image (table_of image s) here new time (last_name (path c)) bytes → or_refused image (unless_there x new.dead) rest ≡ changed format c image
    added-at None e rest r = r ∙ judged e
    added-at (Some place) e rest r = sym (added-exists format image s root m checked c fine here site creating new.dead at_dead 10 (lacking _ ∙ exists-11 (path c) here site place e))

  -- ---- the two creations
  module _ (p : Path) (here : EntryAt) (site : Site (see s image) (table_of image s) root p here) (time : List ℕ) where
    abbrev dead : Option Place
    dead = dead_of (see s image) (table_of image s) here

    abbrev dots : List ℕ
    dots = dots_at here time dead

    one : clusters_for (length dots) ≡ 1
    one = ap clusters_for (length-append (new_page (new_entry directory_mode 0 here.first (number_by dead (entries_of here)) time dot_name)) _ ∙ ap₂ (λ a b. a + b) (length-new _) (length-new _))

    pub can-create : (bytes : List ℕ) → static (create p time bytes) ≡ 0 → CanAddIn s image (table_of image s) here (last_name p) time (as_file bytes) (λ d. bytes)
    can-create bytes fine d vacant =
        let v = vacant-parts s image (table_of image s) here (last_name p) d vacant in
        rw (← v.2)
        (can-add (create p time bytes) fine refl (λ g. refl) here site (as_file bytes dead) refl time bytes refl (λ few. omega arith)
        (λ l o room. create-done format image s root m checked p time here site dead (dead-so p here site) l o bytes fine room) v.1)

    pub created-here : (bytes : List ℕ) → is_directory (entry_of here.page) ≡ true → static (create p time bytes) ≡ 0
        → created_in s image (table_of image s) here (last_name p) time bytes ≡ changed format (create p time bytes) image
    unfolding added_in
    created-here bytes directory fine =
        rw directory
        (added-at (create p time bytes) fine refl (λ g. refl) here site (as_file bytes dead) refl time bytes refl (λ few. omega arith)
        (λ l o room. create-done format image s root m checked p time here site dead (dead-so p here site) l o bytes fine room) (place_of (see s image) (table_of image s) here (last_name p)) refl _ refl)

    pub can-make : static (make_directory p time) ≡ 0 → CanAddIn s image (table_of image s) here (last_name p) time as_directory (dots_at here time)
    can-make fine d vacant =
        let v = vacant-parts s image (table_of image s) here (last_name p) d vacant in
        rw (← v.2)
        (can-add (make_directory p time) fine refl (λ g. refl) here site (as_directory dead) refl time dots (sym one) (λ few. omega arith)
        (λ l o room. make-done format image s root m checked p time here site dead (dead-so p here site) l o fine room) v.1)

    pub made-here : is_directory (entry_of here.page) ≡ true → static (make_directory p time) ≡ 0
        → made_in s image (table_of image s) here (last_name p) time ≡ changed format (make_directory p time) image
    unfolding added_in
    made-here directory fine =
        rw directory
        (added-at (make_directory p time) fine refl (λ g. refl) here site (as_directory dead) refl time dots (sym one) (λ few. omega arith)
        (λ l o room. make-done format image s root m checked p time here site dead (dead-so p here site) l o fine room) (place_of (see s image) (table_of image s) here (last_name p)) refl _ refl)
