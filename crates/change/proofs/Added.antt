-- Creating a file and making a directory, as the code does them in the directory that it found.
use Rattle.std.specs.Prelude.{Option}
use Prim.Native.Nat.{ℕ, suc, ◌+◌, ◌<◌, ◌≤◌}
use mathlib.Core.Bool.{cond, false, true}
use mathlib.Core.List.{List, [], ◌++◌, ◌∷◌}
use mathlib.Core.Option.{some}
use mathlib.Core.Path.{◌∙◌, ◌≡◌, ap, ap₂, refl, subst, sym}
use native.Mathlib.Omega.{arith}
use borrow.Author.Tests.{le-leb, lt-leb}
use lib.Dec.{leb}
use lib.ListN.{get_or, length, length-append, length-take}
use Rattle.page.specs.declared.Format.{Format}
use Rattle.layout.specs.declared.Superblock.{Superblock}
use Rattle.layout.specs.See.{check_image, see}
use Rattle.layout.specs.Table.{open_card, table_of}
use Rattle.layout.proofs.TableLaws.{length-table}
use Rattle.tree.specs.declared.along.Place.{Place}
use Rattle.model.specs.Change.{Change, create, creates, directory_mode, file_mode, make_directory, path, size}
use Rattle.model.specs.Check.{Marks, fault, ok}
use Rattle.model.specs.Entry.{clusters_for, entry_of}
use Rattle.model.specs.Holds.{HoldsCard}
use Rattle.model.specs.Lookup.{absent, first_dead, found, look_in}
use Rattle.model.specs.Names.{Path, dot_dot_name, dot_name, last_name}
use Rattle.model.specs.Pages.{data_pages, entry_page, new_page}
use Rattle.model.specs.Plan.{Filling, Plan, adding, first_of, growth_clusters, growth_with_one, made, new_directory, new_entry, new_file, own_clusters, plan_at, plan_of}
use Rattle.model.specs.Refusal.{first, own, refusal, static}
use Rattle.model.specs.Tree.{Root, Slot, entry_pages, times}
use Rattle.model.specs.Writes.{chain_words, page_writes, words_after}
use Rattle.model.proofs.ChangeActs.{acts}
use Rattle.model.proofs.CheckHolds.{check-holds}
use Rattle.model.proofs.Outcome.{Deed, Outcome}
use Rattle.model.proofs.PageBytes.{length-new}
use Rattle.model.proofs.Refusals.{refusal-accepts}
use Rattle.lookup.specs.declared.way.EntryAt.{EntryAt}
use Rattle.change.specs.declared.entries.NewEntry.{NewEntry}
use Rattle.change.specs.Calls.{added_image, done_with, dots_of, locked_at, need_of, as_directory, as_file}
use Rattle.change.specs.Changed.{changed, rules_of}
use Rattle.change.specs.Deeds.{added_table, added_writes, entries_of, growth_by, growth_of, last_of, number_by, taken_of}
use Rattle.change.specs.Words.{free_list}
use Rattle.change.proofs.AddPlans.{DeadAt, growth-is, number_is}
use Rattle.change.proofs.AddWrites.{added-writes, grown-so, own-so}
use Rattle.change.proofs.ChangedLaws.{checked-parts, refuses}
use Rattle.change.proofs.ChangedView.{no_words}
use Rattle.change.proofs.DoneAs.{done-as, lands_as, some_same}
use Rattle.change.proofs.FreeLaws.{growth-small}
use Rattle.change.specs.Image.{Lands}
use Rattle.change.proofs.PlanTable.{same-words}
use Rattle.change.proofs.SiteFacts.{free-is, last-is, last-of-chain, two-pages}
use Rattle.change.proofs.SiteRefusals.{locks_at, refusal-here}
use Rattle.change.proofs.Sites.{Site, directory_at}

-- what the code does of an accepted creation
pub record Adds (format : Format) (image : List ℕ) (s : Superblock) (here : EntryAt) (c : Change) (new : NewEntry) (time name bytes : List ℕ) : Type 0 where
  pub lands : Lands s.end (added_writes s (table_of image s) here new time name bytes)
  pub done : changed format c image ≡ done_with (added_image s image (table_of image s) here new time name bytes)

-- what is learnt of an accepted plan
module _ (format : Format) (image : List ℕ) (s : Superblock) (root : Root) (m : Marks) (checked : check_image format image ≡ ok (s, root, m)) where
  opened : open_card format image ≡ ok s
  opened = (checked-parts format image s root m checked).0

  holds : HoldsCard (see s image) root
  holds = (check-holds (see s image) root m (checked-parts format image s root m checked).1).0

  pub deed-of : (c : Change) → refusal (rules_of s) c (see s image) root ≡ 0 → (plan : Plan) → plan_of (rules_of s) c (see s image) root ≡ some plan → Deed (rules_of s) (see s image) root plan
  deed-of c met plan planned =
      let o : Outcome (rules_of s) (see s image) root c =
      acts (rules_of s) (see s image) root holds (no_words format image s opened) c (refusal-accepts (rules_of s) (see s image) root holds c met) in
      subst (Deed (rules_of s) (see s image) root) (some_same _ _ (sym o.planned ∙ planned)) o.deed

  module _ (c : Change) (fine : static c ≡ 0) (here : EntryAt) (site : Site (see s image) (table_of image s) root (path c) here) where
    pub planned-at : plan_of (rules_of s) c (see s image) root ≡ plan_at (rules_of s) c (see s image) here.at (found (Slot.directory (entry_of here.page) site.chain) site.slots)
    planned-at = ap₂ (λ a f. plan_at (rules_of s) c (see s image) a f) site.page-so site.found-so

    module _ (creating : creates c ≡ true) (dead : Option Place) (d : DeadAt (entry_pages (Slot.directory (entry_of here.page) site.chain)) site.slots dead) where
      need-is : size c + cond (creates c) (growth_with_one (entry_of here.page) site.slots) 0 ≡ size c + growth_by dead (entries_of here)
      need-is =
          rw creating (ap (λ n. size c + n) (growth-is (entry_of here.page) site.chain site.slots (see s image) site.below site.two site.long site.held dead d))

      added-refusal : refusal (rules_of s) c (see s image) root
          ≡ first (own c (look_in site.slots (last_name (path c) ∷ [])))
          (first (cond (locks_at here (look_in site.slots (last_name (path c) ∷ []))) 16 0) (cond (leb (size c + growth_by dead (entries_of here)) (length (free_list s (table_of image s)))) 0 12))
      added-refusal =
          refusal-here image s root c here site fine (free-is format image s opened)
          ∙ ap (λ n. first (own c (look_in site.slots (last_name (path c) ∷ []))) (first (cond (locks_at here (look_in site.slots (last_name (path c) ∷ []))) 16 0) (cond (leb n (length (free_list s (table_of image s)))) 0 12))) need-is

      -- refused by what stands at the name
      pub added-exists : (n : ℕ) → own c (look_in site.slots (last_name (path c) ∷ [])) ≡ suc n → changed format c image ≡ record { answer = fault (suc n) 0; image = image }
      added-exists n e = (refuses format image s root m checked c n (added-refusal ∙ rw e)).0

      -- refused where the directory is locked
      pub added-locked : own c (look_in site.slots (last_name (path c) ∷ [])) ≡ 0 → locks_at here (look_in site.slots (last_name (path c) ∷ [])) ≡ true
          → changed format c image ≡ record { answer = fault 16 0; image = image }
      added-locked e l = (refuses format image s root m checked c 15 (added-refusal ∙ rw (e, l))).0

      -- refused for want of room
      pub added_full : own c (look_in site.slots (last_name (path c) ∷ [])) ≡ 0 → locks_at here (look_in site.slots (last_name (path c) ∷ [])) ≡ false → length (free_list s (table_of image s)) < size c + growth_by dead (entries_of here)
          → changed format c image ≡ record { answer = fault 12 0; image = image }
      added_full e o l = (refuses format image s root m checked c 11 (added-refusal ∙ rw (e, o, lt-leb _ _ l))).0

      -- accepted, with a filling that is a new entry
      module _ (free : own c (look_in site.slots (last_name (path c) ∷ [])) ≡ 0) (unlocked : locks_at here (look_in site.slots (last_name (path c) ∷ [])) ≡ false) (room : size c + growth_by dead (entries_of here) ≤ length (free_list s (table_of image s)))
          (f : List ℕ → Filling) (mode count : ℕ) (time name bytes : List ℕ) (many : size c ≡ clusters_for (length bytes))
          (plan-so : plan_of (rules_of s) c (see s image) root ≡ some (made (rules_of s) (see s image) (directory_at here site.chain) (adding (directory_at here site.chain) site.slots (clusters_for (length bytes)) f)))
          (pages : (own : List ℕ) → (f own).pages ≡ data_pages bytes) (new : (own : List ℕ) → (f own).is_new ≡ true)
          (entry : (own : List ℕ) → (f own).entry ≡ new_entry mode count (first_of own) 0 time name) where
        plan : Plan
        plan = made (rules_of s) (see s image) (directory_at here site.chain) (adding (directory_at here site.chain) site.slots (clusters_for (length bytes)) f)

        none-met : refusal (rules_of s) c (see s image) root ≡ 0
        none-met = added-refusal ∙ rw (free, unlocked, le-leb _ _ room)

        deed : Deed (rules_of s) (see s image) root (made (rules_of s) (see s image) (directory_at here site.chain) (adding (directory_at here site.chain) site.slots (clusters_for (length bytes)) f))
        deed = deed-of c none-met _ plan-so

        written : page_writes (see s image) (made (rules_of s) (see s image) (directory_at here site.chain) (adding (directory_at here site.chain) site.slots (clusters_for (length bytes)) f))
            ≡ added_writes s (table_of image s) here (record { mode = mode; count = count; dead = dead }) time name bytes
        written =
            added-writes format image s opened root (path c) here site dead d (last-of-chain format image s opened root (path c) here site) (free-is format image s opened)
            (omega arith) f mode count time name bytes pages new entry

        worded : (x : ℕ) → x < s.end → words_after (made (rules_of s) (see s image) (directory_at here site.chain) (adding (directory_at here site.chain) site.slots (clusters_for (length bytes)) f)) (λ c. get_or (table_of image s) c 0) x
            ≡ get_or (added_table s (table_of image s) here dead bytes) x 0
        worded x h =
            ap₂ (λ g o. chain_words (site.chain ++ g) (chain_words o (λ c. get_or (table_of image s) c 0)) x) grown own_is
            ∙ ap (λ cs. chain_words (cs ++ growth_of s (table_of image s) here dead) (chain_words (taken_of s (table_of image s) here dead bytes) (λ c. get_or (table_of image s) c 0)) x) site.starts
            ∙ same-words (see s image) (table_of image s) (λ c. refl) here.first site.rest [] (taken_of s (table_of image s) here dead bytes) 0 (rw site.starts at site.linked) tt
            (λ c. omega (arith, apart c)) (growth_of s (table_of image s) here dead) (last_of (table_of image s) here) (omega (arith, length-take (growth_by dead (entries_of here)) (free_list s (table_of image s)), growth-small dead (entries_of here)))
            (λ c. omega (arith, apart c)) (last-is format image s opened root (path c) here site) x (omega (arith, length-table image s))
          where
            grown : growth_clusters (rules_of s) (see s image) (growth_with_one (entry_of here.page) site.slots) ≡ growth_of s (table_of image s) here dead
            grown = grown-so format image s opened root (path c) here site dead d (last-of-chain format image s opened root (path c) here site) (free-is format image s opened)

            own_is : own_clusters (rules_of s) (see s image) (growth_with_one (entry_of here.page) site.slots) (clusters_for (length bytes)) ≡ taken_of s (table_of image s) here dead bytes
            own_is = own-so format image s opened root (path c) here site dead d (last-of-chain format image s opened root (path c) here site) (free-is format image s opened) bytes

            apart : (c : ℕ) → times (here.first ∷ site.rest) c + (times (taken_of s (table_of image s) here dead bytes) c + times (growth_of s (table_of image s) here dead) c) ≤ 1
            apart c =
                omega (
                  arith,
                  deed.fit.clear c,
                  deed.fit.own c,
                  ap (λ cs. times cs c) site.starts,
                  ap (λ cs. times cs c) own_is,
                  ap (λ cs. times cs c) grown,
                )

        pub adds : Adds format image s here c (record { mode = mode; count = count; dead = dead }) time name bytes
        adds =
            record {
              lands = lands_as format image s root m checked c none-met _ plan-so _ written;
              done = done-as format image s root m checked c none-met _ plan-so _ written (added_table s (table_of image s) here dead bytes) worded;
            }

-- ---- the two creations
module _ (format : Format) (image : List ℕ) (s : Superblock) (root : Root) (m : Marks) (checked : check_image format image ≡ ok (s, root, m)) (p : Path) (time : List ℕ) (here : EntryAt)
    (site : Site (see s image) (table_of image s) root p here) (dead : Option Place) (d : DeadAt (entry_pages (Slot.directory (entry_of here.page) site.chain)) site.slots dead)
    (absent-so : look_in site.slots (last_name p ∷ []) ≡ absent) (unlocked : locked_at here ≡ false) where
  pub create-done : (bytes : List ℕ) → static (create p time bytes) ≡ 0 → need_of here dead bytes ≤ length (free_list s (table_of image s))
      → Adds format image s here (create p time bytes) (as_file bytes dead) time (last_name p) bytes
  create-done bytes fine room =
      adds format image s root m checked (create p time bytes) fine here site refl dead d (rw absent-so) (rw (absent-so, unlocked)) room (new_file (last_name p) time bytes) file_mode (length bytes) time (last_name p) bytes
      refl (planned-at format image s root m checked (create p time bytes) fine here site) (λ o. refl) (λ o. refl) (λ o. refl)

  -- the first two entries of a new directory
  abbrev dot-page : ℕ → ℕ → List ℕ
  dot-page cluster slot = new_page (new_entry directory_mode 0 cluster slot time dot_name)

  abbrev up-page : List ℕ
  up-page = new_page (new_entry directory_mode 0 0 0 time dot_dot_name)

  pub one-cluster : clusters_for (length (dots_of here.first (number_by dead (entries_of here)) time)) ≡ 1
  one-cluster = ap clusters_for (length-append (dot-page here.first (number_by dead (entries_of here))) up-page ∙ ap₂ (λ a b. a + b) (length-new _) (length-new _))

  begins : first_of site.chain ≡ here.first
  begins = ap first_of site.starts

  numbered : 2 + first_dead site.slots ≡ number_by dead (entries_of here)
  numbered = number_is (entry_of here.page) site.chain site.slots (see s image) site.below site.two site.long site.held dead d

  filled : (own : List ℕ) → (new_directory (last_name p) time (first_of site.chain) (2 + first_dead site.slots) own).pages ≡ data_pages (dots_of here.first (number_by dead (entries_of here)) time)
  unfolding entry_page
  filled own =
      ap₂ (λ a b. some (dot-page a b) ∷ some up-page ∷ []) begins numbered
      ∙ sym (two-pages (dot-page here.first (number_by dead (entries_of here))) up-page (length-new _) (length-new _))

  pub make-done : static (make_directory p time) ≡ 0 → need_of here dead (dots_of here.first (number_by dead (entries_of here)) time) ≤ length (free_list s (table_of image s))
      → Adds format image s here (make_directory p time) (as_directory dead) time (last_name p) (dots_of here.first (number_by dead (entries_of here)) time)
  make-done fine room =
      let f = new_directory (last_name p) time (first_of site.chain) (2 + first_dead site.slots) in
      adds format image s root m checked (make_directory p time) fine here site refl dead d (rw absent-so) (rw (absent-so, unlocked)) (omega (arith, one-cluster)) f directory_mode 2 time (last_name p)
      (dots_of here.first (number_by dead (entries_of here)) time) (sym one-cluster)
      (planned-at format image s root m checked (make_directory p time) fine here site
      ∙ ap (λ k. some (made (rules_of s) (see s image) (directory_at here site.chain) (adding (directory_at here site.chain) site.slots k f))) (sym one-cluster))
      filled (λ o. refl) (λ o. refl)
