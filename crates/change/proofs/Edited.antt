-- Replacing a file, deleting one and removing a directory, as the code does them on the entry that it found.
use Prim.Native.Nat.{ℕ, suc, pred, ◌+◌, ◌/◌, ◌<◌, ◌≤◌}
use mathlib.Core.Bool.{cond, false, true}
use mathlib.Core.List.{List, [], ◌++◌, ◌∷◌}
use mathlib.Core.Logic.{◌⊎◌, inl, inr}
use mathlib.Core.Option.{Option, some}
use mathlib.Core.Path.{◌∙◌, ◌≡◌, ap, ap₂, refl, sym}
use native.Mathlib.Omega.{arith}
use borrow.Author.Tests.{eq-eqb, le-leb, lt-leb}
use lib.Dec.{eqb, leb}
use lib.ListN.{get_or, length, take}
use Rattle.page.specs.declared.Format.{Format}
use Rattle.layout.specs.declared.Superblock.{Superblock}
use Rattle.layout.specs.See.{check_image, see}
use Rattle.layout.specs.Table.{open_card, table_of}
use Rattle.layout.proofs.TableLaws.{length-table}
use Rattle.model.specs.Bytes.{word}
use Rattle.model.specs.Change.{Change, creates, delete, path, remove_directory, replace, size}
use Rattle.model.specs.Check.{Marks, fault, ok}
use Rattle.model.specs.Entry.{Entry, clusters_for, directory_clusters, end_mark, entry_of, is_directory, is_subdirectory}
use Rattle.model.specs.Holds.{Chain, HoldsSlot, HoldsSlots}
use Rattle.model.specs.Lookup.{found, index_of, is_named, look_in}
use Rattle.model.specs.Names.{Name, Path, last_name}
use Rattle.model.specs.Pages.{decoded}
use Rattle.model.specs.Plan.{Filling, altering, edit_for, growth_with_one, made, new_contents, plan_by, plan_of, removal}
use Rattle.model.specs.Refusal.{first, own, refusal, static}
use Rattle.model.specs.Tree.{Root, Slot, Tree, dead_slots, entry_pages, slot_count, times}
use Rattle.model.specs.View.{Link, View, first_link}
use Rattle.model.specs.Writes.{PageWrite, chain_words, cleared_words, page_writes, words_after}
use Rattle.model.proofs.Equality.{and_l, bool, tf}
use Rattle.model.proofs.Outcome.{Deed}
use Rattle.reached.specs.Table.{table_links}
use Rattle.lookup.proofs.EnterLaws.{file-kind, some_same}
use Rattle.lookup.specs.declared.way.EntryAt.{EntryAt}
use Rattle.change.specs.Calls.{either_locked, refused_by, unless_locked}
use Rattle.change.specs.Changed.{Outcome, changed, rules_of}
use Rattle.change.specs.Deeds.{image_by, relinked, removed_table, removed_writes, replaced_table, replaced_writes}
use Rattle.change.specs.Words.{free_list}
use Rattle.change.proofs.Added.{deed-of, planned-at}
use Rattle.change.proofs.CallLaws.{picked}
use Rattle.change.proofs.ChainWords.{Follows, chain-follows, last_in}
use Rattle.change.proofs.ChangedLaws.{checked-parts, refuses}
use Rattle.change.proofs.DoneAs.{done-as, lands_as}
use Rattle.change.proofs.EditWrites.{removed-writes, replaced-writes}
use Rattle.change.specs.Image.{Lands}
use Rattle.change.proofs.PlanTable.{same-words}
use Rattle.change.proofs.SiteFacts.{free-is}
use Rattle.change.proofs.SiteRefusals.{locks_at, refusal-here}
use Rattle.change.proofs.Sites.{Site, directory_at, entry_in}

-- the chain that an entry's first cluster leads to, as the code steps through it
pub entry_follows : (v : View) (t : List ℕ) → ((c : ℕ) → v.link c ≡ table_links t c) → (e : Entry) (cs : List ℕ) → Chain v (first_link e) cs → Follows t e.first_cluster cs
entry_follows v t links e [] h = tt
entry_follows v t links e (c ∷ cs) h = go (bool (eqb e.first_cluster end_mark)) h
  where
    go : (eqb e.first_cluster end_mark ≡ true) ⊎ (eqb e.first_cluster end_mark ≡ false) → Chain v (first_link e) (c ∷ cs) → Follows t e.first_cluster (c ∷ cs)
    go (inl i) h = absurd (let f : Link.last ≡ Link.next c = rw i at h.0 in let z : ◌≡◌ {A = ℕ} 0 1 = cc in omega arith)
    go (inr i) h = chain-follows v t links e.first_cluster (c ∷ cs) (rw i at h)

module _ (format : Format) (image : List ℕ) (s : Superblock) (root : Root) (m : Marks) (checked : check_image format image ≡ ok (s, root, m)) (c : Change) (fine : static c ≡ 0) (standing : creates c ≡ false)
    (here : EntryAt) (site : Site (see s image) (table_of image s) root (path c) here) where
  opened : open_card format image ≡ ok s
  opened = (checked-parts format image s root m checked).0

  edit-refusal : refusal (rules_of s) c (see s image) root
      ≡ first (own c (look_in site.slots (last_name (path c) ∷ [])))
      (first (cond (locks_at here (look_in site.slots (last_name (path c) ∷ []))) 16 0) (cond (leb (size c + 0) (length (free_list s (table_of image s)))) 0 12))
  edit-refusal =
      refusal-here image s root c here site fine (free-is format image s opened)
      ∙ ap (λ b. first (own c (look_in site.slots (last_name (path c) ∷ []))) (first (cond (locks_at here (look_in site.slots (last_name (path c) ∷ []))) 16 0)
      (cond (leb (size c + cond b (growth_with_one (entry_of here.page) site.slots) 0) (length (free_list s (table_of image s)))) 0 12))) standing

  -- refused by what stands at the name, by a lock, or for want of room
  pub edit-refused : (n : ℕ) → own c (look_in site.slots (last_name (path c) ∷ [])) ≡ suc n → changed format c image ≡ record { answer = fault (suc n) 0; image = image }
  edit-refused n e = (refuses format image s root m checked c n (edit-refusal ∙ rw e)).0

  -- 16 where the entry or its directory is locked, and else the rest
  pub unless-locked : (entry : EntryAt) → own c (look_in site.slots (last_name (path c) ∷ [])) ≡ 0 → locks_at here (look_in site.slots (last_name (path c) ∷ [])) ≡ either_locked here entry
      → (rest : Outcome) → (either_locked here entry ≡ false → rest ≡ changed format c image) → unless_locked s image (table_of image s) (either_locked here entry) rest ≡ changed format c image
  unless-locked entry stands same rest does =
      picked (either_locked here entry) (refused_by 16 image) rest
      (λ h.
      let l : locks_at here (look_in site.slots (last_name (path c) ∷ [])) ≡ true = same ∙ h in
      sym (refuses format image s root m checked c 15 (edit-refusal ∙ rw (stands, l))).0)
      does

  pub edit-full : own c (look_in site.slots (last_name (path c) ∷ [])) ≡ 0 → locks_at here (look_in site.slots (last_name (path c) ∷ [])) ≡ false → length (free_list s (table_of image s)) < size c → changed format c image ≡ record { answer = fault 12 0; image = image }
  edit-full e o l = (refuses format image s root m checked c 11 (edit-refusal ∙ rw (e, o, lt-leb (size c + 0) (length (free_list s (table_of image s))) (omega arith)))).0

  module _ (lacks : own c (look_in site.slots (last_name (path c) ∷ [])) ≡ 0) (unlocked : locks_at here (look_in site.slots (last_name (path c) ∷ [])) ≡ false) (room : size c ≤ length (free_list s (table_of image s)))
      (k : ℕ) (given : List ℕ) (f : List ℕ → Filling)
      (plan-so : plan_of (rules_of s) c (see s image) root ≡ some (made (rules_of s) (see s image) (directory_at here site.chain) (altering (directory_at here site.chain) site.slots (last_name (path c)) k given f))) where
    none-met : refusal (rules_of s) c (see s image) root ≡ 0
    none-met = edit-refusal ∙ rw (lacks, unlocked, le-leb (size c + 0) (length (free_list s (table_of image s))) (omega arith))

    deed : Deed (rules_of s) (see s image) root (made (rules_of s) (see s image) (directory_at here site.chain) (altering (directory_at here site.chain) site.slots (last_name (path c)) k given f))
    deed = deed-of format image s root m checked c none-met _ plan-so

    module _ (writes : List PageWrite) (written : page_writes (see s image) (made (rules_of s) (see s image) (directory_at here site.chain) (altering (directory_at here site.chain) site.slots (last_name (path c)) k given f)) ≡ writes)
        (back : ℕ) (follows : Follows (table_of image s) back given) where
      pub edit-lands : Lands s.end writes
      edit-lands = lands_as format image s root m checked c none-met _ plan-so _ written

      pub edit-done : changed format c image ≡ record { answer = ok tt; image = image_by s image writes (relinked back (length given) (take k (free_list s (table_of image s))) 0 [] (table_of image s)) }
      edit-done = done-as format image s root m checked c none-met _ plan-so _ written (relinked back (length given) (take k (free_list s (table_of image s))) 0 [] (table_of image s)) words
        where
          apart : (x : ℕ) → times (here.first ∷ site.rest) x + times given x + times (take k (free_list s (table_of image s))) x ≤ 1
          apart x =
              omega (
                arith,
                deed.fit.clear x,
                deed.fit.own x,
                deed.fit.old x,
                ap (λ cs. times cs x) site.starts,
                ap (λ l. times (take k l) x) (free-is format image s opened),
              )

          words : (x : ℕ) → x < s.end
              → words_after (made (rules_of s) (see s image) (directory_at here site.chain) (altering (directory_at here site.chain) site.slots (last_name (path c)) k given f)) (λ d. get_or (table_of image s) d 0) x
              ≡ get_or (relinked back (length given) (take k (free_list s (table_of image s))) 0 [] (table_of image s)) x 0
          words x h =
              ap₂ (λ cs l. chain_words (cs ++ []) (chain_words (take k l) (cleared_words given (λ d. get_or (table_of image s) d 0))) x) site.starts (free-is format image s opened)
              ∙ same-words (see s image) (table_of image s) (λ d. refl) here.first site.rest given (take k (free_list s (table_of image s))) back (rw site.starts at site.linked) follows apart
              [] (last_in here.first site.rest) (omega arith) (λ d. omega (arith, apart d)) refl x (omega (arith, length-table image s))

-- ---- the entry at the last name
pub record There (image : List ℕ) (s : Superblock) (below : ℕ) (pages : List ℕ) (slots : Tree) (name : Name) (slot : ℕ) (entry : List ℕ) : Type 0 where
  pub head : Slot
  pub inside : Tree
  pub found-so : look_in slots (name ∷ []) ≡ found head inside
  pub named : is_named head name ≡ true
  pub placed : slot ≡ get_or pages (index_of name slots) 0
  pub read : (see s image).page slot ≡ some entry
  pub held : HoldsSlot (see s image) below slot head
  pub within : HoldsSlots (see s image) (pred below) (entry_pages head) inside

module _ (format : Format) (image : List ℕ) (s : Superblock) (root : Root) (m : Marks) (checked : check_image format image ≡ ok (s, root, m)) (p : Path) (here : EntryAt)
    (site : Site (see s image) (table_of image s) root p here) (slot : ℕ) (entry : List ℕ)
    (there : There image s site.below (entry_pages (Slot.directory (entry_of here.page) site.chain)) site.slots (last_name p) slot entry) where
  same-entry : (e : Entry) → (see s image).entry slot ≡ some e → entry_of entry ≡ e
  same-entry e h = some_same (entry_of entry) e (ap decoded (sym there.read) ∙ h)

  -- a file, with the chain that it gives back
  pub record IsFile : Type 0 where
    pub given : List ℕ
    pub pages : List (Option (List ℕ))
    pub found-file : look_in site.slots (last_name p ∷ []) ≡ found (Slot.file (entry_of entry) given pages) there.inside
    pub many : length given ≡ clusters_for (word entry 4)
    pub leads : Follows (table_of image s) (word entry 0x10) given

  pub record IsDirectory : Type 0 where
    pub given : List ℕ
    pub found-directory : look_in site.slots (last_name p ∷ []) ≡ found (Slot.directory (entry_of entry) given) there.inside
    pub many : length given ≡ directory_clusters (entry_of entry)
    pub leads : Follows (table_of image s) (word entry 0x10) given
    pub linked : Chain (see s image) (first_link (entry_of entry)) given
    pub subdirectory : is_subdirectory (entry_of entry) ≡ true
    pub held : HoldsSlots (see s image) (pred site.below) (entry_pages (Slot.directory (entry_of entry) given)) there.inside

  pub file-here : is_directory (entry_of entry) ≡ false → IsFile
  file-here not_so = go there.head there.found-so there.named there.held
    where
      go : (h : Slot) → look_in site.slots (last_name p ∷ []) ≡ found h there.inside → is_named h (last_name p) ≡ true → HoldsSlot (see s image) site.below slot h → IsFile
      go Slot.dead f n k = tf n refl
      go (Slot.file e cs ds) f n k =
          let q = same-entry e k.0 in
          record {
            given = cs;
            pages = ds;
            found-file = f ∙ ap (λ x. found (Slot.file x cs ds) there.inside) (sym q);
            many = k.2 ∙ ap (λ (x : Entry). clusters_for x.length) (sym q);
            leads = rw (← q) at (entry_follows (see s image) (table_of image s) (λ c. refl) e cs k.3);
          }
      go (Slot.directory e cs) f n k = tf (and_l _ _ (and_l _ _ k.1)) (ap is_directory (sym (same-entry e k.0)) ∙ not_so)

  pub directory-here : is_directory (entry_of entry) ≡ true → IsDirectory
  directory-here is-so = go there.head there.found-so there.named there.held there.within
    where
      go : (h : Slot) → look_in site.slots (last_name p ∷ []) ≡ found h there.inside → is_named h (last_name p) ≡ true → HoldsSlot (see s image) site.below slot h
          → HoldsSlots (see s image) (pred site.below) (entry_pages h) there.inside → IsDirectory
      go Slot.dead f n k w = tf n refl
      go (Slot.file e cs ds) f n k w = tf is-so (ap is_directory (same-entry e k.0) ∙ file-kind e k.1)
      go (Slot.directory e cs) f n k w =
          let q = same-entry e k.0 in
          record {
            given = cs;
            found-directory = f ∙ ap (λ x. found (Slot.directory x cs) there.inside) (sym q);
            many = k.3 ∙ ap (λ (x : Entry). directory_clusters x) (sym q);
            leads = rw (← q) at (entry_follows (see s image) (table_of image s) (λ c. refl) e cs k.4);
            linked = rw (← q) at k.4;
            subdirectory = ap is_subdirectory q ∙ k.1;
            held = rw (← q) at w;
          }

  -- ---- replacing
  pub record Edits (c : Change) (writes : List PageWrite) (table : List ℕ) : Type 0 where
    pub lands : Lands s.end writes
    pub done : changed format c image ≡ record { answer = ok tt; image = image_by s image writes table }

  pub replace-done : (time bytes : List ℕ) → static (replace p time bytes) ≡ 0 → IsFile → either_locked here (entry_in slot entry) ≡ false → clusters_for (length bytes) ≤ length (free_list s (table_of image s))
      → Edits (replace p time bytes) (replaced_writes s (table_of image s) here (entry_in slot entry) time bytes) (replaced_table s (table_of image s) (entry_in slot entry) bytes)
  replace-done time bytes fine file unlocked room =
      let c = replace p time bytes in
      let stands : own (replace p time bytes) (look_in site.slots (last_name p ∷ [])) ≡ 0 = rw file.found-file in
      let free : locks_at here (look_in site.slots (last_name p ∷ [])) ≡ false = rw file.found-file unlocked in
      let plan =
      planned-at format image s root m checked (replace p time bytes) fine here site
      ∙ ap (λ g. plan_by (rules_of s) (see s image) (directory_at here site.chain) (edit_for (replace p time bytes) (directory_at here site.chain) site.slots g)) file.found-file in
      let written = replaced-writes image s root p here site (last_name p) slot entry there.read there.placed (free-is format image s (checked-parts format image s root m checked).0) file.given time bytes in
      record {
        lands = edit-lands format image s root m checked (replace p time bytes) fine refl here site stands free room (clusters_for (length bytes)) file.given (new_contents (entry_of entry) time bytes) plan _ written (word entry 0x10) file.leads;
        done =
            edit-done format image s root m checked (replace p time bytes) fine refl here site stands free room (clusters_for (length bytes)) file.given (new_contents (entry_of entry) time bytes) plan _ written (word entry 0x10) file.leads
            ∙ ap (λ n. record { answer = ok tt; image = image_by s image (replaced_writes s (table_of image s) here (entry_in slot entry) time bytes) (relinked (word entry 0x10) n (take (clusters_for (length bytes)) (free_list s (table_of image s))) 0 [] (table_of image s)) }) file.many;
      }

  -- ---- deleting and removing
  written-gone : (given : List ℕ) → page_writes (see s image) (made (rules_of s) (see s image) (directory_at here site.chain) (altering (directory_at here site.chain) site.slots (last_name p) 0 given (removal (entry_of entry)))) ≡ removed_writes here (entry_in slot entry)
  written-gone given = removed-writes image s root p here site (last_name p) slot entry there.read there.placed (free-is format image s (checked-parts format image s root m checked).0) given

  gone-as : (n k : ℕ) → n ≡ k → ◌≡◌ {A = Outcome} (record { answer = ok tt; image = image_by s image (removed_writes here (entry_in slot entry)) (removed_table (table_of image s) (entry_in slot entry) n) })
      (record { answer = ok tt; image = image_by s image (removed_writes here (entry_in slot entry)) (removed_table (table_of image s) (entry_in slot entry) k) })
  gone-as n k e = ap (λ i. record { answer = ok tt; image = image_by s image (removed_writes here (entry_in slot entry)) (removed_table (table_of image s) (entry_in slot entry) i) }) e

  pub delete-done : static (delete p) ≡ 0 → IsFile → either_locked here (entry_in slot entry) ≡ false → Edits (delete p) (removed_writes here (entry_in slot entry)) (removed_table (table_of image s) (entry_in slot entry) (clusters_for (word entry 4)))
  delete-done fine file unlocked =
      let stands : own (delete p) (look_in site.slots (last_name p ∷ [])) ≡ 0 = rw file.found-file in
      let free : locks_at here (look_in site.slots (last_name p ∷ [])) ≡ false = rw file.found-file unlocked in
      let plan =
      planned-at format image s root m checked (delete p) fine here site
      ∙ ap (λ g. plan_by (rules_of s) (see s image) (directory_at here site.chain) (edit_for (delete p) (directory_at here site.chain) site.slots g)) file.found-file in
      record {
        lands = edit-lands format image s root m checked (delete p) fine refl here site stands free (omega arith) 0 file.given (removal (entry_of entry)) plan _ (written-gone file.given) (word entry 0x10) file.leads;
        done =
            edit-done format image s root m checked (delete p) fine refl here site stands free (omega arith) 0 file.given (removal (entry_of entry)) plan _ (written-gone file.given) (word entry 0x10) file.leads
            ∙ gone-as (length file.given) (clusters_for (word entry 4)) file.many;
      }

  pub remove-done : static (remove_directory p) ≡ 0 → IsDirectory → slot_count there.inside ≡ dead_slots there.inside → either_locked here (entry_in slot entry) ≡ false
      → Edits (remove_directory p) (removed_writes here (entry_in slot entry)) (removed_table (table_of image s) (entry_in slot entry) ((word entry 4 + 1) / 2))
  remove-done fine directory empty unlocked =
      let stands : own (remove_directory p) (look_in site.slots (last_name p ∷ [])) ≡ 0 = rw (directory.found-directory, eq-eqb _ _ empty) in
      let free : locks_at here (look_in site.slots (last_name p ∷ [])) ≡ false = rw directory.found-directory unlocked in
      let plan =
      planned-at format image s root m checked (remove_directory p) fine here site
      ∙ ap (λ g. plan_by (rules_of s) (see s image) (directory_at here site.chain) (edit_for (remove_directory p) (directory_at here site.chain) site.slots g)) directory.found-directory in
      record {
        lands = edit-lands format image s root m checked (remove_directory p) fine refl here site stands free (omega arith) 0 directory.given (removal (entry_of entry)) plan _ (written-gone directory.given) (word entry 0x10) directory.leads;
        done =
            edit-done format image s root m checked (remove_directory p) fine refl here site stands free (omega arith) 0 directory.given (removal (entry_of entry)) plan _ (written-gone directory.given) (word entry 0x10) directory.leads
            ∙ gone-as (length directory.given) ((word entry 4 + 1) / 2) directory.many;
      }
