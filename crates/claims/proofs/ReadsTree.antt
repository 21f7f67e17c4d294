-- The tree of an accepted image is what find and the reads answer.
use Prim.Native.Nat.{ℕ, ◌+◌, ◌*◌, ◌/◌, ◌≤◌}
use mathlib.Core.Bool.{Bool, cond, false, true}
use mathlib.Core.List.{List, map}
use mathlib.Core.Logic.{◌⊎◌, inl, inr, ⊎_elim}
use mathlib.Core.Option.{Option, none, some}
use mathlib.Core.Path.{◌∙◌, ◌≡◌, ap, ap₂, refl, sym}
use native.Mathlib.Omega.{arith}
use borrow.Author.Tests.{le-leb, le-ltb, ltb-false}
use lib.Dec.{ltb}
use lib.ListN.{get_or, length, take}
use Rattle.page.specs.declared.Format.{Format}
use Rattle.change.proofs.ChangedLaws.{checked-parts}
use Rattle.fields.specs.PathBytes.{path_of}
use Rattle.layout.specs.declared.Superblock.{Superblock}
use Rattle.layout.proofs.OpenFacts.{open-format}
use Rattle.layout.specs.See.{check_image, image_page, on_image, page_in, see}
use Rattle.layout.specs.Table.{table_of}
use Rattle.lookup.proofs.Arrivals.{arrive}
use Rattle.lookup.proofs.CardLaws.{call-accepted}
use Rattle.lookup.proofs.EnterLaws.{file-kind}
use Rattle.tree.proofs.PageReads.{view-sized}
use Rattle.lookup.proofs.PathWalk.{at_path_lem}
use Rattle.lookup.specs.Find.{find_in, find_of, found_entry}
use Rattle.lookup.specs.Paths.{with_path}
use Rattle.lookup.specs.Read.{read_from, read_in, read_of}
use Rattle.model.proofs.CheckHolds.{check-holds}
use Rattle.model.proofs.Frame.{times-pages}
use Rattle.model.proofs.PlanFits.{length-pages}
use Rattle.model.specs.Check.{Marks, Result, and_then, fault, ok}
use Rattle.model.specs.Entry.{Entry, file_clusters}
use Rattle.model.specs.Holds.{HoldsCard}
use Rattle.model.specs.Lookup.{Found, absent, found, look_up, tell}
use Rattle.model.specs.Names.{Path}
use Rattle.model.specs.Standing.{Standing, fields_of, standing}
use Rattle.model.specs.Tree.{Root, Slot, Tree, chain_of, root_slot, times}
use Rattle.model.specs.View.{Link, View, pages_of}
use Rattle.page.specs.Page.{page_at}
use Rattle.claims.proofs.FilePages.{Whole, copy-all, first_at, gather, gathered, read_all, read-page, read-unreadable, tree_bytes, whole}
use Rattle.claims.proofs.ImageClaims.{card-of}
use Rattle.claims.proofs.PathFinds.{Kinded, Met, met, not_free}
use Rattle.claims.proofs.PathNames.{path-there}
use Rattle.claims.specs.ReadsTree.{BytesOr2, FindTells, NothingThere, ReadTells, Reads, TreeIsReading, page_read, standing_by}
use Rattle.claims.specs.Seen.{standing_in, tree_in}

-- ---- find

module _ (v : View) where
  pub find-tells : (f : Found) (r : Result (Slot × Tree)) → Met v f r → FindTells (tell standing none f) (and_then r (λ x. found_entry x.0 x.1))
  unfolding and_then
  find-tells absent (fault n p) m = nothing n p m
    where
      nothing : (n p : ℕ) → (p ≡ 0) × ((n ≡ 9) ⊎ (n ≡ 10)) → NothingThere {A = Entry} (fault n p)
      nothing n p m = ⊎_elim (λ (e : n ≡ 9). inl (rw (m.0, e))) (λ (e : n ≡ 10). inr (rw (m.0, e))) m.1
  find-tells absent (ok x) m = absurd m
  find-tells (found h t) (fault n p) m = absurd m
  find-tells (found h t) (ok x) m = rw (m.0, m.1) (go h m.2)
    where
      go : (h : Slot) → Kinded v h → FindTells (standing h t) (found_entry h t)
      go Slot.dead k = absurd k
      go (Slot.file e cs ds) k = (e, refl, k.0, refl, refl)
      go (Slot.directory e cs) k = (e, refl, k, refl)

-- ---- reads

module _ (image : List ℕ) (s : Superblock) where
  abbrev v : View
  v = see s image

  abbrev sized : (p : ℕ) (d : List ℕ) → v.page p ≡ some d → length d ≡ 512
  sized p d e = view-sized s.geometry (length (table_of image s)) image p d e

  -- a chain with no free cluster, and how many bytes its pages have room for
  abbrev Used : List ℕ → Type 0
  Used cs = (c : ℕ) → v.link c ≡ Link.free → times cs c ≡ 0

  room_for : (e : Entry) (cs : List ℕ) → length cs ≡ file_clusters e → e.length ≤ 512 * length (pages_of cs)
  room_for e cs h = omega (arith, length-pages cs)

  unreadable : (cs : List ℕ) → Used cs → (p : ℕ) → 1 ≤ times (pages_of cs) p → v.page p ≡ none → page_at s.geometry.format image (image_page s.geometry p) ≡ none
  unfolding page_in
  unreadable cs used p h e = go (ltb p (2 * length (table_of image s))) refl e
    where
      go : (b : Bool) → ltb p (2 * length (table_of image s)) ≡ b → cond b (page_at s.geometry.format image (image_page s.geometry p)) none ≡ none → page_at s.geometry.format image (image_page s.geometry p) ≡ none
      go true t x = x
      go false t x =
          let past : length (table_of image s) ≤ p / 2 = omega (arith, ltb-false p (2 * length (table_of image s)) t) in
          let free : v.link (p / 2) ≡ Link.free = rw (le-ltb (p / 2) (length (table_of image s)) past) in
          absurd (omega (arith, used (p / 2) free, times-pages cs p))

  -- what a read of page k of a file answers
  abbrev page_of_file : Entry → List ℕ → ℕ → Result (List ℕ)
  page_of_file e cs k = on_image s.geometry (read_from (512 * k) 512 (Slot.file e cs (map v.page (pages_of cs))) Tree.end)

  whole-told : (e : Entry) (cs : List ℕ) → length cs ≡ file_clusters e → Used cs → (k : ℕ) (w : Option (List ℕ)) (r : Result (List ℕ)) → Whole v.page sized (pages_of cs) e.length k w r
      → BytesOr2 s.geometry.format image (page_of_file e cs) k w (on_image s.geometry (and_then r (λ bytes. ok (take e.length bytes))))
  unfolding and_then
  whole-told e cs long used k none (fault m p) x =
      let u : v.page (get_or (pages_of cs) k 0) ≡ none = rw x.4 x.1 in
      let one = read-unreadable v.page sized e.length k cs (room_for e cs long) x.3 u in
      rw x.0 (image_page s.geometry p, refl, rw (le-leb (512 * k) e.length (omega (arith, x.3)), one, x.4), unreadable cs used p x.2 x.1)
  whole-told e cs long used k none (ok bytes) x = absurd x
  whole-told e cs long used k (some bytes) (fault m p) x = absurd x
  whole-told e cs long used k (some bytes) (ok gathered) x = ap {B = Result (List ℕ)} ok x

  read-tells : (f : Found) (r : Result (Slot × Tree)) → Met v f r → ((h : Slot) (t : Tree) → f ≡ found h t → Used (chain_of h)) → (room : ℕ)
      → ReadTells s.geometry.format image (λ k. on_image s.geometry (and_then r (λ x. read_from (512 * k) 512 x.0 x.1))) room (tell standing none f)
      (on_image s.geometry (and_then r (λ x. read_from 0 room x.0 x.1)))
  unfolding and_then
  read-tells absent (fault n p) m used room = ⊎_elim (λ (e : n ≡ 9). inl (rw (m.0, e))) (λ (e : n ≡ 10). inr (rw (m.0, e))) m.1
  read-tells absent (ok x) m used room = absurd m
  read-tells (found h t) (fault n p) m used room = absurd m
  read-tells (found h t) (ok x) m used room = rw (m.0, m.1) (go h m.2 (used h t refl))
    where
      go : (h : Slot) → Kinded v h → Used (chain_of h)
          → ReadTells s.geometry.format image (λ k. on_image s.geometry (read_from (512 * k) 512 h t)) room (standing h t) (on_image s.geometry (read_from 0 room h t))
      go Slot.dead k u = absurd k
      go (Slot.file e cs ds) k u = λ fits.
          rw (k.2, le-leb 0 e.length (omega arith), copy-all e.length room fits, read_all v.page sized e.length cs)
          (whole-told e cs k.1 u (first_at v.page sized e.length (pages_of cs)) (tree_bytes v.page sized e.length (pages_of cs)) (gathered v.page sized e.length (pages_of cs))
          (whole v.page sized (pages_of cs) e.length (room_for e cs k.1)))
      go (Slot.directory e cs) k u = refl

  tree-tells : (f : Found) (r : Result (Slot × Tree)) → Met v f r
      → tell standing none f ≡ standing_by (and_then r (λ x. found_entry x.0 x.1)) (λ k. on_image s.geometry (and_then r (λ x. read_from (512 * k) 512 x.0 x.1)))
  unfolding and_then
  tree-tells absent (fault n p) m = refl
  tree-tells absent (ok x) m = absurd m
  tree-tells (found h t) (fault n p) m = absurd m
  tree-tells (found h t) (ok x) m = rw (m.0, m.1) (go h m.2)
    where
      go : (h : Slot) → Kinded v h → standing h t ≡ standing_by (found_entry h t) (λ k. on_image s.geometry (read_from (512 * k) 512 h t))
      go Slot.dead k = absurd k
      go (Slot.file e cs ds) k =
          rw (k.2, file-kind e k.0)
          (ap (λ (pages : List (Option (List ℕ))). some (Standing.file (fields_of e) (record { size = e.length; pages = pages })))
          (sym
          (gather v.page sized (λ j. on_image s.geometry (read_from (512 * j) 512 (Slot.file e cs (map v.page (pages_of cs))) t)) (pages_of cs) e.length 0 (room_for e cs k.1)
          (λ j l.
          let z : 0 + j ≡ j = omega arith in
          rw (z, le-leb (512 * j) e.length (omega arith)) (read-page v.page sized e.length j s.geometry cs (room_for e cs k.1) l)))))
      go (Slot.directory e cs) k = rw k

-- ---- the claim

module _ (format : Format) (image : List ℕ) (s : Superblock) (root : Root) (m : Marks) (checked : check_image format image ≡ ok (s, root, m)) (path : List ℕ) (names : Path) (parsed : path_of path ≡ some names) where
  card : HoldsCard (see s image) root
  card = (check-holds (see s image) root m (checked-parts format image s root m checked).1).0

  abbrev there : Result (Slot × Tree)
  there = arrive (root_slot root) root.slots names

  tree-at : tree_in format image names ≡ tell standing none (look_up root names)
  unfolding tree_in
  tree-at = ap (λ r. standing_in r names) checked

  found_at : find_of format image path ≡ and_then there (λ x. found_entry x.0 x.1)
  found_at = call-accepted format image path (λ s. find_in) s root m checked ∙ ap (λ o. with_path o (find_in root)) parsed ∙ at_path_lem found_entry root names

  read_at : (from room : ℕ) → read_of format image path from room ≡ on_image s.geometry (and_then there (λ x. read_from from room x.0 x.1))
  read_at from room =
      call-accepted format image path (λ t r q. on_image t.geometry (read_in r q from room)) s root m checked
      ∙ ap (λ o. with_path o (λ q. on_image s.geometry (read_in root q from room))) parsed
      ∙ ap (on_image s.geometry) (at_path_lem (read_from from room) root names)

  page-at : page_read format image path ≡ (λ k. on_image s.geometry (and_then there (λ x. read_from (512 * k) 512 x.0 x.1)))
  page-at = λ i k. read_at (512 * k) 512 i

  pub reads : Reads format image path names
  reads =
      let arrived = met (see s image) root card names in
      record {
        find = rw (tree-at, found_at) (find-tells (see s image) (look_up root names) there arrived);
        read = λ room.
            rw (tree-at, read_at 0 room, page-at, open-format format image s (checked-parts format image s root m checked).0)
            (read-tells image s (look_up root names) there arrived (λ h t e. not_free (see s image) root card names h t e) room);
        tree = tree-at ∙ tree-tells image s (look_up root names) there arrived ∙ sym (ap₂ standing_by found_at page-at);
      }

module _ (format : Format) (image : List ℕ) (s : Superblock) (root : Root) (m : Marks) (checked : check_image format image ≡ ok (s, root, m)) where
  pub handed : (names : Path) (there : Standing) → tree_in format image names ≡ some there → (path : List ℕ) × (path_of path ≡ some names)
  unfolding tree_in
  handed names there e = go (look_up root names) refl (sym (ap (λ r. standing_in r names) checked) ∙ e)
    where
      go : (f : Found) → look_up root names ≡ f → tell standing none f ≡ some there → (path : List ℕ) × (path_of path ≡ some names)
      go absent i k = absurd (let z : ◌≡◌ {A = ℕ} 0 1 = cc in omega arith)
      go (found h t) i k = path-there (see s image) root (check-holds (see s image) root m (checked-parts format image s root m checked).1).0 names h t i

pub tree-is-reading : TreeIsReading
tree-is-reading format image counts e =
    let c = card-of format image counts e in
    record {
      everywhere = reads format image c.superblock c.root c.marks c.checked;
      handed = handed format image c.superblock c.root c.marks c.checked;
    }
