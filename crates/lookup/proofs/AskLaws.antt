-- A question at a path goes on from what stands there: from the answer of `stand` to what a call asks.
use Rattle.std.specs.Prelude.{Some, None, Ok, Err}
use Rattle.std.specs.Prelude.{Option, Result as Returned}
use Prim.Native.Nat.{◌≤◌, suc, zero, ℕ}
use mathlib.Core.List.{List, [], ◌∷◌}
use mathlib.Core.Option.{Option as Maybe, none, some}
use mathlib.Core.Path.{◌∙◌, ◌≡◌, ap, refl, sym}
use native.Mathlib.Omega.{arith}
use lib.ListN.{drop, length, length-append, length-drop, take}
use Rattle.page.specs.declared.Format.{Format}
use Rattle.fields.specs.PathBytes.{parsed_of, path_of}
use Rattle.layout.specs.Refusal.{number_of, page_of}
use Rattle.layout.specs.See.{check_image, on_image, view_by}
use Rattle.layout.specs.Table.{open_card, table_after, table_of}
use Rattle.layout.proofs.OpenFacts.{open-facts}
use Rattle.layout.proofs.TableLaws.{length-table}
use Rattle.layout.specs.declared.Geometry.{Geometry}
use Rattle.layout.specs.declared.Refusal.{Refusal}
use Rattle.layout.specs.declared.Refusal.TheVariants.{BadPath}
use Rattle.layout.specs.declared.Superblock.{Superblock}
use Rattle.model.specs.Check.{Marks, Result, and_then, fault, ok}
use Rattle.model.specs.Holds.{HoldsCard}
use Rattle.model.specs.Lookup.{Found, absent, found, look_in, look_up, tell}
use Rattle.model.specs.Names.{Path}
use Rattle.model.specs.Refusal.{way}
use Rattle.model.specs.Tree.{Root, Slot, Tree, root_slot}
use Rattle.model.specs.View.{View, most_clusters}
use Rattle.tree.specs.Card.{view_of}
use Rattle.tree.specs.Counted.{superblock_in}
use Rattle.lookup.proofs.CardLaws.{accepted, call-accepted, call-refused, words-hold}
use Rattle.lookup.proofs.CallLaws as call
use Rattle.lookup.proofs.DescendLaws.{Leads, leads}
use Rattle.lookup.specs.Called.{TellsAs, TellsStood}
use Rattle.lookup.specs.Descend.{StandsAt, descended, names_from}
use Rattle.lookup.specs.Paths.{at_path, on_card, refusing, found_at, standing_of, stands_there, with_path}
use Rattle.lookup.specs.Read.{read_from, read_in, read_of}
use Rattle.lookup.specs.declared.call.Stood.{Stood}
use Rattle.lookup.specs.declared.way.EntryAt.{EntryAt}
use Rattle.lookup.proofs.Arrivals.{arrive}
use Rattle.lookup.proofs.PathWalk.{at_path_lem}

-- ---- what `stand` answers

-- on a card whose view holds some tree: a refusal, or an entry at which the path ends
pub way-refused : (v : View) (card : Superblock) (image bytes : List ℕ) (f : Refusal) (r : Returned Stood Refusal) → r ≡ Err f
    → ((root : Root) → HoldsCard v root → with_path (path_of bytes) (found_at card root) ≡ fault (number_of f) (page_of f))
    → (root : Root) → HoldsCard v root → TellsAs image (with_path (path_of bytes) (found_at card root)) r
way-refused v card image bytes f r e z root holds = rw (e, z root holds) (refl, refl)

pub way_at : (card : Superblock) (bytes : List ℕ) (r : Stood) → r.card.geometry ≡ card.geometry
    → ((root : Root) → HoldsCard (view_of r.card) root → (h : Slot) × (t : Tree) × StandsAt (view_of r.card) r.entry h t × (with_path (path_of bytes) (found_at card root) ≡ ok (card, h, t)))
    → (root : Root) → HoldsCard (view_of r.card) root → TellsAs r.card.image.now (with_path (path_of bytes) (found_at card root)) (Ok r)
way_at card bytes r g y root holds = let z = y root holds in rw z.3 (refl, sym g, z.2)

module _ (format : Format) (image bytes : List ℕ) (r : Returned Stood Refusal) where
  pub stand-refused : (f : Refusal) → r ≡ Err f → fault (number_of f) (page_of f) ≡ superblock_in (check_image format image) → TellsStood format image bytes r
  stand-refused f e h = rw (e, call-refused format image bytes found_at (number_of f) (page_of f) h) (refl, refl)

  module _ (s : Superblock) (h : ok s ≡ superblock_in (check_image format image)) where
    -- on a card that is accepted the path says what stands there
    on-tree : standing_of format image bytes ≡ with_path (path_of bytes) (found_at s (accepted format image s h).root)
    on-tree = let y = accepted format image s h in call-accepted format image bytes found_at s y.root y.marks y.checked

    -- what is told of whatever tree the card's view holds is told of the whole call
    pub stand-accepted : (before words : List ℕ) → words ≡ table_after image (open_card format image) before
        → ((root : Root) → HoldsCard (view_by s.geometry (take s.end words) image) root → TellsAs image (with_path (path_of bytes) (found_at s root)) r) → TellsStood format image bytes r
    stand-accepted before words l w = rw on-tree (w (accepted format image s h).root (words-hold format image s h before words l))

    module _ (o : Option ℕ) (parsed : o ≡ parsed_of (path_of bytes)) where
      pub stand-malformed : r ≡ Err BadPath → o ≡ None → TellsStood format image bytes r
      stand-malformed e n = rw (e, on-tree, call.call-malformed (stands_there s) (accepted format image s h).root bytes o parsed n) (refl, refl)

      module _ (before words : List ℕ) (l : words ≡ table_after image (open_card format image) before) (count : ℕ) (n : o ≡ Some count) (a : Returned EntryAt Refusal)
          (led : a ≡ descended (view_by s.geometry (take s.end words) image) (take s.end words) (names_from bytes 0 count)) where
        here : Leads (view_by s.geometry (take s.end words) image) bytes count a
        here = leads s.geometry (take s.end words) image bytes count a led

        pub stand-nowhere : (f : Refusal) → r ≡ Err f → a ≡ Err f → TellsStood format image bytes r
        stand-nowhere f e g =
            rw (e, on-tree, call.call-refused (stands_there s) (accepted format image s h).root bytes (view_by s.geometry (take s.end words) image) (words-hold format image s h before words l) o count parsed n f (rw g at here))
            (refl, refl)

        pub stand-at : (x : Stood) → r ≡ Ok x → x.card.image.now ≡ image → x.card.table.now ≡ take s.end words → x.card.geometry ≡ s.geometry → a ≡ Ok x.entry → TellsStood format image bytes r
        stand-at x e i z w g =
            let y = call.call_at (stands_there s) (accepted format image s h).root bytes (view_by s.geometry (take s.end words) image) (words-hold format image s h before words l) o count parsed n x.entry (rw g at here) in
            rw (e, on-tree, y.3) (i, sym w, rw (i, z, w) y.2)

-- the card's words fit the room
pub fits-room : (format : Format) (image : List ℕ) (s : Superblock) → ok s ≡ superblock_in (check_image format image) → s.end ≤ most_clusters
fits-room format image s h = let facts = open-facts format image s (sym (accepted format image s h).opened) in omega (arith, facts.room, facts.most)

-- the room keeps its length
pub room-length : (format : Format) (image before words : List ℕ) → words ≡ table_after image (open_card format image) before → length before ≡ most_clusters → length words ≡ most_clusters
room-length format image before words l e = go (open_card format image) refl l
  where
    go : (o : Result Superblock) → open_card format image ≡ o → words ≡ table_after image o before → length words ≡ most_clusters
    go (fault n p) f h = ap length h ∙ e
    go (ok s) f h =
        let facts = open-facts format image s f in
        ap length h ∙ length-append (table_of image s) (drop s.end before) ∙ omega (arith, length-table image s, length-drop s.end before, facts.room, facts.most)

-- what stands there, and on which card
pub stood-at : (format : Format) (image bytes : List ℕ) (r : Stood) → TellsStood format image bytes (Ok r)
    → (s : Superblock) × (h : Slot) × (t : Tree) × (standing_of format image bytes ≡ ok (s, h, t)) × (r.card.image.now ≡ image) × (s.geometry ≡ r.card.geometry) × StandsAt (view_of r.card) r.entry h t
stood-at format image bytes r told = go (standing_of format image bytes) refl told
  where
    go : (x : Result (Superblock × Slot × Tree)) → standing_of format image bytes ≡ x → TellsAs image x (Ok r)
        → (s : Superblock) × (h : Slot) × (t : Tree) × (standing_of format image bytes ≡ ok (s, h, t)) × (r.card.image.now ≡ image) × (s.geometry ≡ r.card.geometry) × StandsAt (view_of r.card) r.entry h t
    go (fault n p) q y = absurd y
    go (ok x) q y = (x.0, x.1, x.2, q, y.0, y.1, y.2)

-- ---- what is asked
module _ {A : Type 0} (ask : Geometry → Slot → Tree → Result A) where
  abbrev pub onward : Superblock × Slot × Tree → Result A
  onward x = ask x.0.geometry x.1 x.2

  at-tree : (s : Superblock) (w : ℕ) (f : Found) → refusing w (tell (ask s.geometry) (fault 9 0) f) ≡ and_then (refusing w (tell (stands_there s) (fault 9 0) f)) onward
  unfolding and_then
  at-tree s zero absent = refl
  at-tree s zero (found h t) = refl
  at-tree s (suc w) f = refl

  at-bytes : (s : Superblock) (root : Root) (o : Maybe Path) → with_path o (λ q. at_path root q (ask s.geometry)) ≡ and_then (with_path o (found_at s root)) onward
  unfolding and_then at_path
  at-bytes s root none = refl
  at-bytes s root (some q) = at-tree s (way (look_up root) q) (look_up root q)

  pub asked : (format : Format) (image bytes : List ℕ) → on_card format image bytes (λ s root q. at_path root q (ask s.geometry)) ≡ and_then (standing_of format image bytes) onward
  unfolding and_then on_card
  asked format image bytes = go (check_image format image)
    where
      go : (r : Result (Superblock × Root × Marks))
          → and_then r (λ x. with_path (path_of bytes) (λ q. at_path x.1 q (ask x.0.geometry))) ≡ and_then (and_then r (λ x. with_path (path_of bytes) (found_at x.0 x.1))) onward
      go (fault n p) = refl
      go (ok x) = at-bytes x.0 x.1 (path_of bytes)

  module _ (format : Format) (image bytes : List ℕ) where
    pub ask-refused : (f : Refusal) → TellsStood format image bytes (Err f) → on_card format image bytes (λ s root q. at_path root q (ask s.geometry)) ≡ fault (number_of f) (page_of f)
    unfolding and_then
    ask-refused f told = asked format image bytes ∙ go (standing_of format image bytes) told
      where
        go : (x : Result (Superblock × Slot × Tree)) → TellsAs image x (Err f) → and_then x onward ≡ fault (number_of f) (page_of f)
        go (fault n p) y = rw (y.0, y.1)
        go (ok x) y = absurd y

    pub ask-at : (r : Stood) → TellsStood format image bytes (Ok r)
        → (h : Slot) × (t : Tree) × StandsAt (view_of r.card) r.entry h t × (on_card format image bytes (λ s root q. at_path root q (ask s.geometry)) ≡ ask r.card.geometry h t)
    unfolding and_then
    ask-at r told =
        let y = stood-at format image bytes r told in
        (y.1, y.2, y.6, asked format image bytes ∙ ap (λ x. and_then x onward) y.3 ∙ ap (λ a. ask a y.1 y.2) y.5)

-- ---- a read: the page of a late 2 is the image's
module _ {A : Type 0} (geometry : Geometry) (ask : Slot → Tree → Result A) where
  through : (h : Slot) (s : Tree) (q : Path)
      → on_image geometry (and_then (arrive h s q) (λ x. ask x.0 x.1)) ≡ and_then (arrive h s q) (λ x. on_image geometry (ask x.0 x.1))
  unfolding and_then
  through h s [] = refl
  through Slot.dead s (n ∷ q) = refl
  through (Slot.file e cs ds) s (n ∷ q) = refl
  through (Slot.directory e cs) s (n ∷ q) = go (λ h t. through h t q) (look_in s (n ∷ []))
    where
      go : ((h : Slot) (t : Tree) → on_image geometry (and_then (arrive h t q) (λ x. ask x.0 x.1)) ≡ and_then (arrive h t q) (λ x. on_image geometry (ask x.0 x.1)))
          → (x : Found) → on_image geometry (and_then (tell (λ h t. arrive h t q) (fault 9 0) x) (λ x. ask x.0 x.1))
          ≡ and_then (tell (λ h t. arrive h t q) (fault 9 0) x) (λ x. on_image geometry (ask x.0 x.1))
      go deeper absent = refl
      go deeper (found h t) = deeper h t

  image-path : (root : Root) (q : Path) → on_image geometry (at_path root q ask) ≡ at_path root q (λ h t. on_image geometry (ask h t))
  image-path root q =
      ap (on_image geometry) (at_path_lem ask root q) ∙ through (root_slot root) root.slots q ∙ sym (at_path_lem (λ h t. on_image geometry (ask h t)) root q)

pub read-so : (format : Format) (image bytes : List ℕ) (from room : ℕ)
    → read_of format image bytes from room ≡ on_card format image bytes (λ s root q. at_path root q (λ h t. on_image s.geometry (read_from from room h t)))
unfolding on_card and_then
read-so format image bytes from room = go (check_image format image)
  where
    path : (s : Superblock) (root : Root) (o : Maybe Path) → with_path o (λ q. on_image s.geometry (read_in root q from room))
        ≡ with_path o (λ q. at_path root q (λ h t. on_image s.geometry (read_from from room h t)))
    path s root none = refl
    path s root (some q) = image-path s.geometry (read_from from room) root q

    go : (r : Result (Superblock × Root × Marks)) → and_then r (λ x. with_path (path_of bytes) (λ q. on_image x.0.geometry (read_in x.1 q from room)))
        ≡ and_then r (λ x. with_path (path_of bytes) (λ q. at_path x.1 q (λ h t. on_image x.0.geometry (read_from from room h t))))
    go (fault n p) = refl
    go (ok x) = path x.0 x.1 (path_of bytes)
