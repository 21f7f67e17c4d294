-- What a read answers: the refusals, and the bytes of the pages that the code steps through.
use Rattle.layout.specs.declared.Geometry.{Geometry}
use Rattle.std.specs.Prelude.{Some, None, Ok, Err}
use Prim.Native.Nat.{◌%◌, ◌+◌, ◌-◌, ◌/◌, ◌<◌, ◌≤◌, suc, zero, ℕ}
use mathlib.Core.Bool.{Bool, cond, false, true}
use mathlib.Core.List.{List, [], ◌∷◌, ◌++◌, map}
use mathlib.Core.Option.{Option}
use mathlib.Core.Path.{◌∙◌, ◌≡◌, ap, ap₂, refl, sym}
use native.Mathlib.Omega.{arith}
use borrow.Author.Tests.{le-leb, leb-true, lt-leb, ne_eqb}
use lib.Dec.{eqb, leb}
use lib.ListN.{drop, length, take}
use Rattle.layout.specs.Refusal.{number_of, page_of}
use Rattle.layout.specs.See.{on_image}
use Rattle.layout.specs.declared.Refusal.{Refusal}
use Rattle.model.proofs.Equality.{tf}
use Rattle.model.specs.Bytes.{slice}
use Rattle.model.specs.Check.{Result, and_then, fault, ok}
use Rattle.model.specs.Entry.{Entry, end_mark, is_directory}
use Rattle.model.specs.Holds.{Chain}
use Rattle.model.specs.Tree.{Slot, Tree}
use Rattle.model.specs.View.{Link, View, pages_of}
use Rattle.reached.specs.Table.{first_link_of, table_links}
use Rattle.lookup.specs.Answers.{TellsRead}
use Rattle.lookup.specs.Descend.{Stands, data_along, pages_for}
use Rattle.tree.specs.Scan.{scan, unread}
use Rattle.lookup.specs.Mended.{read_pages}
use Rattle.lookup.specs.Read.{bytes_from, bytes_to_copy, data_of_pages, pages_with, read_from}
use Rattle.tree.specs.Slots.{cluster_at, slot_pages}
use Rattle.tree.specs.declared.along.Place.{Place}
use Rattle.tree.proofs.ChainPages.{chain-pages}
use Rattle.lookup.proofs.AnswerLaws.{tells-refused, tells-value}
use Rattle.lookup.proofs.PagesLaws.{scan-gives}

-- ---- the pages with a byte to copy

module _ {A : Type 0} (f : ℕ → A) where
  map-take : (n : ℕ) (l : List ℕ) → take n (map f l) ≡ map f (take n l)
  map-take zero l = refl
  map-take (suc n) [] = refl
  map-take (suc n) (x ∷ l) = ap (λ (r : List A). f x ∷ r) (map-take n l)

  map-drop : (n : ℕ) (l : List ℕ) → drop n (map f l) ≡ map f (drop n l)
  map-drop zero l = refl
  map-drop (suc n) [] = refl
  map-drop (suc n) (x ∷ l) = map-drop n l

  with-map : (from count : ℕ) (l : List ℕ) → pages_with from count (map f l) ≡ map f (pages_with from count l)
  unfolding pages_with
  with-map from count l = go (eqb count 0)
    where
      go : (b : Bool) → cond b [] (drop (from / 512) (take ((from + count + 511) / 512) (map f l))) ≡ map f (cond b [] (drop (from / 512) (take ((from + count + 511) / 512) l)))
      go true = refl
      go false = ap (drop (from / 512)) (map-take ((from + count + 511) / 512) l) ∙ map-drop (from / 512) (take ((from + count + 511) / 512) l)

module _ (t : List ℕ) (first : ℕ) where
  drop-pages : (low j n : ℕ) → drop low (slot_pages t (cluster_at t first j) j n) ≡ slot_pages t (cluster_at t first (j + low)) (j + low) (n - low)
  unfolding slot_pages cluster_at
  drop-pages zero j n = let a : j + 0 ≡ j = omega arith in let b : n - 0 ≡ n = omega arith in rw (a, b)
  drop-pages (suc low) j zero = let b : 0 - suc low ≡ 0 = omega arith in rw b
  drop-pages (suc low) j (suc n) =
      let a : j + suc low ≡ suc j + low = omega arith in
      let b : suc n - suc low ≡ n - low = omega arith in
      rw (a, b) (drop-pages low (suc j) n)

  pages-from : (low n : ℕ) → drop low (slot_pages t first 0 n) ≡ slot_pages t (cluster_at t first low) low (n - low)
  unfolding cluster_at
  pages-from low n = let a : 0 + low ≡ low = omega arith in rw a at (drop-pages low 0 n)

module _ (v : View) (t : List ℕ) (links : (c : ℕ) → v.link c ≡ table_links t c) (first from room : ℕ) (e : Entry) where
  abbrev pub to_copy : ℕ
  to_copy = bytes_to_copy e.length from room

  -- the pages that the code steps through
  abbrev pub data_pages : List ℕ
  data_pages = slot_pages t (cluster_at t first (from / 512)) (from / 512) (pages_for (from % 512) to_copy)

  pub read-directory : (h : Slot) (s : Tree) → Stands v first e h s → is_directory e ≡ true → read_from from room h s ≡ fault 10 0
  read-directory Slot.dead s x f = absurd x
  read-directory (Slot.file d cs ds) s x f = tf f x.1
  read-directory (Slot.directory d cs) s x f = refl

  pub read-beyond : (h : Slot) (s : Tree) → Stands v first e h s → is_directory e ≡ false → e.length < from → read_from from room h s ≡ fault 15 0
  read-beyond Slot.dead s x f l = absurd x
  read-beyond (Slot.file d cs ds) s x f l = rw (x.0, lt-leb from e.length l)
  read-beyond (Slot.directory d cs) s x f l = tf x.1 f

  first_next : (b : Bool) (c : ℕ) (cs : List ℕ) → Chain v (cond b Link.last (Link.next first)) (c ∷ cs) → Chain v (Link.next first) (c ∷ cs)
  first_next true c cs h = absurd (let y : Link.last ≡ Link.next c = h.0 in let z : ◌≡◌ {A = ℕ} 0 1 = cc in omega arith)
  first_next false c cs h = h

  copied-within : from ≤ e.length → from + to_copy ≤ e.length
  copied-within l = go (leb room (e.length - from)) refl
    where
      go : (b : Bool) → leb room (e.length - from) ≡ b → from + cond b room (e.length - from) ≤ e.length
      go true q = omega (arith, leb-true room (e.length - from) q)
      go false q = omega arith

  chain-part : (cs : List ℕ) → length cs ≡ (e.length + 1023) / 1024 → Chain v (first_link_of first) cs → from ≤ e.length → 0 < to_copy → pages_with from to_copy (pages_of cs) ≡ data_pages
  unfolding pages_with
  chain-part [] l h a b = absurd (omega (arith, copied-within a))
  chain-part (c ∷ cs) l h a b =
      let n = copied-within a in
      let z : eqb to_copy 0 ≡ false = ne_eqb to_copy 0 (λ q. omega arith) in
      let y : (from + to_copy + 511) / 512 - from / 512 ≡ pages_for (from % 512) to_copy = omega arith in
      let k = chain-pages v t links first (c ∷ cs) (first_next (eqb first end_mark) c cs h) ((from + to_copy + 511) / 512) 0 refl (omega arith) in
      rw z (ap (drop (from / 512)) k ∙ pages-from t first (from / 512) ((from + to_copy + 511) / 512) ∙ ap (λ (m : ℕ). slot_pages t (cluster_at t first (from / 512)) (from / 512) m) y)

  module _ (h : Slot) (s : Tree) (x : Stands v first e h s) (f : is_directory e ≡ false) (a : from ≤ e.length) where
    -- a read of a file within its length
    within : (cs : List ℕ) × (read_from from room h s ≡ bytes_from from to_copy cs (map v.page (pages_of cs))) × (length cs ≡ (e.length + 1023) / 1024) × Chain v (first_link_of first) cs
    within = go h x
      where
        go : (h : Slot) → Stands v first e h s → (cs : List ℕ) × (read_from from room h s ≡ bytes_from from to_copy cs (map v.page (pages_of cs))) × (length cs ≡ (e.length + 1023) / 1024) × Chain v (first_link_of first) cs
        go Slot.dead x = absurd x
        go (Slot.file d cs ds) x = (cs, rw (x.0, le-leb from e.length a, x.4), x.2, x.3)
        go (Slot.directory d cs) x = tf x.1 f

    pub read_none : to_copy ≡ 0 → read_from from room h s ≡ ok []
    unfolding pages_with data_of_pages and_then
    read_none z = let y = within in y.1 ∙ rw z

    through : 0 < to_copy → read_from from room h s ≡ and_then (data_of_pages data_pages (map v.page data_pages)) (λ bytes. ok (slice bytes (from % 512) to_copy))
    through b =
        let y = within in
        let p = chain-part y.0 y.2 y.3 a b in
        y.1 ∙ ap₂ (λ (ps : List ℕ) (ds : List (Option (List ℕ))). and_then (data_of_pages ps ds) (λ bytes. ok (slice bytes (from % 512) to_copy))) p
        (with-map v.page from to_copy (pages_of y.0) ∙ ap (map v.page) p)

    pub read-unreadable : 0 < to_copy → (at : Place) → scan (unread v) data_pages (from / 512) ≡ Some at → read_from from room h s ≡ fault 2 at.page
    unfolding and_then
    read-unreadable b at q = let g : data_of_pages data_pages (map v.page data_pages) ≡ fault 2 at.page = rw q at (scan-gives v data_pages (from / 512)) in through b ∙ rw g

    pub read-bytes : 0 < to_copy → scan (unread v) data_pages (from / 512) ≡ None → read_from from room h s ≡ ok (slice (data_along v data_pages) (from % 512) to_copy)
    unfolding and_then
    read-bytes b q = let g : data_of_pages data_pages (map v.page data_pages) ≡ ok (data_along v data_pages) = rw q at (scan-gives v data_pages (from / 512)) in through b ∙ rw g

    -- the pages that are copied from
    pub pages-none : to_copy ≡ 0 → read_pages from room h s ≡ []
    unfolding pages_with
    pages-none z = go h x
      where
        go : (h : Slot) → Stands v first e h s → read_pages from room h s ≡ []
        go Slot.dead x = absurd x
        go (Slot.file d cs ds) x = rw (x.0, z)
        go (Slot.directory d cs) x = tf x.1 f

    pub pages-read : 0 < to_copy → read_pages from room h s ≡ data_pages
    pages-read b = go h x
      where
        go : (h : Slot) → Stands v first e h s → read_pages from room h s ≡ data_pages
        go Slot.dead x = absurd x
        go (Slot.file d cs ds) x = rw x.0 (chain-part cs x.2 x.3 a b)
        go (Slot.directory d cs) x = tf x.1 f

-- ---- the answers

pub read-refused : (geometry : Geometry) (x : Result (List ℕ)) (n p : ℕ) (f : Refusal) (before : List ℕ) → x ≡ fault n p → on_image {A = List ℕ} geometry (fault n p) ≡ fault (number_of f) (page_of f)
    → TellsRead (on_image geometry x) (Err f) before before
read-refused geometry x n p f before e g =
    let z : on_image geometry x ≡ fault (number_of f) (page_of f) = ap (on_image geometry) e ∙ g in record { count = tells-refused (on_image geometry x) length f (Err f) refl z; buffer = rw z }

pub read_told : (geometry : Geometry) (x : Result (List ℕ)) (bytes before after : List ℕ) (n : ℕ) → x ≡ ok bytes → length bytes ≡ n → after ≡ bytes ++ drop n before
    → TellsRead (on_image geometry x) (Ok n) before after
read_told geometry x bytes before after n e l b =
    let z : on_image geometry x ≡ ok bytes = ap (on_image geometry) e in
    record { count = tells-value (on_image geometry x) length bytes n z (sym l); buffer = rw (z, l) b }
