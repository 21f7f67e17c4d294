-- A file's pages: the scan for an unreadable one, and the data of the readable ones.
use Rattle.std.specs.Prelude.{Some, None}
use Rattle.std.specs.Prelude.{Option}
use Prim.Native.Nat.{◌*◌, ◌+◌, ◌-◌, ◌<◌, ◌≤◌, suc, zero, ℕ}
use mathlib.Core.Bool.{Bool, cond, false, not, true}
use mathlib.Core.List.{List, [], ◌++◌, ◌∷◌, map}
use mathlib.Core.Logic.{⊎_elim}
use mathlib.Core.Option.{Option as Maybe, none, some}
use mathlib.Core.Path.{◌∙◌, ◌≡◌, ap, refl, sym}
use native.Mathlib.Numerals.{add-one}
use native.Mathlib.Omega.{arith}
use lib.ListN.{length, length-append}
use lib.Seq.{sets}
use Rattle.model.proofs.Equality.{tf}
use Rattle.model.specs.Bytes.{slice}
use Rattle.model.specs.Check.{Result, and_then, fault, ok}
use Rattle.model.specs.View.{View}
use Rattle.page.specs.Page.{Read, is_some, or_kept}
use Rattle.layout.specs.Table.{data_of}
use Rattle.lookup.specs.Descend.{Piece, data_along, pages_for}
use Rattle.tree.specs.Scan.{scan, unread}
use Rattle.lookup.specs.Read.{data_of_pages}
use Rattle.tree.specs.Slots.{slot_page, slot_pages, cluster_after}
use Rattle.tree.specs.declared.along.Place.{Place}
use Rattle.lookup.proofs.CopyLaws.{sets-join, slice-length, slice-piece}

module _ (v : View) where
  -- the first page of pages that are all readable is, and so are the others
  pub all-readable : (p : ℕ) (ps : List ℕ) (k : ℕ) → scan (unread v) (p ∷ ps) k ≡ None
      → (is_some (v.page p) ≡ true) × (scan (unread v) ps (suc k) ≡ None)
  unfolding scan
  all-readable p ps k h = go (is_some (v.page p)) h
    where
      go : (b : Bool) → cond (not b) (Some (record { slot = k; page = p })) (scan (unread v) ps (suc k)) ≡ None → (b ≡ true) × (scan (unread v) ps (suc k) ≡ None)
      go true e = (refl, e)
      go false e = absurd (let z : ◌≡◌ {A = ℕ} 0 1 = cc in omega arith)

  -- what the scan says of the data: 2 for the first unreadable page, or all of it
  abbrev pub Gives : Option Place → List ℕ → Result (List ℕ) → Type 0
  Gives None bytes r = r ≡ ok bytes
  Gives (Some at) bytes r = r ≡ fault 2 at.page

  pub scan-gives : (ps : List ℕ) (k : ℕ) → Gives (scan (unread v) ps k) (data_along v ps) (data_of_pages ps (map v.page ps))
  unfolding scan data_of_pages data_along and_then
  scan-gives [] k = refl
  scan-gives (p ∷ ps) k = go (v.page p) (scan (unread v) ps (suc k)) (scan-gives ps (suc k))
    where
      go : (o : Maybe (List ℕ)) (r : Option Place) → Gives r (data_along v ps) (data_of_pages ps (map v.page ps))
          → Gives (cond (not (is_some o)) (Some (record { slot = k; page = p })) r) (data_of o ++ data_along v ps) (data_of_pages (p ∷ ps) (o ∷ map v.page ps))
      go none r g = refl
      go (some d) None g = rw g
      go (some d) (Some at) g = rw g

  module _ (sized : (p : ℕ) (d : List ℕ) → v.page p ≡ some d → length d ≡ 512) where
    -- a readable page, as it was read
    pub read-data : (p : ℕ) {before after : List ℕ} {r : Bool} → is_some (v.page p) ≡ true → Read (v.page p) before r after → (length after ≡ 512) × (data_of (v.page p) ≡ after)
    read-data p {before} {after} i k = go (v.page p) refl i k.buffer
      where
        go : (o : Maybe (List ℕ)) → v.page p ≡ o → is_some o ≡ true → after ≡ or_kept o before → (length after ≡ 512) × (data_of o ≡ after)
        go none e i b = tf i refl
        go (some d) e i b = (ap length b ∙ sized p d e, sym b)

    -- as many bytes as the readable pages have
    pub joined_length : (ps : List ℕ) (k : ℕ) → scan (unread v) ps k ≡ None → length (data_along v ps) ≡ 512 * length ps
    unfolding data_along
    joined_length [] k h = refl
    joined_length (p ∷ ps) k h =
        let a = all-readable p ps k h in
        let l : length (data_of (v.page p)) ≡ 512 = go (v.page p) refl a.0 in
        simp length-append (omega (arith, joined_length ps (suc k) a.1))
      where
        go : (o : Maybe (List ℕ)) → v.page p ≡ o → is_some o ≡ true → length (data_of o) ≡ 512
        go none e i = tf i refl
        go (some d) e i = sized p d e

    module _ (t : List ℕ) where
      pub pages-count : (c k n : ℕ) → length (slot_pages t c k n) ≡ n
      unfolding slot_pages
      pages-count c k zero = refl
      pages-count c k (suc n) = ap suc (pages-count (cluster_after t c k) (suc k) n)

      pages-less : (skip left n : ℕ) → skip < 512 → 0 < left → Piece skip left n → pages_for skip left ≡ suc (pages_for 0 (left - n))
      pages-less skip left n a b p = ⊎_elim (λ (e : n ≡ left). omega (arith, p.within)) (λ (e : skip + n ≡ 512). omega (arith, p.wanted)) p.whole

      -- one page of the copy: its piece, then the rest from the next page's start
      pub record CopyStep (c k skip left n x : ℕ) (after : List ℕ) (less : ℕ) : Type 0 where
        pub long : length after ≡ 512
        pub bytes : slice (data_along v (slot_pages t c k (pages_for skip left))) skip left ≡ slice after skip n ++ slice (data_along v (slot_pages t x (k + 1) (pages_for 0 less))) 0 less
        pub later : scan (unread v) (slot_pages t x (k + 1) (pages_for 0 less)) (k + 1) ≡ None
        pub fewer : pages_for skip left ≡ suc (pages_for 0 less)

      pub copy_step : (c k skip left n x page less : ℕ) {before after : List ℕ} {r : Bool} → skip < 512 → 0 < left → Piece skip left n → x ≡ cluster_after t c k → page ≡ slot_page c k → less ≡ left - n
          → scan (unread v) (slot_pages t c k (pages_for skip left)) k ≡ None → Read (v.page page) before r after → CopyStep c k skip left n x after less
      unfolding slot_pages data_along
      copy_step c k skip left n x page less {after = after} a b p s at l h read =
          let f : pages_for skip left ≡ suc (pages_for 0 less) = pages-less skip left n a b p ∙ ap (λ (m : ℕ). suc (pages_for 0 m)) (sym l) in
          let all = all-readable (slot_page c k) (slot_pages t (cluster_after t c k) (suc k) (pages_for 0 less)) k (rw f at h) in
          let d = read-data (slot_page c k) all.0 (rw at at read) in
          let e = add-one k in
          record {
            long = d.0;
            bytes = rw (f, d.1, l, e, s) (slice-piece after (data_along v (slot_pages t (cluster_after t c k) (suc k) (pages_for 0 (left - n)))) skip left n d.0 p.wanted p.within p.whole);
            later = rw (e, s) all.1;
            fewer = f;
          }

      -- the piece put into the buffer, and what is left, give the whole copy
      pub copy_more : (c k skip left n x less : ℕ) {after : List ℕ} → CopyStep c k skip left n x after less → skip + n ≤ 512 → (out out' : List ℕ) (done to : ℕ)
          → out' ≡ sets out done (slice after skip n) → to ≡ done + n
          → sets out' to (slice (data_along v (slot_pages t x (k + 1) (pages_for 0 less))) 0 less) ≡ sets out done (slice (data_along v (slot_pages t c k (pages_for skip left))) skip left)
      copy_more c k skip left n x less {after} s h out out' done to e f =
          rw (e, s.bytes)
          (sets-join out done (slice after skip n) (slice (data_along v (slot_pages t x (k + 1) (pages_for 0 less))) 0 less) to (omega (arith, slice-length after skip n (omega (arith, s.long)))))

pub copy-end : (bytes out : List ℕ) (done skip left : ℕ) → left ≡ 0 → out ≡ sets out done (slice bytes skip left)
copy-end bytes out done skip left e = rw e
