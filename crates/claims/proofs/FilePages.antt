-- A file's pages, read one by one and all together, are those that the tree has.
use Prim.Native.Nat.{ℕ, zero, suc, ◌+◌, ◌-◌, ◌*◌, ◌/◌, ◌%◌, ◌≤◌, ◌<◌}
use mathlib.Core.Bool.{Bool, cond, false, true}
use mathlib.Core.List.{List, [], ◌∷◌, ◌++◌, map}
use mathlib.Core.Logic.{⊎_elim}
use mathlib.Core.Option.{Option, none, some}
use mathlib.Core.Path.{◌∙◌, ◌≡◌, ap, ap₂, refl, sym}
use native.Mathlib.Omega.{arith}
use borrow.Author.Tests.{leb-true, leb-false, ne_eqb}
use lib.Dec.{leb}
use lib.ListN.{drop, get_or, length, take}
use lib.Seq.{take_all, take-append-add, take-append-le}
use Rattle.layout.specs.declared.Geometry.{Geometry}
use Rattle.layout.specs.See.{on_image}
use Rattle.lookup.specs.Read.{bytes_from, bytes_to_copy, data_of_pages, pages_with}
use Rattle.model.proofs.Equality.{bool, zero?}
use Rattle.model.proofs.Frame.{hit-self}
use Rattle.model.specs.Check.{Result, and_then, fault, ok}
use Rattle.model.specs.Standing.{file_pages, page_front}
use Rattle.model.specs.Tree.{times}
use Rattle.model.specs.View.{pages_of}
use Rattle.claims.specs.ReadsTree.{first_unreadable, followed_by, page_told, pages_told, whole_of}

append-none : (l : List ℕ) → l ++ [] ≡ l
append-none [] = refl
append-none (x ∷ l) = ap (λ (r : List ℕ). x ∷ r) (append-none l)

take-page : (n : ℕ) (d r : List ℕ) → length d ≡ 512 → take n (d ++ r) ≡ take n d ++ take (n - 512) r
take-page n d r l = ⊎_elim few many (bool (leb n 512))
  where
    few : leb n 512 ≡ true → take n (d ++ r) ≡ take n d ++ take (n - 512) r
    few t =
        let h = leb-true n 512 t in
        let z : n - 512 ≡ 0 = omega arith in
        take-append-le n d r (omega arith) ∙ rw z (sym (append-none (take n d)))

    many : leb n 512 ≡ false → take n (d ++ r) ≡ take n d ++ take (n - 512) r
    many t =
        let h = leb-false n 512 t in
        let z : n ≡ length d + (n - 512) = omega arith in
        ap (λ (k : ℕ). take k (d ++ r)) z ∙ take-append-add d r (n - 512) ∙ ap (λ (a : List ℕ). a ++ take (n - 512) r) (sym (take_all n d (omega arith)))

-- ---- the pages of a read

module _ {A : Type 0} where
  -- of all bytes, and of one page's
  with_all : (n : ℕ) (l : List A) → pages_with 0 n l ≡ take ((n + 511) / 512) l
  unfolding pages_with
  with_all n l =
      ⊎_elim (λ z. rw z refl) (λ h. let a : 0 + n + 511 ≡ n + 511 = omega arith in rw (ne_eqb n 0 (λ z. omega arith), a)) (zero? n)

  with-one : (k count : ℕ) (l : List A) → 0 < count → count ≤ 512 → pages_with (512 * k) count l ≡ drop k (take (suc k) l)
  unfolding pages_with
  with-one k count l h m =
      let a : 512 * k / 512 ≡ k = omega arith in
      let b : (512 * k + count + 511) / 512 ≡ suc k = omega arith in
      rw (ne_eqb count 0 (λ z. omega arith), a, b)

pub copy-all : (size room : ℕ) → size ≤ room → bytes_to_copy size 0 room ≡ size
copy-all size room h = go (leb room (size - 0)) refl
  where
    go : (b : Bool) → leb room (size - 0) ≡ b → cond b room (size - 0) ≡ size
    go true t = omega (arith, leb-true room (size - 0) t)
    go false t = omega arith

-- of a page with bytes of the file, up to the file's end
copy-few : (rest : ℕ) → 0 < rest → (0 < cond (leb 512 rest) 512 rest) × (cond (leb 512 rest) 512 rest ≤ 512)
copy-few rest h = go (leb 512 rest) refl
  where
    go : (b : Bool) → leb 512 rest ≡ b → (0 < cond b 512 rest) × (cond b 512 rest ≤ 512)
    go true t = (omega arith, omega arith)
    go false t = (h, omega (arith, leb-false 512 rest t))

copy-front : (rest : ℕ) (d : List ℕ) → length d ≡ 512 → take (cond (leb 512 rest) 512 rest) d ≡ take rest d
copy-front rest d l = go (leb 512 rest) refl
  where
    go : (b : Bool) → leb 512 rest ≡ b → take (cond b 512 rest) d ≡ take rest d
    go true t = take_all 512 d (omega arith) ∙ sym (take_all rest d (omega (arith, leb-true 512 rest t)))
    go false t = refl

module _ (f : ℕ → Option (List ℕ)) (sized : (p : ℕ) (d : List ℕ) → f p ≡ some d → length d ≡ 512) where
  -- ---- all pages together

  -- the first n bytes of these pages: as the tree has them, and as a read gathers them
  abbrev pub tree_bytes : ℕ → List ℕ → Option (List ℕ)
  tree_bytes n ps = whole_of (file_pages n (map f ps))

  abbrev pub gathered : ℕ → List ℕ → Result (List ℕ)
  gathered n ps = data_of_pages (take ((n + 511) / 512) ps) (take ((n + 511) / 512) (map f ps))

  -- the first of these pages that the tree has as unreadable
  abbrev pub first_at : ℕ → List ℕ → ℕ
  first_at n ps = first_unreadable (file_pages n (map f ps))

  abbrev pub Whole : List ℕ → ℕ → ℕ → Option (List ℕ) → Result (List ℕ) → Type 0
  Whole ps n k none (fault m p) = (m ≡ 2) × (f p ≡ none) × (1 ≤ times ps p) × (512 * k < n) × (get_or ps k 0 ≡ p)
  Whole ps n k none (ok bytes) = ⊥
  Whole ps n k (some whole) (fault m p) = ⊥
  Whole ps n k (some whole) (ok bytes) = take n bytes ≡ whole

  pub whole : (ps : List ℕ) (n : ℕ) → n ≤ 512 * length ps → Whole ps n (first_at n ps) (tree_bytes n ps) (gathered n ps)
  unfolding file_pages data_of_pages and_then
  whole [] n h = let z : n ≡ 0 = omega arith in rw z refl
  whole (p ∷ ps) n h = ⊎_elim (λ z. rw z refl) (more (whole ps (n - 512) (omega arith))) (zero? n)
    where
      one : (d : List ℕ) → f p ≡ some d → (k : ℕ) (w : Option (List ℕ)) (r : Result (List ℕ)) → Whole ps (n - 512) k w r
          → Whole (p ∷ ps) n (suc k) (followed_by (take n d) w) (and_then r (λ rest. ok (d ++ rest)))
      one d e k none (fault m q) x = (x.0, x.1, omega (arith, x.2), omega (arith, x.3), x.4)
      one d e k none (ok bytes) x = absurd x
      one d e k (some rest) (fault m q) x = absurd x
      one d e k (some rest) (ok bytes) x = take-page n d bytes (sized p d e) ∙ ap (λ (a : List ℕ). take n d ++ a) x

      first : Whole ps (n - 512) (first_at (n - 512) ps) (tree_bytes (n - 512) ps) (gathered (n - 512) ps) → 1 ≤ n → (o : Option (List ℕ)) → f p ≡ o
          → Whole (p ∷ ps) n (first_unreadable (page_front n o ∷ file_pages (n - 512) (map f ps))) (whole_of (page_front n o ∷ file_pages (n - 512) (map f ps)))
          (data_of_pages (p ∷ take ((n - 512 + 511) / 512) ps) (o ∷ take ((n - 512 + 511) / 512) (map f ps)))
      first x l none e = (refl, e, omega (arith, hit-self p), omega arith, refl)
      first x l (some d) e = one d e (first_at (n - 512) ps) (tree_bytes (n - 512) ps) (gathered (n - 512) ps) x

      more : Whole ps (n - 512) (first_at (n - 512) ps) (tree_bytes (n - 512) ps) (gathered (n - 512) ps) → 1 ≤ n
          → Whole (p ∷ ps) n (first_at n (p ∷ ps)) (tree_bytes n (p ∷ ps)) (gathered n (p ∷ ps))
      more x l =
          let k : (n + 511) / 512 ≡ suc ((n - 512 + 511) / 512) = omega arith in
          rw (k, ne_eqb n 0 (λ z. omega arith)) (first x l (f p) refl)

  pub read_all : (n : ℕ) (cs : List ℕ) → bytes_from 0 n cs (map f (pages_of cs)) ≡ and_then (gathered n (pages_of cs)) (λ bytes. ok (take n bytes))
  read_all n cs = rw (with_all n (pages_of cs), with_all n (map f (pages_of cs)))

  -- ---- page by page

  one-page : (ps : List ℕ) (k : ℕ) → k < length ps → (drop k (take (suc k) ps) ≡ get_or ps k 0 ∷ []) × (drop k (take (suc k) (map f ps)) ≡ f (get_or ps k 0) ∷ [])
  one-page [] k h = absurd (omega arith)
  one-page (p ∷ ps) zero h = (refl, refl)
  one-page (p ∷ ps) (suc k) h = one-page ps k (omega arith)

  -- the bytes of page k of a file of n bytes
  abbrev page_bytes : ℕ → ℕ → List ℕ → Result (List ℕ)
  page_bytes n k cs = bytes_from (512 * k) (bytes_to_copy n (512 * k) 512) cs (map f (pages_of cs))

  one-read : (n k : ℕ) (cs : List ℕ) → n ≤ 512 * length (pages_of cs) → 512 * k < n
      → page_bytes n k cs ≡ and_then (data_of_pages (get_or (pages_of cs) k 0 ∷ []) (f (get_or (pages_of cs) k 0) ∷ [])) (λ bytes. ok (take (bytes_to_copy n (512 * k) 512) bytes))
  one-read n k cs h l =
      let b = copy-few (n - 512 * k) (omega arith) in
      let o = one-page (pages_of cs) k (omega arith) in
      let z : 512 * k % 512 ≡ 0 = omega arith in
      rw (with-one k _ (pages_of cs) b.0 b.1, with-one k _ (map f (pages_of cs)) b.0 b.1, o.0, o.1, z)

  pub read-page : (n k : ℕ) (geometry : Geometry) (cs : List ℕ) → n ≤ 512 * length (pages_of cs) → 512 * k < n
      → page_told (on_image geometry (page_bytes n k cs)) ≡ page_front (n - 512 * k) (f (get_or (pages_of cs) k 0))
  unfolding data_of_pages and_then
  read-page n k geometry cs h l = rw (one-read n k cs h l) (go (f (get_or (pages_of cs) k 0)) refl)
    where
      go : (o : Option (List ℕ)) → f (get_or (pages_of cs) k 0) ≡ o
          → page_told (on_image geometry (and_then (data_of_pages (get_or (pages_of cs) k 0 ∷ []) (o ∷ [])) (λ bytes. ok (take (bytes_to_copy n (512 * k) 512) bytes))))
          ≡ page_front (n - 512 * k) o
      go none e = refl
      go (some d) e =
          ap {B = Option (List ℕ)} some (ap (take (bytes_to_copy n (512 * k) 512)) (append-none d) ∙ copy-front (n - 512 * k) d (sized (get_or (pages_of cs) k 0) d e))

  pub read-unreadable : (n k : ℕ) (cs : List ℕ) → n ≤ 512 * length (pages_of cs) → 512 * k < n → f (get_or (pages_of cs) k 0) ≡ none
      → page_bytes n k cs ≡ fault 2 (get_or (pages_of cs) k 0)
  unfolding data_of_pages and_then
  read-unreadable n k cs h l e = one-read n k cs h l ∙ rw e

  -- pages that are read as the tree has them make the tree's
  pub gather : (page : ℕ → Result (List ℕ)) (ps : List ℕ) (n k : ℕ) → n ≤ 512 * length ps
      → ((j : ℕ) → 512 * j < n → page_told (page (k + j)) ≡ page_front (n - 512 * j) (f (get_or ps j 0)))
      → pages_told page k ((n + 511) / 512) ≡ file_pages n (map f ps)
  unfolding file_pages
  gather page [] n k h e = let z : n ≡ 0 = omega arith in rw z refl
  gather page (p ∷ ps) n k h e =
      ⊎_elim (λ z. rw z refl)
      (λ l.
      let c : (n + 511) / 512 ≡ suc ((n - 512 + 511) / 512) = omega arith in
      let head : page_told (page k) ≡ page_front n (f p) = (let a : k + 0 ≡ k = omega arith in let b : n - 512 * 0 ≡ n = omega arith in rw (a, b) at (e 0 (omega arith))) in
      let rest = gather page ps (n - 512) (suc k) (omega arith) (λ j m.
      let a : k + suc j ≡ suc k + j = omega arith in
      let b : n - 512 * suc j ≡ n - 512 - 512 * j = omega arith in
      rw (a, b) at (e (suc j) (omega arith))) in
      rw (c, ne_eqb n 0 (λ z. omega arith)) (ap₂ (λ (x : Option (List ℕ)) (y : List (Option (List ℕ))). x ∷ y) head rest))
      (zero? n)
