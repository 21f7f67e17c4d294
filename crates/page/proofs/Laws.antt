-- What the layers above may use of `page_at` and `put`: a page that is put reads back, all else stays, and
-- puts of two pages commute. `Inside` is only asked for where the law would be false without.
use Rattle.std.proofs.Common.{◌≡◌, ℕ, suc, ◌+◌, ◌*◌, ◌/◌, ◌%◌, ◌<◌, ◌≤◌, Bool, true, false, cond, not, ◌&&◌, ◌||◌, eqb, ltb, ◌⊎◌, List, ◌++◌, length, get_or, sym, refl, ap, ◌∙◌, ap₂, inl, inr, ⊎_elim, arith, eqb-true}
use mathlib.Core.Option.{Option, none, some}
use borrow.Author.Tests.{eqb-false}
use Rattle.page.specs.declared.Format.{Format}
use Rattle.page.specs.Page.{part, put_at, stored_page, is_inside, read_stored, cluster_bytes, page_at, page_bytes, pages_in, page_start, stored_as, holds, is_put, put, written_bytes}
use Rattle.page.specs.PageLaws.{Inside}
use Rattle.page.proofs.Lists.{below_or_not, length_part, part-part, part_same, part_bytes, length-put-at, put_same, get_or-put-left, get_or-put-right, part-put-apart, put-with-next, put-commute}
use Rattle.page.proofs.Formats.{apart, front, inside-whole, kept_bytes, length_front, length-stored, read-bytes, read_length, read-stored, stored-front, whole-inside, with-kept}
use Rattle.page.proofs.Formats as formats
use Rattle.page.proofs.Puts.{Whole, placed, true-or-false, tf, inside, inside-true, page-inside, page-outside, page-is, put_is, same_refl, holds-some, put-held, put-either}

module _ (format : Format) where
  -- ---- what is read
  page-raw : (image : List ℕ) (p : ℕ) (d : List ℕ) → page_at format image p ≡ some d → Whole format image p × (read_stored format (stored_page format image p) ≡ some d)
  page-raw image p d e = go (is_inside format image p) refl (sym (page-is format image p) ∙ e)
    where
      go : (b : Bool) → is_inside format image p ≡ b → cond b (read_stored format (stored_page format image p)) none ≡ some d → Whole format image p × (read_stored format (stored_page format image p) ≡ some d)
      go true t x = (inside-true format image p t, x)
      go false t x = absurd (let z : ◌≡◌ {A = ℕ} 0 1 = cc in omega arith)

  -- a page that is read lies in the image
  pub page-in : (image : List ℕ) (p : ℕ) (d : List ℕ) → page_at format image p ≡ some d → Inside format image p
  page-in image p d e = whole-inside format (length image) p (page-raw image p d e).0

  pub page-length : (image : List ℕ) (p : ℕ) (d : List ℕ) → page_at format image p ≡ some d → length d ≡ 512
  page-length image p d e =
      let r = page-raw image p d e in
      read_length format (stored_page format image p) d (length_part image (page_start format p) (page_bytes format) r.0) r.1

  pub page-bytes : (image : List ℕ) (p : ℕ) (d : List ℕ) → ((i : ℕ) → get_or image i 0 < 256) → page_at format image p ≡ some d → (i : ℕ) → get_or d i 0 < 256
  page-bytes image p d h e = read-bytes format (stored_page format image p) d (part_bytes image (page_start format p) (page_bytes format) h) (page-raw image p d e).1

  -- a page read depends only on its own bytes and the image's length
  raw_same : (image other : List ℕ) (p : ℕ) → length image ≡ length other → (Whole format image p → stored_page format image p ≡ stored_page format other p) → page_at format image p ≡ page_at format other p
  raw_same image other p e f =
      ⊎_elim (λ (h : p < pages_in format (length image)).
      let w = inside-whole format (length image) p h in
      page-inside format image p w ∙ ap (read_stored format) (f w) ∙ sym (page-inside format other p (omega arith)))
      (λ (h : pages_in format (length image) ≤ p). page-outside format image p h ∙ sym (page-outside format other p (rw (← e) h)))
      (below_or_not p (pages_in format (length image)))

  pub page-local : (image other : List ℕ) (p : ℕ) → length image ≡ length other
      → ((i : ℕ) → page_start format p ≤ i → i < page_start format p + page_bytes format → get_or image i 0 ≡ get_or other i 0) → page_at format image p ≡ page_at format other p
  page-local image other p e f = raw_same image other p e (λ h. part_same image other (page_start format p) (page_bytes format) e h f)

  -- a page past the last whole one is never read
  pub page-past : (image : List ℕ) (p : ℕ) → pages_in format (length image) ≤ p → page_at format image p ≡ none
  page-past = page-outside format

  -- an image of whole clusters has two pages for each
  pub cluster-pages : (bytes : ℕ) → bytes % cluster_bytes format ≡ 0 → pages_in format bytes ≡ 2 * (bytes / cluster_bytes format)
  cluster-pages = formats.cluster-pages format

  -- ---- one page in its place
  module _ (image : List ℕ) (p : ℕ) (bytes : List ℕ) (h : Whole format image p) (hb : length bytes ≡ 512) where
    size : length (stored_as format (stored_page format image p) bytes) ≡ page_bytes format
    size = length-stored format (stored_page format image p) bytes hb (length_part image (page_start format p) (page_bytes format) h)

    fits : page_start format p + length (stored_as format (stored_page format image p) bytes) ≤ length image
    fits = omega (arith, size)

    pub length-placed : length (placed format image p bytes) ≡ length image
    length-placed = length-put-at image (page_start format p) (stored_as format (stored_page format image p) bytes) fits

    pub stored-placed : stored_page format (placed format image p bytes) p ≡ stored_as format (stored_page format image p) bytes
    stored-placed =
        ap (part (placed format image p bytes) (page_start format p)) (sym size) ∙ put_same image (page_start format p) (stored_as format (stored_page format image p) bytes) fits

    read-placed : page_at format (placed format image p bytes) p ≡ some bytes
    read-placed =
        page-inside format (placed format image p bytes) p (omega (arith, length-placed)) ∙ ap (read_stored format) stored-placed
        ∙ read-stored format (stored_page format image p) bytes hb

    pub raw-other : (q : ℕ) → (q ≡ p → ⊥) → Whole format image q → stored_page format (placed format image p bytes) q ≡ stored_page format image q
    raw-other q n k =
        part-put-apart image (page_start format p) (stored_as format (stored_page format image p) bytes) fits (page_start format q) (page_bytes format) k
        (⊎_elim (λ (z : q < p). inl (apart format q p z)) (λ (z : p ≤ q). inr (omega (arith, size, apart format p q (strictly n z)))) (below_or_not q p))
      where
        strictly : (q ≡ p → ⊥) → p ≤ q → suc p ≤ q
        strictly n z = omega arith

    -- the spare bytes from 12 on are put as they stand
    placed-front : placed format image p bytes ≡ put_at image (page_start format p) (front format bytes)
    placed-front =
        let n : page_start format p + written_bytes format ≡ page_start format p + length (front format bytes) = omega (arith, length_front format bytes hb) in
        ap (put_at image (page_start format p))
        (stored-front format (stored_page format image p) bytes
        ∙ ap (λ (t : List ℕ). front format bytes ++ t) (part-part image (page_start format p) (page_bytes format) (written_bytes format) (kept_bytes format) (omega (arith, with-kept format)) ∙ ap (λ (k : ℕ). part image k (kept_bytes format)) n))
        ∙ put-with-next image (page_start format p) (front format bytes) (kept_bytes format) (omega (arith, with-kept format))

    outside-placed : (i : ℕ) → (i < page_start format p) ⊎ (page_start format p + written_bytes format ≤ i) → get_or (placed format image p bytes) i 0 ≡ get_or image i 0
    outside-placed i side =
        ap (λ (t : List ℕ). get_or t i 0) placed-front
        ∙ ⊎_elim (λ (z : i < page_start format p). get_or-put-left image (page_start format p) (front format bytes) (omega (arith, length_front format bytes hb, with-kept format)) i z)
        (λ (z : page_start format p + written_bytes format ≤ i). get_or-put-right image (page_start format p) (front format bytes) (omega (arith, length_front format bytes hb, with-kept format)) i (omega (arith, length_front format bytes hb))) side

  -- ---- what is put
  module _ (always : Bool) (p : ℕ) (bytes image : List ℕ) (hb : length bytes ≡ 512) where
    pub length-put : length (put format always p bytes image) ≡ length image
    length-put = put-either format (λ (l : List ℕ). length l ≡ length image) always p bytes image refl (λ h. length-placed image p bytes h hb)

    -- the bytes of other pages and the spare bytes 12 to 15 stay
    pub outside : (i : ℕ) → (i < page_start format p) ⊎ (page_start format p + written_bytes format ≤ i) → get_or (put format always p bytes image) i 0 ≡ get_or image i 0
    outside i side =
        put-either format (λ (l : List ℕ). get_or l i 0 ≡ get_or image i 0) always p bytes image refl (λ h. outside-placed image p bytes h hb i side)

    -- the image keeps the other pages' bytes
    pub raw-put : (q : ℕ) → (q ≡ p → ⊥) → Whole format image q → stored_page format (put format always p bytes image) q ≡ stored_page format image q
    raw-put q n k =
        put-either format (λ (l : List ℕ). stored_page format l q ≡ stored_page format image q) always p bytes image refl (λ h. raw-other image p bytes h hb q n k)

    -- every other page reads as before
    pub read-other : (q : ℕ) → (q ≡ p → ⊥) → page_at format (put format always p bytes image) q ≡ page_at format image q
    read-other q n = raw_same (put format always p bytes image) image q length-put (λ k. raw-put q n (omega (arith, length-put)))

    -- a page that is put reads back
    pub read-written : Inside format image p → page_at format (put format always p bytes image) p ≡ some bytes
    read-written i =
        rw (put_is format always p bytes image, inside format image p (inside-whole format (length image) p i)) (go always (holds (page_at format image p) bytes) refl)
      where
        h : Whole format image p
        h = inside-whole format (length image) p i

        go : (b x : Bool) → holds (page_at format image p) bytes ≡ x → page_at format (cond (b || not x) (placed format image p bytes) image) p ≡ some bytes
        go true x e = read-placed image p bytes h hb
        go false true e = holds-some (page_at format image p) bytes e
        go false false e = read-placed image p bytes h hb

    -- both in one
    pub page-put : Inside format image p → (q : ℕ) → page_at format (put format always p bytes image) q ≡ cond (eqb p q) (some bytes) (page_at format image q)
    page-put h q =
        ⊎_elim
        (λ (t : eqb p q ≡ true). rw t (ap (page_at format (put format always p bytes image)) (sym (eqb-true p q t)) ∙ read-written h))
        (λ (f : eqb p q ≡ false). rw f (read-other q (λ z. eqb-false p q f (sym z))))
        (true-or-false (eqb p q))

  -- a page that reads as the bytes already is not rewritten
  pub rewritten-same : (image : List ℕ) (p : ℕ) (bytes : List ℕ) → page_at format image p ≡ some bytes → put format false p bytes image ≡ image
  rewritten-same image p bytes e = put-held format p bytes image (ap (λ o. holds o bytes) e ∙ same_refl bytes)

  -- ---- two puts
  put-inside : (always : Bool) (p : ℕ) (bytes image : List ℕ) → is_put format always p bytes image ≡ true → Whole format image p
  put-inside always p bytes image t = go (is_inside format image p) refl t
    where
      go : (b : Bool) → is_inside format image p ≡ b → (b && (always || not (holds (page_at format image p) bytes))) ≡ true → Whole format image p
      go true e t = inside-true format image p e
      go false e t = tf t refl

  -- the second put asks and puts what it would in the first image
  put-after : (a : Bool) (p : ℕ) (d : List ℕ) (b : Bool) (q : ℕ) (e image : List ℕ) → length e ≡ 512 → (p ≡ q → ⊥)
      → put format a p d (put format b q e image) ≡ cond (is_put format a p d image) (put_at (put format b q e image) (page_start format p) (stored_as format (stored_page format image p) d)) (put format b q e image)
  put-after a p d b q e image he n =
      put_is format a p d (put format b q e image)
      ∙ ap (λ (x : Bool). cond x (put_at (put format b q e image) (page_start format p) (stored_as format (stored_page format (put format b q e image) p) d)) (put format b q e image))
      (ap₂ (λ (l : ℕ) (o : Option (List ℕ)). ltb p (pages_in format l) && (a || not (holds o d))) (length-put b q e image he) (read-other b q e image he p n))
      ∙ go (is_put format a p d image) refl
    where
      go : (x : Bool) → is_put format a p d image ≡ x
          → cond x (put_at (put format b q e image) (page_start format p) (stored_as format (stored_page format (put format b q e image) p) d)) (put format b q e image)
          ≡ cond x (put_at (put format b q e image) (page_start format p) (stored_as format (stored_page format image p) d)) (put format b q e image)
      go true t = ap (λ (raw : List ℕ). put_at (put format b q e image) (page_start format p) (stored_as format raw d)) (raw-put b q e image he p n (put-inside a p d image t))
      go false t = refl

  placed-commute : (p : ℕ) (x : List ℕ) (q : ℕ) (y image : List ℕ) → length x ≡ page_bytes format → length y ≡ page_bytes format → Whole format image p → Whole format image q → (p ≡ q → ⊥)
      → put_at (put_at image (page_start format q) y) (page_start format p) x ≡ put_at (put_at image (page_start format p) x) (page_start format q) y
  placed-commute p x q y image hx hy hp hq n =
      ⊎_elim (λ (z : p < q). sym (put-commute image (page_start format p) x (page_start format q) y (omega (arith, apart format p q z)) (omega arith)))
      (λ (z : q ≤ p). put-commute image (page_start format q) y (page_start format p) x (omega (arith, apart format q p (strictly n z))) (omega arith))
      (below_or_not p q)
    where
      strictly : (p ≡ q → ⊥) → q ≤ p → suc q ≤ p
      strictly n z = omega arith

  pub writes-commute : (a : Bool) (p : ℕ) (d : List ℕ) (b : Bool) (q : ℕ) (e image : List ℕ) → length d ≡ 512 → length e ≡ 512 → (p ≡ q → ⊥)
      → put format a p d (put format b q e image) ≡ put format b q e (put format a p d image)
  writes-commute a p d b q e image hd he n =
      let x = is_put format a p d image in
      let y = is_put format b q e image in
      let left : put format a p d (put format b q e image) ≡ cond x (put_at (cond y (placed format image q e) image) (page_start format p) (stored_as format (stored_page format image p) d)) (cond y (placed format image q e) image) =
      put-after a p d b q e image he n ∙ ap (λ (l : List ℕ). cond x (put_at l (page_start format p) (stored_as format (stored_page format image p) d)) l) (put_is format b q e image) in
      let right : put format b q e (put format a p d image) ≡ cond y (put_at (cond x (placed format image p d) image) (page_start format q) (stored_as format (stored_page format image q) e)) (cond x (placed format image p d) image) =
      put-after b q e a p d image hd (λ z. n (sym z)) ∙ ap (λ (l : List ℕ). cond y (put_at l (page_start format q) (stored_as format (stored_page format image q) e)) l) (put_is format a p d image) in
      left ∙ go (is_put format a p d image) refl (is_put format b q e image) refl ∙ sym right
    where
      go : (x : Bool) → is_put format a p d image ≡ x → (y : Bool) → is_put format b q e image ≡ y
          → cond x (put_at (cond y (placed format image q e) image) (page_start format p) (stored_as format (stored_page format image p) d)) (cond y (placed format image q e) image)
          ≡ cond y (put_at (cond x (placed format image p d) image) (page_start format q) (stored_as format (stored_page format image q) e)) (cond x (placed format image p d) image)
      go true t true u =
          let hp = put-inside a p d image t in
          let hq = put-inside b q e image u in
          placed-commute p (stored_as format (stored_page format image p) d) q (stored_as format (stored_page format image q) e) image (size image p d hp hd) (size image q e hq he) hp hq n
      go true t false u = refl
      go false t true u = refl
      go false t false u = refl
