-- The definitions of `page_at` and `put` case by case: in the image or not, written or not.
use Rattle.std.proofs.Common.{◌≡◌, ℕ, ◌+◌, ◌<◌, ◌≤◌, Bool, true, false, cond, not, ◌&&◌, ◌||◌, eqb, ◌⊎◌, List, [], ◌∷◌, length, sym, refl, ap, ◌∙◌, ap₂, inl, inr, ⊎_elim, arith, ltb-true, le-ltb, lt-ltb, eq-eqb, eqb-true}
use mathlib.Core.Option.{Option, none, some}
use Rattle.page.specs.declared.Format.{Format}
use Rattle.page.specs.Page.{put_at, stored_page, is_inside, read_stored, page_at, page_bytes, pages_in, page_start, is_some, Read, stored_as, same_bytes, holds, is_put, put}
use Rattle.page.proofs.Formats.{inside-whole, whole-inside}

pub true-or-false : (b : Bool) → (b ≡ true) ⊎ (b ≡ false)
true-or-false true = inl refl
true-or-false false = inr refl

pub tf : {A : Type 0} {b : Bool} → b ≡ true → b ≡ false → A
tf t f = absurd (let z : ◌≡◌ {A = ℕ} 0 1 = clash (sym t ∙ f) in omega arith)
  where
    clash : true ≡ false → ◌≡◌ {A = ℕ} 0 1
    clash e = cc

-- ---- the test on bytes
pub same_refl : (l : List ℕ) → same_bytes l l ≡ true
same_refl [] = refl
same_refl (x ∷ l) = rw (eq-eqb x x refl) (same_refl l)

pub same-eq : (l m : List ℕ) → same_bytes l m ≡ true → l ≡ m
same-eq [] [] e = refl
same-eq [] (y ∷ m) e = tf e refl
same-eq (x ∷ l) [] e = tf e refl
same-eq (x ∷ l) (y ∷ m) e =
    ⊎_elim (λ (t : eqb x y ≡ true). ap₂ ◌∷◌ (eqb-true x y t) (same-eq l m (rw t at e))) (λ (f : eqb x y ≡ false). tf (rw f at e) refl) (true-or-false (eqb x y))

-- a bool that is true just where the lists are equal
pub same_by : (l m : List ℕ) (r : Bool) → (r ≡ true → l ≡ m) → (l ≡ m → r ≡ true) → r ≡ same_bytes l m
same_by l m true f g = sym (ap (same_bytes l) (sym (f refl)) ∙ same_refl l)
same_by l m false f g = ⊎_elim (λ (t : same_bytes l m ≡ true). tf (g (same-eq l m t)) refl) sym (true-or-false (same_bytes l m))

pub holds-some : (o : Option (List ℕ)) (bytes : List ℕ) → holds o bytes ≡ true → o ≡ some bytes
holds-some none bytes e = tf e refl
holds-some (some old) bytes e = ap {B = Option (List ℕ)} some (same-eq old bytes e)

-- ---- what a read says, and what judging alone says
pub read_some : (o : Option (List ℕ)) {before after : List ℕ} {r : Bool} → Read o before r after → r ≡ true → o ≡ some after
read_some none e t = tf t e.readable
read_some (some d) e t = ap {B = Option (List ℕ)} some (sym e.buffer)

pub judged-none : (o : Option (List ℕ)) → is_some o ≡ false → o ≡ none
judged-none none e = refl
judged-none (some d) e = tf refl e

pub read_none : (o : Option (List ℕ)) {before after : List ℕ} {r : Bool} → Read o before r after → r ≡ false → o ≡ none
read_none o e f = judged-none o (sym e.readable ∙ f)

-- ---- the sealed definitions, opened for this crate's proofs alone
module _ (format : Format) where
  -- the page in its place
  abbrev pub placed : List ℕ → ℕ → List ℕ → List ℕ
  placed image p bytes = put_at image (page_start format p) (stored_as format (stored_page format image p) bytes)

  -- the page's bytes all lie in the image
  abbrev pub Whole : List ℕ → ℕ → Type 0
  Whole image p = page_start format p + page_bytes format ≤ length image

  pub page-is : (image : List ℕ) (p : ℕ) → page_at format image p ≡ cond (is_inside format image p) (read_stored format (stored_page format image p)) none
  unfolding page_at
  page-is image p = refl

  pub put_is : (always : Bool) (p : ℕ) (bytes image : List ℕ)
      → put format always p bytes image ≡ cond (is_put format always p bytes image) (placed image p bytes) image
  unfolding put
  put_is always p bytes image = refl

  -- ---- in the image
  pub inside : (image : List ℕ) (p : ℕ) → Whole image p → is_inside format image p ≡ true
  inside image p h = lt-ltb p (pages_in format (length image)) (whole-inside format (length image) p h)

  pub inside-true : (image : List ℕ) (p : ℕ) → is_inside format image p ≡ true → Whole image p
  inside-true image p e = inside-whole format (length image) p (ltb-true p (pages_in format (length image)) e)

  -- what the code knows of a page below the count, and of the part that it lends
  pub counted-whole : (image : List ℕ) (p : ℕ) {count : ℕ} → count ≡ pages_in format (length image) → p < count → Whole image p
  counted-whole image p e h = inside-whole format (length image) p (rw e at h)

  pub lent-whole : (image : List ℕ) (p : ℕ) {count from size : ℕ} → count ≡ pages_in format (length image) → p < count
      → from ≡ page_start format p → size ≡ page_bytes format → from + size ≤ length image
  lent-whole image p e h f g = rw (f, g) (counted-whole image p e h)

  pub page-inside : (image : List ℕ) (p : ℕ) → Whole image p → page_at format image p ≡ read_stored format (stored_page format image p)
  page-inside image p h = page-is image p ∙ rw (inside image p h)

  pub page-outside : (image : List ℕ) (p : ℕ) → pages_in format (length image) ≤ p → page_at format image p ≡ none
  page-outside image p h = page-is image p ∙ rw (le-ltb p (pages_in format (length image)) h)

  -- ---- the cases of `put`
  pub put_written : (p : ℕ) (bytes image : List ℕ) → Whole image p → put format true p bytes image ≡ placed image p bytes
  put_written p bytes image h = put_is true p bytes image ∙ rw (inside image p h)

  pub put-outside : (always : Bool) (p : ℕ) (bytes image : List ℕ) → pages_in format (length image) ≤ p → put format always p bytes image ≡ image
  put-outside always p bytes image h = put_is always p bytes image ∙ rw (le-ltb p (pages_in format (length image)) h)

  pub put-held : (p : ℕ) (bytes image : List ℕ) → holds (page_at format image p) bytes ≡ true → put format false p bytes image ≡ image
  put-held p bytes image e = put_is false p bytes image ∙ rw e (go (is_inside format image p))
    where
      go : (b : Bool) → cond (b && false) (placed image p bytes) image ≡ image
      go true = refl
      go false = refl

  pub put-changed : (p : ℕ) (bytes image : List ℕ) → holds (page_at format image p) bytes ≡ false → put format false p bytes image ≡ put format true p bytes image
  put-changed p bytes image e = put_is false p bytes image ∙ rw e (sym (put_is true p bytes image))

  -- the image as it is, or, in the image, the page in its place
  pub put-either : (C : List ℕ → Type 0) (always : Bool) (p : ℕ) (bytes image : List ℕ) → C image
      → (Whole image p → C (placed image p bytes)) → C (put format always p bytes image)
  put-either C always p bytes image kept done =
      rw (put_is always p bytes image) (go (is_inside format image p) refl (always || not (holds (page_at format image p) bytes)))
    where
      go : (b : Bool) → is_inside format image p ≡ b → (x : Bool) → C (cond (b && x) (placed image p bytes) image)
      go true e true = done (inside-true image p e)
      go true e false = kept
      go false e x = kept
