-- Pages of the allocatable clusters written in turn: what is then read of them, and that all else stays.
use Rattle.layout.specs.declared.Geometry.{Geometry}
use Prim.Native.Nat.{ℕ, ◌+◌, ◌*◌, ◌<◌, ◌≤◌}
use mathlib.Core.Bool.{cond, false, true}
use mathlib.Core.List.{List, [], ◌++◌, ◌∷◌}
use mathlib.Core.Logic.{◌⊎◌, inl, inr}
use mathlib.Core.Option.{Option, none, some}
use mathlib.Core.Path.{◌∙◌, ◌≡◌, ap, refl, sym}
use native.Mathlib.Omega.{arith}
use borrow.Author.Tests.{eq-eqb, eqb-false, eqb-true, ltb-false, ne_eqb}
use lib.Dec.{eqb, ltb}
use lib.ListN.{length}
use Rattle.page.specs.Page.{page_at, pages_in, put}
use Rattle.page.proofs.Laws.{length-put, page-put, read-other}
use Rattle.layout.specs.See.{image_page, page_in}
use Rattle.model.specs.Writes.{PageWrite, pages_after}
use Rattle.model.proofs.Equality.{bool}
use Rattle.change.specs.Image.{Lands, write_pages}

pub lands-append : (end : ℕ) (xs zs : List PageWrite) → Lands end xs → Lands end zs → Lands end (xs ++ zs)
lands-append end [] zs h k = k
lands-append end (w ∷ xs) zs h k = (h.0, h.1, lands-append end xs zs h.2 k)

eq-shift : (a b c : ℕ) → eqb (c + a) (c + b) ≡ eqb a b
eq-shift a b c = go (bool (eqb a b))
  where
    go : (eqb a b ≡ true) ⊎ (eqb a b ≡ false) → eqb (c + a) (c + b) ≡ eqb a b
    go (inl e) = eq-eqb (c + a) (c + b) (ap (λ n. c + n) (eqb-true a b e)) ∙ sym e
    go (inr e) = ne_eqb (c + a) (c + b) (λ z. eqb-false a b e (omega arith)) ∙ sym e

module _ (geometry : Geometry) (end : ℕ) where
  -- one page
  pub page-one : (w : PageWrite) (image : List ℕ) → 2 * (geometry.offset + end) ≤ pages_in geometry.format (length image) → w.page < 2 * end → length w.bytes ≡ 512
      → (a : ℕ) → page_in geometry end (put geometry.format w.always (image_page geometry w.page) w.bytes image) a ≡ cond (eqb w.page a) (some w.bytes) (page_in geometry end image a)
  unfolding page_in
  page-one w image room low long a = go (bool (ltb a (2 * end)))
    where
      go : (ltb a (2 * end) ≡ true) ⊎ (ltb a (2 * end) ≡ false)
          → cond (ltb a (2 * end)) (page_at geometry.format (put geometry.format w.always (image_page geometry w.page) w.bytes image) (image_page geometry a)) none
          ≡ cond (eqb w.page a) (some w.bytes) (cond (ltb a (2 * end)) (page_at geometry.format image (image_page geometry a)) none)
      go (inl e) =
          rw e (page-put geometry.format w.always (image_page geometry w.page) w.bytes image long (omega arith) (image_page geometry a)
          ∙ ap (λ b. cond b (some w.bytes) (page_at geometry.format image (image_page geometry a))) (eq-shift w.page a (2 * geometry.offset)))
      go (inr e) =
          let high = ltb-false a (2 * end) e in
          rw (e, ne_eqb w.page a (λ z. omega arith))

  pub length-pages-written : (ws : List PageWrite) (image : List ℕ) → Lands end ws → length (write_pages geometry ws image) ≡ length image
  length-pages-written [] image h = refl
  length-pages-written (w ∷ ws) image h =
      length-pages-written ws (put geometry.format w.always (image_page geometry w.page) w.bytes image) h.2 ∙ length-put geometry.format w.always (image_page geometry w.page) w.bytes image h.1

  after-ext : (ws : List PageWrite) (f g : ℕ → Option (List ℕ)) → ((x : ℕ) → f x ≡ g x) → (a : ℕ) → pages_after ws f a ≡ pages_after ws g a
  after-ext [] f g h a = h a
  after-ext (w ∷ ws) f g h a = after-ext ws _ _ (λ x. ap (cond (eqb w.page x) (some w.bytes)) (h x)) a

  -- what is read of the allocatable pages is what the writes in turn give
  pub pages-written : (ws : List PageWrite) (image : List ℕ) → 2 * (geometry.offset + end) ≤ pages_in geometry.format (length image) → Lands end ws
      → (a : ℕ) → page_in geometry end (write_pages geometry ws image) a ≡ pages_after ws (page_in geometry end image) a
  pages-written [] image room h a = refl
  pages-written (w ∷ ws) image room h a =
      pages-written ws (put geometry.format w.always (image_page geometry w.page) w.bytes image) (rw (length-put geometry.format w.always (image_page geometry w.page) w.bytes image h.1) room) h.2 a
      ∙ after-ext ws _ _ (λ x. page-one w image room h.0 h.1 x) a

  -- a page below the allocatable clusters stays
  pub low-page-kept : (ws : List PageWrite) (image : List ℕ) → Lands end ws → (q : ℕ) → q < 2 * geometry.offset → page_at geometry.format (write_pages geometry ws image) q ≡ page_at geometry.format image q
  low-page-kept [] image h q low = refl
  low-page-kept (w ∷ ws) image h q low =
      low-page-kept ws (put geometry.format w.always (image_page geometry w.page) w.bytes image) h.2 q low
      ∙ read-other geometry.format w.always (image_page geometry w.page) w.bytes image h.1 q (λ e. omega arith)
