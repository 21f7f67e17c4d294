-- Pages written in turn: each reads back, in a raw image with good codes, and spare bytes 12 to 15 stay.
use mathlib.Core.Path.{◌≡◌, refl, sym, ap₂, ◌∙◌}
use mathlib.Core.Bool.{true}
use mathlib.Core.Logic.{⊎_elim}
use mathlib.Core.List.{List}
use mathlib.Core.Option.{some}
use Prim.Native.Nat.{ℕ, zero, suc, ◌+◌, ◌≤◌, ◌<◌}
use native.Mathlib.Numerals.{add-one}
use native.Mathlib.Omega.{arith}
use borrow.Author.Tests.{eq-eqb, ne_eqb}
use lib.ListN.{length}
use Rattle.page.specs.declared.Format.{Format}
use Rattle.page.specs.declared.Format.TheVariants.{Raw}
use Rattle.page.specs.Page.{page_at, pages_in, written}
use Rattle.page.specs.Twins.{GoodChunk, spare_byte}
use Rattle.page.proofs.Lists.{below_or_not}
use Rattle.page.proofs.Laws.{length-put, page-put}
use Rattle.page.proofs.Twins.{other-codes, spare-put, written-codes}
use Rattle.convert.specs.Converted.{filled}

-- the contents of the first n pages are pages
abbrev pub Sized : (ℕ → List ℕ) → ℕ → Type 0
Sized content n = (p : ℕ) → p < n → length (content p) ≡ 512

fewer : (content : ℕ → List ℕ) (n : ℕ) → Sized content (suc n) → Sized content n
fewer content n sized p h = sized p (omega arith)

module _ (to : Format) (content : ℕ → List ℕ) (image : List ℕ) where
  pub filled_none : filled to content 0 image ≡ image
  unfolding filled
  filled_none = refl

  pub filled_more : (n : ℕ) → filled to content (n + 1) image ≡ written to (filled to content n image) n (content n)
  unfolding filled
  filled_more n = rw (add-one n)

  pub page-more : (n : ℕ) {out page after : List ℕ} → out ≡ filled to content n image → page ≡ content n → after ≡ written to out n page
      → after ≡ filled to content (n + 1) image
  page-more n {out} {page} o e w = w ∙ ap₂ (λ (l m : List ℕ). written to l n m) o e ∙ sym (filled_more n)

  pub length-filled : (n : ℕ) → Sized content n → length (filled to content n image) ≡ length image
  unfolding filled
  length-filled zero sized = refl
  length-filled (suc n) sized =
      length-put to true n (content n) (filled to content n image) (sized n (omega arith)) ∙ length-filled n (fewer content n sized)

  inside-filled : (n q : ℕ) → Sized content n → q < pages_in to (length image) → q < pages_in to (length (filled to content n image))
  inside-filled n q sized h = rw (length-filled n sized) h

  pub page-filled : (n : ℕ) → Sized content n → n ≤ pages_in to (length image) → (q : ℕ) → q < n
      → page_at to (filled to content n image) q ≡ some (content q)
  unfolding filled
  page-filled zero sized room q h = absurd (omega arith)
  page-filled (suc n) sized room q h =
      page-put to true n (content n) (filled to content n image) (sized n (omega arith)) (inside-filled n n (fewer content n sized) (omega arith)) q
      ∙ ⊎_elim (λ (l : q < n). rw (ne_eqb n q (λ e. omega arith)) (page-filled n (fewer content n sized) (omega arith) q l))
      (λ (l : n ≤ q). let here : q ≡ n = omega arith in rw (here, eq-eqb n n refl)) (below_or_not q n)

module _ (content : ℕ → List ℕ) (image : List ℕ) where
  pub codes-filled : (n : ℕ) → Sized content n → n ≤ pages_in Raw (length image) → (q k : ℕ) → q < n → k < 4
      → GoodChunk (filled Raw content n image) q k
  unfolding filled
  codes-filled zero sized room q k h b = absurd (omega arith)
  codes-filled (suc n) sized room q k h b =
      let before = filled Raw content n image in
      ⊎_elim
      (λ (l : q < n).
      other-codes true n (content n) before q k (sized n (omega arith)) (λ e. omega arith) (inside-filled Raw content image n q (fewer content n sized) (omega arith))
      (codes-filled n (fewer content n sized) (omega arith) q k l b))
      (λ (l : n ≤ q).
      let here : q ≡ n = omega arith in
      rw here (written-codes n (content n) before k (sized n (omega arith)) (inside-filled Raw content image n n (fewer content n sized) (omega arith)) b))
      (below_or_not q n)

  pub spare-filled : (n : ℕ) → Sized content n → (q j : ℕ) → 12 ≤ j → j < 16 → spare_byte (filled Raw content n image) q j ≡ spare_byte image q j
  unfolding filled
  spare-filled zero sized q j h k = refl
  spare-filled (suc n) sized q j h k =
      spare-put true n (content n) (filled Raw content n image) q j (sized n (omega arith)) h k ∙ spare-filled n (fewer content n sized) q j h k
