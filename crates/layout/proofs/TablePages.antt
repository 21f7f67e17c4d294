-- The table's pages in turn: page t is the t-th of them, and each is needed.
use Rattle.std.proofs.Common.{◌≡◌, ℕ, zero, suc, ◌+◌, ◌*◌, ◌/◌, ◌%◌, ◌<◌, ◌≤◌, List, [], ◌∷◌, length, get_or, drop, refl, ap, ◌∙◌, add-one, arith, drop_of_length-le, drop-cons}
use mathlib.Core.Option.{Option, none, some}
use Rattle.page.specs.declared.Format.{Format}
use Rattle.page.specs.Page.{page_at}
use Rattle.model.specs.Check.{Result, fault}
use Rattle.model.specs.View.{pages_of}
use Rattle.model.proofs.PlanFits.{length-pages}
use Rattle.layout.specs.Table.{need_pages, with_page, table_page}

pub get_or-pages : (names : List ℕ) (t : ℕ) → t < 2 * length names → get_or (pages_of names) t 0 ≡ table_page names t
get_or-pages [] t h = absurd (omega arith)
get_or-pages (n ∷ ns) zero h = omega arith
get_or-pages (n ∷ ns) (suc zero) h = refl
get_or-pages (n ∷ ns) (suc (suc t)) h =
    let half : suc (suc t) / 2 ≡ suc (t / 2) = omega arith in
    let side : suc (suc t) % 2 ≡ t % 2 = omega arith in
    rw (half, side) (get_or-pages ns t (omega arith))

module _ {A : Type 0} (format : Format) (image names : List ℕ) (result : Result A) where
  -- what is left to judge from page t of the table on
  abbrev pub pages_from : ℕ → Result A
  pages_from t = need_pages format image (drop t (pages_of names)) result

  step : (t : ℕ) → t < 2 * length names → (o : Option (List ℕ)) → page_at format image (table_page names t) ≡ o
      → pages_from t ≡ with_page (table_page names t) o (λ page. pages_from (suc t))
  unfolding need_pages
  step t h o e =
      let next : drop t (pages_of names) ≡ table_page names t ∷ drop (suc t) (pages_of names) =
      drop-cons (pages_of names) t 0 (omega (arith, length-pages names)) ∙ ap (λ (p : ℕ). p ∷ drop (suc t) (pages_of names)) (get_or-pages names t h) in
      rw (next, e)

  module _ (t : ℕ) (h : t < 2 * length names) where
    pub pages-stop : page_at format image (table_page names t) ≡ none → pages_from t ≡ fault 2 (table_page names t)
    unfolding with_page
    pages-stop e = step t h none e

    pub pages-more : {page : List ℕ} → page_at format image (table_page names t) ≡ some page → pages_from t ≡ pages_from (t + 1)
    unfolding with_page
    pages-more {page} e = rw (add-one t) (step t h (some page) e)

  pub pages-done : (t : ℕ) → 2 * length names ≤ t → pages_from t ≡ result
  unfolding need_pages
  pages-done t h = rw (drop_of_length-le (pages_of names) {i = t} (omega (arith, length-pages names)))
