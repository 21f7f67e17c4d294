-- Every page of an image in turn: what is left to judge from a page on, and what passing or stopping says.
use mathlib.Core.Path.{◌≡◌, refl, sym, ap, ◌∙◌}
use mathlib.Core.Bool.{true}
use mathlib.Core.Logic.{⊎_elim}
use mathlib.Core.List.{List}
use mathlib.Core.Option.{Option, none, some}
use Prim.Native.Nat.{ℕ, zero, suc, ◌+◌, ◌≤◌, ◌<◌}
use native.Mathlib.Numerals.{add-one}
use native.Mathlib.Omega.{arith}
use lib.ListN.{length, drop, drop_of_length-le}
use Rattle.page.specs.declared.Format.{Format}
use Rattle.page.specs.Page.{is_some, page_at, pages_in}
use Rattle.page.proofs.Lists.{below_or_not}
use Rattle.model.specs.Check.{Result, fault, ok}
use Rattle.layout.specs.Superblock.{up_to}
use Rattle.layout.specs.Table.{need_pages, with_page}
use Rattle.layout.proofs.Stages.{not-ok, pages-ok, pages-pass, there}
use Rattle.layout.proofs.UpTo.{drop-up_to, get_or-up_to, length-up_to}
use Rattle.convert.specs.Claims.{AllReadable, Lowest}

-- pages 0, 1, .. of an image
abbrev pub page_list : Format → List ℕ → List ℕ
page_list format image = up_to (λ p. p) (pages_in format (length image))

module _ {A : Type 0} (format : Format) (image : List ℕ) (result : Result A) where
  abbrev pub all_from : ℕ → Result A
  all_from p = need_pages format image (drop p (page_list format image)) result

  step : (p : ℕ) → p < pages_in format (length image) → (o : Option (List ℕ)) → page_at format image p ≡ o → all_from p ≡ with_page p o (λ page. all_from (suc p))
  unfolding need_pages
  step p h o e = rw (drop-up_to (λ q. q) (pages_in format (length image)) p h, e)

  pub all-stop : (p : ℕ) → p < pages_in format (length image) → page_at format image p ≡ none → all_from p ≡ fault 2 p
  unfolding with_page
  all-stop p h e = step p h none e

  pub all_more : (p : ℕ) → p < pages_in format (length image) → {page : List ℕ} → page_at format image p ≡ some page → all_from p ≡ all_from (p + 1)
  unfolding with_page
  all_more p h {page} e = rw (add-one p) (step p h (some page) e)

  pub all_done : (p : ℕ) → pages_in format (length image) ≤ p → all_from p ≡ result
  unfolding need_pages
  all_done p h =
      rw (drop_of_length-le (page_list format image) {i = p} (omega (arith, length-up_to (λ q. q) (pages_in format (length image)))))

  -- ---- where every page is readable, and only there, the rest is reached
  pub all_pass : AllReadable format image → need_pages format image (page_list format image) result ≡ result
  all_pass all =
      pages-pass format image (page_list format image) result
      (λ p h.
      let inside : p < pages_in format (length image) = omega (arith, length-up_to (λ q. q) (pages_in format (length image))) in
      rw (get_or-up_to (λ q. q) (pages_in format (length image)) p inside) (there (page_at format image p) (all p inside)))

  pub all-passed : (a : A) → need_pages format image (page_list format image) result ≡ ok a → (result ≡ ok a) × AllReadable format image
  all-passed a e =
      let passed = pages-ok format image (page_list format image) result a e in (
        passed.0,
        λ p h.
            let read = passed.1 p (omega (arith, length-up_to (λ q. q) (pages_in format (length image)))) in
            ap is_some (rw (get_or-up_to (λ q. q) (pages_in format (length image)) p h) at read),
      )

-- ---- the first that is unreadable is named
module _ {A : Type 0} (format : Format) (image : List ℕ) (a : A) (p : ℕ) where
  lowest-from : (left t : ℕ) → t + left ≡ pages_in format (length image) → ((q : ℕ) → q < t → is_some (page_at format image q) ≡ true)
      → all_from format image (ok a) t ≡ fault 2 p → Lowest format image p
  lowest-from zero t e below f = not-ok 2 p a (sym f ∙ all_done format image (ok a) t (omega arith))
  lowest-from (suc left) t e below f = go (page_at format image t) refl (lowest-from left (suc t) (omega arith))
    where
      same : ◌≡◌ {A = Result A} (fault 2 t) (fault 2 p) → t ≡ p
      same e = cc

      go : (o : Option (List ℕ)) → page_at format image t ≡ o
          → (((q : ℕ) → q < suc t → is_some (page_at format image q) ≡ true) → all_from format image (ok a) (suc t) ≡ fault 2 p → Lowest format image p)
          → Lowest format image p
      go none n later =
          let here = same (sym (all-stop format image (ok a) t (omega arith) n) ∙ f) in
          record { inside = omega arith; unreadable = rw (← here) n; below = λ q h. below q (omega arith) }
      go (some page) s later =
          later
          (λ q h. ⊎_elim (λ (l : q < t). below q l) (λ (l : t ≤ q). let here : q ≡ t = omega arith in rw here (ap is_some s)) (below_or_not q t))
          (rw (← add-one t) (sym (all_more format image (ok a) t (omega arith) s) ∙ f))

  pub lowest : need_pages format image (page_list format image) (ok a) ≡ fault 2 p → Lowest format image p
  lowest f = lowest-from (pages_in format (length image)) 0 (omega arith) (λ q h. absurd (omega arith)) f
