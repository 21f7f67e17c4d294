-- The count of corrected chunks that a call reports, and how a read grows it.
use Rattle.std.specs.Prelude.{None}
use Prim.Native.Nat.{◌+◌, suc, ℕ}
use mathlib.Core.Bool.{true}
use mathlib.Core.List.{List}
use mathlib.Core.Option.{Option, none, some}
use mathlib.Core.Path.{◌∙◌, ◌≡◌, ap, refl, sym}
use native.Mathlib.Numerals.{add-one}
use native.Mathlib.Omega.{arith}
use Rattle.page.specs.Mended.{wrapped}
use Rattle.page.specs.Page.{is_some}
use Rattle.page.proofs.Mending.{count-on}
use Rattle.model.proofs.Equality.{tf}
use Rattle.model.specs.Check.{Result, and_then, fault, ok}
use Rattle.model.specs.Needed.{total_over}
use Rattle.model.specs.View.{View}
use Rattle.tree.specs.Mended.{count_after}
use Rattle.tree.specs.Scan.{scan, unread}
use Rattle.tree.specs.Slots.{cluster_after, slot_page, slot_pages}
use Rattle.lookup.specs.Descend.{pages_for}
use Rattle.lookup.specs.Mended.{reported}
use Rattle.lookup.proofs.PagesLaws.{all-readable}

-- a count is reported by whether the call is refused, and by nothing else
pub reports : {A B : Type 0} (x : Result A) (f : A → B) (total before : ℕ) {y : Result B} → y ≡ and_then x (λ a. ok (f a))
    → reported y total before ≡ reported x total before
unfolding and_then
reports (fault n p) f total before e = rw e
reports (ok a) f total before e = rw e

-- a refusal leaves it
pub kept : {A : Type 0} (x : Result A) (n p total before : ℕ) → x ≡ fault n p → before ≡ reported x total before
kept x n p total before e = rw e

-- ---- the pages that a read copies from
module _ (v : View) (mend : ℕ → ℕ) (t : List ℕ) where
  added : (o : Option (List ℕ)) (chunks now : ℕ) {next : ℕ} → is_some o ≡ true → next ≡ count_after o chunks now → next ≡ wrapped (now + chunks)
  added none chunks now h e = tf h refl
  added (some d) chunks now h e = e

  -- a page more, and what is left to count
  pub count-page : (c k skip left x page less now : ℕ) {next whole : ℕ} → pages_for skip left ≡ suc (pages_for 0 less) → x ≡ cluster_after t c k → page ≡ slot_page c k
      → scan (unread v) (slot_pages t c k (pages_for skip left)) k ≡ None → next ≡ count_after (v.page page) (mend page) now
      → wrapped (now + total_over mend (slot_pages t c k (pages_for skip left))) ≡ whole → wrapped (next + total_over mend (slot_pages t x (k + 1) (pages_for 0 less))) ≡ whole
  unfolding slot_pages
  count-page c k skip left x page less now fewer s at h e w =
      let later = slot_pages t (cluster_after t c k) (suc k) (pages_for 0 less) in
      let readable = (all-readable v (slot_page c k) later k (rw fewer at h)).0 in
      let one = added (v.page (slot_page c k)) (mend (slot_page c k)) now readable (rw at at e) in
      rw (add-one k, s) (count-on now (mend (slot_page c k)) (total_over mend later) one) ∙ rw fewer at w

  -- none is left
  pub count-end : (c k from left now : ℕ) {whole : ℕ} → left ≡ 0 → from ≡ 0 → wrapped (now + total_over mend (slot_pages t c k (pages_for from left))) ≡ whole → wrapped now ≡ whole
  unfolding slot_pages
  count-end c k from left now e f w =
      let none_left : pages_for from left ≡ 0 = omega arith in
      let same : now + 0 ≡ now = omega arith in
      sym (ap wrapped same) ∙ rw none_left at w
