-- The count of corrected chunks as the check up to the table grows it, page by page.
use Rattle.std.proofs.Common.{◌≡◌, ℕ, suc, ◌+◌, ◌*◌, ◌^◌, ◌<◌, ◌≤◌, List, [], ◌∷◌, length, drop, sym, ap, ◌∙◌, add-one, arith, drop_of_length-le, drop-cons}
use Rattle.std.specs.Prelude.{Err, Ok, Result as Returned}
use Rattle.page.specs.declared.Format.{Format}
use Rattle.page.specs.Mended.{mended_chunks, wrapped}
use Rattle.page.proofs.Mending.{count-on, mended-most}
use Rattle.model.specs.Check.{ok}
use Rattle.model.specs.Needed.{total_over}
use Rattle.model.specs.View.{pages_of}
use Rattle.model.proofs.NeededPages.{total-most}
use Rattle.model.proofs.PlanFits.{length-pages}
use Rattle.layout.specs.declared.Refusal.{Refusal}
use Rattle.layout.specs.declared.Superblock.{Superblock}
use Rattle.layout.specs.Mended.{Adds, mended_over, opening_mended}
use Rattle.layout.specs.Needed.{opening_pages}
use Rattle.layout.specs.Table.{open_card, table_page}
use Rattle.layout.proofs.NeededOnce.{opening-few}
use Rattle.layout.proofs.TablePages.{get_or-pages}

-- a page before the others
pub adds_on : (r : Returned (Unit {0}) Refusal) (m x y after : ℕ) {n : ℕ} → n ≡ wrapped (m + x) → Adds r n y after → Adds r m (x + y) after
adds_on (Ok u) m x y after e h = h ∙ count-on m x y e
adds_on (Err f) m x y after e h = tt

-- ---- the table's pages in turn
module _ (f : ℕ → ℕ) (names : List ℕ) where
  -- what is left to count from page t of the table on
  abbrev pub count_from : ℕ → ℕ
  count_from t = total_over f (drop t (pages_of names))

  pub count-more : (before now t : ℕ) {next : ℕ} → t < 2 * length names → next ≡ wrapped (now + f (table_page names t))
      → wrapped (now + count_from t) ≡ wrapped (before + count_from 0) → wrapped (next + count_from (t + 1)) ≡ wrapped (before + count_from 0)
  count-more before now t h e inv =
      let split : drop t (pages_of names) ≡ table_page names t ∷ drop (suc t) (pages_of names) =
      drop-cons (pages_of names) t 0 (omega (arith, length-pages names)) ∙ ap (λ (p : ℕ). p ∷ drop (suc t) (pages_of names)) (get_or-pages names t h) in
      count-on now (f (table_page names t)) (count_from (t + 1)) e ∙ rw (add-one t) (ap (λ (ps : List ℕ). wrapped (now + total_over f ps)) (sym split)) ∙ inv

  pub count-done : (before now t : ℕ) → 2 * length names ≤ t → wrapped (now + count_from t) ≡ wrapped (before + count_from 0)
      → wrapped now ≡ wrapped (before + count_from 0)
  count-done before now t h inv =
      ap wrapped (sym (go (drop_of_length-le (pages_of names) {i = t} (omega (arith, length-pages names))))) ∙ inv
    where
      go : drop t (pages_of names) ≡ [] → now + count_from t ≡ now
      go e = rw e (omega arith)

-- ---- a card that is open
pub opening-small : (format : Format) (image : List ℕ) (s : Superblock) → open_card format image ≡ ok s → mended_over format image (opening_pages image s) ≤ 2060
opening-small format image s e =
    omega (arith, total-most (mended_chunks format image) 4 (mended-most format image) (opening_pages image s), opening-few format image s e)

-- the count of a card that was judged sound, from 0 on
pub opening-counted : (format : Format) (image : List ℕ) (s : Superblock) {n : ℕ} → n < 2 ^ 64 → ok s ≡ open_card format image
    → wrapped n ≡ wrapped (0 + mended_over format image (opening_pages image s)) → n ≡ opening_mended format image (open_card format image)
opening-counted format image s {n} small e h =
    let most = opening-small format image s (sym e) in
    let same : n ≡ mended_over format image (opening_pages image s) = omega arith in
    same ∙ ap (opening_mended format image) e
