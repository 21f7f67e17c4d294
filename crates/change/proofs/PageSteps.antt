-- The pages that a change writes, as its code makes them: bytes put into a page of zeros, and data page by page.
use Rattle.layout.specs.See.{image_page}
use Rattle.layout.specs.declared.Geometry.{Geometry}
use Prim.Native.Nat.{ℕ, zero, suc, min, ◌%◌, ◌*◌, ◌+◌, ◌-◌, ◌/◌, ◌<◌, ◌≤◌}
use mathlib.Core.Bool.{true}
use mathlib.Core.List.{List, [], ◌++◌, ◌∷◌}
use mathlib.Core.Path.{◌∙◌, ◌≡◌, ap, ap₂, refl, sym}
use native.Mathlib.Decide.{dec_lt}
use native.Mathlib.Numerals.{add-one}
use native.Mathlib.Omega.{arith}
use lib.ListN.{get_or-eq_default, drop, drop_of_length-le, get_or, get_or-replicate, length, length-replicate, length-take, replicate, set, take}
use lib.Seq.{drop-cons, drop-drop, get_or-set_other, length-take-le, set-get_or, sets, sets-eq, take_all, take-append-add, take-append-le, take-take}
use Rattle.page.specs.Page.{put}
use Rattle.layout.proofs.TablePages.{get_or-pages}
use Rattle.model.specs.Bytes.{little_bytes}
use Rattle.model.specs.Entry.{clusters_for, entry_of}
use Rattle.model.specs.Pages.{altered_entry, altered_page, data_pages, data_pages_to, new_page, padded_name, zero_page}
use Rattle.model.specs.Plan.{new_entry}
use Rattle.model.specs.View.{pages_of}
use Rattle.model.specs.Writes.{cluster_writes}
use Rattle.model.proofs.PlanFits.{length-pages}
use Rattle.change.specs.Image.{write_pages}
use Rattle.change.specs.Pages.{data_page}

-- ---- zeros
abbrev zeros : ℕ → List ℕ
zeros n = replicate n 0

take-zeros : (m n : ℕ) → m ≤ n → take m (zeros n) ≡ zeros m
take-zeros zero n h = refl
take-zeros (suc m) zero h = absurd (omega arith)
take-zeros (suc m) (suc n) h = ap (λ (l : List ℕ). 0 ∷ l) (take-zeros m n (omega arith))

drop-zeros : (m n : ℕ) → drop m (zeros n) ≡ zeros (n - m)
drop-zeros zero n = let e : n - 0 ≡ n = omega arith in rw e
drop-zeros (suc m) zero = let e : 0 - suc m ≡ 0 = omega arith in rw e
drop-zeros (suc m) (suc n) = let e : suc n - suc m ≡ n - m = omega arith in rw e (drop-zeros m n)

zero-at : (i : ℕ) → get_or zero_page i 0 ≡ 0
unfolding zero_page
zero-at i = go (dec_lt i 512)
  where
    go : Dec (i < 512) → get_or (zeros 512) i 0 ≡ 0
    go (yes h) = get_or-replicate 512 i 0 0 h
    go (no h) = get_or-eq_default (zeros 512) 0 {n = i} (omega (arith, length-replicate {A = ℕ} 512 0))

-- ---- bytes padded with zeros, put where zeros stand
put-zeros : (k : ℕ) (l : List ℕ) (i : ℕ) → ((j : ℕ) → i ≤ j → get_or l j 0 ≡ 0) → sets l i (zeros k) ≡ l
put-zeros zero l i h = refl
put-zeros (suc k) l i h =
    let same : set l i 0 ≡ l = ap (set l i) (sym (h i (omega arith))) ∙ set-get_or l i 0 in
    ap (λ (m : List ℕ). sets m (suc i) (zeros k)) same ∙ put-zeros k l (suc i) (λ j u. h j (omega arith))

put-padded : (bytes : List ℕ) (k : ℕ) (l : List ℕ) (i : ℕ) → ((j : ℕ) → i + length bytes ≤ j → get_or l j 0 ≡ 0) → sets l i (bytes ++ zeros k) ≡ sets l i bytes
put-padded [] k l i h = put-zeros k l i (λ j u. h j (omega arith))
put-padded (b ∷ bytes) k l i h =
    put-padded bytes k (set l i b) (suc i) (λ j u. get_or-set_other l i j b 0 (λ e. omega arith) ∙ h j (omega arith))

name-field : (n : List ℕ) → sets zero_page 0x40 (padded_name n) ≡ sets zero_page 0x40 n
name-field n = put-padded n (32 - length n) zero_page 0x40 (λ j u. zero-at j)

-- ---- the page of an entry, field after field
module _ (mode length first : ℕ) (time : List ℕ) where
  pub new-made : (dir_entry : ℕ) (n : List ℕ) {blank named tagged changed placed led made sized whole : List ℕ} → blank ≡ zero_page → named ≡ sets blank 0x40 n
      → tagged ≡ sets named 0x20 (little_bytes 4 0) → changed ≡ sets tagged 0x18 time → placed ≡ sets changed 0x14 (little_bytes 4 dir_entry)
      → led ≡ sets placed 0x10 (little_bytes 4 first) → made ≡ sets led 0x08 time → sized ≡ sets made 0x04 (little_bytes 4 length)
      → whole ≡ sets sized 0x00 (little_bytes 2 mode) → whole ≡ new_page (new_entry mode length first dir_entry time n)
  unfolding new_page
  new-made dir_entry n e f g h i j k l m =
      m ∙ ap (λ (p : List ℕ). sets p 0x00 (little_bytes 2 mode)) (l ∙ ap (λ (p : List ℕ). sets p 0x04 (little_bytes 4 length))
      (k ∙ ap (λ (p : List ℕ). sets p 0x08 time) (j ∙ ap (λ (p : List ℕ). sets p 0x10 (little_bytes 4 first))
      (i ∙ ap (λ (p : List ℕ). sets p 0x14 (little_bytes 4 dir_entry)) (h ∙ ap (λ (p : List ℕ). sets p 0x18 time)
      (g ∙ ap (λ (p : List ℕ). sets p 0x20 (little_bytes 4 0)) (f ∙ ap (λ (p : List ℕ). sets p 0x40 n) e ∙ sym (name-field n))))))))

  pub altered-made : (page : List ℕ) {changed led sized whole : List ℕ} → changed ≡ sets page 0x18 time → led ≡ sets changed 0x10 (little_bytes 4 first)
      → sized ≡ sets led 0x04 (little_bytes 4 length) → whole ≡ sets sized 0x00 (little_bytes 2 mode)
      → whole ≡ altered_page page (altered_entry (entry_of page) mode length first time)
  unfolding altered_page
  altered-made page h j l m =
      m ∙ ap (λ (p : List ℕ). sets p 0x00 (little_bytes 2 mode)) (l ∙ ap (λ (p : List ℕ). sets p 0x04 (little_bytes 4 length))
      (j ∙ ap (λ (p : List ℕ). sets p 0x10 (little_bytes 4 first)) h))

-- by other names for its numbers
pub altered-so : (page : List ℕ) (mode length first : ℕ) (time : List ℕ) {mode' length' first' : ℕ} {time' r : List ℕ} → mode' ≡ mode → length' ≡ length
    → first' ≡ first → time' ≡ time → r ≡ altered_page page (altered_entry (entry_of page) mode' length' first' time')
    → r ≡ altered_page page (altered_entry (entry_of page) mode length first time)
altered-so page mode length first time m l f t e = rw (m, l, f, t) at e

-- ---- one page of data
front : (d : List ℕ) → length d ≤ 512 → sets zero_page 0 d ≡ take 512 (d ++ zero_page)
unfolding zero_page
front d h =
    let none : 0 + length d ≡ length d = omega arith in
    let split : 512 ≡ length d + (512 - length d) = omega arith in
    let put : sets (zeros 512) 0 d ≡ d ++ drop (length d) (zeros 512) =
    sets-eq d (zeros 512) 0 (omega (arith, length-replicate {A = ℕ} 512 0)) ∙ ap (λ n. d ++ drop n (zeros 512)) none in
    let taken : take 512 (d ++ zeros 512) ≡ d ++ take (512 - length d) (zeros 512) =
    ap (λ n. take n (d ++ zeros 512)) split ∙ take-append-add d (zeros 512) (512 - length d) in
    put ∙ ap (λ (l : List ℕ). d ++ l) (drop-zeros (length d) 512 ∙ sym (take-zeros (512 - length d) 512 (omega arith))) ∙ sym taken

module _ (bytes : List ℕ) (k : ℕ) {blank : List ℕ} (blank-zero : blank ≡ zero_page) where
  -- behind the data's last page
  pub page-past : length bytes ≤ 512 * k → blank ≡ data_page bytes k
  page-past h = blank-zero ∙ front [] (omega arith) ∙ ap (λ (l : List ℕ). take 512 (l ++ zero_page)) (sym (drop_of_length-le bytes {i = 512 * k} (omega arith)))

  -- a page with a piece of the data
  pub page-of : {page piece : List ℕ} → page ≡ sets blank 0 piece → piece ≡ take 512 (drop (k * 512) bytes) → page ≡ data_page bytes k
  page-of e f =
      let here : k * 512 ≡ 512 * k = omega arith in
      e ∙ ap₂ (λ (z d : List ℕ). sets z 0 d) blank-zero (f ∙ ap (λ n. take 512 (drop n bytes)) here)
      ∙ front (take 512 (drop (512 * k) bytes)) (omega (arith, length-take 512 (drop (512 * k) bytes)))
      ∙ padded (drop (512 * k) bytes) (dec_lt (length (drop (512 * k) bytes)) 512)
    where
      padded : (d : List ℕ) → Dec (length d < 512) → take 512 (take 512 d ++ zero_page) ≡ take 512 (d ++ zero_page)
      padded d (yes short) = ap (λ (l : List ℕ). take 512 (l ++ zero_page)) (take_all 512 d (omega arith))
      padded d (no long) =
          take-append-le 512 (take 512 d) zero_page (omega (arith, length-take-le 512 d (omega arith)))
          ∙ take-take 512 512 d (omega arith) ∙ sym (take-append-le 512 d zero_page (omega arith))

  -- a page with the first 512 bytes of the data that is left, or all of it
  pub page-from : {page rest : List ℕ} {n : ℕ} → page ≡ sets blank 0 (take n rest) → n ≡ min (length rest) 512 → rest ≡ drop (512 * k) bytes → page ≡ data_page bytes k
  page-from {page} {rest} {n} e size from =
      let there : 512 * k ≡ k * 512 = omega arith in
      page-of e (piece (dec_lt (length rest) 512) ∙ ap (λ (d : List ℕ). take 512 d) (from ∙ ap (λ m. drop m bytes) there))
    where
      piece : Dec (length rest < 512) → take n rest ≡ take 512 rest
      piece (yes short) = take_all n rest (omega (arith, size)) ∙ sym (take_all 512 rest (omega arith))
      piece (no long) = let most : n ≡ 512 = omega (arith, size) in ap (λ m. take m rest) most

-- ---- page by page: what is left to write, from page k on
module _ (geometry : Geometry) (clusters bytes : List ℕ) where
  abbrev pub left_from : ℕ → List ℕ → List ℕ
  left_from k image = write_pages geometry (cluster_writes (drop k (pages_of clusters)) (data_pages_to (2 * clusters_for (length bytes) - k) (drop (512 * k) bytes))) image

  pub all_left : (image : List ℕ) → left_from 0 image ≡ write_pages geometry (cluster_writes (pages_of clusters) (data_pages bytes)) image
  unfolding data_pages
  all_left image = let e : 2 * clusters_for (length bytes) - 0 ≡ 2 * clusters_for (length bytes) = omega arith in rw e

  pub none_left : (k : ℕ) (image : List ℕ) → 2 * length clusters ≤ k → left_from k image ≡ image
  none_left k image h = rw (drop_of_length-le (pages_of clusters) {i = k} (omega (arith, length-pages clusters)))

  step : (k : ℕ) (image : List ℕ) → length clusters ≡ clusters_for (length bytes) → k < 2 * length clusters
      → left_from k image ≡ left_from (k + 1) (put geometry.format true (image_page geometry (2 * get_or clusters (k / 2) 0 + k % 2)) (data_page bytes k) image)
  step k image size h =
      let left : 2 * clusters_for (length bytes) - k ≡ suc (2 * clusters_for (length bytes) - suc k) = omega arith in
      let next : 512 * suc k ≡ 512 * k + 512 = omega arith in
      rw (add-one k, drop-cons (pages_of clusters) k 0 (omega (arith, length-pages clusters)), left, next, ← drop-drop 512 (512 * k) bytes, get_or-pages clusters k h)

  pub one_less : (k : ℕ) (image : List ℕ) {at : ℕ} {page after : List ℕ} → length clusters ≡ clusters_for (length bytes) → k < 2 * length clusters → page ≡ data_page bytes k
      → at ≡ image_page geometry (2 * get_or clusters (k / 2) 0 + k % 2) → after ≡ put geometry.format true at page image → left_from (k + 1) after ≡ left_from k image
  one_less k image size h e p f =
      ap (left_from (k + 1)) (f ∙ ap₂ (λ (q : ℕ) (d : List ℕ). put geometry.format true q d image) p e) ∙ sym (step k image size h)
