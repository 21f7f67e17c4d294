-- The table's pages stored: each word of an allocatable cluster is then read as it was given, and every other page stays.
use Prim.Native.Nat.{ℕ, zero, suc, ◌+◌, ◌*◌, ◌/◌, ◌%◌, ◌^◌, ◌<◌, ◌≤◌}
use mathlib.Core.Bool.{cond, false, true}
use mathlib.Core.List.{List}
use mathlib.Core.Logic.{◌⊎◌, inl, inr}
use mathlib.Core.Option.{Option, some}
use mathlib.Core.Path.{◌∙◌, ◌≡◌, ap, refl, sym}
use native.Mathlib.Decide.{dec_lt}
use native.Mathlib.Omega.{arith}
use borrow.Author.Tests.{eqb-false, eqb-true}
use lib.Dec.{eqb}
use lib.ListN.{length}
use lib.Seq.{length-sets, sets}
use Rattle.page.specs.declared.Format.{Format}
use Rattle.page.specs.Page.{page_at, put}
use Rattle.page.specs.PageLaws.{Inside}
use Rattle.page.proofs.Laws.{length-put, page-in, page-length, page-put, read-other}
use Rattle.layout.specs.Table.{data_of, table_page, table_word}
use Rattle.layout.proofs.Stages.{Readable}
use Rattle.model.specs.Bytes.{little, little_bytes, word}
use Rattle.model.proofs.Equality.{bool}
use Rattle.model.proofs.Slices.{little-bytes, slice-other, slice-same}
use Rattle.change.specs.Image.{alter_page, store_table, with_words, words_in}

-- ---- the words of one page
module _ (words : ℕ → ℕ) (first : ℕ) (page : List ℕ) where
  pub length-with-words : (n : ℕ) → length (with_words words first n page) ≡ length page
  unfolding with_words
  length-with-words zero = refl
  length-with-words (suc n) = length-sets (with_words words first n page) (4 * n) (little_bytes 4 (words (first + n))) ∙ length-with-words n

  pub word-with-words : (n i : ℕ) → i < n → 4 * n ≤ length page → words (first + i) < 256 ^ 4 → word (with_words words first n page) (4 * i) ≡ words (first + i)
  unfolding with_words
  word-with-words zero i h room small = absurd (omega arith)
  word-with-words (suc n) i h room small = go (λ l. word-with-words n i l (omega arith) small) (dec_lt i n)
    where
      go : (i < n → word (with_words words first n page) (4 * i) ≡ words (first + i)) → Dec (i < n)
          → word (sets (with_words words first n page) (4 * n) (little_bytes 4 (words (first + n)))) (4 * i) ≡ words (first + i)
      go before (yes l) =
          ap little (slice-other (with_words words first n page) (4 * i) 4 (4 * n) (little_bytes 4 (words (first + n))) (inr (omega arith)))
          ∙ before l
      go before (no l) =
          let e : i ≡ n = omega arith in
          rw e (ap little (slice-same (with_words words first n page) (4 * n) (little_bytes 4 (words (first + n))) (omega (arith, length-with-words n)))
          ∙ little-bytes 4 (words (first + n)) (rw e at small))

-- ---- all pages
module _ (format : Format) (names : List ℕ) (end : ℕ) (words : ℕ → ℕ) (count : ℕ) (apart : (t u : ℕ) → t < count → u < count → table_page names t ≡ table_page names u → t ≡ u) where
  abbrev pub page_with : List ℕ → ℕ → List ℕ
  page_with image t = with_words words (128 * t) (words_in end t) (data_of (page_at format image (table_page names t)))

  pub record Stored (k : ℕ) (image after : List ℕ) : Type 0 where
    pub long : length after ≡ length image
    pub other : (q : ℕ) → ((t : ℕ) → t < k → table_page names t ≡ q → ⊥) → page_at format after q ≡ page_at format image q
    pub table : (t : ℕ) → t < k → page_at format after (table_page names t) ≡ some (page_with image t)

  module _ (image : List ℕ) (readable : (t : ℕ) → t < count → Readable format image (table_page names t)) where
    long-page : (t : ℕ) → t < count → length (page_with image t) ≡ 512
    long-page t h = length-with-words words (128 * t) (data_of (page_at format image (table_page names t))) (words_in end t) ∙ page-length format image (table_page names t) _ (readable t h)

    more : (k : ℕ) (now : List ℕ) → k < count → Stored k image now → Stored (suc k) image (alter_page format (table_page names k) (with_words words (128 * k) (words_in end k)) now)
    unfolding alter_page
    more k now h s = rw (still ∙ readable k h, ← same) (record { long = length-put format false p bytes now full ∙ s.long; other = other; table = table })
      where
        p : ℕ
        p = table_page names k

        bytes : List ℕ
        bytes = page_with now k

        still : page_at format now p ≡ page_at format image p
        still = s.other p (λ t l e. let z = apart t k (omega arith) h e in omega arith)

        same : bytes ≡ page_with image k
        same = ap (λ o. with_words words (128 * k) (words_in end k) (data_of o)) still

        full : length bytes ≡ 512
        full = ap length same ∙ long-page k h

        other : (q : ℕ) → ((t : ℕ) → t < suc k → table_page names t ≡ q → ⊥) → page_at format (put format false p bytes now) q ≡ page_at format image q
        other q n = read-other format false p bytes now full q (λ e. n k (omega arith) (sym e)) ∙ s.other q (λ t l. n t (omega arith))

        inside : Inside format now p
        inside = page-in format now p _ (still ∙ readable k h)

        table : (t : ℕ) → t < suc k → page_at format (put format false p bytes now) (table_page names t) ≡ some (page_with image t)
        table t l = page-put format false p bytes now full inside (table_page names t) ∙ pick (bool (eqb p (table_page names t)))
          where
            pick : (eqb p (table_page names t) ≡ true) ⊎ (eqb p (table_page names t) ≡ false)
                → cond (eqb p (table_page names t)) (some bytes) (page_at format now (table_page names t)) ≡ some (page_with image t)
            pick (inl e) =
                let z : k ≡ t = apart k t h (omega arith) (eqb-true p (table_page names t) e) in
                rw e (ap {B = Option (List ℕ)} some (same ∙ ap (page_with image) z))
            pick (inr e) = rw e (s.table t (below (dec_lt t k)))
              where
                below : Dec (t < k) → t < k
                below (yes z) = z
                below (no z) = absurd (eqb-false p (table_page names t) e (ap (table_page names) (let e : k ≡ t = omega arith in e)))

    pub stored : (k : ℕ) → k ≤ count → Stored k image (store_table format names end words k image)
    unfolding store_table
    stored zero h = record { long = refl; other = λ q n. refl; table = λ t l. absurd (omega arith) }
    stored (suc k) h = more k (store_table format names end words k image) (omega arith) (stored k (omega arith))

    -- a word of an allocatable cluster
    pub word-stored : (after : List ℕ) → Stored count image after → (c : ℕ) → c < end → c / 128 < count → words c < 256 ^ 4 → table_word format after names c ≡ words c
    word-stored after s c low inside small =
        let e : 128 * (c / 128) + c % 128 ≡ c = omega arith in
        ap (λ o. word (data_of o) (4 * (c % 128))) (s.table (c / 128) inside)
        ∙ word-with-words words (128 * (c / 128)) (data_of (page_at format image (table_page names (c / 128)))) (words_in end (c / 128)) (c % 128)
        (omega arith) (omega (arith, page-length format image (table_page names (c / 128)) _ (readable (c / 128) inside))) (rw e small)
        ∙ ap words e
