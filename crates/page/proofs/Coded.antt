-- Laws of one raw page: what is freshly coded reads back, and what is read are 512 bytes.
use Rattle.std.proofs.Common.{◌≡◌, ℕ, zero, suc, ◌+◌, ◌*◌, ◌<◌, Bool, true, false, cond, ◌&&◌, List, ◌++◌, length, get_or, take, drop, sym, refl, ap, ◌∙◌, ap₂, append_assoc, add_assoc, arith, length-append, length-drop, take-append-drop, take_all, drop-drop, get_or-append-add}
use mathlib.Core.Option.{Option, none, some}
use lib.Seq.{take-append-le, drop-append-le}
use Rattle.ecc.specs.declared.Verdict.{Verdict}
use Rattle.ecc.specs.declared.Verdict.TheVariants.{Good}
use Rattle.ecc.specs.Code.{code_of}
use Rattle.ecc.specs.Judge.{judge, corrected, Placed}
use Rattle.ecc.proofs.Laws.{fresh-good, length-corrected}
use Rattle.page.specs.Page.{part, put_at, chunk_of, stored_code, verdict_of, corrected_data, is_readable, read_raw, fresh_code, coded_page}
use Rattle.page.proofs.Lists.{length_part, part_bytes, append-bytes}
use Rattle.page.proofs.Chunks.{placed, corrected-bytes}

-- ---- a raw page that is read
pub length-chunk : (page : List ℕ) (v : Verdict) (k : ℕ) → length page ≡ 528 → k < 4 → length (corrected v (chunk_of page k)) ≡ 128
length-chunk page v k h b = length-corrected v (chunk_of page k) ∙ length_part page (128 * k) 128 (omega arith)

length-joined : (page : List ℕ) (v0 v1 v2 v3 : Verdict) → length page ≡ 528 → length (corrected_data page v0 v1 v2 v3) ≡ 512
unfolding corrected_data
length-joined page v0 v1 v2 v3 h =
    simp length-append
    (omega (arith, length-chunk page v0 0 h (omega arith), length-chunk page v1 1 h (omega arith), length-chunk page v2 2 h (omega arith), length-chunk page v3 3 h (omega arith)))

joined_bytes : (page : List ℕ) (v0 v1 v2 v3 : Verdict) → Placed v0 → Placed v1 → Placed v2 → Placed v3 → ((i : ℕ) → get_or page i 0 < 256)
    → (i : ℕ) → get_or (corrected_data page v0 v1 v2 v3) i 0 < 256
unfolding corrected_data
joined_bytes page v0 v1 v2 v3 p0 p1 p2 p3 h =
    let c0 = corrected v0 (chunk_of page 0) in
    let c1 = corrected v1 (chunk_of page 1) in
    let c2 = corrected v2 (chunk_of page 2) in
    let c3 = corrected v3 (chunk_of page 3) in
    append-bytes c0 (c1 ++ (c2 ++ c3)) (one 0 v0 p0) (append-bytes c1 (c2 ++ c3) (one 1 v1 p1) (append-bytes c2 c3 (one 2 v2 p2) (one 3 v3 p3)))
  where
    one : (k : ℕ) (v : Verdict) → Placed v → (i : ℕ) → get_or (corrected v (chunk_of page k)) i 0 < 256
    one k v p = corrected-bytes v (chunk_of page k) p (part_bytes page (128 * k) 128 h)

read_is : (page d : List ℕ) → read_raw page ≡ some d → d ≡ corrected_data page (verdict_of page 0) (verdict_of page 1) (verdict_of page 2) (verdict_of page 3)
unfolding read_raw
read_is page d e = go (is_readable (verdict_of page 0) && (is_readable (verdict_of page 1) && (is_readable (verdict_of page 2) && is_readable (verdict_of page 3)))) _ e
  where
    go : (b : Bool) (x : List ℕ) → cond b (some x) none ≡ some d → d ≡ x
    go true x e = cc
    go false x e = absurd (let z : ◌≡◌ {A = ℕ} 0 1 = cc in omega arith)

pub read_length : (page d : List ℕ) → length page ≡ 528 → read_raw page ≡ some d → length d ≡ 512
read_length page d h e = ap length (read_is page d e) ∙ length-joined page (verdict_of page 0) (verdict_of page 1) (verdict_of page 2) (verdict_of page 3) h

pub read-bytes : (page d : List ℕ) → ((i : ℕ) → get_or page i 0 < 256) → read_raw page ≡ some d → (i : ℕ) → get_or d i 0 < 256
read-bytes page d h e i =
    rw (read_is page d e)
    (joined_bytes page (verdict_of page 0) (verdict_of page 1) (verdict_of page 2) (verdict_of page 3) (placed page 0) (placed page 1) (placed page 2) (placed page 3) h i)

-- ---- a raw page that is freshly coded
-- a page after the codes of the first n chunks were stored in it
abbrev pub with-codes : List ℕ → ℕ → List ℕ → List ℕ
with-codes bytes zero page = page
with-codes bytes (suc n) page = put_at (with-codes bytes n page) (512 + 3 * n) (fresh_code bytes n)

-- the data and its codes, without the spare bytes that are kept
abbrev pub front : List ℕ → List ℕ
front bytes = bytes ++ (fresh_code bytes 0 ++ (fresh_code bytes 1 ++ (fresh_code bytes 2 ++ fresh_code bytes 3)))

pub length_front : (bytes : List ℕ) → length bytes ≡ 512 → length (front bytes) ≡ 524
unfolding fresh_code
length_front bytes h = length-append bytes (fresh_code bytes 0 ++ (fresh_code bytes 1 ++ (fresh_code bytes 2 ++ fresh_code bytes 3))) ∙ omega arith

regroup : (a b c d e f : List ℕ) → a ++ (b ++ (c ++ (d ++ (e ++ f)))) ≡ (a ++ (b ++ (c ++ (d ++ e)))) ++ f
regroup a b c d e f = simp append_assoc

pub coded-front : (old bytes : List ℕ) → coded_page old bytes ≡ front bytes ++ part old 524 4
unfolding coded_page
coded-front old bytes = regroup bytes (fresh_code bytes 0) (fresh_code bytes 1) (fresh_code bytes 2) (fresh_code bytes 3) (part old 524 4)

module _ (old bytes : List ℕ) (h : length bytes ≡ 512) where
  abbrev spare : List ℕ
  spare = fresh_code bytes 0 ++ (fresh_code bytes 1 ++ (fresh_code bytes 2 ++ (fresh_code bytes 3 ++ part old 524 4)))

  pub length-coded : length old ≡ 528 → length (coded_page old bytes) ≡ 528
  unfolding coded_page fresh_code
  length-coded e = length-append bytes spare ∙ omega (arith, length_part old 524 4 (omega arith))

  same-chunk : (k : ℕ) → k < 4 → chunk_of (coded_page old bytes) k ≡ chunk_of bytes k
  unfolding coded_page
  same-chunk k b =
      ap (take 128) (drop-append-le (128 * k) bytes spare (omega arith))
      ∙ take-append-le 128 (drop (128 * k) bytes) spare (simp length-drop (omega arith))

  spare-byte : (i : ℕ) → get_or (coded_page old bytes) (512 + i) 0 ≡ get_or spare i 0
  unfolding coded_page
  spare-byte i = ap (λ (n : ℕ). get_or (bytes ++ spare) (n + i) 0) (sym h) ∙ get_or-append-add bytes spare i 0

  later-byte : (k j : ℕ) → get_or (coded_page old bytes) (512 + 3 * k + j) 0 ≡ get_or spare (3 * k + j) 0
  later-byte k j = ap (λ (n : ℕ). get_or (coded_page old bytes) n 0) (add_assoc 512 (3 * k) j) ∙ spare-byte (3 * k + j)

  code_is : (k : ℕ) → get_or spare (3 * k) 0 ≡ (code_of (chunk_of bytes k)).byte0 → get_or spare (3 * k + 1) 0 ≡ (code_of (chunk_of bytes k)).byte1
      → get_or spare (3 * k + 2) 0 ≡ (code_of (chunk_of bytes k)).byte2 → stored_code (coded_page old bytes) k ≡ code_of (chunk_of bytes k)
  code_is k x y z =
      λ i. record { byte0 = (spare-byte (3 * k) ∙ x) i; byte1 = (later-byte k 1 ∙ y) i; byte2 = (later-byte k 2 ∙ z) i }

  same_code : (k : ℕ) → k < 4 → stored_code (coded_page old bytes) k ≡ code_of (chunk_of bytes k)
  unfolding fresh_code
  same_code zero b = code_is 0 refl refl refl
  same_code (suc zero) b = code_is 1 refl refl refl
  same_code (suc (suc zero)) b = code_is 2 refl refl refl
  same_code (suc (suc (suc zero))) b = code_is 3 refl refl refl
  same_code (suc (suc (suc (suc k)))) b = absurd (omega arith)

  pub good : (k : ℕ) → k < 4 → verdict_of (coded_page old bytes) k ≡ Good
  unfolding verdict_of
  good k b = ap₂ judge (same-chunk k b) (same_code k b) ∙ fresh-good (chunk_of bytes k)

  chunks : chunk_of bytes 0 ++ (chunk_of bytes 1 ++ (chunk_of bytes 2 ++ chunk_of bytes 3)) ≡ bytes
  chunks =
      ap (λ (t : List ℕ). take 128 bytes ++ t)
      (ap (λ (t : List ℕ). chunk_of bytes 1 ++ t)
      (ap (λ (t : List ℕ). chunk_of bytes 2 ++ t) (take_all 128 (drop 384 bytes) (omega (arith, length-drop 384 bytes)) ∙ sym (drop-drop 128 256 bytes))
      ∙ take-append-drop 128 (drop 256 bytes) ∙ sym (drop-drop 128 128 bytes))
      ∙ take-append-drop 128 (drop 128 bytes))
      ∙ take-append-drop 128 bytes

  -- it reads back as it was written
  pub read-coded : read_raw (coded_page old bytes) ≡ some bytes
  unfolding read_raw corrected_data
  read-coded =
      rw (good 0 (omega arith), good 1 (omega arith), good 2 (omega arith), good 3 (omega arith))
      (ap {B = Option (List ℕ)} some
      (ap₂ ◌++◌ (same-chunk 0 (omega arith)) (ap₂ ◌++◌ (same-chunk 1 (omega arith)) (ap₂ ◌++◌ (same-chunk 2 (omega arith)) (same-chunk 3 (omega arith))))
      ∙ chunks))
