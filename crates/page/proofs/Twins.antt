-- Images with the same data stay so under a put, and codes that match stay matching.
use Rattle.std.proofs.Common.{◌≡◌, ℕ, zero, suc, ◌+◌, ◌*◌, ◌/◌, ◌%◌, ◌<◌, ◌≤◌, Bool, true, cond, eqb, ◌⊎◌, List, length, get_or, replicate, sym, refl, ap, ◌∙◌, inl, inr, ⊎_elim, arith, ext_get_or, eq-eqb, ne_eqb}
use mathlib.Core.Option.{some}
use Rattle.ecc.specs.declared.Verdict.TheVariants.{Good}
use Rattle.page.specs.declared.Format.{Format}
use Rattle.page.specs.declared.Format.TheVariants.{Plain, Raw}
use Rattle.page.specs.Page.{cluster_bytes, is_some, page_at, page_start, pages_in, put, read_raw, stored_page, verdict_of}
use Rattle.page.specs.PageLaws.{Inside}
use Rattle.page.specs.Twins.{SameData, GoodChunk, CodesMatch, spare_byte}
use Rattle.page.proofs.Lists.{below_or_not, get_d_part}
use Rattle.page.proofs.Coded as raw
use Rattle.page.proofs.Formats.{even-whole, inside-whole, start-clusters, whole-even}
use Rattle.page.proofs.Formats as formats
use Rattle.page.proofs.Puts.{Whole, placed, page-inside, put-either, put-outside, put_written}
use Rattle.page.proofs.Laws.{length-placed, length-put, outside, page-past, page-put, raw-other, raw-put, stored-placed}

-- ---- whole pages and whole clusters
pub pages-start : (format : Format) (n : ℕ) → pages_in format (page_start format n) ≡ n
pages-start = formats.pages-start

pub clusters-start : (format : Format) (n : ℕ) → cluster_bytes format * n ≡ page_start format (2 * n)
clusters-start = formats.clusters-start

same_or_not : (a b : ℕ) → (a ≡ b) ⊎ (a ≡ b → ⊥)
same_or_not a b =
    ⊎_elim (λ (x : a < b). inr (λ e. omega arith))
    (λ (x : b ≤ a). ⊎_elim (λ (y : b < a). inr (λ e. omega arith)) (λ (y : a ≤ b). inl (omega arith)) (below_or_not b a)) (below_or_not a b)

-- whole pages are whole clusters where their number is even
even : (format : Format) (bytes n : ℕ) → bytes ≡ page_start format n → eqb (bytes % cluster_bytes format) 0 ≡ eqb (n % 2) 0
even format bytes n e =
    ap (λ (b : ℕ). eqb (b % cluster_bytes format) 0) e
    ∙ agree (page_start format n % cluster_bytes format) (n % 2) (whole-even format n) (even-whole format n)
  where
    agree : (a b : ℕ) → (a ≡ 0 → b ≡ 0) → (b ≡ 0 → a ≡ 0) → eqb a 0 ≡ eqb b 0
    agree a b f g =
        ⊎_elim (λ (z : a ≡ 0). eq-eqb a 0 z ∙ sym (eq-eqb b 0 (f z)))
        (λ (z : a ≡ 0 → ⊥). ne_eqb a 0 z ∙ sym (ne_eqb b 0 (λ y. z (g y)))) (same_or_not a 0)

-- ---- the same data in two images
held : (format : Format) {bytes : ℕ} (n : ℕ) → bytes ≡ page_start format n → pages_in format bytes ≡ n
held format n e = ap (pages_in format) e ∙ pages-start format n

pub same_back : {one other : Format} {image twin : List ℕ} → SameData one other image twin → SameData other one twin image
same_back same =
    record { pages = same.pages; long = same.twin-long; twin-long = same.long; read = λ p h. sym (same.read p h) }

pub same-page : {one other : Format} {image twin : List ℕ} → SameData one other image twin → (p : ℕ) → page_at one image p ≡ page_at other twin p
same-page {one} {other} {image} {twin} same p =
    ⊎_elim (λ (h : p < same.pages). same.read p h)
    (λ (h : same.pages ≤ p).
    page-past one image p (rw (held one same.pages same.long) h) ∙ sym (page-past other twin p (rw (held other same.pages same.twin-long) h)))
    (below_or_not p same.pages)

pub same-through : {one other third : Format} {image twin last : List ℕ} → SameData one other image twin → SameData other third twin last
    → SameData one third image last
same-through {one} {other} {third} same next =
    let n : next.pages ≡ same.pages = sym (held other next.pages next.long) ∙ held other same.pages same.twin-long in
    record {
      pages = same.pages;
      long = same.long;
      twin-long = next.twin-long ∙ ap (page_start third) n;
      read = λ p h. same.read p h ∙ same-page next p;
    }

pub same_whole : {one other : Format} {image twin : List ℕ} → SameData one other image twin
    → eqb (length image % cluster_bytes one) 0 ≡ eqb (length twin % cluster_bytes other) 0
same_whole {one} {other} {image} {twin} same =
    even one (length image) same.pages same.long ∙ sym (even other (length twin) same.pages same.twin-long)

pub same-clusters : {one other : Format} {image twin : List ℕ} → SameData one other image twin
    → length image / cluster_bytes one ≡ length twin / cluster_bytes other
same-clusters {one} {other} {image} {twin} same =
    ap (λ (b : ℕ). b / cluster_bytes one) same.long ∙ start-clusters one same.pages
    ∙ sym (ap (λ (b : ℕ). b / cluster_bytes other) same.twin-long ∙ start-clusters other same.pages)

pub put_both : {one other : Format} {image twin : List ℕ} (always : Bool) (p : ℕ) (bytes : List ℕ) → length bytes ≡ 512 → SameData one other image twin
    → SameData one other (put one always p bytes image) (put other always p bytes twin)
put_both {one} {other} {image} {twin} always p bytes h same =
    record {
      pages = same.pages;
      long = length-put one always p bytes image h ∙ same.long;
      twin-long = length-put other always p bytes twin h ∙ same.twin-long;
      read = λ q k.
          ⊎_elim (λ (i : p < same.pages).
          page-put one always p bytes image h (rw (held one same.pages same.long) i) q
          ∙ ap (cond (eqb p q) (some bytes)) (same.read q k)
          ∙ sym (page-put other always p bytes twin h (rw (held other same.pages same.twin-long) i) q))
          (λ (i : same.pages ≤ p).
          ap (λ (l : List ℕ). page_at one l q) (put-outside one always p bytes image (rw (held one same.pages same.long) i))
          ∙ same.read q k
          ∙ sym (ap (λ (l : List ℕ). page_at other l q) (put-outside other always p bytes twin (rw (held other same.pages same.twin-long) i))))
          (below_or_not p same.pages);
    }

-- ---- codes
module _ (p : ℕ) (bytes image : List ℕ) (hb : length bytes ≡ 512) where
  placed-codes : (k : ℕ) → Whole Raw image p → k < 4 → GoodChunk (placed Raw image p bytes) p k
  placed-codes k h b = ap (λ (page : List ℕ). verdict_of page k) (stored-placed Raw image p bytes h hb) ∙ raw.good (stored_page Raw image p) bytes hb k b

  placed-match : CodesMatch image → Whole Raw image p → CodesMatch (placed Raw image p bytes)
  placed-match codes h q k i b =
      let inside : q < pages_in Raw (length image) = rw (length-placed Raw image p bytes h hb) at i in
      ⊎_elim (λ (e : q ≡ p). rw e (placed-codes k h b))
      (λ (n : q ≡ p → ⊥).
      ap (λ (page : List ℕ). verdict_of page k) (raw-other Raw image p bytes h hb q n (inside-whole Raw (length image) q inside)) ∙ codes q k inside b)
      (same_or_not q p)

pub put-codes : (always : Bool) (p : ℕ) (bytes raw : List ℕ) → length bytes ≡ 512 → CodesMatch raw → CodesMatch (put Raw always p bytes raw)
put-codes always p bytes image hb codes = put-either Raw CodesMatch always p bytes image codes (placed-match p bytes image hb codes)

pub written-codes : (p : ℕ) (bytes raw : List ℕ) (k : ℕ) → length bytes ≡ 512 → Inside Raw raw p → k < 4 → GoodChunk (put Raw true p bytes raw) p k
written-codes p bytes image k hb i b =
    let h = inside-whole Raw (length image) p i in
    ap (λ (l : List ℕ). verdict_of (stored_page Raw l p) k) (put_written Raw p bytes image h) ∙ placed-codes p bytes image hb k h b

pub other-codes : (always : Bool) (p : ℕ) (bytes raw : List ℕ) (q k : ℕ) → length bytes ≡ 512 → (q ≡ p → ⊥) → Inside Raw raw q
    → GoodChunk raw q k → GoodChunk (put Raw always p bytes raw) q k
other-codes always p bytes image q k hb n i good =
    ap (λ (page : List ℕ). verdict_of page k) (raw-put Raw always p bytes image hb q n (inside-whole Raw (length image) q i)) ∙ good

-- a spare byte from 12 on lies before or after what any put sets
spare-apart : (p q j : ℕ) → 12 ≤ j → j < 16 → (page_start Raw q + (512 + j) < page_start Raw p) ⊎ (page_start Raw p + 524 ≤ page_start Raw q + (512 + j))
unfolding page_start
spare-apart p q j h k = ⊎_elim (λ (z : q < p). inl (omega arith)) (λ (z : p ≤ q). inr (omega arith)) (below_or_not q p)

spare-is : (raw : List ℕ) (p j : ℕ) → j < 16 → spare_byte raw p j ≡ get_or raw (page_start Raw p + (512 + j)) 0
spare-is image p j h = get_d_part image (page_start Raw p) 528 (512 + j) (omega arith)

pub spare-put : (always : Bool) (p : ℕ) (bytes raw : List ℕ) (q j : ℕ) → length bytes ≡ 512 → 12 ≤ j → j < 16
    → spare_byte (put Raw always p bytes raw) q j ≡ spare_byte raw q j
spare-put always p bytes image q j hb h k =
    spare-is (put Raw always p bytes image) q j k ∙ outside Raw always p bytes image hb (page_start Raw q + (512 + j)) (spare-apart p q j h k)
    ∙ sym (spare-is image q j k)

pub spare-zero : (n p j : ℕ) → j < 16 → spare_byte (replicate n 0) p j ≡ 0
spare-zero n p j h = spare-is (replicate n 0) p j h ∙ zeros n (page_start Raw p + (512 + j))
  where
    zeros : (n i : ℕ) → ◌≡◌ {A = ℕ} (get_or (replicate n 0) i 0) 0
    zeros zero i = refl
    zeros (suc n) zero = refl
    zeros (suc n) (suc i) = zeros n i

-- ---- pages that are readable
read-good : (page : List ℕ) → verdict_of page 0 ≡ Good → verdict_of page 1 ≡ Good → verdict_of page 2 ≡ Good → verdict_of page 3 ≡ Good → is_some (read_raw page) ≡ true
unfolding read_raw
read-good page v0 v1 v2 v3 = rw (v0, v1, v2, v3)

pub codes-readable : (raw : List ℕ) (p : ℕ) → CodesMatch raw → Inside Raw raw p → is_some (page_at Raw raw p) ≡ true
codes-readable image p codes i =
    ap is_some (page-inside Raw image p (inside-whole Raw (length image) p i))
    ∙ read-good (stored_page Raw image p) (codes p 0 i (omega arith)) (codes p 1 i (omega arith)) (codes p 2 i (omega arith)) (codes p 3 i (omega arith))

pub plain-readable : (image : List ℕ) (p : ℕ) → Inside Plain image p → is_some (page_at Plain image p) ≡ true
plain-readable image p i = ap is_some (page-inside Plain image p (inside-whole Plain (length image) p i))

-- ---- plain images
-- a byte of whole plain pages lies in one of them
in-page : (i n : ℕ) → i < page_start Plain n → (i / 512 < n) × (page_start Plain (i / 512) + i % 512 ≡ i)
unfolding page_start
in-page i n h = (omega arith, omega arith)

plain-same : (n : ℕ) (image other : List ℕ) → length image ≡ page_start Plain n → length other ≡ page_start Plain n
    → ((p : ℕ) → p < n → page_at Plain image p ≡ page_at Plain other p) → image ≡ other
plain-same n image other h k read =
    ext_get_or 0 image other (h ∙ sym k)
    (λ i b.
    let at = in-page i n (rw h at b) in
    let a = inside-whole Plain (length image) (i / 512) (rw (held Plain n h) at.0) in
    let z = inside-whole Plain (length other) (i / 512) (rw (held Plain n k) at.0) in
    let same : stored_page Plain image (i / 512) ≡ stored_page Plain other (i / 512) =
    some_same (sym (page-inside Plain image (i / 512) a) ∙ read (i / 512) at.0 ∙ page-inside Plain other (i / 512) z) in
    ap (λ (j : ℕ). get_or image j 0) (sym at.1) ∙ sym (get_d_part image (page_start Plain (i / 512)) 512 (i % 512) (omega arith))
    ∙ ap (λ (page : List ℕ). get_or page (i % 512) 0) same
    ∙ get_d_part other (page_start Plain (i / 512)) 512 (i % 512) (omega arith) ∙ ap (λ (j : ℕ). get_or other j 0) at.1)
  where
    some_same : {a b : List ℕ} → some a ≡ some b → a ≡ b
    some_same e = cc

pub plain-one : {one : Format} {image twin other : List ℕ} → SameData one Plain image twin → SameData one Plain image other → twin ≡ other
plain-one {one} {image} {twin} {other} same also =
    let n : also.pages ≡ same.pages = sym (held one also.pages also.long) ∙ held one same.pages same.long in
    plain-same same.pages twin other same.twin-long (also.twin-long ∙ ap (page_start Plain) n)
    (λ p h. sym (same-page same p) ∙ same-page also p)
