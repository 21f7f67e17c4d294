-- What the laws of images use of a format: where a page lies, and that what is stored of a page reads back.
use Rattle.std.proofs.Common.{◌≡◌, ℕ, ◌+◌, ◌*◌, ◌/◌, ◌%◌, ◌<◌, ◌≤◌, List, ◌++◌, length, get_or, sym, refl, ap, ◌∙◌, append-nil, arith}
use mathlib.Core.Option.{some}
use Rattle.page.specs.declared.Format.{Format}
use Rattle.page.specs.declared.Format.TheVariants.{Plain, Raw}
use Rattle.page.specs.Page.{cluster_bytes, page_bytes, page_start, pages_in, part, read_stored, stored_as, written_bytes}
use Rattle.page.proofs.Coded as raw

-- ---- where a page lies
pub inside-whole : (format : Format) (bytes p : ℕ) → p < pages_in format bytes → page_start format p + page_bytes format ≤ bytes
unfolding pages_in page_start
inside-whole Raw bytes p h = omega arith
inside-whole Plain bytes p h = omega arith

pub whole-inside : (format : Format) (bytes p : ℕ) → page_start format p + page_bytes format ≤ bytes → p < pages_in format bytes
unfolding pages_in page_start
whole-inside Raw bytes p h = omega arith
whole-inside Plain bytes p h = omega arith

-- an earlier page ends where a later one begins, or before
pub apart : (format : Format) (p q : ℕ) → p < q → page_start format p + page_bytes format ≤ page_start format q
unfolding page_start
apart Raw p q h = omega arith
apart Plain p q h = omega arith

pub cluster-pages : (format : Format) (bytes : ℕ) → bytes % cluster_bytes format ≡ 0 → pages_in format bytes ≡ 2 * (bytes / cluster_bytes format)
unfolding pages_in
cluster-pages Raw bytes h = omega arith
cluster-pages Plain bytes h = omega arith

-- whole clusters are as many bytes as they have together
pub whole-clusters : (format : Format) (bytes : ℕ) → bytes % cluster_bytes format ≡ 0 → bytes ≡ cluster_bytes format * (bytes / cluster_bytes format)
whole-clusters Raw bytes h = omega arith
whole-clusters Plain bytes h = omega arith

-- clusters have at least their data: 1,024 bytes each
pub clusters-least : (format : Format) (n : ℕ) → 1024 * n ≤ cluster_bytes format * n
clusters-least Raw n = omega arith
clusters-least Plain n = omega arith

-- ---- whole pages with nothing after them
pub pages-start : (format : Format) (n : ℕ) → pages_in format (page_start format n) ≡ n
unfolding pages_in page_start
pages-start Raw n = omega arith
pages-start Plain n = omega arith

pub start-clusters : (format : Format) (n : ℕ) → page_start format n / cluster_bytes format ≡ n / 2
unfolding page_start
start-clusters Raw n = omega arith
start-clusters Plain n = omega arith

-- they are whole clusters just where their number is even
pub even-whole : (format : Format) (n : ℕ) → n % 2 ≡ 0 → page_start format n % cluster_bytes format ≡ 0
unfolding page_start
even-whole Raw n h = omega arith
even-whole Plain n h = omega arith

pub whole-even : (format : Format) (n : ℕ) → page_start format n % cluster_bytes format ≡ 0 → n % 2 ≡ 0
unfolding page_start
whole-even Raw n h = omega (arith, start-clusters Raw n)
whole-even Plain n h = omega (arith, start-clusters Plain n)

pub clusters-start : (format : Format) (n : ℕ) → cluster_bytes format * n ≡ page_start format (2 * n)
unfolding page_start
clusters-start Raw n = omega arith
clusters-start Plain n = omega arith

-- ---- what is stored of a page
pub read_length : (format : Format) (page d : List ℕ) → length page ≡ page_bytes format → read_stored format page ≡ some d → length d ≡ 512
read_length Raw page d h e = raw.read_length page d h e
read_length Plain page d h e = let z : page ≡ d = cc in ap length (sym z) ∙ h

pub read-bytes : (format : Format) (page d : List ℕ) → ((i : ℕ) → get_or page i 0 < 256) → read_stored format page ≡ some d → (i : ℕ) → get_or d i 0 < 256
read-bytes Raw page d h e i = raw.read-bytes page d h e i
read-bytes Plain page d h e i = let z : page ≡ d = cc in rw (← z) (h i)

pub length-stored : (format : Format) (old bytes : List ℕ) → length bytes ≡ 512 → length old ≡ page_bytes format → length (stored_as format old bytes) ≡ page_bytes format
length-stored Raw old bytes h e = raw.length-coded old bytes h e
length-stored Plain old bytes h e = h

pub read-stored : (format : Format) (old bytes : List ℕ) → length bytes ≡ 512 → read_stored format (stored_as format old bytes) ≡ some bytes
read-stored Raw old bytes h = raw.read-coded old bytes h
read-stored Plain old bytes h = refl

-- the bytes that a write sets, and how many of the old page's follow them
abbrev pub front : Format → List ℕ → List ℕ
front Raw bytes = raw.front bytes
front Plain bytes = bytes

abbrev pub kept_bytes : Format → ℕ
kept_bytes Raw = 4
kept_bytes Plain = 0

pub length_front : (format : Format) (bytes : List ℕ) → length bytes ≡ 512 → length (front format bytes) ≡ written_bytes format
length_front Raw bytes h = raw.length_front bytes h
length_front Plain bytes h = h

pub with-kept : (format : Format) → written_bytes format + kept_bytes format ≡ page_bytes format
with-kept Raw = refl
with-kept Plain = refl

pub stored-front : (format : Format) (old bytes : List ℕ) → stored_as format old bytes ≡ front format bytes ++ part old (written_bytes format) (kept_bytes format)
stored-front Raw old bytes = raw.coded-front old bytes
stored-front Plain old bytes = sym (append-nil bytes)
