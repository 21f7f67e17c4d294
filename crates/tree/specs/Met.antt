-- The names met on the walk, in cells: what the check asks of them is only that none is forgotten, whatever the hash.
use Rattle.std.specs.Prelude.{◌≡◌, ℕ, zero, suc, ◌+◌, ◌*◌, ◌/◌, ◌%◌, ◌<◌, ◌≤◌, Bool, true, false, cond, ◌&&◌, List, length, drop, ◌==◌, ◌≢◌, slice_index, slice_set}
use Rattle.model.specs.Names.{Name}
use Rattle.model.specs.View.{View, most_clusters}
use Rattle.tree.specs.Scan.{bears}
use Rattle.tree.specs.Slots.{is_slot, live_before}
use Rattle.tree.specs.declared.names.Hash.{Hash}

-- as many cells as pages of allocatable clusters
abbrev pub most_pages : ℕ
most_pages = 2 * most_clusters

-- ---- the hash of a name

-- residues that the next squares, of two of them and three bytes of a name, fit 64 bits with
abbrev pub Small : Hash → Type 0
Small h = (h.a < 2139095017) × (h.b < 2139095017) × (h.c < 2139095017)

abbrev pub squared : ℕ → ℕ → ℕ
squared x modulus = x * x % modulus

unfoldable pub mixed : Hash → ℕ → Hash
mixed h x =
    record {
      a = squared (h.a + h.c + x) 2139095017;
      b = squared (h.b + h.a + x) 2139095011;
      c = squared (h.c + h.b + x) 2139094963;
    }

-- three bytes as one number; past the end they are zero
abbrev pub three_of : List ℕ → ℕ
three_of l = slice_index l 0 + 256 * slice_index l 1 + 65536 * slice_index l 2

-- the threes of a name from the k-th on, so many of them
unfoldable pub hash_from : Name → ℕ → ℕ → Hash → Hash
hash_from n k zero h = h
hash_from n k (suc left) h = hash_from n (k + 1) left (mixed h (three_of (drop (3 * k) n)))

-- of a name in the directory that begins with cluster `first`
abbrev pub seed_of : ℕ → Hash
seed_of first = record { a = first % 2139095017; b = 1234567891; c = 987654321 }

unfoldable pub hash_of : ℕ → Name → Hash
hash_of first n = mixed (hash_from n 0 (length n / 3 + 1) (seed_of first)) 0

-- a name's mark, from 1 on, and a cell's word: the mark and a page
abbrev pub mark_of : Hash → ℕ
mark_of h = h.a % 32767 + 1

abbrev pub word_of : ℕ → ℕ → ℕ
word_of mark page = mark * most_pages + page

abbrev pub cell_of : Hash → ℕ
cell_of h = h.c % most_pages

-- ---- the cells

module _ (v : View) (table : List ℕ) (start k : ℕ) (n : Name) (mark : ℕ) where
  -- a word is the name's: its mark, the name in its page, and that this is a slot before slot k
  unfoldable pub is_same : ℕ → Bool
  is_same word = word / most_pages == mark && (bears n (v.entry (word % most_pages)) && is_slot table start k (word % most_pages))

  -- Whether the name is met in the cells that its hash leads to; after `left` cells it may be.
  unfoldable pub known : List ℕ → Hash → ℕ → Bool
  known cells h zero = true
  known cells h (suc left) =
      cond (slice_index cells (cell_of h) == 0) false (cond (is_same (slice_index cells (cell_of h))) true (known cells (mixed h 0) left))

  -- the cells with the page in the empty one that ends the search
  unfoldable pub learnt : ℕ → List ℕ → Hash → ℕ → List ℕ
  learnt page cells h zero = cells
  learnt page cells h (suc left) =
      cond (slice_index cells (cell_of h) == 0) (slice_set cells (cell_of h) (word_of mark page))
      (cond (is_same (slice_index cells (cell_of h))) cells (learnt page cells (mixed h 0) left))

-- the search for a name of the directory that begins with cluster `first`, with as many cells to go as there are
abbrev pub is_met : View → List ℕ → ℕ → ℕ → ℕ → Name → List ℕ → Bool
is_met v table first start k n cells = known v table start k n (mark_of (hash_of first n)) cells (hash_of first n) most_pages

abbrev pub with_name : View → List ℕ → ℕ → ℕ → ℕ → Name → ℕ → List ℕ → List ℕ
with_name v table first start k n page cells = learnt v table start k n (mark_of (hash_of first n)) page cells (hash_of first n) most_pages

-- every live name before slot k of the directory is met
pub record Knows (v : View) (table : List ℕ) (first start k : ℕ) (cells : List ℕ) : Type 0 where
  pub room : length cells ≡ most_pages
  pub all : (n : Name) → 1 ≤ live_before v table start k n → is_met v table first start k n cells ≡ true

-- a cell that is filled stays as it is
pub record Grows (before after : List ℕ) : Type 0 where
  pub room : length after ≡ length before
  pub kept : (i : ℕ) → (slice_index before i ≢ 0) → slice_index after i ≡ slice_index before i
