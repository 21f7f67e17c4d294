-- What the file system sees of a card: pages as read, the entries in them, and the allocation table as links.
use Rattle.std.specs.Prelude.{◌*◌, ◌+◌, ◌-◌, ℕ, cond, List, [], ◌∷◌, eqb, ltb}
use Rattle.std.proofs.Math.Option.{Option}
use Rattle.model.specs.Entry.{Entry, end_mark}

-- the largest N; alloc_end is at most N
abbrev pub most_clusters : ℕ
most_clusters = 65536

-- An allocation table word: free, the end of a chain, or the next cluster.
pub data Link : Type 0 where
  free : Link
  last : Link
  next : ℕ → Link

abbrev pub top_bit : ℕ
top_bit = 0x80000000

-- Top bit clear: free. 0xFFFFFFFF: the end. Otherwise the low 31 bits are the next cluster.
abbrev pub link_of : ℕ → Link
link_of w = cond (ltb w top_bit) Link.free (cond (eqb w end_mark) Link.last (Link.next (w - top_bit)))

-- Pages are counted from the first allocatable cluster: cluster c has the pages 2c and 2c + 1.
-- A page is its data as read, or nothing where it is unreadable. From alloc_end on a cluster counts as free, so that no chain is sound there.
pub record View : Type 0 where
  pub page : ℕ → Option (List ℕ)
  pub entry : ℕ → Option Entry
  pub link : ℕ → Link

-- the link that an entry's first cluster is; the word is not masked
abbrev pub first_link : Entry → Link
first_link e = cond (eqb e.first_cluster end_mark) Link.last (Link.next e.first_cluster)

-- the pages of a chain, in order
abbrev pub pages_of : List ℕ → List ℕ
pages_of [] = []
pages_of (c ∷ cs) = (2 * c) ∷ (2 * c + 1) ∷ pages_of cs
