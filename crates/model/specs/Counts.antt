-- Free, held back, reached and orphaned clusters, each by its own definition over the allocatable clusters 0 to alloc_end - 1.
use Rattle.std.specs.Prelude.{◌+◌, ◌/◌, suc, zero, ℕ, Bool, ◌&&◌, ◌||◌, cond, false, not, List, [], ◌∷◌, eqb, ltb}
use Rattle.model.specs.Tree.{Root, reached}
use Rattle.model.specs.View.{Link, View}

-- ---- the reserved tail

-- the one N of a card with a tail, and the table index where it starts
abbrev pub standard_clusters : ℕ
standard_clusters = 8192

abbrev pub tail_start : ℕ
tail_start = 8000

-- Where N is 8,192 and alloc_end above 8,000, no new cluster is taken from 8,000 up; on every other card the limit is alloc_end.
abbrev pub take_limit : ℕ → ℕ → ℕ
take_limit clusters alloc_end = cond (eqb clusters standard_clusters && ltb tail_start alloc_end) tail_start alloc_end

-- ---- the bad blocks

-- the list has this many words; one that names no block is ones
abbrev pub list_words : ℕ
list_words = 32

abbrev pub no_block : ℕ
no_block = 0xFFFFFFFF

-- an erase block is 8 clusters of the card
abbrev pub block_of : ℕ → ℕ
block_of cluster = cluster / 8

-- every word of the list counts, also after one that names none, which is no block's number
abbrev pub is_listed : List ℕ → ℕ → Bool
is_listed [] block = false
is_listed (b ∷ bad) block = eqb b block || is_listed bad block

-- ---- which clusters may be taken

-- A new cluster lies below the limit and in no listed block. Table index c is the card's cluster alloc_offset + c.
abbrev pub may_take_on : ℕ → ℕ → ℕ → List ℕ → ℕ → Bool
may_take_on clusters alloc_end offset bad c = ltb c (take_limit clusters alloc_end) && not (is_listed bad (block_of (offset + c)))

-- ---- one cluster

abbrev pub is_free : Link → ℕ
is_free Link.free = 1
is_free Link.last = 0
is_free (Link.next a) = 0

-- free: table word free, and the cluster may be taken; one that may not counts as used
abbrev pub takeable : (ℕ → Bool) → (ℕ → Link) → ℕ → Link
takeable may_take link c = cond (may_take c) (link c) Link.last

-- held back: table word free, and the cluster may not be taken
abbrev pub is_held : Bool → Link → ℕ
is_held may_take l = cond may_take 0 (is_free l)

-- orphaned: table word not free, and reached by no chain
abbrev pub is_orphan : Link → ℕ → ℕ
is_orphan Link.free n = 0
is_orphan Link.last n = cond (eqb n 0) 1 0
is_orphan (Link.next a) n = cond (eqb n 0) 1 0

-- ---- the counts

-- a count summed over the clusters below k
abbrev pub total_below : (ℕ → ℕ) → ℕ → ℕ
total_below f zero = 0
total_below f (suc k) = total_below f k + f k

abbrev pub free_count : (ℕ → Bool) → ℕ → View → ℕ
free_count may_take alloc_end v = total_below (λ c. is_free (takeable may_take v.link c)) alloc_end

abbrev pub held_count : (ℕ → Bool) → ℕ → View → ℕ
held_count may_take alloc_end v = total_below (λ c. is_held (may_take c) (v.link c)) alloc_end

abbrev pub reached_count : ℕ → Root → ℕ
reached_count alloc_end r = total_below (reached r) alloc_end

abbrev pub orphan_count : ℕ → View → Root → ℕ
orphan_count alloc_end v r = total_below (λ c. is_orphan (v.link c) (reached r c)) alloc_end
