-- The allocation table in memory, as a change works on it: its free clusters, a chain linked, a chain freed.
use Rattle.std.specs.Prelude.{ℕ, zero, suc, ◌%◌, List, [], ◌∷◌, get_or, length, set}
use Rattle.layout.specs.declared.Superblock.{Superblock}
use Rattle.model.specs.Counts.{takeable}
use Rattle.model.specs.Plan.{free_below}
use Rattle.model.specs.View.{link_of, top_bit}
use Rattle.model.specs.Writes.{word_to}
use Rattle.tree.specs.Slots.{next_of}
use Rattle.change.specs.Changed.{rules_of}

-- the free clusters of a card's table that may be taken, ascending
abbrev pub free_list : Superblock → List ℕ → List ℕ
free_list s table = free_below (takeable (rules_of s).may_take (λ c. link_of (get_or table c 0))) (length table)

-- A table in which each of the clusters leads to the next one and the last has the end mark; one outside the table is passed over.
unfoldable pub chained : List ℕ → List ℕ → List ℕ
chained [] table = table
chained (c ∷ cs) table = set (chained cs table) c (word_to cs)

-- A table in which `count` clusters of the chain that begins with c are free: the top bit is cleared, the low 31 bits stay.
unfoldable pub cleared_from : ℕ → ℕ → List ℕ → List ℕ
cleared_from c zero table = table
cleared_from c (suc count) table = cleared_from (next_of table c) count (set table c (get_or table c 0 % top_bit))
