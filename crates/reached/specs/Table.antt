-- The allocation table as the slice of its words 0 to alloc_end - 1, and the model's links of it.
use Rattle.std.specs.Prelude.{ℕ, cond, List, eqb, get_or, length}
use Rattle.model.specs.Entry.{end_mark}
use Rattle.model.specs.View.{Link}
use Rattle.model.specs.Writes.{links_of}

-- the links of a table, free from alloc_end on
abbrev pub table_links : List ℕ → ℕ → Link
table_links t = links_of (length t) (λ c. get_or t c 0)

-- the link that a first cluster is; the word is not masked
abbrev pub first_link_of : ℕ → Link
first_link_of first = cond (eqb first end_mark) Link.last (Link.next first)
