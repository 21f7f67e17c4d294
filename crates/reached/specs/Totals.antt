-- Free, held back and orphaned clusters of a table, each by its own definition over words 0 to alloc_end - 1 (the model's counts).
use Rattle.std.specs.Prelude.{ℕ, Bool, List, length}
use Rattle.model.specs.Counts.{is_free, is_held, is_orphan, takeable, total_below}
use Rattle.reached.specs.Marks.{marks_of}
use Rattle.reached.specs.Table.{table_links}
use Rattle.reached.specs.declared.Reached.{Reached}

-- free: the table word's top bit is clear, and the cluster may be taken
abbrev pub free_at : (ℕ → Bool) → List ℕ → ℕ → ℕ
free_at may_take t c = is_free (takeable may_take (table_links t) c)

-- held back: the table word's top bit is clear, and the cluster may not be taken
abbrev pub held_at : (ℕ → Bool) → List ℕ → ℕ → ℕ
held_at may_take t c = is_held (may_take c) (table_links t c)

-- orphaned: the table word is not free, and no chain reached the cluster
abbrev pub orphan_at : List ℕ → Reached → ℕ → ℕ
orphan_at t r c = is_orphan (table_links t c) (marks_of r c)

abbrev pub free_words : (ℕ → Bool) → List ℕ → ℕ
free_words may_take t = total_below (free_at may_take t) (length t)

abbrev pub held_words : (ℕ → Bool) → List ℕ → ℕ
held_words may_take t = total_below (held_at may_take t) (length t)

abbrev pub orphans_in : List ℕ → Reached → ℕ
orphans_in t r = total_below (orphan_at t r) (length t)
