use Rattle.std.proofs.Common.{◌≡◌, ◌%◌, ◌++◌}
use Rattle.layout.specs.Table.{table_clusters, table_names, table_word}
use Rattle.layout.proofs.UpTo.{filled}
use Rattle.layout.proofs.TableLaws.{Holding}
use Rattle.layout.proofs.table.load_words.Given as goal

abbrev pub invariant-loop-c : goal.invariant-loop-c
invariant-loop-c l =
    (l.table ≡ filled (table_word l.format l.image (table_names (l.indirect.first ++ l.indirect.second) (table_clusters l.end))) l.initial.table l.c)
    × ((l.c % 128 ≡ 0 → ⊥) → Holding l.format l.image (table_names (l.indirect.first ++ l.indirect.second) (table_clusters l.end)) l.c l.page)
