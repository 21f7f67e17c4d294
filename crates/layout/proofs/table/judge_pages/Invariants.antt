use Rattle.std.proofs.Common.{◌≡◌, ◌+◌, ◌++◌}
use Rattle.page.specs.Mended.{mended_chunks, wrapped}
use Rattle.model.specs.Check.{ok}
use Rattle.layout.specs.declared.Superblock.{Superblock}
use Rattle.layout.specs.Table.{table_names}
use Rattle.layout.proofs.MendedLaws.{count_from}
use Rattle.layout.proofs.TablePages.{pages_from}
use Rattle.layout.proofs.table.judge_pages.Given as goal

abbrev pub invariant-loop-t : goal.invariant-loop-t
invariant-loop-t l =
    (wrapped (l.mended + count_from (mended_chunks l.format l.image) (table_names (l.indirect.first ++ l.indirect.second) l.count) l.t) ≡ wrapped (l.initial.mended + count_from (mended_chunks l.format l.image) (table_names (l.indirect.first ++ l.indirect.second) l.count) 0))
    × ((s : Superblock) → pages_from l.format l.image (table_names (l.indirect.first ++ l.indirect.second) l.count) (ok s) 0 ≡ pages_from l.format l.image (table_names (l.indirect.first ++ l.indirect.second) l.count) (ok s) l.t)
