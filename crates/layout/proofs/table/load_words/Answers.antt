-- The loop's invariant: the first c words are the table's, the others as they were; the buffer has the page of word c, but where word c starts a page.
use Rattle.std.proofs.Common.{◌/◌, ◌++◌, sym, refl, ◌∙◌, arith}
use Rattle.layout.specs.Table.{table_clusters, table_names}
use Rattle.layout.proofs.UpTo.{filled_none}
use Rattle.layout.proofs.TableLaws.{Holding, div_ceil-clusters, just-read, word_more, still-held}
use Rattle.layout.proofs.table.load_words.Goals as goal
use Rattle.layout.proofs.table.load_words.Goals.{then-c-eq0, else-c-eq0}

pub loop-c-init : goal.loop-c-init
loop-c-init c = (sym (filled_none _ _), λ n. absurd (n refl))

pub loop-c-preserved : goal.loop-c-preserved
loop-c-preserved c =
    let a = c.args in
    let l = c.loop-c in
    let joined = c.if-c-eq0 in
    let format = a.format in
    let image = a.image.now in
    let names = table_names (a.indirect.now.first ++ a.indirect.now.second) (table_clusters a.end) in
    let count = c.div_ceil-count.ensures ∙ div_ceil-clusters a.end in
    let here : Holding format image names l.c joined.page =
    elim joined.branch [
      | then-c-eq0 w ↦ just-read format image names l.c (rw count at w.table_page.ensures) (c.requires.2 (l.c / 128) (omega arith)) w.read_page.ensures.read w.page-is
      | else-c-eq0 w ↦ w.page-is ∙ l.invariant.1 w.if-c-eq0.false
    ] in (
      word_more format image names a.table.now l.table joined.page l.c (omega arith) here c.word_at.result c.word_at.ensures l.invariant.0,
      still-held format image names a.table.now l.table joined.page l.c here,
    )
