-- The superblock's end is small enough for the check of the table, whose answer is what is left where page 0 is good.
use Rattle.std.proofs.Common.{length, sym, ◌∙◌}
use Rattle.layout.specs.Table.{unless, with_page, open_card}
use Rattle.layout.proofs.OpenFacts.{end-most}
use Rattle.layout.proofs.judge_card.Goals as goal

pub judge_table-requires : goal.judge_table-requires
judge_table-requires c =
    let a = c.args in
    let size = sym c.good_length.ensures ∙ c.if-not-good_length.false in
    let rules = rw c.clusters_in.ensures at (sym c.good_superblock.ensures ∙ c.if-not-good_superblock.false) in
    rw c.superblock_of.ensures (end-most a.format (length a.image.now) c.need_page.new.out size rules)

pub returns-clause-judged : goal.returns-clause-judged
unfolding open_card unless with_page
returns-clause-judged c =
    let size = sym c.good_length.ensures ∙ c.if-not-good_length.false in
    let text = sym c.good_text.ensures ∙ c.if-not-good_text.false in
    let rules = rw c.clusters_in.ensures at (sym c.good_superblock.ensures ∙ c.if-not-good_superblock.false) in
    rw c.superblock_of.ensures at c.judge_table.ensures.judged ∙ rw (size, c.in_ok-need_page.ensures.needed, text, rules)
