-- The table is loaded only where the whole check was passed, so that a refusal leaves it.
use Rattle.std.proofs.Common.{◌≡◌, sym, arith}
use Rattle.model.specs.Check.{ok}
use Rattle.layout.specs.Table.{open_card}
use Rattle.layout.proofs.MendedLaws.{opening-counted}
use Rattle.layout.proofs.OpenFacts.{open-facts, own-format}
use Rattle.layout.proofs.open_card.Goals as goal

pub load_table-requires : goal.load_table-requires
load_table-requires c =
    let a = c.args in
    let e : open_card a.format a.image.now ≡ ok c.superblock_of-superblock.result = rw c.superblock_of-superblock.ensures (sym c.in_ok-judge_card.ensures.judged) in
    let g = open-facts a.format a.image.now _ e in
    (own-format _ _ _ e, omega (arith, g.room, g.most))

pub returns-clause-mended : goal.returns-clause-mended
returns-clause-mended c =
    let a = c.args in
    let same = c.superblock_of-superblock.ensures in
    opening-counted a.format a.image.now c.superblock_of-superblock.result c.settled.ensures.1 (rw same c.in_ok-judge_card.ensures.judged)
    (rw (same, c.settled.ensures.0) c.in_ok-judge_card.ensures.counted)
