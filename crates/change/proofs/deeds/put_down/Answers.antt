-- The pages lie behind the indirect cluster, so the table's names are still those of the card as opened.
use native.Mathlib.Omega.{arith}
use Rattle.change.specs.Deeds.{write_of, writes_of}
use Rattle.change.proofs.DeedSteps.{entries-land, first-readable, opened-most, second-readable, stored}
use Rattle.change.proofs.deeds.put_down.Goals as goal

pub write_pages-requires : goal.write_pages-requires
write_pages-requires c =
    let a = c.args in
    let pre = c.requires in
    let most = opened-most a.s.geometry.format a.image.now a.s pre.card.opened in
    let both = entries-land a.s.end a.growth.now a.taken.now a.bytes.now (write_of a.directory) (write_of a.own) pre.lands in
    (pre.one, pre.filled, omega (arith, both.0, most), omega (arith, both.1, most))

pub store_table-requires : goal.store_table-requires
store_table-requires c =
    let a = c.args in
    let pre = c.requires in
    let ws = writes_of a.growth.now a.taken.now a.bytes.now (write_of a.directory) (write_of a.own) in
    (opened-most a.s.geometry.format a.image.now a.s pre.card.opened, pre.card.long, first-readable a.s.geometry.format a.image.now a.s pre.card.opened ws pre.lands c.write_pages.ensures, second-readable a.s.geometry.format a.image.now a.s pre.card.opened ws pre.lands c.write_pages.ensures)

pub returns : goal.returns
returns c =
    let a = c.args in
    let pre = c.requires in
    let ws = writes_of a.growth.now a.taken.now a.bytes.now (write_of a.directory) (write_of a.own) in
    stored a.s.geometry.format a.image.now a.s pre.card.opened ws pre.lands c.write_pages.ensures a.table.now c.store_table.ensures
