-- The listed clusters, the pages and the words are those that the change names; they land, so they are put down.
use Prim.Native.Nat.{◌+◌, ◌-◌}
use native.Mathlib.Omega.{arith}
use Rattle.change.proofs.DeedSteps.{image-as}
use Rattle.change.proofs.AddSteps.{Counted, lands-so, last-by, one-cluster, own-long, room-so, words-so, writes-so}
use Rattle.change.proofs.FreeLaws.{taken-low}
use Rattle.change.proofs.adding.add_listed.Goals as goal

pub overflow_cast-new : goal.overflow_cast-new
overflow_cast-new c =
    let a = c.args in
    let k : Counted a.s a.table.now a.list.now a.bytes.now a.directory a.new.dead c.word_at-entries.result c.growth_by-growing.result c.clusters_for.result =
    record { entries-are = c.word_at-entries.ensures; growing-is = c.growth_by-growing.ensures; own_is = c.clusters_for.ensures; free = c.requires.0 } in
    omega (arith, c.requires.1.small (room-so k))

pub relink-requires : goal.relink-requires
relink-requires c =
    let a = c.args in
    let k : Counted a.s a.table.now a.list.now a.bytes.now a.directory a.new.dead c.word_at-entries.result c.growth_by-growing.result c.clusters_for.result =
    record { entries-are = c.word_at-entries.ensures; growing-is = c.growth_by-growing.ensures; own_is = c.clusters_for.ensures; free = c.requires.0 } in
    let growing = c.growth_by-growing.result in
    (omega (arith, last-by k c.cluster_at-last.ensures, c.requires.1.low-last), taken-low a.s.geometry.format a.image.now a.table.now a.s c.requires.1.card.opened c.requires.1.card.long growing (growing + c.clusters_for.result - growing) a.list.now c.requires.0.listed)

pub put_down-requires : goal.put_down-requires
put_down-requires c =
    let a = c.args in
    let k : Counted a.s a.table.now a.list.now a.bytes.now a.directory a.new.dead c.word_at-entries.result c.growth_by-growing.result c.clusters_for.result =
    record { entries-are = c.word_at-entries.ensures; growing-is = c.growth_by-growing.ensures; own_is = c.clusters_for.ensures; free = c.requires.0 } in
    record {
      card = record { opened = c.requires.1.card.opened; long = omega (arith, c.relink.auto, c.requires.1.card.long) };
      one = one-cluster k;
      filled = own-long k;
      lands =
          lands-so k c.cluster_at-last.ensures a.new.mode a.new.count a.time.now a.name.now c.page_by-slot.ensures c.first_of.ensures
          c.new_page-page.ensures c.length_by.ensures c.with_length-longer.ensures a.s.end (c.requires.1.lands c.requires.2 (room-so k));
    }

pub returns : goal.returns
returns c =
    let a = c.args in
    let k : Counted a.s a.table.now a.list.now a.bytes.now a.directory a.new.dead c.word_at-entries.result c.growth_by-growing.result c.clusters_for.result =
    record { entries-are = c.word_at-entries.ensures; growing-is = c.growth_by-growing.ensures; own_is = c.clusters_for.ensures; free = c.requires.0 } in
    image-as a.s a.image.now c.put_down.ensures
    (writes-so k c.cluster_at-last.ensures a.new.mode a.new.count a.time.now a.name.now c.page_by-slot.ensures c.first_of.ensures
    c.new_page-page.ensures c.length_by.ensures c.with_length-longer.ensures)
    (words-so k c.cluster_at-last.ensures c.relink.ensures)
