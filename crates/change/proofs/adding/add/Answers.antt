-- A locked directory is refused. All free clusters are collected and counted; where they are enough, the entry is put down with those that are listed.
use mathlib.Core.Path.{◌∙◌, ap, sym}
use native.Mathlib.Omega.{arith}
use lib.ListN.{length}
use Rattle.change.proofs.AddSteps.{added-done, added_full, added-locked, need-so}
use Rattle.change.proofs.CallLaws.{leaves}
use Rattle.change.proofs.FreeLaws.{collected-inside, growth-small, table-small}
use Rattle.change.proofs.adding.add.Goals as goal

pub returns-then-is_locked : goal.returns-then-is_locked
returns-then-is_locked c =
    let a = c.args in
    leaves (added-locked a.s a.image.now a.table.now a.directory a.new a.time.now a.name.now a.bytes.now (sym c.is_locked.ensures ∙ c.if-is_locked.true))

pub collect_free-free-requires : goal.collect_free-free-requires
collect_free-free-requires c =
    let small = table-small c.args.s.geometry.format c.args.image.now c.args.table.now c.args.s c.requires.card.opened c.requires.card.long in
    (omega (arith, small), small)

pub overflow_add-clusters_for : goal.overflow_add-clusters_for
overflow_add-clusters_for c =
    omega (arith, c.well_formed.1.1.1.1.1.1.1.0, c.clusters_for.ensures, c.growth_by.ensures, growth-small c.args.new.dead c.word_at.result)

pub returns-then-free-clusters_for : goal.returns-then-free-clusters_for
returns-then-free-clusters_for c =
    let a = c.args in
    leaves (added_full a.s a.image.now a.table.now a.directory a.new a.time.now a.name.now a.bytes.now (sym c.is_locked.ensures ∙ c.if-is_locked.false)
    (omega (arith, c.collect_free-free.ensures.0, need-so a.directory a.new.dead a.bytes.now c.clusters_for.ensures c.word_at.ensures c.growth_by.ensures, c.if-free-clusters_for.true)))

pub slice_bounds-list-end : goal.slice_bounds-list-end
slice_bounds-list-end c =
    collected-inside c.collect_free-free.new.list c.collect_free-free.ensures.0 c.collect_free-free.ensures.1

pub add_listed-requires : goal.add_listed-requires
add_listed-requires c =
    let a = c.args in
    (record { listed = c.collect_free-free.ensures.1; room = omega (arith, c.collect_free-free.ensures.0, ap length c.collect_free-free.ensures.1, need-so a.directory a.new.dead a.bytes.now c.clusters_for.ensures c.word_at.ensures c.growth_by.ensures, c.if-free-clusters_for.false) }, c.requires, sym c.is_locked.ensures ∙ c.if-is_locked.false)

pub returns : goal.returns
returns c =
    let a = c.args in
    leaves (added-done a.s a.image.now a.table.now a.directory a.new a.time.now a.name.now a.bytes.now (sym c.is_locked.ensures ∙ c.if-is_locked.false)
    (omega (arith, c.collect_free-free.ensures.0, need-so a.directory a.new.dead a.bytes.now c.clusters_for.ensures c.word_at.ensures c.growth_by.ensures, c.if-free-clusters_for.false)) c.add_listed.ensures)
