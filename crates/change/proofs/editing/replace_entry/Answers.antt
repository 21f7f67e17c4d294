-- Refused on a directory, by a lock and for want of room; otherwise the new contents are put down with the free clusters listed.
use mathlib.Core.Path.{◌∙◌, ap, sym}
use native.Mathlib.Omega.{arith}
use lib.ListN.{length}
use Rattle.change.proofs.CallLaws.{leaves}
use Rattle.change.proofs.EditSteps.{can-land, replaced-done, replaced-full, replaced-kind, replaced-locked}
use Rattle.change.proofs.FreeLaws.{collected-inside, table-small}
use Rattle.change.proofs.editing.replace_entry.Goals as goal

pub returns-then-is_directory : goal.returns-then-is_directory
returns-then-is_directory c =
    let a = c.args in
    leaves (replaced-kind a.s a.image.now a.table.now a.directory a.entry a.time.now a.bytes.now (sym c.is_directory.ensures ∙ c.if-is_directory.true))

pub returns-then-either_locked : goal.returns-then-either_locked
returns-then-either_locked c =
    let a = c.args in
    leaves (replaced-locked a.s a.image.now a.table.now a.directory a.entry a.time.now a.bytes.now (sym c.is_directory.ensures ∙ c.if-is_directory.false) (sym c.either_locked.ensures ∙ c.if-either_locked.true))

pub collect_free-free-requires : goal.collect_free-free-requires
collect_free-free-requires c =
    let small = table-small c.args.s.geometry.format c.args.image.now c.args.table.now c.args.s c.requires.0.opened c.requires.0.long in
    (omega (arith, small), small)

pub returns-then-free-clusters_for : goal.returns-then-free-clusters_for
returns-then-free-clusters_for c =
    let a = c.args in
    leaves (replaced-full a.s a.image.now a.table.now a.directory a.entry a.time.now a.bytes.now (sym c.is_directory.ensures ∙ c.if-is_directory.false) (sym c.either_locked.ensures ∙ c.if-either_locked.false)
    (omega (arith, c.collect_free-free.ensures.0, c.clusters_for.ensures, c.if-free-clusters_for.true)))

pub slice_bounds-list-end : goal.slice_bounds-list-end
slice_bounds-list-end c =
    collected-inside c.collect_free-free.new.list c.collect_free-free.ensures.0 c.collect_free-free.ensures.1

pub replace_listed-requires : goal.replace_listed-requires
replace_listed-requires c =
    let a = c.args in (
      c.requires.0,
      record { listed = c.collect_free-free.ensures.1; room = omega (arith, c.collect_free-free.ensures.0, ap length c.collect_free-free.ensures.1, c.clusters_for.ensures, c.if-free-clusters_for.false) },
      can-land a.s a.image.now a.table.now a.directory a.entry a.time.now a.bytes.now (sym c.is_directory.ensures ∙ c.if-is_directory.false) (sym c.either_locked.ensures ∙ c.if-either_locked.false)
          (omega (arith, c.collect_free-free.ensures.0, c.clusters_for.ensures, c.if-free-clusters_for.false)) c.requires.1,
    )

pub returns : goal.returns
returns c =
    let a = c.args in
    leaves (replaced-done a.s a.image.now a.table.now a.directory a.entry a.time.now a.bytes.now (sym c.is_directory.ensures ∙ c.if-is_directory.false) (sym c.either_locked.ensures ∙ c.if-either_locked.false)
    (omega (arith, c.collect_free-free.ensures.0, c.clusters_for.ensures, c.if-free-clusters_for.false)) c.replace_listed.ensures)
