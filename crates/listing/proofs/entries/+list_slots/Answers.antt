-- A turn writes the line of a slot and, where there is room further down, what is inside it.
use Rattle.std.proofs.Common.{ap, arith, of_z, sym, to_z}
use mir.Syntax.{w32}
use mir.ValLaws.{to_z-of_z}
use Rattle.tree.specs.Card.{view_of}
use Rattle.tree.specs.Slots.{slot_pages}
use Rattle.listing.specs.Paths.{path_bytes}
use Rattle.listing.specs.Render.{slots_text}
use Rattle.listing.proofs.EmitLaws.{writes_as, writes_none}
use Rattle.listing.proofs.RenderLaws.{left-none, turn-deep, turn-flat, turn-none}
use Rattle.listing.proofs.entries.+list_slots.Goals.{in-Some+then-below-gt0, in-Some+else-below-gt0, in_default}
use Rattle.listing.proofs.entries.+list_slots.Goals as goal

pub loop-k-preserved : goal.loop-k-preserved
loop-k-preserved t c =
    let a = c.args in
    let i = c.list_entry-inside.ensures in
    λ last w. elim c.match-inside.branch [
      | in-Some+then-below-gt0 z ↦
          turn-deep _ _ _ _ _ _ _ _ _ _ c.loop-k-test.true c.slot_page.ensures.0 c.cluster_after-c.ensures c.loop-k.invariant i.line z.if-below-gt0.true (rw z.in-Some.is at i.leads) z.list_slots.ensures last (rw z.text-is at w)
      | in-Some+else-below-gt0 z ↦
          turn-flat _ _ _ _ _ _ _ _ _ _ c.loop-k-test.true c.slot_page.ensures.0 c.cluster_after-c.ensures c.loop-k.invariant i.line (omega arith) last (rw z.text-is at w)
      | in_default z ↦
          turn-none _ _ _ _ _ _ _ _ _ _ c.loop-k-test.true c.slot_page.ensures.0 c.cluster_after-c.ensures c.loop-k.invariant i.line (rw z.in_default.is at i.leads) last (rw z.text-is at w)
    ]

pub returns : goal.returns
returns t c =
    let a = c.args in
    let v = view_of a.card.now in
    let table = a.card.now.table.now in
    let path = path_bytes a.directory.now.path in
    let same = to_z-of_z w32 a.minutes c.ranges.minutes in
    let whole = c.loop-k.invariant c.loop-k.text (writes_as (sym (left-none (to_z w32 (of_z w32 a.minutes)) v table a.below path c.loop-k.c c.loop-k.k a.directory.now.count (omega arith))) (writes_none _)) in
    writes_as (ap (λ s. slots_text s v table a.below path (slot_pages table a.directory.now.start 0 a.directory.now.count)) same) whole
