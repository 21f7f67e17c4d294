-- The slots behind cluster 0, as many as the root's first page counts.
use Rattle.std.proofs.Common.{[], ◌∙◌, ap, of_z, refl, to_z}
use mir.Syntax.{w32}
use mir.ValLaws.{to_z-of_z}
use Rattle.model.proofs.Equality.{tf}
use Rattle.model.specs.Entry.{entry_of}
use Rattle.tree.proofs.LookLaws.{was_read}
use Rattle.tree.proofs.PageReads.{readable}
use Rattle.tree.specs.Card.{view_of}
use Rattle.listing.specs.Text.{tree_text}
use Rattle.listing.proofs.EmitLaws.{writes_as}
use Rattle.listing.proofs.TreeLaws.{root-read}
use Rattle.listing.proofs.entries.list_tree.Goals as goal

pub returns-else-read_slot : goal.returns-else-read_slot
returns-else-read_slot c =
    λ root card. tf (readable c.read_slot.ensures card.root_page) c.if-read_slot.false

pub returns-then-read_slot : goal.returns-then-read_slot
returns-then-read_slot c =
    let a = c.args in
    λ root card.
    let text = root-read (to_z w32 (of_z w32 a.minutes)) (view_of a.card.now) a.card.now.table.now (λ n. refl) root card (entry_of c.read_slot.new.out) _ _ _ _ (was_read c.read_slot.ensures c.if-read_slot.true) c.root.ensures.0 c.next_of.ensures c.slots_of.ensures c.word_at.ensures in
    writes_as (text ∙ ap (λ s. tree_text s [] root.slots) (to_z-of_z w32 a.minutes c.ranges.minutes)) c.list_slots.ensures
