-- `tree::walk::walk_root` meets its contract: the root's first entry, its chain, its inside.
use Rattle.std.proofs.Common.{sym, refl, ◌∙◌, arith}
use borrow.Author.Tests.{not-false, not-true}
use Rattle.tree.specs.Card.{view_of}
use Rattle.tree.specs.Mended.{mended_page}
use Rattle.tree.proofs.LookLaws.{unread, was_read}
use Rattle.tree.proofs.RootLaws.{root-bad, root-broken, root-good, root-sound, root-unread}
use Rattle.tree.proofs.walk.walk_root.Goals as goal

pub returns-then-not-read_slot : goal.returns-then-not-read_slot
returns-then-not-read_slot c =
    let card = c.args.card.now in
    rw (c.unreadable.ensures.whole (omega arith))
    (root-unread (view_of card) (mended_page card.geometry card.image.now) card.geometry c.args.mended.now _ _ (unread c.read_slot.ensures c.if-not-read_slot.true) refl)

pub returns-then-not-is_root : goal.returns-then-not-is_root
returns-then-not-is_root c =
    let card = c.args.card.now in
    root-bad (view_of card) (mended_page card.geometry card.image.now) card.geometry c.args.mended.now _ (was_read c.read_slot.ensures c.if-not-read_slot.false) _ (sym c.is_root.ensures ∙ c.if-not-is_root.true)

pub returns-then-not-chain : goal.returns-then-not-chain
returns-then-not-chain c =
    let card = c.args.card.now in
    root-broken (view_of card) (mended_page card.geometry card.image.now) card.geometry c.args.mended.now _ (was_read c.read_slot.ensures c.if-not-read_slot.false) (sym c.is_root.ensures ∙ c.if-not-is_root.false) card.table.now c.requires (λ x. refl) c.div_ceil.result (omega (arith, c.div_ceil.ensures, c.word_at-n.ensures)) _ c.new.ensures c.walk_chain-chain.result c.walk_chain-chain.ensures _ (not-true _ c.if-not-chain.true)

pub walk_tree-requires : goal.walk_tree-requires
walk_tree-requires c =
    let card = c.args.card.now in
    (c.requires, root-sound (view_of card) (mended_page card.geometry card.image.now) card.geometry c.args.mended.now _ (was_read c.read_slot.ensures c.if-not-read_slot.false) (sym c.is_root.ensures ∙ c.if-not-is_root.false) card.table.now c.requires (λ x. refl) c.div_ceil.result (omega (arith, c.div_ceil.ensures, c.word_at-n.ensures)) _ c.new.ensures c.walk_chain-chain.result c.walk_chain-chain.ensures (not-false _ c.if-not-chain.false))

pub returns : goal.returns
returns c =
    let card = c.args.card.now in
    root-good (view_of card) (mended_page card.geometry card.image.now) card.geometry c.args.mended.now _ (was_read c.read_slot.ensures c.if-not-read_slot.false) (sym c.is_root.ensures ∙ c.if-not-is_root.false) card.table.now c.requires (λ x. refl) c.div_ceil.result (omega (arith, c.div_ceil.ensures, c.word_at-n.ensures)) _ c.new.ensures c.walk_chain-chain.result c.walk_chain-chain.ensures (not-false _ c.if-not-chain.false) _ _ (rw c.word_at-n.ensures at c.walk_tree.ensures)
