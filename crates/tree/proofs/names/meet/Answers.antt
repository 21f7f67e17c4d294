-- `tree::names::meet` meets its contract: what is left of the search gives what the whole of it gives.
use Rattle.std.proofs.Common.{sym, ap, ◌∙◌, arith}
use Rattle.tree.specs.Card.{view_of}
use Rattle.tree.specs.declared.names.Hash.{Hash}
use Rattle.tree.specs.Met.{known, learnt, mark_of, most_pages}
use Rattle.tree.proofs.MetLaws.{search-empty, search-found, search-next, search-over}
use Rattle.tree.proofs.names.meet.Goals as goal

pub loop-init : goal.loop-init
loop-init c =
    let a = c.args in
    let e = sym c.name_hash-h.ensures.0 in record {
      small = c.name_hash-h.ensures.1;
      met = ap (λ (h : Hash). known (view_of a.card.now) a.card.now.table.now a.start a.k a.name.now (mark_of h) a.cells.now h most_pages) e;
      learnt = ap (λ (h : Hash). learnt (view_of a.card.now) a.card.now.table.now a.start a.k a.name.now (mark_of h) a.page a.cells.now h most_pages) e;
    }

pub returns-then-word-eq0 : goal.returns-then-word-eq0
returns-then-word-eq0 c =
    let a = c.args in
    let e = search-empty (view_of a.card.now) a.card.now.table.now a.start a.k a.name.now _ a.page c.loop.cells c.loop.h _ (omega arith) c.if-word-eq0.true in
    record { value = e.0 ∙ sym c.loop.invariant.met; cells_after = e.1 ∙ sym c.loop.invariant.learnt }

pub returns-then-is_same : goal.returns-then-is_same
returns-then-is_same c =
    let a = c.args in
    let e = search-found (view_of a.card.now) a.card.now.table.now a.start a.k a.name.now _ a.page c.loop.cells c.loop.h _ (omega arith) c.if-word-eq0.false (sym c.is_same.ensures ∙ c.if-is_same.true) in
    record { value = e.0 ∙ sym c.loop.invariant.met; cells_after = e.1 ∙ sym c.loop.invariant.learnt }

pub mix-h-requires : goal.mix-h-requires
mix-h-requires c = (c.loop.invariant.small, omega arith)

pub loop-preserved : goal.loop-preserved
loop-preserved c =
    let a = c.args in
    let e = search-next (view_of a.card.now) a.card.now.table.now a.start a.k a.name.now _ a.page c.loop.cells c.loop.h _ _ (omega arith) c.if-word-eq0.false (sym c.is_same.ensures ∙ c.if-is_same.false) c.mix-h.result c.mix-h.ensures.0 in
    record { small = c.mix-h.ensures.1; met = c.loop.invariant.met ∙ e.0; learnt = c.loop.invariant.learnt ∙ e.1 }

pub returns : goal.returns
returns c =
    let a = c.args in
    let e = search-over (view_of a.card.now) a.card.now.table.now a.start a.k a.name.now _ a.page c.loop.cells c.loop.h _ (omega arith) in
    record { value = e.0 ∙ sym c.loop.invariant.met; cells_after = e.1 ∙ sym c.loop.invariant.learnt }
