use Rattle.std.proofs.Common.{◌≡◌, ◌-◌}
use Rattle.tree.specs.Card.{view_of}
use Rattle.tree.specs.Met.{Small, is_met, known, learnt, most_pages, with_name}
use Rattle.tree.proofs.names.meet.Given as goal

-- what is left of the search gives what the whole of it gives
abbrev pub invariant-loop : goal.invariant-loop
invariant-loop l = record {
  small : Small l.h;
  met : is_met (view_of l.card) l.card.table.now l.first l.start l.k l.name l.fn.cells ≡ known (view_of l.card) l.card.table.now l.start l.k l.name l.mark l.cells l.h (most_pages - l.counter);
  learnt : with_name (view_of l.card) l.card.table.now l.first l.start l.k l.name l.page l.fn.cells ≡ learnt (view_of l.card) l.card.table.now l.start l.k l.name l.mark l.page l.cells l.h (most_pages - l.counter);
}
