use Rattle.std.proofs.Common.{◌≡◌}
use Rattle.page.specs.Page.{page_at}
use Rattle.layout.specs.Table.{data_of}
use Rattle.convert.specs.Converted.{filled}
use Rattle.convert.proofs.write_pages.Given as goal

abbrev pub invariant-loop-p : goal.invariant-loop-p
invariant-loop-p l = l.out ≡ filled l.to (λ q. data_of (page_at l.from l.image q)) l.p l.initial.out
