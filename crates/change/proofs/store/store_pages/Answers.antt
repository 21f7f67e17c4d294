use Prim.Native.Nat.{◌*◌}
use mathlib.Core.List.{◌++◌}
use mathlib.Core.Path.{◌≡◌}
use native.Mathlib.Omega.{arith}
use lib.ListN.{get_or, length}
use Rattle.layout.specs.Table.{table_names}
use Rattle.change.proofs.StoreSteps.{no-pages-yet, page-stored}
use Rattle.change.proofs.store.store_pages.Goals as goal

pub loop-t-init : goal.loop-t-init
loop-t-init c = no-pages-yet _ _ _ _ _

pub loop-t-preserved : goal.loop-t-preserved
loop-t-preserved c =
    let a = c.args in
    let l = c.loop-t in
    page-stored a.format (table_names (a.indirect.now.first ++ a.indirect.now.second) a.count) (length a.table.now) (λ x. get_or a.table.now x 0) a.image.now l.t l.invariant c.table_page.ensures c.store_page.ensures

pub returns : goal.returns
returns c =
    let l = c.loop-t in
    let e : l.t ≡ 2 * c.args.count = omega arith in
    rw e at l.invariant
