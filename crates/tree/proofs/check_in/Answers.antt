-- `tree::check_in` meets its contract: the card that was opened is walked and counted.
use Rattle.std.proofs.Common.{◌≡◌, Err, arith}
use Rattle.tree.proofs.CheckLaws.{end_fits, refused, table-loaded, told-counts, unopened, walk-refused}
use Rattle.tree.proofs.check_in.Goals as goal

pub returns-in_err-opened : goal.returns-in_err-opened
returns-in_err-opened c =
    let a = c.args in
    let same : c.from_residual.result ≡ Err c.in_err-opened.field-0.0 = grind arith in
    rw same (refused a.format a.image.now _ _ (unopened a.format a.image.now _ _ c.in_err-opened.ensures.opened)).counts

pub shared_ref_as_front-words : goal.shared_ref_as_front-words
shared_ref_as_front-words c = end_fits c.args.format c.args.image.now _ c.in_ok-opened.ensures.opened

pub returns-in_err-r : goal.returns-in_err-r
returns-in_err-r c =
    let a = c.args in
    let o = c.in_ok-opened.ensures in
    let same : c.from_residual-in_err-r.result ≡ Err c.in_err-r.field-0.0 = grind arith in
    rw same (refused a.format a.image.now _ _ (walk-refused a.format a.image.now _ o.opened _ o.mended _ (table-loaded a.format a.image.now _ o.opened _ _ o.loaded) _ _ c.in_err-r.ensures)).counts

pub returns : goal.returns
returns c =
    let a = c.args in
    let o = c.in_ok-opened.ensures in
    told-counts a.format a.image.now _ o.opened _ o.mended _ (table-loaded a.format a.image.now _ o.opened _ _ o.loaded) _ c.in_ok-r.r c.in_ok-r.ensures _ c.settled.ensures.0 c.settled.ensures.1 _ _ _
    c.count_unused-unused.ensures.0 c.count_orphans.ensures c.count_unused-unused.ensures.1
