-- `tree::open_checked` meets its contract: opened, then walked.
use Rattle.std.proofs.Common.{◌≡◌, Err, arith}
use Rattle.tree.proofs.CheckLaws.{end_fits, refused, table-loaded, told-opened, unopened, walk-refused}
use Rattle.tree.proofs.open_checked.Goals as goal

pub returns-in_err-opened : goal.returns-in_err-opened
returns-in_err-opened c =
    let a = c.args in
    let same : c.from_residual.result ≡ Err c.in_err-opened.field-0.0 = grind arith in
    let r = refused a.format a.image.now _ _ (unopened a.format a.image.now _ _ c.in_err-opened.ensures.opened) in
    record { checked = rw same r.opened; working_room = c.open_card.ensures.loaded; mended = rw same (r.mended, omega arith) }

pub shared_ref_as_front-words : goal.shared_ref_as_front-words
shared_ref_as_front-words c = end_fits c.args.format c.args.image.now _ c.in_ok-opened.ensures.opened

pub returns-in_err-walk_root : goal.returns-in_err-walk_root
returns-in_err-walk_root c =
    let a = c.args in
    let o = c.in_ok-opened.ensures in
    let same : c.from_residual-in_err-walk_root.result ≡ Err c.in_err-walk_root.field-0.0 = grind arith in
    let r = refused a.format a.image.now _ _ (walk-refused a.format a.image.now _ o.opened _ o.mended _ (table-loaded a.format a.image.now _ o.opened _ _ o.loaded) _ _ c.in_err-walk_root.ensures) in
    record { checked = rw same r.opened; working_room = c.open_card.ensures.loaded; mended = rw same (r.mended, omega arith) }

pub returns : goal.returns
returns c =
    let a = c.args in
    let o = c.in_ok-opened.ensures in
    let r = told-opened a.format a.image.now _ o.opened _ o.mended _ (table-loaded a.format a.image.now _ o.opened _ _ o.loaded) _ _ c.in_ok-walk_root.ensures _ c.settled.ensures.0 c.settled.ensures.1 in
    record { checked = r.0; working_room = c.open_card.ensures.loaded; mended = (r.1, r.2) }
