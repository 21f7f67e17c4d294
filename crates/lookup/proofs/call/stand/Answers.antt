-- What the check refuses is refused; on any other card the path says what stands there.
use mathlib.Core.Path.{refl}
use native.Mathlib.Omega.{arith}
use Rattle.lookup.proofs.AskLaws.{fits-room, stand-at, stand-malformed, stand-nowhere, stand-refused}
use Rattle.lookup.proofs.call.stand.Goals as goal

pub returns-in_err-opened-clause-told : goal.returns-in_err-opened-clause-told
returns-in_err-opened-clause-told c =
    let a = c.args in
    stand-refused a.format a.image.now a.path.now _ c.in_err-opened.field-0.0 (grind arith) c.in_err-opened.ensures.checked

pub returns-in_err-count-clause-told : goal.returns-in_err-count-clause-told
returns-in_err-count-clause-told c =
    let a = c.args in
    stand-malformed a.format a.image.now a.path.now _ c.in_ok-opened.opened.superblock c.in_ok-opened.ensures.checked _ c.parse_path.ensures (grind arith) (grind arith)

pub shared_ref_as_front-card : goal.shared_ref_as_front-card
shared_ref_as_front-card c =
    fits-room c.args.format c.args.image.now c.in_ok-opened.opened.superblock c.in_ok-opened.ensures.checked

pub returns-in_err-entry-clause-told : goal.returns-in_err-entry-clause-told
returns-in_err-entry-clause-told c =
    let a = c.args in
    stand-nowhere a.format a.image.now a.path.now _ c.in_ok-opened.opened.superblock c.in_ok-opened.ensures.checked _ c.parse_path.ensures _ _ c.in_ok-opened.ensures.working_room c.in_ok-count.count (grind arith) _ c.descend.ensures c.in_err-entry.field-0.0 (grind arith) c.in_err-entry.was

pub returns-clause-told : goal.returns-clause-told
returns-clause-told c =
    let a = c.args in
    stand-at a.format a.image.now a.path.now _ c.in_ok-opened.opened.superblock c.in_ok-opened.ensures.checked _ c.parse_path.ensures _ _ c.in_ok-opened.ensures.working_room c.in_ok-count.count (grind arith) _ c.descend.ensures _ refl refl refl refl c.in_ok-entry.was
