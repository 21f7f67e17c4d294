-- `tree::walk::judge_dot` meets its contract: page, then the entry's rule.
use Rattle.std.proofs.Common.{refl}
use Rattle.tree.specs.Card.{view_of}
use Rattle.tree.specs.Mended.{mended_page}
use Rattle.tree.proofs.LookLaws.{read-adds, unread, was_read}
use Rattle.tree.proofs.TellLaws.{dot-bad, dot_good, dot-unread}
use Rattle.tree.proofs.walk.judge_dot.Goals as goal

pub returns-then-not-read_needed : goal.returns-then-not-read_needed
returns-then-not-read_needed c =
    let a = c.args in
    let card = a.card.now in
    let told = dot-unread (view_of card) card.geometry a.page _ _ _ (unread c.read_needed.ensures.read c.if-not-read_needed.true) refl in
    rw (c.unreadable.ensures.whole c.requires) (record { judged = told; counted = tt })

pub returns-then-is_directory-is_named : goal.returns-then-is_directory-is_named
returns-then-is_directory-is_named c =
    let a = c.args in
    let card = a.card.now in
    let readable = c.if-not-read_needed.false in
    let read = c.read_needed.ensures.read in record {
      judged = dot_good (view_of card) card.geometry a.page _ _ _ (was_read read readable) _ _ c.is_directory.ensures c.is_named.ensures c.if-is_directory-is_named.true;
      counted = read-adds (mended_page card.geometry card.image.now a.page) a.mended.now read readable c.read_needed.ensures.counted;
    }

pub returns : goal.returns
returns c =
    let a = c.args in
    let card = a.card.now in record {
      judged = dot-bad (view_of card) card.geometry a.page _ _ _ (was_read c.read_needed.ensures.read c.if-not-read_needed.false) _ _ c.is_directory.ensures c.is_named.ensures c.if-is_directory-is_named.false;
      counted = tt;
    }
