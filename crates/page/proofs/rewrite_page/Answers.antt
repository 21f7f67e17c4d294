-- The page is written just where it does not hold the data yet, as `rewritten` says.
use Rattle.std.proofs.Common.{sym, ◌∙◌}
use Rattle.page.proofs.Puts.{put-changed, put-held}
use Rattle.page.proofs.rewrite_page.Goals as goal

pub returns-then-not-holds_data : goal.returns-then-not-holds_data
returns-then-not-holds_data c =
    let a = c.args in
    c.write_page.ensures ∙ sym (put-changed a.format a.page a.bytes.now a.image.now (sym c.holds_data.ensures ∙ c.if-not-holds_data.true))

pub returns-else-not-holds_data : goal.returns-else-not-holds_data
returns-else-not-holds_data c =
    let a = c.args in
    sym (put-held a.format a.page a.bytes.now a.image.now (sym c.holds_data.ensures ∙ c.if-not-holds_data.false))
