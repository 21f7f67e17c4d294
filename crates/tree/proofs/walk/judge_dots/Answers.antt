-- `tree::walk::judge_dots` meets its contract: `.` before `..`.
use Rattle.std.proofs.Common.{◌≡◌, ◌+◌, ◌*◌, arith}
use Rattle.std.proofs.lemmas.Result.{err_from_is_err_and}
use Rattle.model.specs.Check.{judge_dot}
use Rattle.model.specs.Names.{dot_dot_name, dot_name}
use Rattle.tree.specs.Card.{view_of}
use Rattle.tree.specs.Mended.{mended_page}
use Rattle.tree.proofs.TellLaws.{adds-two, dots-go, dots-stop}
use Rattle.tree.proofs.walk.judge_dots.Goals as goal

pub returns-in_err-judge_dot : goal.returns-in_err-judge_dot
returns-in_err-judge_dot c =
    let card = c.args.card.now in
    let v = view_of card in
    let f = c.args.first in
    let p : f * 2 ≡ 2 * f = omega arith in
    let refused = err_from_is_err_and c.from_residual.result c.from_residual.ensures.1 in
    let told = dots-stop card.geometry (λ x. judge_dot v dot_dot_name (2 * f + 1) (v.entry (2 * f + 1))) (judge_dot v dot_name (2 * f) (v.entry (2 * f))) _ _ (rw p at c.in_err-judge_dot.ensures.judged) in
    rw (refused.1, refused.2) (record { judged = told; counted = tt })

pub returns : goal.returns
returns c =
    let card = c.args.card.now in
    let v = view_of card in
    let f = c.args.first in
    let p : f * 2 ≡ 2 * f = omega arith in
    let mend = mended_page card.geometry card.image.now in record {
      judged = dots-go card.geometry (λ x. judge_dot v dot_dot_name (2 * f + 1) (v.entry (2 * f + 1))) (judge_dot v dot_name (2 * f) (v.entry (2 * f))) _ (rw p at c.in_ok-judge_dot.ensures.judged) (rw p at c.judge_dot-2.ensures.judged);
      counted = adds-two c.judge_dot-2.result c.args.mended.now (mend (2 * f)) (mend (2 * f + 1)) _ _ (rw p at c.in_ok-judge_dot.ensures.counted) (rw p at c.judge_dot-2.ensures.counted);
    }
