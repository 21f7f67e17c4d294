-- Four chunks of 128 bytes are judged by their right codes, as `judge_chunk` would.
use Rattle.std.proofs.Common.{ap}
use Rattle.ecc.specs.declared.Code.{Code}
use Rattle.ecc.specs.declared.Four.{Four}
use Rattle.ecc.proofs.Laws.{slice-by}
use Rattle.ecc.proofs.judge_four.Goals as goal

pub returns-then-chunk3-eq128 : goal.returns-then-chunk3-eq128
returns-then-chunk3-eq128 c =
    let args = c.args in
    let right = c.codes_of-right.ensures in
    let told0 = slice-by args.chunk0.now c.if-chunk0-eq128.true (ap (λ (r : Four Code). r.chunk0) right) c.code_at.ensures c.judge_by.ensures in
    let told1 = slice-by args.chunk1.now c.if-chunk1-eq128.true (ap (λ (r : Four Code). r.chunk1) right) c.code_at-then-chunk3-eq128.ensures c.judge_by-then-chunk3-eq128.ensures in
    let told2 = slice-by args.chunk2.now c.if-chunk2-eq128.true (ap (λ (r : Four Code). r.chunk2) right) c.code_at-then-chunk3-eq128-2.ensures c.judge_by-then-chunk3-eq128-2.ensures in
    let told3 = slice-by args.chunk3.now c.if-chunk3-eq128.true (ap (λ (r : Four Code). r.chunk3) right) c.code_at-then-chunk3-eq128-3.ensures c.judge_by-then-chunk3-eq128-3.ensures in
    λ i. record { chunk0 = told0 i; chunk1 = told1 i; chunk2 = told2 i; chunk3 = told3 i }
