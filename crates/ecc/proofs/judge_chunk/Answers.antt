-- `judge_chunk` meets its contract: of 128 bytes the whole code is known, by which they are judged.
use mathlib.Core.Path.{refl, sym, ap, ◌∙◌}
use native.Mathlib.Omega.{arith}
use lib.Seq.{take_all}
use Rattle.ecc.specs.Code.{code_of}
use Rattle.ecc.proofs.Laws.{slice-by, slice-other}
use Rattle.ecc.proofs.judge_chunk.Goals as goal

pub returns-then-chunk-ne128 : goal.returns-then-chunk-ne128
returns-then-chunk-ne128 c = sym (slice-other c.args.chunk.now c.args.stored c.if-chunk-ne128.true)

pub returns : goal.returns
returns c =
    let d = c.args.chunk.now in
    slice-by d c.if-chunk-ne128.false (c.chunk_code.ensures ∙ ap code_of (take_all 128 d (omega arith))) refl c.judge_by.ensures
