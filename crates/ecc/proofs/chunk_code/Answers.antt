-- The bytes taken are the chunk's first 128, and one pass goes over them (`Passes`).
use Rattle.std.proofs.Common.{take, ◌∙◌, ap, arith}
use Rattle.std.proofs.lemmas.List.{take_min}
use Rattle.std.proofs.Math.Nat.{min_comm}
use Rattle.ecc.specs.Code.{code_of}
use Rattle.ecc.proofs.Passes.{first, last}
use Rattle.ecc.proofs.chunk_code.Goals as goal

pub loop-i-init : goal.loop-i-init
loop-i-init c = first (take c.min.result c.args.chunk.now)

pub returns : goal.returns
returns c =
    let l = take c.min.result c.args.chunk.now in
    c.code_in.ensures ∙ last l c.loop-i.i c.loop-i.sums (omega arith) ∙ c.loop-i.invariant
    ∙ ap code_of (rw (c.min.ensures, min_comm) (take_min 128 c.args.chunk.now))
