use Rattle.std.proofs.Common.{◌≡◌}
use Rattle.ecc.specs.Code.{code_of}
use Rattle.ecc.proofs.Passes.{left}
use Rattle.ecc.proofs.chunk_code.Given as goal

abbrev pub invariant-loop-i : goal.invariant-loop-i
invariant-loop-i l = left l.bytes l.i l.sums ≡ code_of l.bytes
