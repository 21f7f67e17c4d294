use Rattle.std.proofs.Common.{◌≡◌, ◌++◌, drop}
use Rattle.page.proofs.Coded.{with-codes}
use Rattle.page.proofs.raw.write_raw.Given as goal

abbrev pub invariant-loop-k : goal.invariant-loop-k
invariant-loop-k l = l.page ≡ with-codes l.bytes l.k (l.bytes ++ drop 512 l.fn.page)
