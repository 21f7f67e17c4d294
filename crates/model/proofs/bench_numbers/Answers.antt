-- `model::bench_numbers` meets its contract: the claim is proved in proofs/BenchHolds.
use Rattle.model.proofs.BenchHolds.{bench-numbers}
use Rattle.model.proofs.bench_numbers.Goals as goal

pub returns : goal.returns
returns c = bench-numbers
