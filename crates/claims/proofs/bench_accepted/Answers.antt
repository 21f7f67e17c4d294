-- `claims::bench_accepted` meets its contract: the claim is proved in proofs/Witness.
use Rattle.claims.proofs.Witness.{bench-accepted}
use Rattle.claims.proofs.bench_accepted.Goals as goal

pub returns : goal.returns
returns c = bench-accepted
