-- `claims::formats_alike` meets its contract: the claim is proved in proofs/FormatsAlike.
use Rattle.claims.proofs.FormatsAlike.{formats-alike}
use Rattle.claims.proofs.formats_alike.Goals as goal

pub returns : goal.returns
returns c = formats-alike
