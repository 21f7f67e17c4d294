-- `small_fits` meets its contract: 59,136 bytes are too few for 58 clusters.
use native.Mathlib.Omega.{arith}
use Rattle.listing.proofs.SizeLaws.{listing-fits}
use Rattle.listing.proofs.small_fits.Goals as goal

pub returns : goal.returns
returns c = listing-fits 56 _ (omega arith)
