-- A growth is linked behind the last cluster as a chain of two.
use native.Mathlib.Omega.{arith}
use Rattle.change.proofs.DeedSteps.{pair-low}
use Rattle.change.proofs.deeds.relink.Goals as goal

pub link_chain-requires-in-Some : goal.link_chain-requires-in-Some
link_chain-requires-in-Some c =
    λ x h. pair-low c.args.last c.args.growth.now c.in-Some.added.now c.requires.0 c.in-Some.ensures.value x h (omega (arith, c.requires.1 x h))
