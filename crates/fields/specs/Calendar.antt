-- A time in the shop's own, as the code hands it on.
use Rattle.std.specs.Prelude.{None, Option, Some}
use Rattle.std.proofs.Math.Option as math
use Rattle.model.specs.declared.Moment.{Moment}

-- the moment that the model shows, or none where it shows none
abbrev pub shown_as : math.Option Moment → Option Moment
shown_as math.none = None
shown_as (math.some m) = Some m
