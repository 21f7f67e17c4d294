-- The claims on conversions, from the laws of `convert`.
use Rattle.convert.proofs.ConvertLaws.{converted-exactly, converted-one, lowest-named, plain-comes-back, plain-never-2, raw-comes-back, raw-is-fresh, same-data-converted, twin-converted}
use Rattle.claims.specs.Conversions.{ConversionExact, ConversionKeeps, ConversionReturns}

pub conversion-exact : ConversionExact
conversion-exact = record { exactly = converted-exactly; one = converted-one; lowest = lowest-named; never2 = plain-never-2 }

pub conversion-keeps : ConversionKeeps
conversion-keeps = record { same = same-data-converted; fresh = raw-is-fresh }

pub conversion-returns : ConversionReturns
conversion-returns = record { plain = plain-comes-back; raw = raw-comes-back; twin = twin-converted }
