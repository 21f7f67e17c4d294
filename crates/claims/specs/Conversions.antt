-- The claims on conversions (request 2 of document 02), stated in specs/Claims of `convert`.
use Rattle.convert.specs.Claims.{ConvertedExactly, ConvertedOne, LowestNamed, PlainComesBack, PlainNever2, RawComesBack, RawIsFresh, SameDataConverted, TwinConverted}

-- An image is converted exactly where it can be, and to one image. A 2 names the lowest unreadable page, and no plain image has one.
pub record ConversionExact : Type 0 where
  pub exactly : ConvertedExactly
  pub one : ConvertedOne
  pub lowest : LowestNamed
  pub never2 : PlainNever2

-- The outcome has the source's data. A raw one has codes that all match, and spare bytes 12 to 15 zero.
pub record ConversionKeeps : Type 0 where
  pub same : SameDataConverted
  pub fresh : RawIsFresh

-- A plain image comes back with its bytes, a raw one with its data; a raw one whose codes match goes to its only plain twin.
pub record ConversionReturns : Type 0 where
  pub plain : PlainComesBack
  pub raw : RawComesBack
  pub twin : TwinConverted
