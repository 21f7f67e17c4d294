-- A number's format as the code tells it.
use Rattle.std.specs.Prelude.{ℕ, None, Option, Some}
use Rattle.page.specs.declared.Format.{Format}
use Rattle.ps2card.specs.Formats.{by_format}

abbrev pub named_by : ℕ → Option Format
named_by number = by_format number None Some
