-- The text of a time as the code hands it on.
use Rattle.std.specs.Prelude.{List, None, Option, Some, ℕ}
use Rattle.model.specs.declared.Moment.{Moment}
use Rattle.listing.specs.Text.{time_text, unknown_word}

abbrev pub shown_text : Option Moment → List ℕ
shown_text None = unknown_word
shown_text (Some m) = time_text m
