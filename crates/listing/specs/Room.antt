-- How much room a listing takes, for a program whose buffer has one size.
use Rattle.std.specs.Prelude.{ℕ, ◌≤◌, List, ℤ, length}
use Rattle.page.specs.declared.Format.{Format}
use Rattle.listing.specs.Text.{listing_of}

-- The listing of every image of at most so many bytes fits that room, in either format and with any shift, also where it is the one
-- line of a refusal.
abbrev pub Fits : ℕ → ℕ → Type 0
Fits bytes room = (format : Format) (image : List ℕ) (minutes : ℤ) → length image ≤ bytes → length (listing_of format image minutes) ≤ room
