-- Text that is written into a lent buffer as far as it fits, with a place that counts the whole text.
use Rattle.std.specs.Prelude.{ℕ, ◌+◌, min, List, ◌≡◌, length}
use Rattle.std.proofs.lemmas.List.Edits.{sets}
use Rattle.listing.specs.Sizes.{most}
use Rattle.listing.specs.declared.emit.Text.{Text}

-- Bytes are written from a text's place on, into the same buffer: what does not fit is dropped, and the next place comes after the
-- whole of them.
pub record Writes (before : Text) (bytes : List ℕ) (after : Text) : Type 0 where
  pub same_reference : after.out.ghost_name ≡ before.out.ghost_name
  pub out : after.out.now ≡ sets before.out.now before.at bytes
  pub place : after.at ≡ min (before.at + length bytes) most
