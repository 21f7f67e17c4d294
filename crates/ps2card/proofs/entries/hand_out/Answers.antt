-- `ps2card::entries::hand_out` meets its contract: each field is stored.
use mathlib.Core.Path.{refl}
use Rattle.ps2card.proofs.entries.hand_out.Goals as goal

pub returns : goal.returns
returns c = record {
  mode_after = refl;
  length_after = refl;
  created_after = refl;
  first_after = refl;
  dir_entry_after = refl;
  modified_after = refl;
  attribute_after = refl;
  name_after = refl;
}
