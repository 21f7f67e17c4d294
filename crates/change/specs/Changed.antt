-- A change of an image: the check first (1 to 7), then the refusals in the order of their rows, then the image after it.
-- A refusal leaves the image as it was.
use Rattle.std.specs.Prelude.{ℕ, zero, suc, min, List, []}
use Rattle.std.proofs.Math.Option.{Option, none, some}
use Rattle.std.proofs.Common.{arith}
use Rattle.page.specs.declared.Format.{Format}
use Rattle.fields.specs.PathBytes.{path_of}
use Rattle.layout.specs.declared.Superblock.{Superblock}
use Rattle.layout.specs.See.{check_image, see}
use Rattle.layout.specs.Superblock.{may_take_by}
use Rattle.model.specs.Change.{Change, Rules}
use Rattle.model.specs.Check.{Marks, Result, fault, ok}
use Rattle.model.specs.Names.{Path}
use Rattle.model.specs.Plan.{Plan, plan_of}
use Rattle.model.specs.Refusal.{refusal}
use Rattle.model.specs.Tree.{Root}
use Rattle.model.specs.View.{most_clusters}
use Rattle.change.specs.Image.{image_after}

pub record Outcome : Type 0 where
  pub answer : Result (Unit {0})
  pub image : List ℕ

-- The rules of a card. On every card that the check opens alloc_end is within the limit.
abbrev pub rules_of : Superblock → Rules
rules_of s = record { alloc_end = min s.end most_clusters; limited = omega arith; may_take = may_take_by s }

-- An accepted change has a plan (`writes_give_view` of the model). Without one, which never comes, what it needs would be absent: 9.
abbrev pub outcome_with : Superblock → List ℕ → Option Plan → Outcome
outcome_with s image none = record { answer = fault 9 0; image = image }
outcome_with s image (some plan) = record { answer = ok tt; image = image_after s image plan }

-- by the refusal's number, 0 being none
abbrev pub decided : ℕ → List ℕ → Outcome → Outcome
decided zero image accepted = accepted
decided (suc n) image accepted = record { answer = fault (suc n) 0; image = image }

abbrev pub changed_on : Change → List ℕ → Superblock → Root → Outcome
changed_on c image s root =
    decided (refusal (rules_of s) c (see s image) root) image (outcome_with s image (plan_of (rules_of s) c (see s image) root))

abbrev pub changed_by : Change → List ℕ → Result (Superblock × Root × Marks) → Outcome
changed_by c image (fault n p) = record { answer = fault n p; image = image }
changed_by c image (ok x) = changed_on c image x.0 x.1

unfoldable pub changed : Format → Change → List ℕ → Outcome
changed format c image = changed_by c image (check_image format image)

-- The path that is handed in. Bytes that are no path count as `/`: a change refuses both with 8, at the same place of the order.
abbrev pub or_root : Option Path → Path
or_root none = []
or_root (some path) = path

abbrev pub path_in : List ℕ → Path
path_in bytes = or_root (path_of bytes)
