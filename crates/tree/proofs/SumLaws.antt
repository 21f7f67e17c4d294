-- The counts of an image that passes the check add up, as the model's do.
use Rattle.std.proofs.Common.{◌≡◌, ℕ, ◌+◌, List, refl}
use Rattle.layout.proofs.Stages.{not-ok}
use Rattle.layout.specs.declared.Superblock.{Superblock}
use Rattle.layout.specs.See.{check_image, checked_by, on_image, see}
use Rattle.layout.specs.Superblock.{may_take_by}
use Rattle.layout.specs.Table.{open_card}
use Rattle.model.proofs.CheckHolds.{ok-inj}
use Rattle.model.proofs.ClaimsHold.{counts-add-up}
use Rattle.model.specs.Check.{Marks, Result, and_then, check_tree, fault, ok}
use Rattle.model.specs.Tree.{Root}
use Rattle.tree.specs.Counted.{CountsAddUp, check_of, counts_in, superblock_in}
use Rattle.tree.specs.declared.Counts.{Counts}

module _ (image : List ℕ) (s : Superblock) (c : Counts) where
  abbrev Total : Type 0
  Total = c.free + c.reached + c.orphaned + c.held ≡ s.end

  told-all : Superblock × Root × Marks → Result Counts
  told-all x = ok (counts_in image x.0 x.1)

  opened-adds : (t : Superblock) (r : Result (Root × Marks)) → check_tree (see t image) ≡ r
      → superblock_in (and_then (on_image t.geometry r) (λ x. ok (t, x.0, x.1))) ≡ ok s
      → and_then (and_then (on_image t.geometry r) (λ x. ok (t, x.0, x.1))) told-all ≡ ok c → Total
  unfolding and_then told-all
  opened-adds t (fault n p) h e f = not-ok _ _ _ e
  opened-adds t (ok x) h e f =
      rw (← ok-inj t s e, ← ok-inj (counts_in image t x.0) c f) (counts-add-up (may_take_by t) t.end (see t image) x.0 x.1 h)

  adds : (r : Result Superblock) → superblock_in (and_then r (checked_by image)) ≡ ok s → and_then (and_then r (checked_by image)) told-all ≡ ok c → Total
  unfolding and_then
  adds (fault n p) e f = not-ok n p s e
  adds (ok t) e f = opened-adds t (check_tree (see t image)) refl e f

pub sums : CountsAddUp
unfolding check_of check_image told-all
sums format image s c e f = adds image s c (open_card format image) e f
