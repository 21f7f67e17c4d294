-- The listing of an image by what the check and the open call told of it.
use Prim.Native.Nat.{ℕ}
use mathlib.Core.Bool.{false, true}
use mathlib.Core.List.{List, [], ◌++◌}
use mathlib.Core.Path.{◌∙◌, ◌≡◌, refl, sym}
use lib.IntN.{ℤ}
use Rattle.page.specs.declared.Format.{Format}
use Rattle.layout.specs.See.{check_image, on_image, see}
use Rattle.layout.specs.Table.{open_card}
use Rattle.layout.specs.declared.Superblock.{Superblock}
use Rattle.lookup.proofs.CardLaws.{accepted}
use Rattle.model.proofs.CheckHolds.{ok-inj}
use Rattle.model.specs.Calendar.{is_shift}
use Rattle.model.specs.Check.{Marks, Result, and_then, check_tree, fault, ok}
use Rattle.model.specs.Tree.{Root}
use Rattle.tree.proofs.CheckLaws.{check-bad}
use Rattle.tree.proofs.SlotSteps.{fault-ok}
use Rattle.tree.specs.Counted.{check_of, counts_in, superblock_in}
use Rattle.tree.specs.declared.Counts.{Counts}
use Rattle.listing.specs.Text.{counts_text, listing_of, refusal_text, text_of, tree_text}

-- the one line of a shift that is not allowed
pub listing-elsewhere : (format : Format) (image : List ℕ) (minutes : ℤ) → is_shift minutes ≡ false → refusal_text 17 0 ≡ listing_of format image minutes
unfolding listing_of
listing-elsewhere format image minutes e = rw e

module _ (format : Format) (image : List ℕ) (minutes : ℤ) (allowed : is_shift minutes ≡ true) where
  abbrev told-all : Superblock × Root × Marks → Result Counts
  told-all x = ok (counts_in image x.0 x.1)

  pub listing-refused : (n p : ℕ) → fault n p ≡ check_of format image → refusal_text n p ≡ listing_of format image minutes
  unfolding check_of listing_of and_then
  listing-refused n p h = rw allowed (go (check_image format image) h)
    where
      go : (r : Result (Superblock × Root × Marks)) → fault n p ≡ and_then r told-all → refusal_text n p ≡ text_of minutes image r
      go (fault m q) e = let a : ◌≡◌ {A = ℕ} n m = cc in let b : ◌≡◌ {A = ℕ} p q = cc in rw (a, b)
      go (ok x) e = fault-ok n p (counts_in image x.0 x.1) e

  module _ (counts : Counts) (passed : ok counts ≡ check_of format image) where
    -- a card that passed the check opens
    pub opens : {A : Type 0} (n p : ℕ) → fault n p ≡ open_card format image → A
    opens n p e = fault-ok n p counts (check-bad format image n p e ∙ sym passed)

    module _ (s : Superblock) (opened : ok s ≡ open_card format image) where
      pub passes : ok s ≡ superblock_in (check_image format image)
      unfolding check_image check_of and_then
      passes = rw (← opened) (go (check_tree (see s image)) (rw (← opened) at passed))
        where
          go : (r : Result (Root × Marks)) → ok counts ≡ and_then (and_then (on_image s.geometry r) (λ x. ok (s, x.0, x.1))) told-all
              → ok s ≡ superblock_in (and_then (on_image s.geometry r) (λ x. ok (s, x.0, x.1)))
          go (fault n p) e = fault-ok _ _ counts (sym e)
          go (ok x) e = refl

      pub listing-card : counts_text counts ++ tree_text minutes [] (accepted format image s passes).root.slots ≡ listing_of format image minutes
      unfolding check_of listing_of and_then
      listing-card =
          let y = accepted format image s passes in
          let same : counts ≡ counts_in image s y.root = ok-inj _ _ (rw y.checked at passed) in
          rw (allowed, y.checked, ← same)
