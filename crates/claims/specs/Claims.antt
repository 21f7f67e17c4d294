-- The claims on images. An accepted image is one for which the check tells counts.
use Rattle.std.specs.Prelude.{ℕ, zero, suc, ◌+◌, ◌-◌, ◌≤◌, ◌||◌, cond, false, true, List, ◌↔◌, ◌≡◌, length}
use Rattle.page.specs.declared.Format.{Format}
use Rattle.change.specs.Changed.{changed, rules_of}
use Rattle.layout.specs.declared.Superblock.{Superblock}
use Rattle.layout.specs.See.{check_image, see}
use Rattle.model.specs.Change.{Change, Crossed, creates, path, standing_after}
use Rattle.model.specs.Check.{Marks, Result, fault, ok}
use Rattle.model.specs.Claims.{chain_back}
use Rattle.model.specs.Names.{Path, beginning, parent, same_path}
use Rattle.model.specs.Plan.{returned, withheld}
use Rattle.model.specs.Refusal.{locked, needed, refusal}
use Rattle.model.specs.Tree.{Root}
use Rattle.model.specs.View.{Link}
use Rattle.tree.specs.Counted.{check_of, superblock_in}
use Rattle.tree.specs.declared.Counts.{Counts}
use Rattle.claims.specs.Seen.{free_in, held_in, tree_in}

-- ---- one change

-- the image that a change leaves, accepted or refused
abbrev pub image_left : Format → Change → List ℕ → List ℕ
image_left format c image = (changed format c image).image

abbrev pub Accepts : Format → List ℕ → Change → Type 0
Accepts format image c = (changed format c image).answer ≡ ok tt

-- a number by the superblock and the tree that the check gives
abbrev pub by_card : (Superblock → Root → ℕ) → Result (Superblock × Root × Marks) → ℕ
by_card count (fault n p) = 0
by_card count (ok x) = count x.0 x.1

-- The clusters that a change takes: for its data, one for a new directory, none for a removal, and its directory's growth.
unfoldable pub taken_by : Format → Change → List ℕ → ℕ
taken_by format c image = by_card (λ s root. needed c root) (check_image format image)

-- The clusters of the chain that was at the path, where the change is no creation: those that may be taken again, and those that are held back.
unfoldable pub given_back_by : Format → Change → List ℕ → ℕ
given_back_by format c image = by_card (λ s root. returned (rules_of s) (chain_back c root)) (check_image format image)

unfoldable pub held_back_by : Format → Change → List ℕ → ℕ
held_back_by format c image = by_card (λ s root. withheld (rules_of s) (chain_back c root)) (check_image format image)

-- The image is accepted again and has its length; the change's own path is what the rules say, and every other path stays;
-- as many clusters were free as it takes, and the free count is then the old one less those, plus what came back and may be taken;
-- what came back and may not is held back.
pub record Kept (format : Format) (image : List ℕ) (c : Change) : Type 0 where
  pub counts : Counts
  pub again : check_of format (image_left format c image) ≡ ok counts
  pub long : length (image_left format c image) ≡ length image
  pub paths : (q : Path) → tree_in format (image_left format c image) q ≡ cond (same_path q (path c)) (standing_after c (tree_in format image q)) (tree_in format image q)
  pub room : taken_by format c image ≤ free_in format image
  pub free : free_in format (image_left format c image) ≡ free_in format image - taken_by format c image + given_back_by format c image
  pub held : held_in format (image_left format c image) ≡ held_in format image + held_back_by format c image
  -- a free table word whose cluster may not be taken is still free
  pub untaken : (s : Superblock) → superblock_in (check_image format image) ≡ ok s → (d : ℕ) → (rules_of s).may_take d ≡ false
      → (see s image).link d ≡ Link.free → (see s (image_left format c image)).link d ≡ Link.free
  -- what is locked stays, and so does all that stands directly inside a locked directory
  pub locks : (q : Path) → (locked (tree_in format image q) || locked (tree_in format image (parent q))) ≡ true
      → tree_in format (image_left format c image) q ≡ tree_in format image q

abbrev pub ChangeKeeps : Type 0
ChangeKeeps = (format : Format) (image : List ℕ) (counts : Counts) → check_of format image ≡ ok counts → (c : Change) → Accepts format image c → Kept format image c

-- A change of an accepted image is done exactly where it meets no refusal; else its answer is the first one that it meets.
abbrev pub answer_by : ℕ → Result (Unit {0})
answer_by zero = ok tt
answer_by (suc n) = fault (suc n) 0

abbrev pub AcceptedExactly : Type 0
AcceptedExactly =
    (format : Format) (image : List ℕ) (s : Superblock) (root : Root) (m : Marks) → check_image format image ≡ ok (s, root, m)
    → (c : Change) → (changed format c image).answer ≡ answer_by (refusal (rules_of s) c (see s image) root)

-- A refusal leaves the image as it was.
abbrev pub RefusalLeaves : Type 0
RefusalLeaves = (format : Format) (image : List ℕ) (c : Change) (n p : ℕ) → (changed format c image).answer ≡ fault n p → image_left format c image ≡ image

-- ---- demand 3

-- Two changes in this order, accepted to its end: the second gets the image as the first left it.
pub record Order (format : Format) (image : List ℕ) (a b : Change) : Type 0 where
  pub first : Accepts format image a
  pub second : Accepts format (image_left format a image) b

-- each order on its own copy of the image
abbrev pub final : Format → List ℕ → Change → Change → List ℕ
final format image a b = image_left format b (image_left format a image)

pub record Commute (format : Format) (image : List ℕ) (a b : Change) : Type 0 where
  -- where all four calls are accepted both orders end with the same tree
  pub tree : Order format image a b → Order format image b a → (q : Path) → tree_in format (final format image a b) q ≡ tree_in format (final format image b a) q
  -- and the same free count, unless one creates and the other removes in the same directory
  pub free : Order format image a b → Order format image b a → ¬ Crossed a b → free_in format (final format image a b) ≡ free_in format (final format image b a)
  -- of two creations one order is accepted to its end exactly when the other is
  pub creations : creates a ≡ true → creates b ≡ true → Order format image a b ↔ Order format image b a

-- Any two changes at different paths, neither a beginning of the other, commute on any accepted card.
abbrev pub Demand3 : Type 0
Demand3 =
    (format : Format) (image : List ℕ) (counts : Counts) → check_of format image ≡ ok counts → (a b : Change)
    → beginning (path a) (path b) ≡ false → beginning (path b) (path a) ≡ false → Commute format image a b
