-- The claims on images, from those of the model: an image and its view are changed together.
use Prim.Native.Nat.{ℕ, zero, suc, ◌*◌, ◌+◌, ◌-◌}
use mathlib.Core.Bool.{◌||◌, cond, false}
use mathlib.Core.List.{List}
use mathlib.Core.Option.{Option, none, some}
use mathlib.Core.Path.{◌∙◌, ◌≡◌, ap, ap₂, refl, sym}
use lib.ListN.{length}
use Rattle.page.specs.declared.Format.{Format}
use Rattle.change.proofs.ChangedLaws.{Done, accepted, accepts, answered, checked-parts, performs, refuses}
use Rattle.change.proofs.ChangedView.{end_is, no_words}
use Rattle.change.specs.Changed as change
use Rattle.change.specs.Changed.{changed, changed_by, decided, outcome_with, rules_of}
use Rattle.layout.specs.declared.Superblock.{Superblock}
use Rattle.layout.specs.See.{check_image, see}
use Rattle.page.specs.Page.{cluster_bytes}
use Rattle.layout.proofs.OpenFacts.{open-facts}
use Rattle.layout.proofs.Stages.{not-ok}
use Rattle.model.proofs.CheckHolds.{ok-inj}
use Rattle.model.proofs.ClaimsHold.{change-keeps, demand-3-holds}
use Rattle.model.specs.Change.{Change, path, standing_after}
use Rattle.model.specs.Check.{Marks, Result, and_then, fault, ok}
use Rattle.model.specs.Claims as model
use Rattle.model.specs.Claims.{chain_back}
use Rattle.model.specs.Counts.{free_count, held_count}
use Rattle.model.specs.Names.{Path, beginning, parent, same_path}
use Rattle.model.specs.Perform.{done, perform}
use Rattle.model.specs.Plan.{Plan, free_of, held_of, plan_of, returned, withheld}
use Rattle.model.specs.Refusal.{locked, needed, refusal}
use Rattle.model.specs.Standing.{standings_of, tree_of}
use Rattle.model.specs.Tree.{Root}
use Rattle.model.specs.View.{Link, View}
use Rattle.tree.specs.Counted.{check_of, counts_in, superblock_in}
use Rattle.tree.specs.declared.Counts.{Counts}
use Rattle.claims.specs.Claims.{AcceptedExactly, Accepts, ChangeKeeps, Commute, Demand3, Kept, Order, RefusalLeaves, answer_by, by_card, final, given_back_by, held_back_by, image_left, taken_by}
use Rattle.claims.specs.Seen.{count_by, free_in, held_in, standing_in, tree_in}

-- ---- an accepted image
pub record Card (format : Format) (image : List ℕ) : Type 0 where
  pub superblock : Superblock
  pub root : Root
  pub marks : Marks
  pub checked : check_image format image ≡ ok (superblock, root, marks)

pub card-of : (format : Format) (image : List ℕ) (counts : Counts) → check_of format image ≡ ok counts → Card format image
unfolding check_of and_then
card-of format image counts e = go (check_image format image) refl e
  where
    go : (r : Result (Superblock × Root × Marks)) → check_image format image ≡ r
        → and_then {A = Superblock × Root × Marks} {B = Counts} r (λ x. ok (counts_in image x.0 x.1)) ≡ ok counts → Card format image
    go (fault n p) f k = not-ok n p counts k
    go (ok x) f k = record { superblock = x.0; root = x.1; marks = x.2; checked = f }

-- what is told of it, by its view
module _ (format : Format) (image : List ℕ) (s : Superblock) (root : Root) (m : Marks) (checked : check_image format image ≡ ok (s, root, m)) where
  pub counted : check_of format image ≡ ok (counts_in image s root)
  unfolding check_of and_then
  counted = rw checked

  pub tree_is : (q : Path) → tree_in format image q ≡ tree_of (see s image) q
  unfolding tree_in tree_of
  tree_is q = ap (λ r. standing_in r q) checked ∙ sym (ap (λ r. standings_of r q) (checked-parts format image s root m checked).1)

  -- the counts by the card's rules, whose alloc_end is the superblock's
  pub free-is : free_in format image ≡ free_of (rules_of s) (see s image)
  unfolding free_in
  free-is =
      ap (count_by (λ c. c.free)) counted
      ∙ ap (λ n. free_count (rules_of s).may_take n (see s image)) (sym (end_is format image s (checked-parts format image s root m checked).0))

  pub held-is : held_in format image ≡ held_of (rules_of s) (see s image)
  unfolding held_in
  held-is =
      ap (count_by (λ c. c.held)) counted
      ∙ ap (λ n. held_count (rules_of s).may_take n (see s image)) (sym (end_is format image s (checked-parts format image s root m checked).0))

  pub long-is : length image ≡ cluster_bytes s.geometry.format * s.clusters
  long-is = (open-facts format image s (checked-parts format image s root m checked).0).long

  -- what a change takes and gives back
  pub taken_is : (c : Change) → taken_by format c image ≡ needed c root
  unfolding taken_by
  taken_is c = ap (by_card (λ t r. needed c r)) checked

  pub back_is : (c : Change) → given_back_by format c image ≡ returned (rules_of s) (chain_back c root)
  unfolding given_back_by
  back_is c = ap (by_card (λ t r. returned (rules_of t) (chain_back c r))) checked

  pub held-back-is : (c : Change) → held_back_by format c image ≡ withheld (rules_of s) (chain_back c root)
  unfolding held_back_by
  held-back-is c = ap (by_card (λ t r. withheld (rules_of t) (chain_back c r))) checked

  pub room-is : (c : Change)
      → free_in format image - taken_by format c image + given_back_by format c image ≡ free_of (rules_of s) (see s image) - needed c root + returned (rules_of s) (chain_back c root)
  room-is c = rw (free-is, taken_is c, back_is c)

-- ---- one change
module _ (format : Format) (image : List ℕ) (s : Superblock) (root : Root) (m : Marks) (checked : check_image format image ≡ ok (s, root, m)) (c : Change) (d : Done format image s root m checked c) where
  pub left : image_left format c image ≡ d.after
  left = ap (λ (o : change.Outcome). o.image) d.outcome

  pub told : Accepts format image c
  told = ap (λ (o : change.Outcome). o.answer) d.outcome

  pub kept : Kept format image c
  kept =
      let parts = checked-parts format image s root m checked in
      let card : model.Accepted (rules_of s) (see s image) = record { root = root; marks = m; checked = parts.1; no_words = no_words format image s parts.0 } in
      let k = change-keeps (rules_of s) (see s image) card c (see s d.after) d.performed in
      record {
        counts = counts_in d.after s d.new_root;
        again = ap (check_of format) left ∙ counted format d.after s d.new_root d.new_marks d.again;
        long = ap length left ∙ long-is format d.after s d.new_root d.new_marks d.again ∙ sym (long-is format image s root m checked);
        paths = λ q.
            ap (λ i. tree_in format i q) left ∙ tree_is format d.after s d.new_root d.new_marks d.again q ∙ k.paths q
            ∙ ap (λ o. cond (same_path q (path c)) (standing_after c o) o) (sym (tree_is format image s root m checked q));
        room = rw (taken_is format image s root m checked c, free-is format image s root m checked) k.room;
        free = ap (free_in format) left ∙ free-is format d.after s d.new_root d.new_marks d.again ∙ k.free ∙ sym (room-is format image s root m checked c);
        held =
            ap (held_in format) left ∙ held-is format d.after s d.new_root d.new_marks d.again ∙ k.held
            ∙ sym (rw (held-is format image s root m checked, held-back-is format image s root m checked c));
        untaken = λ t e x n f.
            let same : s ≡ t = ok-inj s t (sym (ap superblock_in checked) ∙ e) in
            let free : (see s image).link x ≡ Link.free = rw same f in
            rw (← same, left) (k.untaken x (rw same n) free);
        locks = λ q l.
            ap (λ i. tree_in format i q) left ∙ tree_is format d.after s d.new_root d.new_marks d.again q
            ∙ k.locks q (ap₂ (λ a b. locked a || locked b) (sym (tree_is format image s root m checked q)) (sym (tree_is format image s root m checked (parent q))) ∙ l)
            ∙ sym (tree_is format image s root m checked q);
      }

pub keeps : ChangeKeeps
keeps format image counts e c a =
    let k = card-of format image counts e in
    kept format image k.superblock k.root k.marks k.checked c (answered format image k.superblock k.root k.marks k.checked c a)

-- `refuses` and `accepts` say it of each number
pub accepted-exactly : AcceptedExactly
accepted-exactly format image s root m checked c = go (refusal (rules_of s) c (see s image) root) refl
  where
    go : (n : ℕ) → refusal (rules_of s) c (see s image) root ≡ n → (changed format c image).answer ≡ answer_by n
    go zero e = told format image s root m checked c (accepts format image s root m checked c e)
    go (suc n) e = ap (λ (o : change.Outcome). o.answer) ((refuses format image s root m checked c n e).0)

pub refusal-leaves : RefusalLeaves
unfolding changed
refusal-leaves format image c n p e = go (check_image format image) e
  where
    by_number : (s : Superblock) (k : ℕ) (plan : Option Plan) → (decided k image (outcome_with s image plan)).answer ≡ fault n p
        → (decided k image (outcome_with s image plan)).image ≡ image
    by_number s zero none e = refl
    by_number s zero (some plan) e = not-ok n p tt (sym e)
    by_number s (suc k) plan e = refl

    go : (r : Result (Superblock × Root × Marks)) → (changed_by c image r).answer ≡ fault n p → (changed_by c image r).image ≡ image
    go (fault k q) e = refl
    go (ok x) e =
        by_number x.0 (refusal (rules_of x.0) c (see x.0 image) x.1) (plan_of (rules_of x.0) c (see x.0 image) x.1) e

-- ---- demand 3
module _ (format : Format) (image : List ℕ) (s : Superblock) (root : Root) (m : Marks) (checked : check_image format image ≡ ok (s, root, m)) where
  -- both calls of an order that is accepted to its end
  pub record Both (a b : Change) : Type 0 where
    pub one : Done format image s root m checked a
    pub other : Done format one.after s one.new_root one.new_marks one.again b

  both : (a b : Change) → Order format image a b → Both a b
  both a b o =
      let d = answered format image s root m checked a o.first in
      let second : Accepts format d.after b = rw (left format image s root m checked a d) at o.second in
      record { one = d; other = answered format d.after s d.new_root d.new_marks d.again b second }

  module _ (a b : Change) (w : Both a b) where
    abbrev view-order : model.ViewOrder (rules_of s) (see s image) a b
    view-order =
        record {
          between = see s w.one.after;
          final = see s w.other.after;
          first_done = w.one.performed;
          then_done = w.other.performed;
        }

    ends : final format image a b ≡ w.other.after
    ends = ap (image_left format b) (left format image s root m checked a w.one) ∙ left format w.one.after s w.one.new_root w.one.new_marks w.one.again b w.other

    end-tree : (q : Path) → tree_in format (final format image a b) q ≡ tree_of (see s w.other.after) q
    end-tree q = ap (λ i. tree_in format i q) ends ∙ tree_is format w.other.after s w.other.new_root w.other.new_marks w.other.again q

    end-free : free_in format (final format image a b) ≡ free_of (rules_of s) (see s w.other.after)
    end-free = ap (free_in format) ends ∙ free-is format w.other.after s w.other.new_root w.other.new_marks w.other.again

  same-done : (u w : View) → done u ≡ done w → u ≡ w
  same-done u w e = cc

  image-order : (a b : Change) → model.ViewOrder (rules_of s) (see s image) a b → Order format image a b
  image-order a b o =
      let d = performs format image s root m checked a o.between o.first_done in
      let same : o.between ≡ see s d.after = same-done _ _ (sym o.first_done ∙ d.performed) in
      let then : perform (rules_of s) b (see s d.after) ≡ done o.final = rw same at o.then_done in
      let e = performs format d.after s d.new_root d.new_marks d.again b o.final then in
      record { first = told format image s root m checked a d; second = rw (left format image s root m checked a d) (told format d.after s d.new_root d.new_marks d.again b e) }

  pub commute : (a b : Change) → beginning (path a) (path b) ≡ false → beginning (path b) (path a) ≡ false → Commute format image a b
  commute a b h k =
      let view = demand-3-holds (rules_of s) (see s image) (accepted format image s root m checked) a b h k in
      record {
        tree = λ o p q. let x = both a b o in let z = both b a p in
            end-tree a b x q ∙ view.tree (view-order a b x) (view-order b a z) q ∙ sym (end-tree b a z q);
        free = λ o p n. let x = both a b o in let z = both b a p in
            end-free a b x ∙ view.free (view-order a b x) (view-order b a z) n ∙ sym (end-free b a z);
        creations = λ c d. let t = view.creations c d in
            ((λ o. image-order b a (t.0 (view-order a b (both a b o)))), (λ o. image-order a b (t.1 (view-order b a (both b a o)))));
      }

pub demand-3 : Demand3
demand-3 format image counts e a b h k = let c = card-of format image counts e in commute format image c.superblock c.root c.marks c.checked a b h k
