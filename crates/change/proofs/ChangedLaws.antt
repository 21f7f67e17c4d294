-- A change on an image is the model's change on the image's view: accepted together, and then the view is the planned one.
use Prim.Native.Nat.{ℕ, suc, zero}
use mathlib.Core.List.{List}
use mathlib.Core.Path.{◌∙◌, ◌≡◌, ap, refl, subst, sym}
use native.Mathlib.Omega.{arith}
use Rattle.page.specs.declared.Format.{Format}
use Rattle.layout.specs.declared.Superblock.{Superblock}
use Rattle.layout.specs.See.{check_image, checked_by, on_image, see}
use Rattle.layout.specs.Table.{open_card}
use Rattle.layout.proofs.OpenFacts.{open-format}
use Rattle.layout.proofs.Stages.{not-ok, same_ok}
use Rattle.model.specs.Change.{Change}
use Rattle.model.specs.Check.{Marks, Result, and_then, check_tree, fault, ok}
use Rattle.model.specs.Claims as claims
use Rattle.model.specs.Perform.{done, perform, perform_on, refused}
use Rattle.model.specs.Plan.{after}
use Rattle.model.specs.Refusal.{refusal}
use Rattle.model.specs.Tree.{Root}
use Rattle.model.specs.View.{View}
use Rattle.model.proofs.ChangeActs.{acts}
use Rattle.model.proofs.CheckHolds.{check-holds}
use Rattle.model.proofs.Outcome.{Outcome}
use Rattle.model.proofs.Refusals.{refusal-accepts}
use Rattle.model.proofs.CheckHolds.{holds-check}
use Rattle.model.specs.Tree.{reached}
use Rattle.change.specs.Changed as image
use Rattle.change.specs.Changed.{changed, changed_by, changed_on, rules_of}
use Rattle.change.specs.Image.{image_after}
use Rattle.change.proofs.ChangedView.{no_words, open_after, view-after}

-- ---- the check of an image, in its two stages
pub checked-parts : (format : Format) (bytes : List ℕ) (s : Superblock) (root : Root) (m : Marks) → check_image format bytes ≡ ok (s, root, m)
    → (open_card format bytes ≡ ok s) × (check_tree (see s bytes) ≡ ok (root, m))
unfolding check_image and_then
checked-parts format bytes s root m e = go (open_card format bytes) refl e
  where
    inner : (t : Superblock) → open_card format bytes ≡ ok t → (c : Result (Root × Marks)) → check_tree (see t bytes) ≡ c
        → and_then {A = Root × Marks} {B = Superblock × Root × Marks} (on_image t.geometry c) (λ x. ok (t, x.0, x.1)) ≡ ok (s, root, m) → (open_card format bytes ≡ ok s) × (check_tree (see s bytes) ≡ ok (root, m))
    inner t o (fault n p) f k = not-ok _ _ (s, root, m) k
    inner t o (ok x) f k =
        let z : ◌≡◌ {A = Superblock × Root × Marks} (t, x.0, x.1) (s, root, m) = same_ok _ _ k in
        let a : t ≡ s = ap (λ (w : Superblock × Root × Marks). w.0) z in
        let b : ◌≡◌ {A = Root × Marks} (x.0, x.1) (root, m) = ap (λ (w : Superblock × Root × Marks). (w.1, w.2)) z in
        (o ∙ ap (λ (w : Superblock). ok w) a, ap (λ (w : Superblock). check_tree (see w bytes)) (sym a) ∙ f ∙ ap (λ (w : Root × Marks). ok w) b)

    go : (r : Result Superblock) → open_card format bytes ≡ r → and_then r (checked_by bytes) ≡ ok (s, root, m) → (open_card format bytes ≡ ok s) × (check_tree (see s bytes) ≡ ok (root, m))
    go (fault n p) o k = not-ok n p (s, root, m) k
    go (ok t) o k = inner t o (check_tree (see t bytes)) refl k

pub checked-whole : (format : Format) (bytes : List ℕ) (s : Superblock) (root : Root) (m : Marks) → open_card format bytes ≡ ok s → check_tree (see s bytes) ≡ ok (root, m)
    → check_image format bytes ≡ ok (s, root, m)
unfolding check_image and_then
checked-whole format bytes s root m o c = rw (o, c) refl

-- in the format that the card's own numbers tell
pub own-checked : (format : Format) (bytes : List ℕ) (s : Superblock) (root : Root) (m : Marks) → check_image format bytes ≡ ok (s, root, m)
    → check_image s.geometry.format bytes ≡ ok (s, root, m)
own-checked format bytes s root m e =
    subst (λ (f : Format). check_image f bytes ≡ ok (s, root, m)) (open-format format bytes s (checked-parts format bytes s root m e).0) e

-- ---- one change
module _ (format : Format) (bytes : List ℕ) (s : Superblock) (root : Root) (m : Marks) (checked : check_image format bytes ≡ ok (s, root, m)) where
  opened : open_card format bytes ≡ ok s
  opened = (checked-parts format bytes s root m checked).0

  walked : check_tree (see s bytes) ≡ ok (root, m)
  walked = (checked-parts format bytes s root m checked).1

  pub accepted : claims.Accepted (rules_of s) (see s bytes)
  accepted = record { root = root; marks = m; checked = walked; no_words = no_words format bytes s opened }

  pub changed-is : (c : Change) → changed format c bytes ≡ changed_on c bytes s root
  unfolding changed
  changed-is c = ap (changed_by c bytes) checked

  pub record Done (c : Change) : Type 0 where
    pub after : List ℕ
    pub outcome : changed format c bytes ≡ record { answer = ok tt; image = after }
    pub new_root : Root
    pub new_marks : Marks
    pub again : check_image format after ≡ ok (s, new_root, new_marks)
    pub performed : perform (rules_of s) c (see s bytes) ≡ done (see s after)

  pub accepts : (c : Change) → refusal (rules_of s) c (see s bytes) root ≡ 0 → Done c
  unfolding perform
  accepts c none =
      let holds = (check-holds (see s bytes) root m walked).0 in
      let o : Outcome (rules_of s) (see s bytes) root c =
      acts (rules_of s) (see s bytes) root holds (no_words format bytes s opened) c (refusal-accepts (rules_of s) (see s bytes) root holds c none) in
      let image = image_after s bytes o.plan in
      let seen = view-after format bytes s opened root holds o.plan o.deed in
      record {
        after = image_after s bytes o.plan;
        outcome = changed-is c ∙ rw (none, o.planned);
        new_root = o.root;
        new_marks = reached o.root;
        again =
            checked-whole format (image_after s bytes o.plan) s o.root (reached o.root) (open_after format bytes s opened root holds o.plan o.deed)
            (ap (λ (v : View). check_tree v) seen ∙ holds-check (after (see s bytes) o.plan) o.root o.card);
        performed =
            ap (perform_on (rules_of s) c (see s bytes)) walked ∙ (rw (none, o.planned) (ap done (sym seen)));
      }

  pub refuses : (c : Change) (n : ℕ) → refusal (rules_of s) c (see s bytes) root ≡ suc n
      → (changed format c bytes ≡ record { answer = fault (suc n) 0; image = bytes }) × (perform (rules_of s) c (see s bytes) ≡ refused (suc n) 0)
  unfolding perform
  refuses c n e = (changed-is c ∙ rw e, ap (perform_on (rules_of s) c (see s bytes)) walked ∙ rw e)

  -- a change that the image accepts, and one that its view accepts
  pub answered : (c : Change) → (changed format c bytes).answer ≡ ok tt → Done c
  answered c a = go (refusal (rules_of s) c (see s bytes) root) refl
    where
      go : (n : ℕ) → refusal (rules_of s) c (see s bytes) root ≡ n → Done c
      go zero e = accepts c e
      go (suc n) e = not-ok (suc n) 0 tt (sym (ap (λ (o : image.Outcome). o.answer) (refuses c n e).0) ∙ a)

  pub performs : (c : Change) (w : View) → perform (rules_of s) c (see s bytes) ≡ done w → Done c
  performs c w d = go (refusal (rules_of s) c (see s bytes) root) refl
    where
      go : (n : ℕ) → refusal (rules_of s) c (see s bytes) root ≡ n → Done c
      go zero e = accepts c e
      go (suc n) e = absurd (let f : refused (suc n) 0 ≡ done w = sym (refuses c n e).1 ∙ d in let z : ◌≡◌ {A = ℕ} 0 1 = cc in omega arith)
