-- A card that the check accepts, by what the open call told: the tree that the view of the loaded table holds.
use Rattle.std.specs.Prelude.{Err}
use Prim.Native.Nat.{◌≤◌, ℕ}
use mathlib.Core.List.{List}
use mathlib.Core.Path.{◌≡◌, refl, sym}
use lib.ListN.{length, take}
use Rattle.page.specs.declared.Format.{Format}
use Rattle.fields.specs.PathBytes.{path_of}
use Rattle.layout.specs.declared.Superblock.{Superblock}
use Rattle.layout.specs.Refusal.{number_of, page_of}
use Rattle.layout.specs.declared.Refusal.{Refusal}
use Rattle.layout.specs.See.{check_image, checked_by, on_image, see, view_by}
use Rattle.layout.specs.Table.{open_card, table_after}
use Rattle.model.proofs.CheckHolds.{check-holds, ok-inj}
use Rattle.model.specs.Check.{Marks, Result, and_then, check_tree, fault, ok}
use Rattle.model.specs.Holds.{HoldsCard}
use Rattle.model.specs.Names.{Path}
use Rattle.model.specs.Tree.{Root}
use Rattle.tree.proofs.CheckLaws.{table-loaded, table-room}
use Rattle.tree.proofs.SlotSteps.{fault-ok}
use Rattle.tree.specs.Counted.{superblock_in}
use Rattle.lookup.specs.Answers.{TellsRead}
use Rattle.lookup.specs.Paths.{on_card, with_path}
use Rattle.lookup.proofs.AnswerLaws.{tells-refused}

module _ (format : Format) (image : List ℕ) where
  -- what the check refuses, every call refuses
  module _ {A : Type 0} (bytes : List ℕ) (ask : Superblock → Root → Path → Result A) where
    pub call-refused : (n p : ℕ) → fault n p ≡ superblock_in (check_image format image) → on_card format image bytes ask ≡ fault n p
    unfolding on_card and_then
    call-refused n p e = go (check_image format image) e
      where
        go : (r : Result (Superblock × Root × Marks)) → fault n p ≡ superblock_in r → and_then r (λ x. with_path (path_of bytes) (ask x.0 x.1)) ≡ fault n p
        go (fault m q) h = let a : ◌≡◌ {A = ℕ} n m = cc in let b : ◌≡◌ {A = ℕ} p q = cc in rw (a, b)
        go (ok x) h = fault-ok n p x.0 h

    pub call-accepted : (s : Superblock) (root : Root) (m : Marks) → check_image format image ≡ ok (s, root, m) → on_card format image bytes ask ≡ with_path (path_of bytes) (ask s root)
    unfolding on_card and_then
    call-accepted s root m e = rw e

  pub record Accepted (s : Superblock) : Type 0 where
    pub root : Root
    pub marks : Marks
    pub opened : ok s ≡ open_card format image
    pub checked : check_image format image ≡ ok (s, root, marks)
    pub holds : HoldsCard (see s image) root

  pub accepted : (s : Superblock) → ok s ≡ superblock_in (check_image format image) → Accepted s
  unfolding check_image and_then
  accepted s h = go (open_card format image) refl h
    where
      inner : (t : Superblock) → open_card format image ≡ ok t → (c : Result (Root × Marks)) → check_tree (see t image) ≡ c
          → ok s ≡ superblock_in (and_then (on_image t.geometry c) (λ x. ok (t, x.0, x.1))) → Accepted s
      inner t e (fault n p) f k = fault-ok _ _ s (sym k)
      inner t e (ok x) f k =
          rw (ok-inj s t k)
          (record { root = x.0; marks = x.1; opened = sym e; checked = rw (e, f) refl; holds = (check-holds (see t image) x.0 x.1 f).0 })

      go : (r : Result Superblock) → open_card format image ≡ r → ok s ≡ superblock_in (and_then r (checked_by image)) → Accepted s
      go (fault n p) e k = fault-ok n p s (sym k)
      go (ok t) e k = inner t e (check_tree (see t image)) refl k

  module _ (s : Superblock) (h : ok s ≡ superblock_in (check_image format image)) (before after : List ℕ) (l : after ≡ table_after image (open_card format image) before) where
    pub words-fit : s.end ≤ length after
    words-fit = table-room format image s (accepted s h).opened before after l

    pub words-hold : HoldsCard (view_by s.geometry (take s.end after) image) (accepted s h).root
    words-hold =
        let e = table-loaded format image s (accepted s h).opened before after l in
        rw e (accepted s h).holds

pub read-unopened : (x : Result (List ℕ)) (f : Refusal) (before : List ℕ) → x ≡ fault (number_of f) (page_of f) → TellsRead x (Err f) before before
read-unopened x f before e = record { count = tells-refused x length f (Err f) refl e; buffer = rw e }
