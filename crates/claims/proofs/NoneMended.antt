-- Where no page has a corrected chunk, no call reports one: a plain image, and a raw one whose codes all match.
use Prim.Native.Nat.{ℕ, zero, suc}
use mathlib.Core.List.{List, map}
use mathlib.Core.Option.{Option, none, some}
use mathlib.Core.Path.{◌∙◌, ◌≡◌, ap, refl, sym}
use native.Mathlib.Omega.{arith}
use Rattle.page.specs.declared.Format.{Format}
use Rattle.page.specs.Mended.{mended_chunks}
use Rattle.fields.specs.PathBytes.{path_of}
use Rattle.change.proofs.ChangedLaws.{checked-parts}
use Rattle.layout.proofs.OpenFacts.{open-format}
use Rattle.layout.specs.declared.Superblock.{Superblock}
use Rattle.layout.specs.Mended.{mended_by, mended_in, mended_of, mended_over}
use Rattle.layout.specs.Needed.{needed_pages}
use Rattle.layout.specs.See.{check_image, image_page}
use Rattle.lookup.specs.Mended.{or_none, read_mended, read_pages}
use Rattle.lookup.specs.Paths.{at_path, on_card, refusing, with_path}
use Rattle.model.proofs.NeededPages.{total-zero}
use Rattle.model.specs.Check.{Marks, Result, and_then, fault, ok}
use Rattle.model.specs.Lookup.{Found, absent, found, look_up, tell}
use Rattle.model.specs.Names.{Path}
use Rattle.model.specs.Refusal.{way}
use Rattle.model.specs.Tree.{Root, Slot, Tree}
use Rattle.claims.specs.Formats.{NoneMended}

module _ (format : Format) (image : List ℕ) (nowhere : (p : ℕ) → mended_chunks format image p ≡ 0) where
  module _ (s : Superblock) (root : Root) (m : Marks) (checked : check_image format image ≡ ok (s, root, m)) where
    -- in the card's own format
    pub none_over : (pages : List ℕ) → mended_over s.geometry.format image pages ≡ 0
    none_over pages =
        ap (λ (f : Format). mended_over f image pages) (sym (open-format format image s (checked-parts format image s root m checked).0))
        ∙ total-zero (mended_chunks format image) nowhere pages

    pub none_in : mended_in image s root ≡ 0
    none_in = none_over (needed_pages image s root)

  none-checked : mended_of format image ≡ 0
  unfolding mended_of
  none-checked = go (check_image format image) refl
    where
      go : (r : Result (Superblock × Root × Marks)) → check_image format image ≡ r → mended_by image r ≡ 0
      go (fault n p) e = refl
      go (ok x) e = none_in x.0 x.1 x.2 e

  module _ (path : List ℕ) (offset count : ℕ) where
    -- what a read of the slot at a path adds
    abbrev adds : Superblock → Slot → Tree → Result ℕ
    adds s h inside = ok (mended_over s.geometry.format image (map (image_page s.geometry) (read_pages offset count h inside)))

    none_told : (s : Superblock) → ((pages : List ℕ) → mended_over s.geometry.format image pages ≡ 0) → (w : ℕ) (f : Found) → or_none (refusing w (tell (adds s) (fault 9 0) f)) ≡ 0
    none_told s h zero absent = refl
    none_told s h zero (found slot inside) = h (map (image_page s.geometry) (read_pages offset count slot inside))
    none_told s h (suc w) f = refl

    none_read : or_none (on_card format image path (λ s root names. at_path root names (adds s))) ≡ 0
    unfolding on_card at_path and_then
    none_read = go (check_image format image) refl
      where
        named : (s : Superblock) (root : Root) → ((pages : List ℕ) → mended_over s.geometry.format image pages ≡ 0) → (o : Option Path)
            → or_none (with_path o (λ names. refusing (way (look_up root) names) (tell (adds s) (fault 9 0) (look_up root names)))) ≡ 0
        named s root h none = refl
        named s root h (some names) = none_told s h (way (look_up root) names) (look_up root names)

        go : (r : Result (Superblock × Root × Marks)) → check_image format image ≡ r
            → or_none (and_then r (λ x. with_path (path_of path) (λ names. refusing (way (look_up x.1) names) (tell (adds x.0) (fault 9 0) (look_up x.1 names))))) ≡ 0
        go (fault n p) e = refl
        go (ok x) e = named x.0 x.1 (none_over x.0 x.1 x.2 e) (path_of path)

    none-whole : read_mended format image path offset count ≡ 0
    unfolding read_mended
    none-whole = omega (arith, none-checked, none_read)

  pub none-mended : NoneMended format image
  none-mended = record { checked = none-checked; read = none-whole }
