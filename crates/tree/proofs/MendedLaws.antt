-- The count of corrected chunks is the sum over the pages that the check needs, and 64 bits hold it.
use Rattle.page.specs.declared.Format.{Format}
use Rattle.std.proofs.Common.{◌≡◌, ℕ, ◌+◌, ◌^◌, ◌<◌, ◌≤◌, List, map, length, sym, ap, ◌∙◌, arith, le-ltb}
use Rattle.page.proofs.Mending.{mended-most}
use Rattle.page.specs.Mended.{mended_chunks, wrapped}
use Rattle.layout.proofs.MendedLaws.{opening-small}
use Rattle.layout.proofs.OpenFacts.{open-format}
use Rattle.layout.specs.declared.Superblock.{Superblock}
use Rattle.layout.specs.Mended.{mended_in, mended_over, opening_mended}
use Rattle.layout.specs.Needed.{opening_pages}
use Rattle.layout.specs.See.{image_page, view_by}
use Rattle.layout.specs.Table.{open_card}
use Rattle.model.proofs.NeededPages.{entry-pages-few, total-append, total-map, total-most}
use Rattle.model.specs.Check.{ok}
use Rattle.model.specs.Holds.{HoldsCard}
use Rattle.model.specs.Needed.{entry_pages_of, total_over}
use Rattle.model.specs.Tree.{Root}
use Rattle.model.specs.View.{most_clusters}
use Rattle.tree.specs.Counted.{with_tree}
use Rattle.tree.specs.Mended.{mended_page}

module _ (s : Superblock) (opening : ℕ) (t image : List ℕ) (root : Root) (holds : HoldsCard (view_by s.geometry t image) root) (most : length t ≤ most_clusters) where
  -- a card has at most two entry pages for each of its clusters
  pub tree-small : total_over (mended_page s.geometry image) (entry_pages_of root) ≤ 524288
  tree-small =
      omega (
        arith,
        total-most (mended_page s.geometry image) 4 (λ p. mended-most s.geometry.format image (image_page s.geometry p)) (entry_pages_of root),
        entry-pages-few (view_by s.geometry t image) root holds (length t) (λ c u. rw (le-ltb c (length t) u)),
      )

  -- so that the count, as it wraps, is the sum
  pub tree-settled : opening < 2 ^ 32 → (mended : ℕ) → mended < 2 ^ 64
      → wrapped mended ≡ wrapped (opening + total_over (mended_page s.geometry image) (entry_pages_of root)) → mended ≡ with_tree s image opening root
  tree-settled small mended fits h = omega (arith, tree-small)

-- the pages of opening, then those of the tree
needed-split : (image : List ℕ) (s : Superblock) (root : Root)
    → with_tree s image (mended_over s.geometry.format image (opening_pages image s)) root ≡ mended_in image s root
needed-split image s root =
    let f = mended_chunks s.geometry.format image in
    sym (total-append f (opening_pages image s) (map (image_page s.geometry) (entry_pages_of root))
    ∙ ap (λ (n : ℕ). total_over f (opening_pages image s) + n) (total-map f (image_page s.geometry) (entry_pages_of root)))

module _ (format : Format) (image : List ℕ) (s : Superblock) (e : ok s ≡ open_card format image) (opening : ℕ) (o : opening ≡ opening_mended format image (open_card format image)) where
  opening-is : opening ≡ mended_over s.geometry.format image (opening_pages image s)
  opening-is =
      o ∙ ap (opening_mended format image) (sym e)
      ∙ ap (λ (x : Format). mended_over x image (opening_pages image s)) (open-format format image s (sym e))

  pub opening-fits : opening ≤ 2060
  opening-fits = omega (arith, o ∙ ap (opening_mended format image) (sym e), opening-small format image s (sym e))

  pub with-tree : (root : Root) → with_tree s image opening root ≡ mended_in image s root
  with-tree root = ap (λ (n : ℕ). with_tree s image n root) opening-is ∙ needed-split image s root
