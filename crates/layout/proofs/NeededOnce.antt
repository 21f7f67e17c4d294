-- The check needs no page of an image twice: the opening pages lie before the allocatable clusters, the entry pages within them.
use Rattle.std.proofs.Common.{◌≡◌, ℕ, ◌+◌, ◌-◌, ◌*◌, ◌/◌, ◌<◌, ◌≤◌, true, List, [], ◌∷◌, ◌++◌, map, length, refl, ⊎_elim, arith}
use native.Mathlib.Decide.{dec_lt, ℕ_discrete}
use Rattle.page.specs.declared.Format.{Format}
use Rattle.model.specs.Check.{ok}
use Rattle.model.specs.Holds.{HoldsCard}
use Rattle.model.specs.Needed.{entry_pages_of}
use Rattle.model.specs.Tree.{Root, hit, times}
use Rattle.model.specs.View.{View}
use Rattle.model.proofs.Allocation.{times-append}
use Rattle.model.proofs.Equality.{zero?}
use Rattle.model.proofs.Frame.{hit-0, hit-self, times-pages}
use Rattle.model.proofs.NeededPages.{entry-pages-once}
use Rattle.model.proofs.PlanFits.{length-pages}
use Rattle.layout.specs.declared.Geometry.{Geometry}
use Rattle.layout.specs.declared.Superblock.{Superblock}
use Rattle.layout.specs.Needed.{needed_pages, opening_pages}
use Rattle.layout.specs.See.{image_page}
use Rattle.layout.specs.Table.{good_table_names, names_of, open_card}
use Rattle.layout.proofs.Names.{names-out, names-times}
use Rattle.layout.proofs.OpenFacts.{card-good, open-facts}

-- ---- pages of the allocatable clusters

module _ (geometry : Geometry) where
  times-before : (ps : List ℕ) (p : ℕ) → p < 2 * geometry.offset → times (map (image_page geometry) ps) p ≡ 0
  times-before [] p h = refl
  times-before (a ∷ ps) p h = omega (arith, times-before ps p h, hit-0 (image_page geometry a) p (λ e. omega arith))

  times-from : (ps : List ℕ) (p : ℕ) → 2 * geometry.offset ≤ p → times (map (image_page geometry) ps) p ≡ times ps (p - 2 * geometry.offset)
  times-from [] p h = refl
  times-from (a ∷ ps) p h = omega (arith, times-from ps p h, same (ℕ_discrete (image_page geometry a) p))
    where
      same : Dec (image_page geometry a ≡ p) → hit (image_page geometry a) p ≡ hit a (p - 2 * geometry.offset)
      same (yes e) = let f : p - 2 * geometry.offset ≡ a = omega arith in rw (e, f) (omega (arith, hit-self p, hit-self a))
      same (no e) = omega (arith, hit-0 (image_page geometry a) p e, hit-0 a (p - 2 * geometry.offset) (λ f. e (omega arith)))

module _ (format : Format) (image : List ℕ) (s : Superblock) (opened : open_card format image ≡ ok s) where
  -- ---- the opening pages

  names-good : good_table_names s.geometry.offset s.bad [] (s.indirect ∷ names_of image s) ≡ true
  names-good = let t = (card-good format image s opened).table in rw (t.indirect-good, t.names-good)

  clusters-out : (c : ℕ) → (1 ≤ c → c < s.geometry.offset → ⊥) → times (s.indirect ∷ names_of image s) c ≡ 0
  clusters-out = names-out s.geometry.offset s.bad [] (s.indirect ∷ names_of image s) names-good

  clusters-once : (c : ℕ) → times (s.indirect ∷ names_of image s) c ≤ 1
  clusters-once c = omega (arith, names-times s.geometry.offset s.bad [] (s.indirect ∷ names_of image s) names-good (λ x. omega arith) c)

  opening-none : (p : ℕ) → 2 * s.geometry.offset ≤ p → times (opening_pages image s) p ≡ 0
  opening-none p h =
      let g = open-facts format image s opened in
      omega (arith, times-pages (s.indirect ∷ names_of image s) p, clusters-out (p / 2) (λ a b. omega arith), hit-0 0 p (λ e. omega arith))

  pub opening-low : (p : ℕ) → 1 ≤ times (opening_pages image s) p → p < 2 * s.geometry.offset
  opening-low p h = go (dec_lt p (2 * s.geometry.offset))
    where
      go : Dec (p < 2 * s.geometry.offset) → p < 2 * s.geometry.offset
      go (yes l) = l
      go (no l) = absurd (omega (arith, opening-none p (omega arith)))

  -- page 0 is in cluster 0, which is none of the others
  opening-once : (p : ℕ) → times (opening_pages image s) p ≤ 1
  opening-once p =
      let pages = times-pages (s.indirect ∷ names_of image s) p in
      ⊎_elim (λ (e : p ≡ 0). let first : hit 0 p ≡ 1 = rw e in omega (arith, clusters-out (p / 2) (λ a b. omega arith)))
      (λ (l : 1 ≤ p). omega (arith, clusters-once (p / 2), hit-0 0 p (λ e. omega arith))) (zero? p)

  -- page 0, the indirect cluster, and at most 256 clusters of the table
  pub opening-few : length (opening_pages image s) ≤ 515
  opening-few = let g = open-facts format image s opened in omega (arith, length-pages (s.indirect ∷ names_of image s))

  -- ---- all needed pages

  -- with pages that are no entry pages, as those of a file that is read
  pub read-apart : (root : Root) (ps : List ℕ) → ((p : ℕ) → times (entry_pages_of root) p + times ps p ≤ 1) → (p : ℕ)
      → times (needed_pages image s root ++ map (image_page s.geometry) ps) p ≤ 1
  read-apart root ps apart p =
      omega (
        arith,
        times-append (needed_pages image s root) (map (image_page s.geometry) ps) p,
        times-append (opening_pages image s) (map (image_page s.geometry) (entry_pages_of root)) p,
        parts (dec_lt p (2 * s.geometry.offset)),
      )
    where
      parts : Dec (p < 2 * s.geometry.offset)
          → times (opening_pages image s) p + times (map (image_page s.geometry) (entry_pages_of root)) p + times (map (image_page s.geometry) ps) p ≤ 1
      parts (yes l) = omega (arith, times-before s.geometry (entry_pages_of root) p l, times-before s.geometry ps p l, opening-once p)
      parts (no l) =
          let h : 2 * s.geometry.offset ≤ p = omega arith in
          omega (arith, times-from s.geometry (entry_pages_of root) p h, times-from s.geometry ps p h, opening-none p h, apart (p - 2 * s.geometry.offset))

  pub needed-once : (v : View) (root : Root) → HoldsCard v root → (p : ℕ) → times (needed_pages image s root) p ≤ 1
  needed-once v root h p =
      omega (arith, times-append (needed_pages image s root) [] p, read-apart root [] (λ q. omega (arith, entry-pages-once v root h q)) p)
