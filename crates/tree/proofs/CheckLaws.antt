-- What the walk tells of a card that was opened is the check's answer, by the table that was loaded.
use Rattle.page.specs.declared.Format.{Format}
use Rattle.std.proofs.Common.{◌≡◌, ℕ, ◌+◌, ◌^◌, ◌<◌, ◌≤◌, Bool, List, length, take, drop, sym, refl, ap, ◌∙◌, arith, length-append, take_at, le-ltb}
use Rattle.std.specs.Prelude.{Result as Returned, Ok, Err}
use mathlib.Core.Path.{fun_ext}
use Rattle.layout.proofs.OpenFacts.{open-facts}
use Rattle.layout.proofs.TableLaws.{length-table}
use Rattle.layout.specs.declared.Refusal.{Refusal}
use Rattle.layout.specs.declared.Superblock.{Superblock}
use Rattle.layout.specs.Mended.{mended_in, mended_of, opening_mended}
use Rattle.layout.specs.Refusal.{number_of, page_of}
use Rattle.layout.specs.See.{check_image, on_image, see, view_by}
use Rattle.layout.specs.Table.{open_card, table_after, table_of}
use Rattle.model.proofs.CheckHolds.{check-holds}
use Rattle.model.proofs.CountLaws.{card-used}
use Rattle.model.specs.Check.{Marks, Result, and_then, check_tree, fault, ok}
use Rattle.model.specs.Counts.{free_count, held_count, is_orphan, may_take_on, total_below}
use Rattle.model.specs.Holds.{HoldsCard}
use Rattle.model.specs.Needed.{entry_pages_of, total_over}
use Rattle.model.specs.Tree.{Root, reached}
use Rattle.model.specs.View.{View, most_clusters}
use Rattle.page.specs.Mended.{wrapped}
use Rattle.reached.proofs.CountLaws.{free-count, held-count, orphan-count, reached-count}
use Rattle.reached.specs.Marks.{Keeps}
use Rattle.reached.specs.Totals.{free_words, held_words, orphans_in}
use Rattle.reached.specs.declared.Reached.{Reached}
use Rattle.tree.specs.Counted.{check_of, counts_in, superblock_in}
use Rattle.tree.specs.Mended.{mended_page}
use Rattle.tree.specs.declared.Counts.{Counts}
use Rattle.tree.specs.Walk.{Tells, root_tallied}
use Rattle.tree.proofs.MendedLaws.{opening-fits, tree-settled, tree-small, with-tree}

module _ (format : Format) (image : List ℕ) where
  -- ---- a card that is refused

  pub unopened : (n p : ℕ) → fault n p ≡ open_card format image → fault n p ≡ check_image format image
  unfolding check_image and_then
  unopened n p e = rw (← e)

  -- it has no counts, no superblock, and no corrected chunks
  pub record Refused (n p : ℕ) : Type 0 where
    pub counts : fault n p ≡ check_of format image
    pub opened : fault n p ≡ superblock_in (check_image format image)
    pub mended : 0 ≡ mended_of format image

  pub refused : (n p : ℕ) → fault n p ≡ check_image format image → Refused n p
  unfolding check_of mended_of and_then
  refused n p e = record { counts = rw (← e); opened = rw (← e); mended = rw (← e) }

  pub check-bad : (n p : ℕ) → fault n p ≡ open_card format image → fault n p ≡ check_of format image
  check-bad n p e = (refused n p (unopened n p e)).counts

  -- ---- a card that was opened

  module _ (s : Superblock) (e : ok s ≡ open_card format image) where
    -- the loaded words are the table
    pub table-loaded : (before after : List ℕ) → after ≡ table_after image (open_card format image) before → take s.end after ≡ table_of image s
    table-loaded before after f = rw (f ∙ ap (λ r. table_after image r before) (sym e)) (take_at (table_of image s) (drop s.end before) s.end (length-table image s))

    pub table-room : (before after : List ℕ) → after ≡ table_after image (open_card format image) before → s.end ≤ length after
    table-room before after f =
        rw (f ∙ ap (λ r. table_after image r before) (sym e)) (omega (arith, length-append (table_of image s) (drop s.end before), length-table image s))

    pub end_fits : s.end ≤ most_clusters
    end_fits = let g = open-facts format image s (sym e) in omega (arith, g.room, g.most)

    -- ---- what the walk tells, by the loaded words

    module _ (opening : ℕ) (o : opening ≡ opening_mended format image (open_card format image)) (t : List ℕ) (f : t ≡ table_of image s) (count : ℕ) where
      abbrev v : View
      v = view_by s.geometry t image

      abbrev Walked : Returned Reached Refusal → Result (Root × Marks) → Type 0
      Walked answer r = Tells (on_image s.geometry (root_tallied (mended_page s.geometry image) opening r)) answer count

      pub walk-refused : (w : Refusal) → Walked (Err w) (check_tree v) → fault (number_of w) (page_of w) ≡ check_image format image
      unfolding check_image and_then
      walk-refused w h = rw (← e, ← f) (go (check_tree v) h)
        where
          go : (r : Result (Root × Marks)) → Walked (Err w) r → ◌≡◌ {A = Result (Superblock × Root × Marks)} (fault (number_of w) (page_of w)) (and_then (on_image s.geometry r) (λ x. ok (s, x.0, x.1)))
          go (fault n p) h = rw (h.0, h.1)
          go (ok x) h = absurd h

      -- the tree that was walked
      record Passed (q : Reached) : Type 0 where
        root : Root
        marks : Marks
        tree : check_tree v ≡ ok (root, marks)
        keeps : Keeps q marks
        counted : wrapped count ≡ wrapped (opening + total_over (mended_page s.geometry image) (entry_pages_of root))

      passed : (q : Reached) → Walked (Ok q) (check_tree v) → Passed q
      passed q h = go (check_tree v) refl h
        where
          go : (r : Result (Root × Marks)) → check_tree v ≡ r → Walked (Ok q) r → Passed q
          go (fault n p) g h = absurd h
          go (ok x) g h = record { root = x.0; marks = x.1; tree = g; keeps = h.0; counted = h.1 }

      module _ (q : Reached) (h : Walked (Ok q) (check_tree v)) (mended : ℕ) (same : mended ≡ count) (fits : mended < 2 ^ 64) where
        p : Passed q
        p = passed q h

        whole : check_image format image ≡ ok (s, p.root, p.marks)
        unfolding check_image and_then
        whole = rw (← e, ← f, p.tree)

        long : length t ≡ s.end
        long = ap length f ∙ length-table image s

        holds : HoldsCard v p.root
        holds = (check-holds v p.root p.marks p.tree).0

        mended-is : mended ≡ mended_in image s p.root
        mended-is =
            let opened = opening-fits format image s e opening o in
            tree-settled s opening t image p.root holds (omega (arith, long, end_fits)) (omega arith) mended fits (ap wrapped same ∙ p.counted) ∙ with-tree format image s e opening o p.root

        pub told-opened : (ok s ≡ superblock_in (check_image format image)) × (mended ≡ mended_of format image) × (mended < 2 ^ 32)
        unfolding mended_of
        told-opened = (
          rw whole,
          rw whole mended-is,
          omega (arith, opening-fits format image s e opening o, tree-small s opening t image p.root holds (omega (arith, long, end_fits)), mended-is ∙ sym (with-tree format image s e opening o p.root)),
        )

        same-counts : (a b : Counts) → a.clusters ≡ b.clusters → a.free ≡ b.free → a.reached ≡ b.reached → a.orphaned ≡ b.orphaned → a.held ≡ b.held → a.mended ≡ b.mended → a ≡ b
        same-counts a b c d e f g h = λ i. record { clusters = c i; free = d i; reached = e i; orphaned = f i; held = g i; mended = h i }

        -- which clusters may be taken, by a table of that length
        abbrev may_take : ℕ → ℕ → Bool
        may_take end = may_take_on s.clusters end s.geometry.offset s.bad

        pub told-counts : (free orphaned held : ℕ) → free ≡ free_words (may_take (length t)) t → orphaned ≡ orphans_in t q → held ≡ held_words (may_take (length t)) t
            → ok (record { clusters = s.clusters; free = free; reached = q.count; orphaned = orphaned; held = held; mended = mended }) ≡ check_of format image
        unfolding check_of and_then
        told-counts free orphaned held a b c =
            let m : p.marks ≡ reached p.root = fun_ext (check-holds v p.root p.marks p.tree).1 in
            let high : (d : ℕ) → length t ≤ d → p.marks d ≡ 0 = λ d u. (check-holds v p.root p.marks p.tree).1 d ∙ card-used v p.root holds d (rw (le-ltb d (length t) u)) in
            let seen : v ≡ see s image = rw f in
            rw whole
            (ap {B = Result Counts} ok
            (same-counts (record { clusters = s.clusters; free = free; reached = q.count; orphaned = orphaned; held = held; mended = mended }) (counts_in image s p.root)
            refl (a ∙ free-count t v (λ d. refl) (may_take (length t)) ∙ ap (λ n. free_count (may_take n) n v) long ∙ ap (free_count (may_take s.end) s.end) seen)
            (reached-count q p.marks p.keeps (length t) high ∙ ap (λ (k : Marks). total_below k (length t)) m ∙ ap (total_below (reached p.root)) long)
            (b ∙ orphan-count t v (λ d. refl) q p.marks p.keeps ∙ ap (λ (k : Marks). total_below (λ d. is_orphan (v.link d) (k d)) (length t)) m
            ∙ ap (total_below (λ d. is_orphan (v.link d) (reached p.root d))) long ∙ ap (λ (w : View). total_below (λ d. is_orphan (w.link d) (reached p.root d)) s.end) seen)
            (c ∙ held-count t v (λ d. refl) (may_take (length t)) ∙ ap (λ n. held_count (may_take n) n v) long ∙ ap (held_count (may_take s.end) s.end) seen)
            mended-is))
