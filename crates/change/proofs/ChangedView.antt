-- The law that joins bytes and model: the view of the changed image is the planned view, and the card is open as it was.
use Prim.Native.Nat.{ℕ, ◌+◌, ◌*◌, ◌/◌, ◌%◌, ◌^◌, ◌<◌, ◌≤◌}
use mathlib.Core.Bool.{cond, false, true}
use mathlib.Core.List.{List}
use mathlib.Core.Logic.{◌⊎◌, inl, inr, ⊎_elim}
use mathlib.Core.Option.{Option, none, some}
use mathlib.Core.Path.{◌∙◌, ◌≡◌, ap, fun_ext, refl, sym}
use native.Mathlib.Omega.{arith}
use borrow.Author.Tests.{le-ltb, ltb-false, ltb-true}
use lib.Dec.{ltb}
use lib.ListN.{get_or-eq_default, drop, get_or, length}
use Rattle.page.specs.declared.Format.{Format}
use Rattle.page.specs.Page.{page_at, pages_in}
use Rattle.page.proofs.Laws.{page-length}
use Rattle.layout.specs.declared.Superblock.{Superblock}
use Rattle.layout.specs.See.{image_page, page_in, see}
use Rattle.layout.specs.Table.{data_of, names_of, open_card, table_clusters, table_of, table_page, table_word}
use Rattle.layout.proofs.OpenFacts.{OpenFacts, names-kept, open-facts, open_kept}
use Rattle.layout.proofs.Stages.{Readable}
use Rattle.layout.proofs.TableLaws.{get_or-table, length-table}
use Rattle.model.specs.Check.{ok}
use Rattle.model.specs.Holds.{HoldsCard}
use Rattle.model.specs.Pages.{decoded}
use Rattle.model.specs.Plan.{Plan, after}
use Rattle.model.specs.Tree.{Root}
use Rattle.model.specs.View.{Link, View, link_of}
use Rattle.model.specs.Writes.{links_of, page_writes, pages_after, words_after}
use Rattle.model.proofs.Equality.{bool}
use Rattle.model.proofs.Outcome.{Deed}
use Rattle.model.proofs.WritesHold.{links-written, pages-written}
use Rattle.change.specs.Changed.{rules_of}
use Rattle.change.specs.Image.{Lands, image_after, write_pages}
use Rattle.change.proofs.PageWrites as writes
use Rattle.change.proofs.PlanPages.{Sized, chain-low, entries-read, growth-low, lands, little-4, taken-low}
use Rattle.change.proofs.PlanWords.{words-fit}
use Rattle.change.proofs.TableStore.{Stored, stored, word-stored}

links-ext : (end : ℕ) (f g : ℕ → ℕ) → ((c : ℕ) → c < end → f c ≡ g c) → (c : ℕ) → links_of end f c ≡ links_of end g c
links-ext end f g h c =
    ⊎_elim (λ (e : ltb c end ≡ true). rw e (ap link_of (h c (ltb-true c end e)))) (λ (e : ltb c end ≡ false). rw e) (bool (ltb c end))

module _ (format : Format) (image : List ℕ) (s : Superblock) (opened : open_card format image ≡ ok s) where
  abbrev pub facts : OpenFacts image s
  facts = open-facts format image s opened

  -- on an open card the rules' alloc_end is the superblock's
  pub end_is : (rules_of s).alloc_end ≡ s.end
  end_is = omega (arith, facts.room, facts.most)

  abbrev names : List ℕ
  names = names_of image s

  count : ℕ
  count = 2 * table_clusters s.end

  -- the table's pages lie below the allocatable clusters, after the superblock, and no two are one
  table-low : (t : ℕ) → t < 2 * table_clusters s.end → table_page (names_of image s) t < 2 * s.geometry.offset
  table-low t h = omega (arith, (facts.range (t / 2) (omega arith)).1)

  table-high : (t : ℕ) → t < 2 * table_clusters s.end → 2 ≤ table_page (names_of image s) t
  table-high t h = omega (arith, (facts.range (t / 2) (omega arith)).0)

  table-apart : (t u : ℕ) → t < 2 * table_clusters s.end → u < 2 * table_clusters s.end → table_page (names_of image s) t ≡ table_page (names_of image s) u → t ≡ u
  table-apart t u h k e =
      let a : get_or (names_of image s) (t / 2) 0 ≡ get_or (names_of image s) (u / 2) 0 = omega arith in
      let b = facts.once (t / 2) (u / 2) (omega arith) (omega arith) a in
      omega arith

  -- none is the indirect cluster's
  table-aside : (t : ℕ) → t < 2 * table_clusters s.end → table_page (names_of image s) t / 2 ≡ s.indirect → ⊥
  table-aside t h e = facts.apart (t / 2) (omega arith) (omega arith)

  room : 2 * (s.geometry.offset + s.end) ≤ pages_in s.geometry.format (length image)
  room = omega (arith, facts.pages, facts.room)

  sized : (a : ℕ) → Sized ((see s image).page a)
  unfolding page_in
  sized a page e = go (bool (ltb a (2 * length (table_of image s)))) e
    where
      go : (ltb a (2 * length (table_of image s)) ≡ true) ⊎ (ltb a (2 * length (table_of image s)) ≡ false) → (see s image).page a ≡ some page → length page ≡ 512
      go (inl i) e = page-length s.geometry.format image (image_page s.geometry a) page (rw i at e)
      go (inr i) e = absurd (let f : ◌≡◌ {A = Option (List ℕ)} none (some page) = rw i at e in let z : ◌≡◌ {A = ℕ} 0 1 = cc in omega arith)

  pub no_words : (c : ℕ) → (rules_of s).alloc_end ≤ c → (see s image).link c ≡ Link.free
  no_words c h = rw (le-ltb c (length (table_of image s)) (omega (arith, length-table image s, end_is)))

  word_small : (c : ℕ) → get_or (table_of image s) c 0 < 256 ^ 4
  word_small c = go (bool (ltb c s.end))
    where
      go : (ltb c s.end ≡ true) ⊎ (ltb c s.end ≡ false) → get_or (table_of image s) c 0 < 256 ^ 4
      go (inl e) = rw (get_or-table image s c (ltb-true c s.end e)) (little-4 (drop (4 * (c % 128)) (data_of (page_at s.geometry.format image (table_page (names_of image s) (c / 128))))))
      go (inr e) =
          let z : get_or (table_of image s) c 0 ≡ 0 = get_or-eq_default (table_of image s) 0 (omega (arith, length-table image s, ltb-false c s.end e)) in
          rw z (omega arith)

  module _ (root : Root) (holds : HoldsCard (see s image) root) (p : Plan) (d : Deed (rules_of s) (see s image) root p) where
    abbrev v : View
    v = see s image

    abbrev words : ℕ → ℕ
    words = words_after p (λ c. get_or (table_of image s) c 0)

    -- every page that the plan writes lies in the allocatable clusters and has 512 bytes
    pub land : Lands s.end (page_writes (see s image) p)
    land = rw end_is at (lands (rules_of s) (see s image) sized (λ a. refl) root holds no_words p d)

    abbrev between : List ℕ
    between = write_pages s.geometry (page_writes (see s image) p) image

    low-kept : (q : ℕ) → q < 2 * s.geometry.offset → page_at s.geometry.format (write_pages s.geometry (page_writes (see s image) p) image) q ≡ page_at s.geometry.format image q
    low-kept q h = writes.low-page-kept s.geometry s.end (page_writes (see s image) p) image land q h

    still-readable : (t : ℕ) → t < 2 * table_clusters s.end → Readable s.geometry.format (write_pages s.geometry (page_writes (see s image) p) image) (table_page (names_of image s) t)
    still-readable t h = let e = low-kept (table_page (names_of image s) t) (table-low t h) in rw e (facts.table-read t h)

    table : Stored s.geometry.format (names_of image s) s.end (words_after p (λ c. get_or (table_of image s) c 0)) (2 * table_clusters s.end) table-apart (2 * table_clusters s.end)
        (write_pages s.geometry (page_writes (see s image) p) image) (image_after s image p)
    unfolding image_after
    table = stored s.geometry.format (names_of image s) s.end _ (2 * table_clusters s.end) table-apart _ still-readable (2 * table_clusters s.end) (omega arith)

    pub length-after : length (image_after s image p) ≡ length image
    length-after = table.long ∙ writes.length-pages-written s.geometry s.end (page_writes (see s image) p) image land

    -- pages below the allocatable clusters that are none of the table's
    pub page-kept : (q : ℕ) → q < 2 * s.geometry.offset → ((t : ℕ) → t < 2 * table_clusters s.end → table_page (names_of image s) t ≡ q → ⊥) → page_at s.geometry.format (image_after s image p) q ≡ page_at s.geometry.format image q
    page-kept q h n = table.other q n ∙ low-kept q h

    first-kept : page_at s.geometry.format (image_after s image p) (2 * s.indirect) ≡ page_at s.geometry.format image (2 * s.indirect)
    first-kept = page-kept (2 * s.indirect) (omega (arith, facts.indirect-below)) (λ t h e. table-aside t h (omega arith))

    second-kept : page_at s.geometry.format (image_after s image p) (2 * s.indirect + 1) ≡ page_at s.geometry.format image (2 * s.indirect + 1)
    second-kept = page-kept (2 * s.indirect + 1) (omega (arith, facts.indirect-below)) (λ t h e. table-aside t h (omega arith))

    pub names-after : names_of (image_after s image p) s ≡ names_of image s
    names-after = names-kept image (image_after s image p) s first-kept second-kept

    pub open_after : open_card format (image_after s image p) ≡ ok s
    open_after =
        open_kept format image (image_after s image p) s opened length-after
        (page-kept 0 (omega (arith, facts.indirect-below)) (λ t h e. omega (arith, table-high t h)))
        first-kept second-kept (λ t h. rw (table.table t h) refl)

    -- storing the table leaves the allocatable pages
    aside : (a : ℕ) → page_in s.geometry s.end (image_after s image p) a ≡ page_in s.geometry s.end (write_pages s.geometry (page_writes (see s image) p) image) a
    unfolding page_in
    aside a = ap (λ o. cond (ltb a (2 * s.end)) o none) (table.other (image_page s.geometry a) (λ t h e. omega (arith, table-low t h)))

    page-law : (a : ℕ) → (see s (image_after s image p)).page a ≡ (after (see s image) p).page a
    page-law a =
        ap (λ n. page_in s.geometry n (image_after s image p) a) (length-table (image_after s image p) s)
        ∙ aside a
        ∙ writes.pages-written s.geometry s.end (page_writes (see s image) p) image room land a
        ∙ ap (λ n. pages_after (page_writes (see s image) p) (page_in s.geometry n image) a) (sym (length-table image s))
        ∙ sym (pages-written (rules_of s) (see s image) root holds p d a)

    link-law : (c : ℕ) → (see s (image_after s image p)).link c ≡ (after (see s image) p).link c
    link-law c =
        ap (λ n. links_of n (λ x. get_or (table_of (image_after s image p) s) x 0) c) (length-table (image_after s image p) s)
        ∙ links-ext s.end _ (words_after p (λ x. get_or (table_of image s) x 0)) word_after c
        ∙ ap (λ n. links_of n (words_after p (λ x. get_or (table_of image s) x 0)) c) (sym end_is)
        ∙ sym (links-written (rules_of s) (see s image) root holds p d no_words (λ x. get_or (table_of image s) x 0)
        (λ x. ap (λ n. links_of n (λ z. get_or (table_of image s) z 0) x) (length-table image s ∙ sym end_is)) c)
      where
        word_after : (x : ℕ) → x < s.end → get_or (table_of (image_after s image p) s) x 0 ≡ words_after p (λ x. get_or (table_of image s) x 0) x
        word_after x h =
            get_or-table (image_after s image p) s x h
            ∙ ap (λ n. table_word s.geometry.format (image_after s image p) n x) names-after
            ∙ word-stored s.geometry.format (names_of image s) s.end _ (2 * table_clusters s.end) table-apart _ still-readable (image_after s image p) table x h (omega arith) (small x)
          where
            small : (x : ℕ) → words_after p (λ x. get_or (table_of image s) x 0) x < 256 ^ 4
            small x =
                words-fit s.end (omega (arith, facts.room, facts.most)) p (λ x. get_or (table_of image s) x 0)
                (λ c u. chain-low (rules_of s) (see s image) sized (λ a. refl) root holds no_words p d c (omega (arith, end_is)))
                (λ c u. growth-low (rules_of s) (see s image) sized (λ a. refl) root holds no_words p d c (omega (arith, end_is)))
                (λ c u. taken-low (rules_of s) (see s image) sized (λ a. refl) root holds no_words p d c (omega (arith, end_is))) word_small x

    pub view-after : see s (image_after s image p) ≡ after (see s image) p
    view-after =
        λ j. record {
          page = fun_ext page-law j;
          entry = fun_ext (λ a. ap decoded (page-law a) ∙ entries-read (rules_of s) (see s image) sized (λ a. refl) root holds no_words p d a) j;
          link = fun_ext link-law j;
        }
