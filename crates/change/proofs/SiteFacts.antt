-- Of a directory that was found: its last cluster, the free clusters, and data that fills whole clusters.
use Prim.Native.Nat.{ℕ, zero, suc, ◌-◌, ◌*◌, ◌/◌, ◌<◌}
use mathlib.Core.List.{List, [], ◌++◌, ◌∷◌, append_assoc}
use mathlib.Core.Option.{Option, some}
use mathlib.Core.Path.{◌∙◌, ◌≡◌, ap, ap₂, refl, sym}
use native.Mathlib.Omega.{arith}
use borrow.Author.Tests.{lt-ltb}
use lib.ListN.{drop, get_or, length, length-append, take}
use lib.Seq.{drop_at, take_at}
use Rattle.page.specs.declared.Format.{Format}
use Rattle.layout.specs.declared.Superblock.{Superblock}
use Rattle.layout.specs.See.{see}
use Rattle.layout.specs.Table.{open_card, table_of}
use Rattle.layout.proofs.TableLaws.{length-table}
use Rattle.model.specs.Check.{ok}
use Rattle.model.specs.Counts.{takeable}
use Rattle.model.specs.Entry.{clusters_for, entry_of}
use Rattle.model.specs.Names.{Path}
use Rattle.model.specs.Pages.{data_pages, data_pages_to, zero_page}
use Rattle.model.specs.Plan.{free_below, free_clusters, if_free}
use Rattle.model.specs.Tree.{Root}
use Rattle.model.specs.View.{Link}
use Rattle.model.specs.Writes.{links_of}
use Rattle.tree.specs.Slots.{cluster_at}
use Rattle.lookup.specs.declared.way.EntryAt.{EntryAt}
use Rattle.change.specs.Changed.{rules_of}
use Rattle.change.specs.Words.{free_list}
use Rattle.change.proofs.ChainWords.{cluster-in, last-at, last_in}
use Rattle.change.proofs.ChangedView.{end_is}
use Rattle.change.proofs.Sites.{Site}

free_ext : (f g : ℕ → Link) (k : ℕ) → ((c : ℕ) → c < k → f c ≡ g c) → free_below f k ≡ free_below g k
unfolding free_below
free_ext f g zero h = refl
free_ext f g (suc k) h = ap₂ (λ l x. l ++ if_free x k) (free_ext f g k (λ c u. h c (omega arith))) (h k (omega arith))

free-table : (s : Superblock) (table : List ℕ)
    → free_list s table ≡ free_below (takeable (rules_of s).may_take (links_of (length table) (λ c. get_or table c 0))) (length table)
free-table s table = free_ext _ _ (length table) (λ c h. rw (lt-ltb c (length table) h))

module _ (format : Format) (image : List ℕ) (s : Superblock) (opened : open_card format image ≡ ok s) where
  pub free-is : free_clusters (rules_of s) (see s image) ≡ free_list s (table_of image s)
  free-is =
      ap (free_below (takeable (rules_of s).may_take (see s image).link)) (end_is format image s opened ∙ sym (length-table image s))
      ∙ sym (free-table s (table_of image s))

  module _ (root : Root) (p : Path) (here : EntryAt) (site : Site (see s image) (table_of image s) root p here) where
    half : length site.rest ≡ ((entry_of here.page).length - 1) / 2
    half = let z : suc (length site.rest) ≡ length site.chain = ap length (sym site.starts) in omega (arith, site.two, site.long)

    at_last : cluster_at (table_of image s) here.first ((entry_of here.page).length - 1) ≡ get_or (here.first ∷ site.rest) (((entry_of here.page).length - 1) / 2) 0
    at_last = cluster-in (see s image) (table_of image s) (λ c. refl) (Link.next here.first) here.first site.rest (rw site.starts at site.linked) ((entry_of here.page).length - 1) (omega (arith, half))

    pub last-is : cluster_at (table_of image s) here.first ((entry_of here.page).length - 1) ≡ last_in here.first site.rest
    last-is = at_last ∙ ap (λ i. get_or (here.first ∷ site.rest) i 0) (sym half) ∙ last-at here.first site.rest

    pub last-of-chain : cluster_at (table_of image s) here.first ((entry_of here.page).length - 1) ≡ get_or site.chain (length site.chain - 1) 0
    last-of-chain =
        at_last
        ∙ ap₂ (λ l i. get_or l i 0) (sym site.starts) (sym half ∙ (let z : suc (length site.rest) ≡ length site.chain = ap length (sym site.starts) in omega arith))

-- ---- two pages of data
pub two-pages : (a b : List ℕ) → length a ≡ 512 → length b ≡ 512 → data_pages (a ++ b) ≡ some a ∷ some b ∷ []
unfolding data_pages
two-pages a b h k =
    let n : length (a ++ b) ≡ 1024 = length-append a b ∙ omega arith in
    let first : take 512 ((a ++ b) ++ zero_page) ≡ a = ap (take 512) (append_assoc a b zero_page) ∙ take_at a (b ++ zero_page) 512 h in
    let second : take 512 (drop 512 (a ++ b) ++ zero_page) ≡ b = ap (λ l. take 512 (l ++ zero_page)) (drop_at a b 512 h) ∙ take_at b zero_page 512 k in
    ap (λ i. data_pages_to (2 * clusters_for i) (a ++ b)) n ∙ ap₂ (λ (x y : Option (List ℕ)). x ∷ y ∷ []) (ap some first) (ap some second)
