-- On a card that passed the check both indirect pages are read, so the names are the card's, and every table page is there.
use Rattle.std.proofs.Common.{◌≡◌, ℕ, ◌+◌, ◌*◌, ◌<◌, true, List, ◌++◌, drop, ap, arith}
use Rattle.page.specs.Page.{page_at, is_some}
use Rattle.layout.specs.declared.Superblock.{Superblock}
use Rattle.layout.specs.Superblock.{up_to}
use Rattle.layout.specs.Table.{table_clusters, table_names, data_of, table_page, table_word, table_of}
use Rattle.layout.proofs.OpenFacts.{OpenFacts, open-facts}
use Rattle.layout.proofs.table.load_table.Goals as goal

module _ (image : List ℕ) (s : Superblock) (g : OpenFacts image s) {first second : List ℕ}
    (one : first ≡ data_of (page_at s.geometry.format image (2 * s.indirect))) (two : second ≡ data_of (page_at s.geometry.format image (2 * s.indirect + 1))) where
  found : (t : ℕ) → t < 2 * table_clusters s.end → is_some (page_at s.geometry.format image (table_page (table_names (first ++ second) (table_clusters s.end)) t)) ≡ true
  found t h = rw (one, two) (ap is_some (g.table-read t h))

  loaded : (before after : List ℕ) → after ≡ up_to (table_word s.geometry.format image (table_names (first ++ second) (table_clusters s.end))) s.end ++ drop s.end before
      → after ≡ table_of image s ++ drop s.end before
  unfolding table_of
  loaded before after e = rw (one, two) at e

pub load_words-requires : goal.load_words-requires
load_words-requires c =
    let s = c.args.s.now in
    let g = open-facts s.geometry.format c.args.image.now s c.requires.0 in
    (omega (arith, g.room, g.most), c.requires.1, found c.args.image.now s g (c.read-indirect.ensures.first (ap is_some g.first_read)) (c.read-indirect.ensures.second (ap is_some g.second-read)))

pub returns : goal.returns
returns c =
    let s = c.args.s.now in
    let g = open-facts s.geometry.format c.args.image.now s c.requires.0 in
    loaded c.args.image.now s g (c.read-indirect.ensures.first (ap is_some g.first_read)) (c.read-indirect.ensures.second (ap is_some g.second-read)) _ _ c.load_words.ensures
