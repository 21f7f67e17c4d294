-- How long a listing is: no cluster is used twice, so a card has at most two slots for each of its clusters, and no line is longer than 290 bytes.
-- So its length is told exactly, and a short image needs little room.
use Prim.Native.Nat.{ℕ, pred, suc, zero, ◌*◌, ◌+◌, ◌/◌, ◌%◌, ◌<◌, ◌≤◌}
use mathlib.Core.Bool.{Bool, ◌&&◌, cond, false, not, true}
use mathlib.Core.List.{List, [], ◌++◌, ◌∷◌}
use mathlib.Core.Option.{Option, none, some}
use mathlib.Core.Path.{◌∙◌, ◌≡◌, ap, refl, sym}
use native.Mathlib.Omega.{arith}
use borrow.Author.Tests.{le-ltb, lt-ltb}
use lib.Dec.{eqb, ltb}
use lib.IntN.{ℤ}
use lib.ListN.{length, length-append, length-drop, length-take, take}
use Rattle.page.proofs.Formats.{clusters-least}
use Rattle.page.specs.declared.Format.{Format}
use Rattle.layout.proofs.OpenFacts.{open-facts}
use Rattle.layout.proofs.TableLaws.{length-table}
use Rattle.layout.specs.See.{check_image, see}
use Rattle.layout.specs.Table.{open_card, table_of}
use Rattle.layout.specs.declared.Superblock.{Superblock}
use Rattle.lookup.proofs.CardLaws.{accepted}
use Rattle.model.proofs.CheckHolds.{ok-inj}
use Rattle.model.proofs.CountLaws.{card-used, counts, total-add}
use Rattle.model.proofs.Equality.{and_l, and_r}
use Rattle.model.proofs.PlanFits.{length-pages}
use Rattle.model.proofs.SlotOfName.{total-times}
use Rattle.model.specs.declared.Moment.{Moment}
use Rattle.model.specs.Calendar.{is_shift, shown}
use Rattle.model.specs.Check.{Marks, Result, fault, ok}
use Rattle.model.specs.Counts.{total_below}
use Rattle.model.specs.Entry.{Entry, has_bit, is_directory, is_file, is_live, is_subdirectory}
use Rattle.model.specs.Holds.{HoldsCard, HoldsSlots, deepest, most_names}
use Rattle.fields.proofs.NameLaws.{good-short}
use Rattle.model.specs.Tree.{Root, Slot, Tree, chain_of, cluster_uses, end, entry_pages, node, reached, root_slot, times}
use Rattle.model.specs.View.{Link, View, most_clusters, pages_of}
use Rattle.reached.proofs.Totalling.{total-zero}
use Rattle.tree.proofs.CheckLaws.{end_fits}
use Rattle.tree.specs.Counted.{counts_in, superblock_in}
use Rattle.tree.specs.declared.Counts.{Counts}
use Rattle.listing.specs.Sizes.{most}
use Rattle.listing.specs.Room.{Fits}
use Rattle.listing.specs.Text.{card_word, count_line, counts_text, date_text, decimal_of, digits_of, entry_line, free_word, held_word, listing_of, mended_word, orphaned_word, page_text, reached_word, refusal_text, stamp_text, text_of, time_text, tree_text, within}

-- ---- lines

digit-more : (k n m : ℕ) → length (digits_of k (n / 10)) ≤ m → length (digits_of (suc k) n) ≤ suc m
unfolding digits_of
digit-more k n m h = go (ltb n 10)
  where
    go : (b : Bool) → length (cond b ((0x30 + n) ∷ []) (digits_of k (n / 10) ++ ((0x30 + n % 10) ∷ []))) ≤ suc m
    go true = omega arith
    go false = rw (length-append (digits_of k (n / 10)) ((0x30 + n % 10) ∷ [])) (omega arith)

digits-short : (k n : ℕ) → length (digits_of k n) ≤ k
unfolding digits_of
digits-short zero n = omega arith
digits-short (suc k) n = digit-more k n k (digits-short k (n / 10))

-- 1 with d zeros
tens : ℕ → ℕ
tens zero = 1
tens (suc d) = 10 * tens d

digits-few : (k d n : ℕ) → n < tens (suc d) → length (digits_of k n) ≤ suc d
unfolding digits_of tens
digits-few zero d n h = omega arith
digits-few (suc k) zero n h = rw (lt-ltb n 10 h) (omega arith)
digits-few (suc k) (suc d) n h = digit-more k n (suc d) (digits-few k d (n / 10) (omega arith))

-- a stamp has 19 bytes, `unknown` fewer
stamp-short : (o : Option Moment) → length (stamp_text o) ≤ 19
unfolding date_text time_text
stamp-short none = omega arith
stamp-short (some m) = omega arith

-- beside its path a line has at most ten digits, a letter, a stamp, three spaces and a newline
entry-short : (letter n : ℕ) (path : List ℕ) (o : Option Moment) → n < 10000000000 → length (entry_line letter n path (stamp_text o)) ≤ 34 + length path
unfolding entry_line tens
entry-short letter n path o h = simp length-append (omega (arith, digits-few 20 9 n h, stamp-short o))

count-short : (word : List ℕ) (n : ℕ) → length (count_line word n) ≤ length word + 21
unfolding count_line
count-short word n = simp length-append (omega (arith, digits-short 20 n))

page-short : (number page : ℕ) → length (page_text number page) ≤ 21
page-short number page = go (eqb number 2)
  where
    go : (b : Bool) → length (cond b ((0x20 ∷ []) ++ decimal_of page) []) ≤ 21
    go true = omega (arith, digits-short 20 page)
    go false = omega arith

refusal-short : (number page : ℕ) → length (refusal_text number page) ≤ 50
unfolding refusal_text
refusal-short number page = simp length-append (omega (arith, digits-short 20 number, page-short number page))

counts-short : (c : Counts) → length (counts_text c) ≤ 165
unfolding counts_text
counts-short c =
    simp length-append (omega (arith, count-short card_word c.clusters, count-short free_word c.free, count-short reached_word c.reached, count-short orphaned_word c.orphaned, count-short held_word c.held, count-short mended_word c.mended))

-- ---- the tree

-- how many slots, and how many clusters of chains, a tree has in all its directories
slot_total : Tree → ℕ
slot_total end = 0
slot_total (node h s t) = 1 + slot_total s + slot_total t

chain_total : Tree → ℕ
chain_total end = 0
chain_total (node h s t) = length (chain_of h) + chain_total s + chain_total t

file-short : (e : Entry) → is_file e ≡ true → length e.name ≤ 31
file-short e h = good-short e.name (and_r (is_live e && has_bit e.mode 0x10 && not (has_bit e.mode 0x20)) _ (and_l _ _ h))

directory-short : (e : Entry) → is_subdirectory e ≡ true → length e.name ≤ 31
directory-short e h = good-short e.name (and_r (is_directory e) _ (and_l _ _ h))

-- a name takes at most 32 bytes of a path, 31 and `/`
abbrev name_most : ℕ
name_most = 32

abbrev path_most : ℕ
path_most = name_most * most_names

abbrev line_room : ℕ
line_room = 34 + path_most

-- a length is at most what the clusters of its chain hold, so ten digits are enough
tree-short : (minutes : ℤ) (v : View) (below : ℕ) (ps path : List ℕ) (t : Tree) → HoldsSlots v below ps t → length path + name_most * suc below ≤ path_most
    → chain_total t ≤ most_clusters → length (tree_text minutes path t) ≤ line_room * slot_total t
unfolding tree_text slot_total chain_total
tree-short minutes v below ps path end x h n = omega arith
tree-short minutes v below [] path (node g s t) x h n = absurd x
tree-short minutes v below (p ∷ ps) path (node Slot.dead s t) x h n = omega (arith, tree-short minutes v below ps path t x.3 h (omega arith))
tree-short minutes v below (p ∷ ps) path (node (Slot.file e cs ds) s t) x h n =
    let line = entry-short 0x66 e.length (within path e.name) (shown minutes e.modified) (omega (arith, x.0.2)) in
    simp length-append (omega (arith, tree-short minutes v below ps path t x.3 h (omega arith), line, length-append path (0x2F ∷ e.name), file-short e x.0.1))
tree-short minutes v below (p ∷ ps) path (node (Slot.directory e cs) s t) x h n =
    let own : length (within path e.name) ≤ length path + name_most = rw (length-append path (0x2F ∷ e.name)) (omega (arith, directory-short e x.0.1)) in
    let down : 1 ≤ below = x.0.2 in
    let inside = tree-short minutes v (pred below) (entry_pages (Slot.directory e cs)) (within path e.name) s x.2 (omega arith) (omega arith) in
    let line = entry-short 0x64 e.length (within path e.name) (shown minutes e.modified) (omega (arith, x.0.3)) in
    simp length-append (omega (arith, tree-short minutes v below ps path t x.3 h (omega arith), line, inside))

-- a directory has at most two slots for each cluster of its chain
own-slots : (h : Slot) → length (entry_pages h) ≤ 2 * length (chain_of h)
own-slots Slot.dead = omega arith
own-slots (Slot.file e cs ds) = omega arith
own-slots (Slot.directory e cs) =
    omega (arith, length-drop 2 (take e.length (pages_of cs)), length-take e.length (pages_of cs), length-pages cs)

slots-few : (v : View) (below : ℕ) (ps : List ℕ) (t : Tree) → HoldsSlots v below ps t → slot_total t ≤ length ps + 2 * chain_total t
unfolding slot_total chain_total
slots-few v below [] end x = omega arith
slots-few v below (p ∷ ps) end x = absurd x
slots-few v below [] (node h s t) x = absurd x
slots-few v below (p ∷ ps) (node h s t) x =
    omega (arith, slots-few v (pred below) (entry_pages h) s x.2, slots-few v below ps t x.3, own-slots h)

-- clusters of chains are uses of clusters
chain-uses : (t : Tree) (n : ℕ) → ((c : ℕ) → n ≤ c → cluster_uses t c ≡ 0) → total_below (cluster_uses t) n ≡ chain_total t
unfolding chain_total
chain-uses end n z = total-zero (λ c. 0) n (λ c l. refl)
chain-uses (node h s t) n z =
    let own = total-times (chain_of h) n (λ c l. omega (arith, z c l)) in
    let inside = chain-uses s n (λ c l. omega (arith, z c l)) in
    let later = chain-uses t n (λ c l. omega (arith, z c l)) in
    omega (arith, own, inside, later, total-add (cluster_uses s) (cluster_uses t) n, total-add (times (chain_of h)) (λ c. cluster_uses s c + cluster_uses t c) n)

-- a card whose clusters from n on are free
card-short : (minutes : ℤ) (v : View) (r : Root) (n : ℕ) → HoldsCard v r → ((c : ℕ) → n ≤ c → v.link c ≡ Link.free) → n ≤ most_clusters
    → length (tree_text minutes [] r.slots) ≤ 2 * line_room * n
card-short minutes v r n x high fits =
    let none : (c : ℕ) → n ≤ c → reached r c ≡ 0 = λ c l. card-used v r x c (high c l) in
    let own = total-times r.chain n (λ c l. omega (arith, none c l)) in
    let inside = chain-uses r.slots n (λ c l. omega (arith, none c l)) in
    let few = slots-few v deepest (entry_pages (root_slot r)) r.slots x.rep in
    let uses : length r.chain + chain_total r.slots ≤ n =
    omega (arith, own, inside, counts v r x n, total-add (times r.chain) (cluster_uses r.slots) n) in
    let text = tree-short minutes v deepest (entry_pages (root_slot r)) [] r.slots x.rep (omega arith) (omega arith) in
    omega (arith, few, text, uses, own-slots (root_slot r))

-- ---- the listing

-- six lines of counts, and two entries for each allocatable cluster
listing-lines : (format : Format) (image : List ℕ) (minutes : ℤ) (n : ℕ) → ((s : Superblock) → ok s ≡ open_card format image → s.end ≤ n)
    → length (listing_of format image minutes) ≤ line_room * (6 + 2 * n)
unfolding listing_of
listing-lines format image minutes n few = by (is_shift minutes)
  where
    go : (c : Result (Superblock × Root × Marks)) → check_image format image ≡ c → length (text_of minutes image c) ≤ line_room * (6 + 2 * n)
    go (fault m p) e = omega (arith, refusal-short m p)
    go (ok x) e =
        let y = accepted format image x.0 (sym (ap superblock_in e)) in
        let same : x.1 ≡ y.root = ap (λ (z : Superblock × Root × Marks). z.1) (ok-inj x (x.0, y.root, y.marks) (sym e ∙ y.checked)) in
        let high : (c : ℕ) → x.0.end ≤ c → (see x.0 image).link c ≡ Link.free =
        λ c l. rw (le-ltb c (length (table_of image x.0)) (omega (arith, length-table image x.0))) in
        let tree = card-short minutes (see x.0 image) x.1 x.0.end (rw same y.holds) high (end_fits format image x.0 y.opened) in
        let all = counts_in image x.0 x.1 in
        omega (arith, length-append (counts_text all) (tree_text minutes [] x.1.slots), counts-short all, tree, few x.0 y.opened)

    by : (b : Bool) → length (cond b (text_of minutes image (check_image format image)) (refusal_text 17 0)) ≤ line_room * (6 + 2 * n)
    by true = go (check_image format image) refl
    by false = omega (arith, refusal-short 17 0)

pub listing-short : (format : Format) (image : List ℕ) (minutes : ℤ) → length (listing_of format image minutes) ≤ most
listing-short format image minutes = omega (arith, listing-lines format image minutes most_clusters (end_fits format image))

-- An image too short for n + 2 clusters has at most n allocatable ones: cluster 0 is none of them.
pub listing-fits : (n bytes : ℕ) → bytes < 1024 * (n + 2) → Fits bytes (line_room * (6 + 2 * n))
listing-fits n bytes h format image minutes short = listing-lines format image minutes n few
  where
    few : (s : Superblock) → ok s ≡ open_card format image → s.end ≤ n
    few s e =
        let g = open-facts format image s (sym e) in
        let least : 1024 * s.clusters ≤ length image = rw g.long (clusters-least s.geometry.format s.clusters) in
        omega (arith, g.room, g.indirect-below)
