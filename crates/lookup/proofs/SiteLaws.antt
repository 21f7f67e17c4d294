-- The directory that a change is in, where the way along its path without the last name arrives: which refusal that is, or the
-- directory's entry, chain and slots.
use Rattle.std.specs.Prelude.{Ok, Err}
use Rattle.std.specs.Prelude.{Result as Returned}
use Prim.Native.Nat.{◌+◌, ◌-◌, ◌≤◌, suc, zero, ℕ}
use mathlib.Core.Bool.{false, true}
use mathlib.Core.List.{List, [], ◌∷◌}
use mathlib.Core.Option.{some}
use mathlib.Core.Path.{◌∙◌, ◌≡◌, ap, refl, sym}
use native.Mathlib.Omega.{arith}
use lib.ListN.{length}
use Rattle.fields.specs.PathBytes.{name_at, path_of}
use Rattle.model.proofs.Directories.{snoc-path}
use Rattle.model.proofs.Equality.{tf}
use Rattle.model.proofs.Sites.{site}
use Rattle.model.specs.Check.{Result, fault, ok}
use Rattle.model.specs.Entry.{Entry, directory_clusters, entry_of, is_directory}
use Rattle.model.specs.Holds.{Chain, HoldsCard, HoldsSlots}
use Rattle.model.specs.Lookup.{found, look_in, look_up, page_at_path}
use Rattle.model.specs.Names.{Path, last_name, parent}
use Rattle.model.specs.Pages.{decoded}
use Rattle.model.specs.Refusal.{way}
use Rattle.model.specs.Tree.{Root, Slot, Tree, entry_pages, root_slot}
use Rattle.model.specs.View.{Link, View}
use Rattle.reached.specs.Table.{first_link_of, table_links}
use Rattle.tree.specs.Slots.{next_of, slot_pages}
use Rattle.layout.specs.Refusal.{number_of, page_of}
use Rattle.layout.specs.declared.Refusal.{Refusal}
use Rattle.lookup.specs.Descend.{StandsAt, descended, names_from}
use Rattle.lookup.specs.declared.way.EntryAt.{EntryAt}
use Rattle.lookup.proofs.Arrivals.{Arrives, arrive, arrives-as}
use Rattle.lookup.proofs.DescendLaws.{descended-arrives, names-of-path}
use Rattle.lookup.proofs.EnterLaws.{stands-chain, stands-held}
use Rattle.lookup.proofs.PathWalk.{arrive-found, refused_at, way-to}
use Rattle.lookup.proofs.WayPages.{descended-page, descended-shown}

-- ---- the names before the last one

parent-names : (path : List ℕ) (i k : ℕ) → parent (names_from path i (suc k)) ≡ names_from path i k
parent-names path i zero = refl
parent-names path i (suc k) = ap (λ q. name_at path i ∷ q) (parent-names path (suc i) k)

last_name_lem : (path : List ℕ) (i k : ℕ) → last_name (names_from path i (suc k)) ≡ name_at path (i + k)
last_name_lem path i zero = let z : i + 0 ≡ i = omega arith in rw z
last_name_lem path i (suc k) = let z : suc i + k ≡ i + suc k = omega arith in last_name_lem path (suc i) k ∙ ap (name_at path) z

-- ---- what is known of the directory

-- Its entry is in page `at`, its chain begins with cluster `first`.
pub record Site (v : View) (t : List ℕ) (root : Root) (names : Path) (first at : ℕ) (page : List ℕ) : Type 0 where
  pub chain : List ℕ
  pub rest : List ℕ
  pub slots : Tree
  pub below : ℕ
  pub open-way : way (look_up root) names ≡ 0
  pub found-so : look_up root (parent names) ≡ found (Slot.directory (entry_of page) chain) slots
  pub page-so : page_at_path root (parent names) ≡ at
  pub read : v.page at ≡ some page
  pub two : 2 ≤ (entry_of page).length
  pub long : length chain ≡ directory_clusters (entry_of page)
  pub linked : Chain v (Link.next first) chain
  pub starts : chain ≡ first ∷ rest
  pub pages : entry_pages (Slot.directory (entry_of page) chain) ≡ slot_pages t (next_of t first) 0 ((entry_of page).length - 2)
  pub held : HoldsSlots v below (entry_pages (Slot.directory (entry_of page) chain)) slots
  pub named : look_up root names ≡ look_in slots (last_name names ∷ [])

chain_next : (v : View) (first : ℕ) (cs ds : List ℕ) → cs ≡ first ∷ ds → Chain v (first_link_of first) cs → Chain v (Link.next first) cs
chain_next v first cs ds e x = let y : Chain v (first_link_of first) (first ∷ ds) = rw e at x in rw e (refl, y.1)

module _ (v : View) (t : List ℕ) (links : (c : ℕ) → v.link c ≡ table_links t c) (reads : (p : ℕ) → v.entry p ≡ decoded (v.page p)) (root : Root) (card : HoldsCard v root)
    (path : List ℕ) (names : Path) (k : ℕ) (parsed : path_of path ≡ some names) (count : length names ≡ suc k) (a : Returned EntryAt Refusal) (led : a ≡ descended v t (names_from path 0 k)) where
  own : names_from path 0 (suc k) ≡ names
  own = ap (names_from path 0) (sym count) ∙ names-of-path path names parsed

  before_last : names_from path 0 k ≡ parent names
  before_last = sym (parent-names path 0 k) ∙ ap parent own

  pub site-last : last_name names ≡ name_at path k
  site-last = ap last_name (sym own) ∙ last_name_lem path 0 k ∙ ap (name_at path) (omega arith)

  led-to : a ≡ descended v t (parent names)
  led-to = led ∙ ap (descended v t) before_last

  -- where the names before the last one lead in the tree
  stands : (r : Result (Slot × Tree)) × (arrive (root_slot root) root.slots (parent names) ≡ r) × Arrives v r a × (way (look_up root) names ≡ refused_at r)
  stands =
      (arrive (root_slot root) root.slots (parent names), refl, rw led-to (descended-arrives v t links reads root card (parent names)), way-to root names (omega arith))

  pub site-refused : (f : Refusal) → a ≡ Err f → (way (look_up root) names ≡ number_of f) × (page_of f ≡ 0)
  site-refused f e = let y = stands in let z = go y.0 (arrives-as v y.0 a (Err f) e y.2) in (y.3 ∙ z.0, z.1)
    where
      go : (r : Result (Slot × Tree)) → Arrives v r (Err f) → (refused_at r ≡ number_of f) × (page_of f ≡ 0)
      go (fault n p) u = (u.0, u.2)
      go (ok x) u = absurd u

  module _ (here : EntryAt) (e : a ≡ Ok here) where
    pub site-file : is_directory (entry_of here.page) ≡ false → way (look_up root) names ≡ 10
    site-file f = let y = stands in y.3 ∙ go y.0 (arrives-as v y.0 a (Ok here) e y.2)
      where
        kind : (h : Slot) (s : Tree) → StandsAt v here h s → refused_at (ok (h, s)) ≡ 10
        kind Slot.dead s x = absurd x
        kind (Slot.file d cs ds) s x = refl
        kind (Slot.directory d cs) s x = tf x.1 f

        go : (r : Result (Slot × Tree)) → Arrives v r (Ok here) → refused_at r ≡ 10
        go (fault n p) u = absurd u
        go (ok x) u = kind x.0 x.1 u

    pub site-at : is_directory (entry_of here.page) ≡ true → Site v t root names here.first here.at here.page
    site-at f = let y = stands in go y.0 y.1 (arrives-as v y.0 a (Ok here) e y.2) y.3
      where
        number-so : page_at_path root (parent names) ≡ here.at
        number-so = descended-page v t links reads root card (parent names) here (sym led-to ∙ e)

        shown-so : v.page here.at ≡ some here.page
        shown-so = rw (sym led-to ∙ e) at (descended-shown v t (parent names))

        asked-so : (cs : List ℕ) (s : Tree) → look_up root (parent names) ≡ found (Slot.directory (entry_of here.page) cs) s → look_up root names ≡ look_in s (last_name names ∷ [])
        asked-so cs s g =
            ap (look_up root) (snoc-path names (omega arith)) ∙ (site v root card (parent names) (entry_of here.page) cs s g).here (last_name names ∷ [])

        make : (d : Entry) (cs : List ℕ) (s : Tree) → arrive (root_slot root) root.slots (parent names) ≡ ok (Slot.directory d cs, s) → (x : StandsAt v here (Slot.directory d cs) s)
            → way (look_up root) names ≡ 0 → Site v t root names here.first here.at here.page
        make d cs s r x w =
            let pages-so = stands-chain v t links here.first (entry_of here.page) d cs s x in
            let at-parent : look_up root (parent names) ≡ found (Slot.directory (entry_of here.page) cs) s = arrive-found root (parent names) (Slot.directory d cs) s r ∙ rw x.0 in
            let pages-are = ap (λ (d : Entry). entry_pages (Slot.directory d cs)) (sym x.0) ∙ pages-so.2 in
            record {
              chain = cs;
              rest = pages-so.0;
              slots = s;
              below = x.5.0;
              open-way = w;
              found-so = at-parent;
              page-so = number-so;
              read = shown-so;
              two = x.2;
              long = x.3;
              linked = chain_next v here.first cs pages-so.0 pages-so.1 x.4;
              starts = pages-so.1;
              pages = pages-are;
              held = rw pages-are (stands-held v t links here.first (entry_of here.page) d cs s x);
              named = asked-so cs s at-parent;
            }

        kind : (h : Slot) (s : Tree) → arrive (root_slot root) root.slots (parent names) ≡ ok (h, s) → StandsAt v here h s → way (look_up root) names ≡ refused_at (ok (h, s))
            → Site v t root names here.first here.at here.page
        kind Slot.dead s r x w = absurd x
        kind (Slot.file d cs ds) s r x w = tf f x.1
        kind (Slot.directory d cs) s r x w = make d cs s r x w

        go : (r : Result (Slot × Tree)) → arrive (root_slot root) root.slots (parent names) ≡ r → Arrives v r (Ok here) → way (look_up root) names ≡ refused_at r
            → Site v t root names here.first here.at here.page
        go (fault n p) q u w = absurd u
        go (ok x) q u w = kind x.0 x.1 q u w
