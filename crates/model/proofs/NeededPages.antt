-- Sums over pages, and the entry pages of a card: each is needed once, no file's page is among them, and they are few.
use Prim.Native.Nat.{◌*◌, ◌+◌, ◌/◌, ◌≤◌, ℕ}
use mathlib.Core.List.{List, [], ◌++◌, ◌∷◌, map}
use mathlib.Core.Option.{Option}
use mathlib.Core.Path.{◌≡◌}
use native.Mathlib.Omega.{arith}
use lib.ListN.{length}
use Rattle.model.specs.Entry.{Entry}
use Rattle.model.specs.Holds.{HoldsCard}
use Rattle.model.specs.Lookup.{found, look_up}
use Rattle.model.specs.Names.{Path}
use Rattle.model.specs.Needed.{directory_pages, entry_pages_of, pages_below, total_over}
use Rattle.model.specs.Tree.{Root, Slot, Tree, chain_of, cluster_uses, end, node, reached, root_slot, times}
use Rattle.model.specs.View.{Link, View, pages_of}
use Rattle.model.proofs.Allocation.{times-append}
use Rattle.model.proofs.CountLaws.{card-used}
use Rattle.model.proofs.Frame.{times-pages, times-take}
use Rattle.model.proofs.NewEntries.{few}
use Rattle.model.proofs.TreePlaces.{Context, down, next, place, plug, top}

-- ---- sums over pages

pub total-append : (f : ℕ → ℕ) (ps qs : List ℕ) → total_over f (ps ++ qs) ≡ total_over f ps + total_over f qs
total-append f [] qs = omega arith
total-append f (p ∷ ps) qs = omega (arith, total-append f ps qs)

pub total-map : (f g : ℕ → ℕ) (ps : List ℕ) → total_over f (map g ps) ≡ total_over (λ p. f (g p)) ps
total-map f g [] = omega arith
total-map f g (p ∷ ps) = omega (arith, total-map f g ps)

pub total-most : (f : ℕ → ℕ) (k : ℕ) → ((p : ℕ) → f p ≤ k) → (ps : List ℕ) → total_over f ps ≤ k * length ps
total-most f k h [] = omega arith
total-most f k h (p ∷ ps) = omega (arith, total-most f k h ps, h p)

pub total-zero : (f : ℕ → ℕ) → ((p : ℕ) → f p ≡ 0) → (ps : List ℕ) → total_over f ps ≡ 0
total-zero f z ps = omega (arith, total-most f 0 (λ p. omega (arith, z p)) ps)

-- ---- an entry page is a use of its cluster

own-uses : (h : Slot) (p : ℕ) → times (directory_pages h) p ≤ times (chain_of h) (p / 2)
own-uses Slot.dead p = omega arith
own-uses (Slot.file e cs ds) p = omega arith
own-uses (Slot.directory e cs) p = omega (arith, times-take e.length (pages_of cs) p, times-pages cs p)

-- of a node its own pages, those inside it and those after it
times-node : (h : Slot) (s t : Tree) (p : ℕ) → times (pages_below (node h s t)) p ≡ times (directory_pages h) p + (times (pages_below s) p + times (pages_below t) p)
unfolding pages_below
times-node h s t p = omega (arith, times-append (directory_pages h) (pages_below s ++ pages_below t) p, times-append (pages_below s) (pages_below t) p)

pub below-uses : (t : Tree) (p : ℕ) → times (pages_below t) p ≤ cluster_uses t (p / 2)
below-uses end p = unfold pages_below in omega arith
below-uses (node h s t) p = omega (arith, times-node h s t p, own-uses h p, below-uses s p, below-uses t p)

pub entry-pages-uses : (r : Root) (p : ℕ) → times (entry_pages_of r) p ≤ reached r (p / 2)
entry-pages-uses r p =
    omega (arith, times-append (directory_pages (root_slot r)) (pages_below r.slots) p, own-uses (root_slot r) p, below-uses r.slots p)

-- no cluster is reached twice
pub entry-pages-once : (v : View) (r : Root) → HoldsCard v r → (p : ℕ) → times (entry_pages_of r) p ≤ 1
entry-pages-once v r h p = omega (arith, entry-pages-uses r p, h.once (p / 2))

-- two for each cluster below k, where those from k on are free
pub entry-pages-few : (v : View) (r : Root) → HoldsCard v r → (k : ℕ) → ((c : ℕ) → k ≤ c → v.link c ≡ Link.free) → length (entry_pages_of r) ≤ 2 * k
entry-pages-few v r h k free =
    few (2 * k) (entry_pages_of r) (entry-pages-once v r h) (λ p l. omega (arith, entry-pages-uses r p, card-used v r h (p / 2) (free (p / 2) (omega arith))))

-- ---- a file at a path uses its clusters beside them

module _ (e : Entry) (cs : List ℕ) (ds : List (Option (List ℕ))) (inside : Tree) where
  place-apart : (l : Context) (p : ℕ)
      → times (pages_below (plug l (Slot.file e cs ds) inside)) p + times (pages_of cs) p ≤ cluster_uses (plug l (Slot.file e cs ds) inside) (p / 2)
  place-apart (top b) p = omega (arith, times-node (Slot.file e cs ds) inside b p, times-pages cs p, below-uses inside p, below-uses b p)
  place-apart (next x a l) p = omega (arith, times-node x a (plug l (Slot.file e cs ds) inside) p, own-uses x p, below-uses a p, place-apart l p)
  place-apart (down x b l) p = omega (arith, times-node x (plug l (Slot.file e cs ds) inside) b p, own-uses x p, below-uses b p, place-apart l p)

module _ {e : Entry} {cs : List ℕ} {ds : List (Option (List ℕ))} {inside : Tree} where
  pub file-pages-apart : (r : Root) (q : Path) → look_up r q ≡ found (Slot.file e cs ds) inside → (p : ℕ)
      → times (entry_pages_of r) p + times (pages_of cs) p ≤ reached r (p / 2)
  file-pages-apart r [] stands p = absurd (let z : ◌≡◌ {A = ℕ} 0 1 = cc in omega arith)
  file-pages-apart r (n ∷ q) stands p =
      let there = place r.slots (n ∷ q) (Slot.file e cs ds) inside stands in
      let apart = rw there.1 at (place-apart e cs ds inside there.0 p) in
      omega (arith, times-append (directory_pages (root_slot r)) (pages_below r.slots) p, own-uses (root_slot r) p, apart)

  pub file-pages-once : (v : View) (r : Root) → HoldsCard v r → (q : Path) → look_up r q ≡ found (Slot.file e cs ds) inside → (p : ℕ)
      → times (entry_pages_of r) p + times (pages_of cs) p ≤ 1
  file-pages-once v r h q stands p = omega (arith, file-pages-apart r q stands p, h.once (p / 2))
