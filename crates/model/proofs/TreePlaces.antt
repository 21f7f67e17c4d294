-- One node of the tree replaced, or one slot filled: what it does to the counts, to the lookup, and to the view that holds it.
use Prim.Native.Nat.{◌+◌, ◌/◌, ◌≤◌, pred, ℕ}
use mathlib.Core.Bool.{Bool, cond, false, true}
use mathlib.Core.List.{List, [], ◌∷◌}
use mathlib.Core.Path.{◌≡◌, ap, refl}
use native.Mathlib.Omega.{arith}
use Rattle.model.specs.Holds.{HoldsSlot, HoldsSlots, UniqueNames}
use Rattle.model.specs.Lookup.{found, is_named, look_in}
use Rattle.model.specs.Names.{Name, Path}
use Rattle.model.specs.Tree.{Slot, Tree, chain_of, cluster_uses, end, entry_pages, hit, name_hit, name_uses, node, times}
use Rattle.model.specs.View.{View}
use Rattle.model.proofs.Frame.{SameP, frame, held-frame, hit-self, parts-le}

-- A tree with a place for one node.
pub data Context : Type 0 where
  top : Tree → Context
  next : Slot → Tree → Context → Context
  down : Slot → Tree → Context → Context

abbrev pub plug : Context → Slot → Tree → Tree
plug (top b) h s = node h s b
plug (next x a l) h s = node x a (plug l h s)
plug (down x b l) h s = node x (plug l h s) b

-- the path to the place
abbrev pub On : Context → Slot → Path → Type 0
On (top b) h [] = ⊥
On (top b) h (n ∷ []) = is_named h n ≡ true
On (top b) h (n ∷ m ∷ q) = ⊥
On (next x a l) h [] = ⊥
On (next x a l) h (n ∷ q) = (is_named x n ≡ false) × On l h (n ∷ q)
On (down x b l) h [] = ⊥
On (down x b l) h (n ∷ []) = ⊥
On (down x b l) h (n ∷ m ∷ q) = (is_named x n ≡ true) × On l h (m ∷ q)

-- the page of its entry, and how deep directories may go there
abbrev pub page_at : Context → List ℕ → ℕ
page_at (top b) [] = 0
page_at (top b) (p ∷ ps) = p
page_at (next x a l) [] = 0
page_at (next x a l) (p ∷ ps) = page_at l ps
page_at (down x b l) ps = page_at l (entry_pages x)

abbrev pub deep_at : Context → ℕ → ℕ
deep_at (top b) d = d
deep_at (next x a l) d = deep_at l d
deep_at (down x b l) d = deep_at l (pred d)

abbrev pub Placed : Tree → Path → Slot → Tree → Type 0
Placed t q h s = (l : Context) × (plug l h s ≡ t) × On l h q

pub place : (t : Tree) (q : Path) (h : Slot) (s : Tree) → look_in t q ≡ found h s → Placed t q h s
place end q h s e = absurd (let z : ◌≡◌ {A = ℕ} 0 1 = cc in omega arith)
place (node x a b) [] h s e = absurd (let z : ◌≡◌ {A = ℕ} 0 1 = cc in omega arith)
place (node x a b) (n ∷ []) h s e = go (λ f. place b (n ∷ []) h s f) (is_named x n) refl e
  where
    go : (look_in b (n ∷ []) ≡ found h s → Placed b (n ∷ []) h s) → (k : Bool) → is_named x n ≡ k → cond k (found x a) (look_in b (n ∷ [])) ≡ found h s → Placed (node x a b) (n ∷ []) h s
    go ih true i f = let p : x ≡ h = cc in let r : a ≡ s = cc in (top b, cc, rw (← p) i)
    go ih false i f = let z = ih f in (next x a z.0, ap (node x a) z.1, (i, z.2))
place (node x a b) (n ∷ m ∷ q) h s e = go (λ f. place a (m ∷ q) h s f) (λ f. place b (n ∷ m ∷ q) h s f) (is_named x n) refl e
  where
    go : (look_in a (m ∷ q) ≡ found h s → Placed a (m ∷ q) h s) → (look_in b (n ∷ m ∷ q) ≡ found h s → Placed b (n ∷ m ∷ q) h s) → (k : Bool) → is_named x n ≡ k → cond k (look_in a (m ∷ q)) (look_in b (n ∷ m ∷ q)) ≡ found h s → Placed (node x a b) (n ∷ m ∷ q) h s
    go ih jh true i f = let z = ih f in (down x b z.0, ap (λ y. node x y b) z.1, (i, z.2))
    go ih jh false i f = let z = jh f in (next x a z.0, ap (node x a) z.1, (i, z.2))

module _ (h : Slot) (s : Tree) where
  -- what the node uses is used by the tree
  pub part-links : (l : Context) (c : ℕ) → times (chain_of h) c + cluster_uses s c ≤ cluster_uses (plug l h s) c
  part-links (top b) c = omega arith
  part-links (next x a l) c = omega (arith, part-links l c)
  part-links (down x b l) c = omega (arith, part-links l c)

  pub part : (v : View) (l : Context) (d : ℕ) (ps : List ℕ) → HoldsSlots v d ps (plug l h s) → (p : ℕ)
      → hit (page_at l ps) p + (times (chain_of h) (p / 2) + cluster_uses s (p / 2)) ≤ times ps p + cluster_uses (plug l h s) (p / 2)
  part v (top b) d [] r p = absurd r
  part v (top b) d (y ∷ ps) r p = omega arith
  part v (next x a l) d [] r p = absurd r
  part v (next x a l) d (y ∷ ps) r p = omega (arith, part v l d ps r.3 p)
  part v (down x b l) d [] r p = absurd r
  part v (down x b l) d (y ∷ ps) r p = omega (arith, part v l (pred d) (entry_pages x) r.2 p, parts-le x p)

module _ (h : Slot) (s : Tree) (h' : Slot) (s' : Tree) where
  pub occ-put : (l : Context) (c : ℕ) → cluster_uses (plug l h' s') c + (times (chain_of h) c + cluster_uses s c) ≡ cluster_uses (plug l h s) c + (times (chain_of h') c + cluster_uses s' c)
  occ-put (top b) c = omega arith
  occ-put (next x a l) c = omega (arith, occ-put l c)
  occ-put (down x b l) c = omega (arith, occ-put l c)

  pub named_put : (l : Context) (n : Name) → name_hit h' n ≤ name_hit h n → name_uses (plug l h' s') n ≤ name_uses (plug l h s) n
  named_put (top b) n k = omega arith
  named_put (next x a l) n k = omega (arith, named_put l n k)
  named_put (down x b l) n k = omega arith

  -- The view w holds the tree with the node replaced, if it agrees with v outside the node and holds the new node.
  pub rep-put : (v w : View) (l : Context) (d : ℕ) (ps : List ℕ) → ((n : Name) → name_hit h' n ≤ name_hit h n) → HoldsSlots v d ps (plug l h s)
      → ((p : ℕ) → times ps p + cluster_uses (plug l h s) (p / 2) ≤ 1)
      → ((p : ℕ) → 1 ≤ times ps p + cluster_uses (plug l h s) (p / 2) → hit (page_at l ps) p + (times (chain_of h) (p / 2) + cluster_uses s (p / 2)) ≡ 0 → SameP v w p)
      → ((c : ℕ) → cluster_uses (plug l h s) c ≤ 1) → ((c : ℕ) → 1 ≤ cluster_uses (plug l h s) c → times (chain_of h) c + cluster_uses s c ≡ 0 → w.link c ≡ v.link c)
      → (HoldsSlot v (deep_at l d) (page_at l ps) h × UniqueNames s × HoldsSlots v (pred (deep_at l d)) (entry_pages h) s
      → HoldsSlot w (deep_at l d) (page_at l ps) h' × UniqueNames s' × HoldsSlots w (pred (deep_at l d)) (entry_pages h') s')
      → HoldsSlots w d ps (plug l h' s')
  rep-put v w (top b) d [] nm r sep k one m g = absurd r
  rep-put v w (top b) d (p ∷ ps) nm r sep k one m g =
      let z = g (r.0, r.1, r.2) in
      (z.0, z.1, z.2, frame v w d ps b (λ y u. k y (omega arith) (omega (arith, sep y))) (λ c u. m c (omega arith) (omega (arith, one c))) r.3)
  rep-put v w (next x a l) d [] nm r sep k one m g = absurd r
  rep-put v w (next x a l) d (p ∷ ps) nm r sep k one m g =
      let pt = part h s v l d ps r.3 in
      let pl = part-links h s l in (
        held-frame v w d p x (k p (omega (arith, hit-self p)) (omega (arith, sep p, pt p, hit-self p))).0
            (λ c u. m c (omega arith) (omega (arith, one c, pl c))) (λ y u. k y (omega (arith, parts-le x y)) (omega (arith, sep y, pt y, parts-le x y))) r.0,
        r.1,
        frame v w (pred d) (entry_pages x) a (λ y u. k y (omega (arith, parts-le x y)) (omega (arith, sep y, pt y, parts-le x y))) (λ c u. m c (omega arith) (omega (arith, one c, pl c))) r.2,
        rep-put v w l d ps nm r.3 (λ y. omega (arith, sep y)) (λ y u z. k y (omega arith) z) (λ c. omega (arith, one c)) (λ c u z. m c (omega arith) z) g,
      )
  rep-put v w (down x b l) d [] nm r sep k one m g = absurd r
  rep-put v w (down x b l) d (p ∷ ps) nm r sep k one m g =
      let pt = part h s v l (pred d) (entry_pages x) r.2 in
      let pl = part-links h s l in (
        held-frame v w d p x (k p (omega (arith, hit-self p)) (omega (arith, sep p, pt p, hit-self p, parts-le x p))).0
            (λ c u. m c (omega arith) (omega (arith, one c, pl c))) (λ y u. k y (omega (arith, parts-le x y)) (omega (arith, sep y, pt y, parts-le x y))) r.0,
        (λ n. omega (arith, named_put l n (nm n), r.1 n)),
        rep-put v w l (pred d) (entry_pages x) nm r.2 (λ y. omega (arith, sep y, parts-le x y)) (λ y u z. k y (omega (arith, parts-le x y)) z) (λ c. omega (arith, one c)) (λ c u z. m c (omega arith) z) g,
        frame v w d ps b (λ y u. k y (omega arith) (omega (arith, sep y, pt y, parts-le x y))) (λ c u. m c (omega arith) (omega (arith, one c, pl c))) r.3,
      )
