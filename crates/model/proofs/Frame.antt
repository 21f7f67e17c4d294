-- What holds the tree: only its clusters and its entries' pages.
use Prim.Native.Nat.{◌*◌, ◌+◌, ◌/◌, ◌≤◌, pred, suc, zero, ℕ}
use mathlib.Core.Bool.{Bool, cond, false, true}
use mathlib.Core.List.{List, [], ◌∷◌, map}
use mathlib.Core.Path.{◌∙◌, ◌≡◌, ap₂, refl, sym}
use native.Mathlib.Omega.{arith}
use lib.Dec.{eqb}
use lib.ListN.{drop, take}
use Rattle.model.specs.Holds.{Chain, DotEntries, DotEntry, HoldsSlot, HoldsSlots}
use Rattle.model.specs.Names.{Name}
use Rattle.model.specs.Tree.{Slot, Tree, chain_of, cluster_uses, end, entry_pages, hit, node, times}
use Rattle.model.specs.View.{Link, View, pages_of}
use Rattle.model.proofs.Equality.{Eq-number, tf}

-- counting
pub hit-self : (x : ℕ) → hit x x ≡ 1
hit-self x = rw (Eq-number.self x)

pub hit-1 : (x y : ℕ) → 1 ≤ hit x y → x ≡ y
hit-1 x y h = go (eqb x y) refl h
  where
    go : (b : Bool) → eqb x y ≡ b → 1 ≤ cond b 1 0 → x ≡ y
    go true e h = Eq-number.sound x y e
    go false e h = absurd (omega arith)

pub hit-0 : (x y : ℕ) → (x ≡ y → ⊥) → hit x y ≡ 0
hit-0 x y h = go (eqb x y) refl
  where
    go : (b : Bool) → eqb x y ≡ b → ◌≡◌ {A = ℕ} (cond b 1 0) 0
    go true e = absurd (h (Eq-number.sound x y e))
    go false e = refl

pub times-take : (k : ℕ) (xs : List ℕ) (x : ℕ) → times (take k xs) x ≤ times xs x
times-take zero xs x = omega arith
times-take (suc k) [] x = omega arith
times-take (suc k) (y ∷ ys) x = omega (arith, times-take k ys x)

pub times-drop : (k : ℕ) (xs : List ℕ) (x : ℕ) → times (drop k xs) x ≤ times xs x
times-drop zero xs x = omega arith
times-drop (suc k) [] x = omega arith
times-drop (suc k) (y ∷ ys) x = omega (arith, times-drop k ys x)

pub ne : (x y : ℕ) → eqb x y ≡ false → x ≡ y → ⊥
ne x y h e = tf (Eq-number.self x) (rw (← e) at h)

-- a page of a chain counts as its cluster
two : (c p : ℕ) → hit (2 * c) p + hit (2 * c + 1) p ≡ hit c (p / 2)
two c p = go (eqb (2 * c) p) (eqb (2 * c + 1) p) refl refl
  where
    go : (a b : Bool) → eqb (2 * c) p ≡ a → eqb (2 * c + 1) p ≡ b → cond a 1 0 + cond b 1 0 ≡ hit c (p / 2)
    go true true x y = let e = Eq-number.sound (2 * c) p x in let f = Eq-number.sound (2 * c + 1) p y in absurd (omega arith)
    go true false x y = let e = Eq-number.sound (2 * c) p x in let g : c ≡ p / 2 = omega arith in sym (rw (← g) (hit-self c))
    go false true x y = let e = Eq-number.sound (2 * c + 1) p y in let g : c ≡ p / 2 = omega arith in sym (rw (← g) (hit-self c))
    go false false x y = sym (hit-0 c (p / 2) (λ g. let a = ne (2 * c) p x in let b = ne (2 * c + 1) p y in omega arith))

pub times-pages : (cs : List ℕ) (p : ℕ) → times (pages_of cs) p ≡ times cs (p / 2)
times-pages [] p = refl
times-pages (c ∷ cs) p = omega (arith, times-pages cs p, two c p)

pub times-split : (k : ℕ) (xs : List ℕ) (x : ℕ) → times (take k xs) x + times (drop k xs) x ≡ times xs x
times-split zero xs x = omega arith
times-split (suc k) [] x = refl
times-split (suc k) (y ∷ ys) x = omega (arith, times-split k ys x)

cnt-drop-take : (k n : ℕ) (xs : List ℕ) (x : ℕ) → times (drop k (take n xs)) x ≤ times (drop k xs) x
cnt-drop-take zero n xs x = times-take n xs x
cnt-drop-take (suc k) zero xs x = omega arith
cnt-drop-take (suc k) (suc n) [] x = omega arith
cnt-drop-take (suc k) (suc n) (y ∷ ys) x = cnt-drop-take k n ys x

-- the pages that a head itself needs: a file's data, a directory's first two entries
abbrev pub needs : Slot → List ℕ
needs Slot.dead = []
needs (Slot.file e cs ds) = pages_of cs
needs (Slot.directory e cs) = take 2 (pages_of cs)

pub parts-le : (h : Slot) (p : ℕ) → times (needs h) p + times (entry_pages h) p ≤ times (chain_of h) (p / 2)
parts-le Slot.dead p = omega arith
parts-le (Slot.file e cs ds) p = omega (arith, times-pages cs p)
parts-le (Slot.directory e cs) p = omega (arith, times-pages cs p, times-split 2 (pages_of cs) p, cnt-drop-take 2 e.length (pages_of cs) p)

-- The view w agrees with v on a page, and on a cluster.
abbrev pub SameP : View → View → ℕ → Type 0
SameP v w p = (w.entry p ≡ v.entry p) × (w.page p ≡ v.page p)

module _ (v w : View) where
  pub links-frame : (l : Link) (cs : List ℕ) → ((c : ℕ) → 1 ≤ times cs c → w.link c ≡ v.link c) → Chain v l cs → Chain w l cs
  links-frame l [] k h = h
  links-frame l (c ∷ cs) k h = (h.0, rw (k c (omega (arith, hit-self c))) (links-frame (v.link c) cs (λ d x. k d (omega arith)) h.1))

  pages-frame : (ps : List ℕ) → ((p : ℕ) → 1 ≤ times ps p → SameP v w p) → map w.page ps ≡ map v.page ps
  pages-frame [] k = refl
  pages-frame (p ∷ ps) k = ap₂ (λ x y. x ∷ y) (k p (omega (arith, hit-self p))).1 (pages-frame ps (λ q x. k q (omega arith)))

  pub dot-frame : (n : Name) (p : ℕ) → w.entry p ≡ v.entry p → DotEntry v n p → DotEntry w n p
  dot-frame n p e h = (h.0, e ∙ h.1, h.2)

  pub dots-frame : (cs : List ℕ) → ((p : ℕ) → 1 ≤ times (take 2 (pages_of cs)) p → w.entry p ≡ v.entry p) → DotEntries v cs → DotEntries w cs
  dots-frame [] k h = h
  dots-frame (c ∷ cs) k h = (
    dot-frame _ (2 * c) (k (2 * c) (omega (arith, hit-self (2 * c)))) h.0,
    dot-frame _ (2 * c + 1) (k (2 * c + 1) (omega (arith, hit-self (2 * c + 1)))) h.1,
  )

  pub held-frame : (d p : ℕ) (h : Slot) → w.entry p ≡ v.entry p → ((c : ℕ) → 1 ≤ times (chain_of h) c → w.link c ≡ v.link c)
      → ((q : ℕ) → 1 ≤ times (needs h) q → SameP v w q) → HoldsSlot v d p h → HoldsSlot w d p h
  held-frame d p Slot.dead e k m x = (x.0, e ∙ x.1, x.2)
  held-frame d p (Slot.file en cs ds) e k m x = (e ∙ x.0, x.1, x.2, links-frame _ cs k x.3, x.4 ∙ sym (pages-frame (pages_of cs) m))
  held-frame d p (Slot.directory en cs) e k m x = (e ∙ x.0, x.1, x.2, x.3, links-frame _ cs k x.4, dots-frame cs (λ q y. (m q y).0) x.5)

  -- A tree is held where its entries' pages and its clusters agree.
  pub frame : (d : ℕ) (ps : List ℕ) (t : Tree) → ((p : ℕ) → 1 ≤ times ps p + cluster_uses t (p / 2) → SameP v w p) → ((c : ℕ) → 1 ≤ cluster_uses t c → w.link c ≡ v.link c)
      → HoldsSlots v d ps t → HoldsSlots w d ps t
  frame d [] end k m h = h
  frame d (p ∷ ps) end k m h = h
  frame d [] (node x s t) k m h = h
  frame d (p ∷ ps) (node x s t) k m h = (
    held-frame d p x (k p (omega (arith, hit-self p))).0 (λ c y. m c (omega arith)) (λ q y. k q (omega (arith, parts-le x q))) h.0,
    h.1,
    frame (pred d) (entry_pages x) s (λ q y. k q (omega (arith, parts-le x q))) (λ c y. m c (omega arith)) h.2,
    frame d ps t (λ q y. k q (omega arith)) (λ c y. m c (omega arith)) h.3,
  )
