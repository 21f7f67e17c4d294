-- Free, reached and orphaned clusters, each counted by its own definition, make up the table.
use Prim.Native.Nat.{◌+◌, ◌<◌, ◌≤◌, pred, suc, zero, ℕ}
use mathlib.Core.Bool.{cond}
use mathlib.Core.List.{List, [], ◌∷◌}
use mathlib.Core.Path.{◌∙◌, ◌≡◌, ap, refl}
use native.Mathlib.Omega.{arith}
use lib.Dec.{eqb}
use Rattle.model.specs.Counts.{is_free, is_orphan, total_below}
use Rattle.model.specs.Holds.{HoldsCard, HoldsSlot, HoldsSlots, deepest}
use Rattle.model.specs.Tree.{Root, Slot, Tree, chain_of, cluster_uses, end, entry_pages, node, reached, times}
use Rattle.model.specs.View.{Link, View}
use Rattle.model.proofs.Chains.{links-used}

pub total-add : (f g : ℕ → ℕ) (k : ℕ) → total_below f k + total_below g k ≡ total_below (λ c. f c + g c) k
total-add f g zero = refl
total-add f g (suc k) = omega (arith, total-add f g k)

pub total_ext : (f g : ℕ → ℕ) (k : ℕ) → ((c : ℕ) → c < k → f c ≡ g c) → total_below f k ≡ total_below g k
total_ext f g zero h = refl
total_ext f g (suc k) h = omega (arith, total_ext f g k (λ c x. h c (omega arith)), h k (omega arith))

total-one : (k : ℕ) → total_below (λ c. 1) k ≡ k
total-one zero = refl
total-one (suc k) = omega (arith, total-one k)

held-used : (v : View) (d p : ℕ) (h : Slot) (c : ℕ) → v.link c ≡ Link.free → HoldsSlot v d p h → times (chain_of h) c ≡ 0
held-used v d p Slot.dead c f x = refl
held-used v d p (Slot.file e cs ds) c f x = links-used v _ cs c f x.3
held-used v d p (Slot.directory e cs) c f x = links-used v _ cs c f x.4

-- nor has a tree
pub rep-used : (v : View) (d : ℕ) (ps : List ℕ) (t : Tree) (c : ℕ) → v.link c ≡ Link.free → HoldsSlots v d ps t → cluster_uses t c ≡ 0
rep-used v d ps end c f r = refl
rep-used v d [] (node h s t) c f r = absurd r
rep-used v d (p ∷ ps) (node h s t) c f r =
    omega (arith, held-used v d p h c f r.0, rep-used v (pred d) (entry_pages h) s c f r.2, rep-used v d ps t c f r.3)

pub card-used : (v : View) (r : Root) → HoldsCard v r → (c : ℕ) → v.link c ≡ Link.free → reached r c ≡ 0
card-used v r h c f = omega (arith, links-used v _ r.chain c f h.links, rep-used v deepest _ r.slots c f h.rep)

pub free-le : (l : Link) → is_free l ≤ 1
free-le Link.free = omega arith
free-le Link.last = omega arith
free-le (Link.next a) = omega arith

pub used-free : (v : View) (r : Root) → HoldsCard v r → (c : ℕ) → reached r c + is_free (v.link c) ≤ 1
used-free v r h c = go (v.link c) refl
  where
    go : (l : Link) → v.link c ≡ l → reached r c + is_free l ≤ 1
    go Link.free z = omega (arith, card-used v r h c z)
    go Link.last z = omega (arith, h.once c)
    go (Link.next a) z = omega (arith, h.once c)

pub counts : (v : View) (r : Root) → HoldsCard v r → (k : ℕ)
    → total_below (λ c. is_free (v.link c)) k + total_below (reached r) k + total_below (λ c. is_orphan (v.link c) (reached r c)) k ≡ k
counts v r h k =
    ap (λ x. x + total_below orphaned k) (total-add free (reached r) k)
    ∙ total-add (λ c. free c + reached r c) orphaned k
    ∙ total_ext _ (λ c. 1) k (λ c x. each c (v.link c) refl)
    ∙ total-one k
  where
    free : ℕ → ℕ
    free c = is_free (v.link c)

    orphaned : ℕ → ℕ
    orphaned c = is_orphan (v.link c) (reached r c)

    small : (n : ℕ) → n ≤ 1 → n + cond (eqb n 0) 1 0 ≡ 1
    small zero h = refl
    small (suc zero) h = refl
    small (suc (suc n)) h = absurd (omega arith)

    each : (c : ℕ) (l : Link) → v.link c ≡ l → is_free l + reached r c + is_orphan l (reached r c) ≡ 1
    each c Link.free e = omega (arith, card-used v r h c e)
    each c Link.last e = omega (arith, small (reached r c) (h.once c))
    each c (Link.next a) e = omega (arith, small (reached r c) (h.once c))
