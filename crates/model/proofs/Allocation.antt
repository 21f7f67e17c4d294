-- The lowest free clusters, and the table after a chain is written or freed.
use Prim.Native.Nat.{◌+◌, ◌≤◌, suc, zero, ℕ}
use mathlib.Core.Bool.{Bool, false, true}
use mathlib.Core.List.{List, [], ◌++◌, ◌∷◌}
use mathlib.Core.Logic.{⊎_elim}
use mathlib.Core.Path.{◌∙◌, ◌≡◌, ap₂, refl}
use native.Mathlib.Omega.{arith}
use lib.Dec.{eqb}
use lib.ListN.{length, length-append}
use Rattle.model.specs.Counts.{free_count, held_count, is_free, is_held, orphan_count, reached_count, takeable, total_below}
use Rattle.model.specs.Holds.{Chain, HoldsCard}
use Rattle.model.specs.Plan.{free_below, free_chain, if_free, link_to, write_chain}
use Rattle.model.specs.Tree.{Root, hit, times}
use Rattle.model.specs.View.{Link, View}
use Rattle.model.proofs.CountLaws.{counts, total-add, total_ext}
use Rattle.model.proofs.Equality.{Eq-number, bool}
use Rattle.model.proofs.Frame.{hit-0, hit-self}

pub times-append : (xs ys : List ℕ) (c : ℕ) → times (xs ++ ys) c ≡ times xs c + times ys c
times-append [] ys c = omega arith
times-append (x ∷ xs) ys c = omega (arith, times-append xs ys c)

pub length-free : (f : ℕ → Link) (k : ℕ) → length (free_below f k) ≡ total_below (λ c. is_free (f c)) k
unfolding free_below
length-free f zero = refl
length-free f (suc k) = length-append (free_below f k) _ ∙ ap₂ (λ x y. x + y) (length-free f k) (one (f k))
  where
    one : (l : Link) → length (if_free l k) ≡ is_free l
    one Link.free = refl
    one Link.last = refl
    one (Link.next a) = refl

pub free-low : (f : ℕ → Link) (k c : ℕ) → k ≤ c → times (free_below f k) c ≡ 0
unfolding free_below
free-low f zero c h = refl
free-low f (suc k) c h = times-append (free_below f k) _ c ∙ ap₂ (λ x y. x + y) (free-low f k c (omega arith)) (one (f k))
  where
    one : (l : Link) → times (if_free l k) c ≡ 0
    one Link.free = omega (arith, hit-0 k c (λ e. omega arith))
    one Link.last = refl
    one (Link.next a) = refl

-- each once, and only free ones
pub free-times : (f : ℕ → Link) (k c : ℕ) → times (free_below f k) c ≤ is_free (f c)
unfolding free_below
free-times f zero c = omega arith
free-times f (suc k) c =
    ⊎_elim
    (λ (a : eqb k c ≡ true). let e : k ≡ c = Eq-number.sound k c a in
    rw (times-append (free_below f k) (if_free (f k) k) c, free-low f k c (omega arith), ← e) (one (f k)))
    (λ (a : eqb k c ≡ false). rw (times-append (free_below f k) (if_free (f k) k) c) (omega (arith, free-times f k c, other (f k) a)))
    (bool (eqb k c))
  where
    one : (l : Link) → 0 + times (if_free l k) k ≤ is_free l
    one Link.free = omega (arith, hit-self k)
    one Link.last = omega arith
    one (Link.next a) = omega arith

    other : (l : Link) → eqb k c ≡ false → times (if_free l k) c ≡ 0
    other Link.free a = rw a
    other Link.last a = refl
    other (Link.next b) a = refl

pub pool-le : (may_take : ℕ → Bool) (f : ℕ → Link) (c : ℕ) → is_free (takeable may_take f c) ≤ is_free (f c)
pool-le may_take f c = ⊎_elim (λ (a : may_take c ≡ true). rw a (omega arith)) (λ (a : may_take c ≡ false). rw a (omega arith)) (bool (may_take c))

pub set_out : (cs : List ℕ) (f : ℕ → Link) (x : ℕ) → times cs x ≡ 0 → write_chain cs f x ≡ f x
set_out [] f x h = refl
set_out (c ∷ cs) f x h =
    ⊎_elim (λ a. absurd (let b : hit c x ≡ 1 = rw a in omega arith)) (λ a. rw a (set_out cs f x (omega arith))) (bool (eqb c x))

pub free-out : (cs : List ℕ) (f : ℕ → Link) (x : ℕ) → times cs x ≡ 0 → free_chain cs f x ≡ f x
free-out [] f x h = refl
free-out (c ∷ cs) f x h =
    ⊎_elim (λ a. absurd (let b : hit c x ≡ 1 = rw a in omega arith)) (λ a. rw a (free-out cs f x (omega arith))) (bool (eqb c x))

pub set-in : (cs : List ℕ) (f : ℕ → Link) (x : ℕ) → 1 ≤ times cs x → is_free (write_chain cs f x) ≡ 0
set-in [] f x h = absurd (omega arith)
set-in (c ∷ cs) f x h = ⊎_elim (λ a. rw a (used cs)) (λ a. rw a (set-in cs f x (let b : hit c x ≡ 0 = rw a in omega arith))) (bool (eqb c x))
  where
    used : (cs : List ℕ) → is_free (link_to cs) ≡ 0
    used [] = refl
    used (d ∷ ds) = refl

pub free_in : (cs : List ℕ) (f : ℕ → Link) (x : ℕ) → 1 ≤ times cs x → free_chain cs f x ≡ Link.free
free_in [] f x h = absurd (omega arith)
free_in (c ∷ cs) f x h = ⊎_elim (λ a. rw a) (λ a. rw a (free_in cs f x (let b : hit c x ≡ 0 = rw a in omega arith))) (bool (eqb c x))

pub set-links : (w : View) (cs : List ℕ) (f : ℕ → Link) → ((c : ℕ) → times cs c ≤ 1) → ((c : ℕ) → 1 ≤ times cs c → w.link c ≡ write_chain cs f c) → Chain w (link_to cs) cs
set-links w [] f u h = refl
set-links w (c ∷ cs) f u h = (
  refl,
  let e : w.link c ≡ link_to cs = h c (omega (arith, hit-self c)) ∙ rw (Eq-number.self c) in
      rw e (set-links w cs f (λ d. omega (arith, u d)) (λ d k. h d (omega arith) ∙ skip d k)),
)
  where
    skip : (d : ℕ) → 1 ≤ times cs d → write_chain (c ∷ cs) f d ≡ write_chain cs f d
    skip d k = ⊎_elim (λ a. absurd (let b : hit c d ≡ 1 = rw a in omega (arith, u d))) (λ a. rw a) (bool (eqb c d))

-- Free, reached, orphaned and held back make up the table.
pub four-counts : (may_take : ℕ → Bool) (v : View) (r : Root) → HoldsCard v r → (k : ℕ)
    → free_count may_take k v + reached_count k r + orphan_count k v r + held_count may_take k v ≡ k
four-counts may_take v r h k =
    omega (
      arith,
      counts v r h k,
      total-add (λ c. is_free (takeable may_take v.link c)) (λ c. is_held (may_take c) (v.link c)) k,
      total_ext (λ c. is_free (takeable may_take v.link c) + is_held (may_take c) (v.link c)) (λ c. is_free (v.link c)) k (λ c u. one c),
    )
  where
    one : (c : ℕ) → is_free (takeable may_take v.link c) + is_held (may_take c) (v.link c) ≡ is_free (v.link c)
    one c = ⊎_elim (λ (a : may_take c ≡ true). rw a (omega arith)) (λ (a : may_take c ≡ false). rw a (omega arith)) (bool (may_take c))
