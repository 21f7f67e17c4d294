-- The table's words and the links that they are.
use Prim.Native.Nat.{◌%◌, ◌+◌, ◌-◌, ◌<◌, ◌≤◌, ℕ}
use mathlib.Core.Bool.{false, not, true}
use mathlib.Core.List.{List, [], ◌∷◌}
use mathlib.Core.Logic.{◌⊎◌, inl, inr, ⊎_elim}
use mathlib.Core.Path.{◌≡◌, ap, refl}
use native.Mathlib.Omega.{arith}
use lib.Dec.{eqb, ltb, ltb→lt, lt→ltb, nltb→le}
use Rattle.model.specs.Plan.{free_chain, link_to, write_chain}
use Rattle.model.specs.Tree.{times}
use Rattle.model.specs.View.{Link, link_of, top_bit}
use Rattle.model.specs.Writes.{chain_words, cleared_words, links_of, word_to}
use Rattle.model.proofs.Equality.{Eq-number, bool, of_T, tf, to-T}
use Rattle.model.proofs.Frame.{hit-self}

link-next : (c : ℕ) → c < 0x7FFFFFFF → link_of (top_bit + c) ≡ Link.next c
link-next c h =
    let a : ltb (top_bit + c) top_bit ≡ false = ⊎_elim (λ (z : ltb (top_bit + c) top_bit ≡ true). absurd (let l = ltb→lt (top_bit + c) top_bit (to-T z) in omega arith)) (λ z. z) (bool (ltb (top_bit + c) top_bit)) in
    let b : eqb (top_bit + c) 0xFFFFFFFF ≡ false = ⊎_elim (λ (z : eqb (top_bit + c) 0xFFFFFFFF ≡ true). absurd (let l = Eq-number.sound (top_bit + c) 0xFFFFFFFF z in omega arith)) (λ z. z) (bool (eqb (top_bit + c) 0xFFFFFFFF)) in
    let d : top_bit + c - top_bit ≡ c = omega arith in
    rw (a, b, d)

module _ (alloc_end : ℕ) (small : alloc_end < 0x7FFFFFFF) where
  low : (c : ℕ) (cs : List ℕ) → ((x : ℕ) → alloc_end ≤ x → times (c ∷ cs) x ≡ 0) → c < alloc_end
  low c cs h = ⊎_elim (λ (z : ltb c alloc_end ≡ true). ltb→lt c alloc_end (to-T z)) (λ (z : ltb c alloc_end ≡ false). absurd (no z)) (bool (ltb c alloc_end))
    where
      no : ltb c alloc_end ≡ false → ⊥
      no z = tf (of_T (lt→ltb c alloc_end (⊎_elim (λ (y : c < alloc_end). y) (λ (y : alloc_end ≤ c). absurd (omega (arith, h c y, hit-self c))) (either c)))) z
        where
          either : (c : ℕ) → (c < alloc_end) ⊎ (alloc_end ≤ c)
          either c = ⊎_elim (λ (y : ltb c alloc_end ≡ true). inl (ltb→lt c alloc_end (to-T y))) (λ (y : ltb c alloc_end ≡ false). inr (nltb→le c alloc_end (to-T (ap (λ b. not b) y)))) (bool (ltb c alloc_end))

  -- A chain written as words is the chain written as links.
  pub set_words : (cs : List ℕ) (f : ℕ → ℕ) → ((x : ℕ) → alloc_end ≤ x → times cs x ≡ 0) → (x : ℕ) → links_of alloc_end (chain_words cs f) x ≡ write_chain cs (links_of alloc_end f) x
  set_words [] f h x = refl
  set_words (c ∷ cs) f h x =
      ⊎_elim
      (λ (a : eqb c x ≡ true). let e = Eq-number.sound c x a in let l : ltb x alloc_end ≡ true = rw (← e) (of_T (lt→ltb c alloc_end (low c cs h))) in rw (a, l) (next cs (λ y k. omega (arith, h y k))))
      (λ (a : eqb c x ≡ false). rw a (set_words cs f (λ y k. omega (arith, h y k)) x))
      (bool (eqb c x))
    where
      next : (cs : List ℕ) → ((x : ℕ) → alloc_end ≤ x → times cs x ≡ 0) → link_of (word_to cs) ≡ link_to cs
      next [] h = refl
      next (d ∷ ds) h = link-next d (omega (arith, low d ds h))

  pub clear-words : (cs : List ℕ) (f : ℕ → ℕ) → (x : ℕ) → links_of alloc_end (cleared_words cs f) x ≡ free_chain cs (links_of alloc_end f) x
  clear-words [] f x = refl
  clear-words (c ∷ cs) f x =
      ⊎_elim
      (λ (a : eqb c x ≡ true). let l : ltb (f x % top_bit) top_bit ≡ true = of_T (lt→ltb (f x % top_bit) top_bit (omega arith)) in
      ⊎_elim (λ (b : ltb x alloc_end ≡ true). rw (a, b, l)) (λ (b : ltb x alloc_end ≡ false). rw (a, b)) (bool (ltb x alloc_end)))
      (λ (a : eqb c x ≡ false). rw a (clear-words cs f x))
      (bool (eqb c x))
