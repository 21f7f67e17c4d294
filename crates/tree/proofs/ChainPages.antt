-- The pages of a directory's slots along its chain are those that the code steps through.
use Rattle.std.proofs.Common.{◌≡◌, ℕ, zero, suc, ◌+◌, ◌-◌, ◌*◌, ◌/◌, ◌%◌, ◌≤◌, Bool, true, false, cond, eqb, ltb, List, [], ◌∷◌, length, get_or, take, drop, sym, refl, ap, ◌∙◌, arith}
use mathlib.Core.Option.{Option, none, some}
use Rattle.model.specs.Check.{Marks, follow_chain, mark, prepend}
use Rattle.model.specs.Entry.{end_mark}
use Rattle.model.specs.Holds.{Chain}
use Rattle.model.specs.View.{Link, View, pages_of, top_bit}
use Rattle.reached.specs.Table.{first_link_of, table_links}
use Rattle.tree.specs.Slots.{next_of, slot_pages}

none-some : {A B : Type 0} (a : A) → ◌≡◌ {A = Option A} none (some a) → B
none-some a e = absurd (let z : ◌≡◌ {A = ℕ} 0 1 = cc in omega arith)

-- a chain that is followed is one, of the length asked for
pub follow-chain : (v : View) (k : ℕ) (l : Link) (m : Marks) (cs : List ℕ) → follow_chain v k l m ≡ some cs → (length cs ≡ k) × Chain v l cs
follow-chain v zero Link.free m cs e = none-some cs e
follow-chain v zero Link.last m cs e = let z : [] ≡ cs = cc in rw (← z) (refl, refl)
follow-chain v zero (Link.next a) m cs e = none-some cs e
follow-chain v (suc k) Link.free m cs e = none-some cs e
follow-chain v (suc k) Link.last m cs e = none-some cs e
follow-chain v (suc k) (Link.next a) m cs e = go (eqb (m a) 0) (follow_chain v k (v.link a) (mark a m)) (follow-chain v k (v.link a) (mark a m)) e
  where
    go : (b : Bool) (o : Option (List ℕ)) → ((ds : List ℕ) → o ≡ some ds → (length ds ≡ k) × Chain v (v.link a) ds) → cond b (prepend a o) none ≡ some cs
        → (length cs ≡ suc k) × Chain v (Link.next a) cs
    go false o f e = none-some cs e
    go true none f e = none-some cs e
    go true (some ds) f e =
        let z : a ∷ ds ≡ cs = cc in
        let i = f ds refl in
        rw (← z) (ap suc i.0, (refl, i.1))

-- where a table's link leads on, the code steps there
pub step-next : (t : List ℕ) (c d : ℕ) → table_links t c ≡ Link.next d → next_of t c ≡ d
step-next t c d e = go (ltb c (length t)) (ltb (get_or t c 0) top_bit) (eqb (get_or t c 0) end_mark) e
  where
    go : (a b x : Bool) → cond a (cond b Link.free (cond x Link.last (Link.next (get_or t c 0 - top_bit)))) Link.free ≡ Link.next d → get_or t c 0 - top_bit ≡ d
    go false b x y = absurd (let z : ◌≡◌ {A = ℕ} 0 1 = cc in omega arith)
    go true true x y = absurd (let z : ◌≡◌ {A = ℕ} 0 1 = cc in omega arith)
    go true false true y = absurd (let z : ◌≡◌ {A = ℕ} 0 1 = cc in omega arith)
    go true false false y = cc

-- two slots from an even one on lie in one cluster
two-slots : (t : List ℕ) (c k n : ℕ) → k % 2 ≡ 0 → slot_pages t c k (suc (suc n)) ≡ (2 * c) ∷ (2 * c + 1) ∷ slot_pages t (next_of t c) (suc (suc k)) n
unfolding slot_pages
two-slots t c k n e =
    let o : suc k % 2 ≡ 1 = omega arith in
    let z : 2 * c + 0 ≡ 2 * c = omega arith in
    rw (e, o, z)

one-slot : (t : List ℕ) (c k : ℕ) → k % 2 ≡ 0 → slot_pages t c k 1 ≡ (2 * c) ∷ []
unfolding slot_pages
one-slot t c k e = let z : 2 * c + 0 ≡ 2 * c = omega arith in rw (e, z)

next-same : (c d : ℕ) → Link.next c ≡ Link.next d → c ≡ d
next-same c d e = cc

module _ (v : View) (t : List ℕ) (links : (c : ℕ) → v.link c ≡ table_links t c) where
  -- from an even slot on, two slots to a cluster
  pub chain-pages : (c : ℕ) (cs : List ℕ) → Chain v (Link.next c) cs → (n k : ℕ) → k % 2 ≡ 0 → n ≤ 2 * length cs → take n (pages_of cs) ≡ slot_pages t c k n
  unfolding slot_pages
  chain-pages c [] h n k e l = absurd (let y : Link.next c ≡ Link.last = h in let z : ◌≡◌ {A = ℕ} 0 1 = cc in omega arith)
  chain-pages c (d ∷ cs) h zero k e l = refl
  chain-pages c (d ∷ cs) h (suc zero) k e l = rw (← next-same c d h.0) (sym (one-slot t c k e))
  chain-pages c (d ∷ []) h (suc (suc n)) k e l =
      let q : n ≡ 0 = omega arith in
      rw (q, ← next-same c d h.0) (sym (two-slots t c k 0 e))
  chain-pages c (d ∷ a ∷ cs) h (suc (suc n)) k e l =
      let s : next_of t c ≡ a = step-next t c a (sym (links c) ∙ ap v.link (next-same c d h.0) ∙ h.1.0) in
      let ih = chain-pages a (a ∷ cs) (refl, h.1.1) n (suc (suc k)) (omega arith) (omega arith) in
      ap (λ x. (2 * d) ∷ (2 * d + 1) ∷ x) ih ∙ rw (← next-same c d h.0, ← s) (sym (two-slots t c k n e))

  drop-two : (k a b : ℕ) (l : List ℕ) → drop 2 (take (suc (suc k)) (a ∷ b ∷ l)) ≡ take k l
  drop-two k a b l = refl

  slots-none : (c k : ℕ) → slot_pages t c k 0 ≡ []
  unfolding slot_pages
  slots-none c k = refl

  -- A directory of `length` entries whose chain begins with `first`: the pages of its slots from 2 on.
  pub directory-pages : (first : ℕ) (cs : List ℕ) → Chain v (first_link_of first) cs → (length' : ℕ) → 2 ≤ length' → length cs ≡ (length' + 1) / 2
      → (ds : List ℕ) × (cs ≡ first ∷ ds) × (drop 2 (take length' (pages_of cs)) ≡ slot_pages t (next_of t first) 0 (length' - 2))
  directory-pages first cs h len two long = go (eqb first end_mark) cs h long
    where
      after : (ds : List ℕ) → Chain v (v.link first) ds → (k : ℕ) → suc (length ds) ≡ (suc (suc k) + 1) / 2 → take k (pages_of ds) ≡ slot_pages t (next_of t first) 0 k
      after [] h k l = let q : k ≡ 0 = omega arith in rw q (sym (slots-none (next_of t first) 0))
      after (a ∷ ds) h k l =
          let s : next_of t first ≡ a = step-next t first a (sym (links first) ∙ h.0) in
          chain-pages a (a ∷ ds) (refl, h.1) k 0 refl (omega arith) ∙ rw s

      rest : (c : ℕ) (ds : List ℕ) → Chain v (v.link first) ds → (len : ℕ) → 2 ≤ len → suc (length ds) ≡ (len + 1) / 2
          → drop 2 (take len ((2 * c) ∷ (2 * c + 1) ∷ pages_of ds)) ≡ slot_pages t (next_of t first) 0 (len - 2)
      rest c ds h zero two l = absurd (omega arith)
      rest c ds h (suc zero) two l = absurd (omega arith)
      rest c ds h (suc (suc k)) two l = let q : suc (suc k) - 2 ≡ k = omega arith in rw q (after ds h k l)

      go : (b : Bool) (cs : List ℕ) → Chain v (cond b Link.last (Link.next first)) cs → length cs ≡ (len + 1) / 2
          → (ds : List ℕ) × (cs ≡ first ∷ ds) × (drop 2 (take len (pages_of cs)) ≡ slot_pages t (next_of t first) 0 (len - 2))
      go b [] h l = absurd (omega arith)
      go true (c ∷ ds) h l = absurd (let y : Link.last ≡ Link.next c = h.0 in let z : ◌≡◌ {A = ℕ} 0 1 = cc in omega arith)
      go false (c ∷ ds) h l =
          let f : first ≡ c = next-same first c h.0 in
          (ds, ap (λ x. x ∷ ds) (sym f), rest c ds (rw f h.1) len two l)
