-- A chain as far as it stays in the current word: what one turn leaves to do, how far it comes, and that what is left of the
-- chain then gives the whole answer.
use Prim.Native.Nat.{◌-◌, ◌/◌, ◌<◌, ◌≤◌, suc, zero, ℕ}
use mathlib.Core.Bool.{Bool, ◌&&◌, cond, false, not, true}
use mathlib.Core.List.{List}
use mathlib.Core.Logic.{◌≢◌, ◌⊎◌, ⊎_elim}
use mathlib.Core.Path.{◌∙◌, ◌≡◌, ap, refl, sym}
use native.Mathlib.Decide.{ℕ_discrete}
use native.Mathlib.Numerals.{sub-one}
use native.Mathlib.Omega.{arith}
use borrow.Author.Tests.{eq-eqb, eqb-true, lt-ltb, ltb-true, ne_eqb}
use Rattle.model.proofs.Equality.{and_l, and_r}
use lib.Dec.{eqb, eqb-suc-zero, ltb}
use lib.ListN.{get_or, length}
use Rattle.model.specs.Entry.{end_mark}
use Rattle.model.specs.View.{most_clusters, top_bit}
use Rattle.reached.specs.Chain.{broken, chain_behind, chain_from, near_behind, near_from, step_at}
use Rattle.reached.specs.Marks.{current_mark, mark_words, turned, with_bit, with_mark}
use Rattle.reached.specs.declared.Chain.{Chain}
use Rattle.reached.specs.declared.Near.{Near}
use Rattle.reached.specs.declared.Reached.{Reached}
use Rattle.reached.specs.declared.Step.{Step}
use Rattle.reached.proofs.ChainSteps.{chain-none, chain-some, chain-turned}
use Rattle.reached.proofs.MarkLaws.{turned-at, turned-near}

-- what is left to do gives the whole answer
abbrev pub rest_of : List ℕ → Near → Chain
rest_of t n = cond (eqb n.left 0) (record { sound = n.sound; reached = n.reached }) (chain_from t n.reached n.next n.left)

-- the record behind a cluster that is marked, or not
abbrev pub marked_by : Bool → Reached → ℕ → Reached
marked_by b r c = cond b (with_mark r c) r

pub near-over : (t : List ℕ) (r : Reached) (sound : Bool) (c k : ℕ) → (0 < k → c / 64 ≢ r.at) → near_from t r sound c k ≡ record { reached = r; sound = sound; next = c; left = k }
unfolding near_from
near-over t r sound c zero far = refl
near-over t r sound c (suc k) far = rw (ne_eqb (c / 64) r.at (far (omega arith)))

-- the four tests of a cluster, by their answers
abbrev by_tests : {A : Type 0} → Bool → Bool → Bool → Bool → A → A → A → A
by_tests inside free seen last breaks ends goes_on = cond inside (cond free breaks (cond seen breaks (cond last ends goes_on))) breaks

module _ (t : List ℕ) (r : Reached) (c k : ℕ) where
  broke : Step
  broke = record { marks = false; sound = false; next = c; left = 0 }

  ended : Step
  ended = record { marks = true; sound = eqb (suc k - 1) 0; next = c; left = 0 }

  went : Step
  went = record { marks = true; sound = false; next = get_or t c 0 - top_bit; left = suc k - 1 }

  after : Step → Near
  after s = near_from t (marked_by s.marks r c) s.sound s.next s.left

  step_by : (inside free seen last : Bool)
      → by_tests inside free seen last (record { reached = r; sound = false; next = c; left = 0 })
      (record { reached = with_mark r c; sound = eqb k 0; next = c; left = 0 })
      (near_from t (with_mark r c) false (get_or t c 0 - top_bit) k)
      ≡ after (by_tests inside free seen last broke ended went)
  unfolding near_from broke ended went after
  step_by false free seen last = refl
  step_by true true seen last = refl
  step_by true false true last = refl
  step_by true false false true = rw (sub-one (suc k))
  step_by true false false false = rw (sub-one (suc k))

pub near_step : (t : List ℕ) (r : Reached) (sound : Bool) (c k : ℕ) → 0 < k → c / 64 ≡ r.at
    → near_from t r sound c k
    ≡ near_from t (marked_by (step_at t r.current c k).marks r c) (step_at t r.current c k).sound (step_at t r.current c k).next (step_at t r.current c k).left
unfolding near_from broke ended went after
near_step t r sound c zero more near = absurd (omega arith)
near_step t r sound c (suc k) more near =
    rw (eq-eqb (c / 64) r.at near)
    (step_by t r c k (ltb c (length t)) (ltb (get_or t c 0) top_bit) (current_mark r.current c) (eqb (get_or t c 0) end_mark))

-- the same, by the loop's own test
pub near-on : (t : List ℕ) (r : Reached) (sound : Bool) (c k : ℕ) → (ltb 0 k && eqb (c / 64) r.at) ≡ true
    → near_from t r sound c k
    ≡ near_from t (marked_by (step_at t r.current c k).marks r c) (step_at t r.current c k).sound (step_at t r.current c k).next (step_at t r.current c k).left
near-on t r sound c k test = near_step t r sound c k (ltb-true 0 k (and_l _ _ test)) (eqb-true _ _ (and_r (ltb 0 k) _ test))

-- ---- how far it comes

-- One turn more, by the answers of its tests, for what holds of each of its outcomes.
module _ (t : List ℕ) (r : Reached) (sound : Bool) (c k : ℕ) (P : Near → Type 0) where
  module _ (far : P (record { reached = r; sound = sound; next = c; left = suc k })) (near : P (record { reached = r; sound = false; next = c; left = 0 }))
      (last : P (record { reached = with_mark r c; sound = eqb k 0; next = c; left = 0 })) (on : P (near_from t (with_mark r c) false (get_or t c 0 - top_bit) k)) where
    outcome : (current inside free seen end : Bool)
        → P
        (cond current
        (by_tests inside free seen end (record { reached = r; sound = false; next = c; left = 0 })
        (record { reached = with_mark r c; sound = eqb k 0; next = c; left = 0 })
        (near_from t (with_mark r c) false (get_or t c 0 - top_bit) k))
        (record { reached = r; sound = sound; next = c; left = suc k }))
    outcome false inside free seen end = far
    outcome true false free seen end = near
    outcome true true true seen end = near
    outcome true true false true end = near
    outcome true true false false true = last
    outcome true true false false false = on

    by-outcome : P (near_from t r sound c (suc k))
    unfolding near_from
    by-outcome = outcome (eqb (c / 64) r.at) (ltb c (length t)) (ltb (get_or t c 0) top_bit) (current_mark r.current c) (eqb (get_or t c 0) end_mark)

near-most : (t : List ℕ) (r : Reached) (sound : Bool) (c k : ℕ) → (near_from t r sound c k).left ≤ k
unfolding near_from
near-most t r sound c zero = omega arith
near-most t r sound c (suc k) =
    let on = near-most t (with_mark r c) false (get_or t c 0 - top_bit) k in
    by-outcome t r sound c k (λ n. n.left ≤ suc k) (omega arith) (omega arith) (omega arith) (omega arith)

-- where clusters are left the chain is not told sound
near-untold : (t : List ℕ) (r : Reached) (c k : ℕ) → (0 < (near_from t r false c k).left → (near_from t r false c k).sound ≡ false)
unfolding near_from
near-untold t r c zero = λ h. refl
near-untold t r c (suc k) =
    by-outcome t r false c k (λ n. 0 < n.left → n.sound ≡ false) (λ h. refl) (λ h. refl) (λ h. absurd (omega arith)) (near-untold t (with_mark r c) (get_or t c 0 - top_bit) k)

pub step_less : (t : List ℕ) (current c k : ℕ) → 0 < k → (step_at t current c k).left < k
step_less t current c k more = go (ltb c (length t)) (ltb (get_or t c 0) top_bit) (current_mark current c) (eqb (get_or t c 0) end_mark)
  where
    go : (inside free seen last : Bool)
        → (by_tests {A = Step} inside free seen last (record { marks = false; sound = false; next = c; left = 0 })
        (record { marks = true; sound = eqb (k - 1) 0; next = c; left = 0 })
        (record { marks = true; sound = false; next = get_or t c 0 - top_bit; left = k - 1 })
        ).left
        < k
    go false free seen last = omega arith
    go true true seen last = omega arith
    go true false true last = omega arith
    go true false false true = omega arith
    go true false false false = omega arith

-- in the current word it comes on
pub near-less : (t : List ℕ) (r : Reached) (sound : Bool) (c k : ℕ) → 0 < k → c / 64 ≡ r.at → (near_from t r sound c k).left < k
near-less t r sound c k more near =
    let s = step_at t r.current c k in
    omega (arith, ap (λ (n : Near). n.left) (near_step t r sound c k more near), near-most t (marked_by s.marks r c) s.sound s.next s.left, step_less t r.current c k more)

-- ---- what is left gives the whole answer

mark-at : (r : Reached) (c : ℕ) → (with_mark r c).at ≡ r.at
unfolding with_mark with_bit
mark-at r c = go (eqb (c / 64) r.at && (ltb r.count most_clusters && not (current_mark r.current c)))
  where
    go : (b : Bool) → (cond b (with_bit r c) r).at ≡ r.at
    go true = refl
    go false = refl

near-rest : (t : List ℕ) (r : Reached) (c k : ℕ) → r.at < mark_words → rest_of t (near_from t r false c k) ≡ chain_from t r c k
unfolding near_from chain_from
near-rest t r c zero h = refl
near-rest t r c (suc k) h = go (ℕ_discrete (c / 64) r.at) (near-rest t (with_mark r c) (get_or t c 0 - top_bit) k (rw (mark-at r c) h))
  where
    rest : Near
    rest = near_from t (with_mark r c) false (get_or t c 0 - top_bit) k

    chain : Chain
    chain = chain_from t (with_mark r c) (get_or t c 0 - top_bit) k

    tests : rest_of t rest ≡ chain → (inside free seen last : Bool)
        → rest_of t
        (by_tests inside free seen last (record { reached = r; sound = false; next = c; left = 0 })
        (record { reached = with_mark r c; sound = eqb k 0; next = c; left = 0 })
        rest)
        ≡ by_tests inside free seen last (broken r) (record { sound = eqb k 0; reached = with_mark r c }) chain
    tests e false free seen last = refl
    tests e true true seen last = refl
    tests e true false true last = refl
    tests e true false false true = refl
    tests e true false false false = e

    go : Dec (c / 64 ≡ r.at) → rest_of t rest ≡ chain → rest_of t (near_from t r false c (suc k)) ≡ chain_from t r c (suc k)
    go (no far) e = rw (ne_eqb (c / 64) r.at far, eqb-suc-zero k)
    go (yes near) e =
        let small : c < most_clusters = omega arith in
        rw (eq-eqb (c / 64) r.at near, lt-ltb c most_clusters small, turned-near r c near)
        (tests e (ltb c (length t)) (ltb (get_or t c 0) top_bit) (current_mark r.current c) (eqb (get_or t c 0) end_mark))

from_start : (t : List ℕ) (r : Reached) (first k : ℕ) → 0 < k → near_behind t r first k ≡ near_from t r false first k
from_start t r first k more = rw (ne_eqb k 0 (omega arith))

-- the whole chain is left at the start
pub rest-start : (t : List ℕ) (r : Reached) (first k : ℕ) → rest_of t (record { reached = r; sound = eqb k 0 && eqb first end_mark; next = first; left = k }) ≡ chain_behind t r first k
rest-start t r first k = go (ℕ_discrete k 0)
  where
    go : Dec (k ≡ 0) → rest_of t (record { reached = r; sound = eqb k 0 && eqb first end_mark; next = first; left = k }) ≡ chain_behind t r first k
    go (yes z) = rw (z, chain-none t r first 0 refl)
    go (no z) = rw (ne_eqb k 0 z) (sym (chain-some t r first k z))

-- One turn of a walk that makes the word of the next cluster the current one and follows the chain in it.
module _ (t : List ℕ) (r : Reached) (c k : ℕ) (more : 0 < k) (n : Near) where
  pub near-untold-left : n ≡ near_behind t r c k → 0 < n.left → n.sound ≡ false
  near-untold-left e h = rw (e, from_start t r c k more) (near-untold t r c k (rw (e, from_start t r c k more) at h))

  module _ (small : c < most_clusters) (e : n ≡ near_behind t (turned r c) c k) where
    pub near_again : (sound : Bool) → rest_of t (record { reached = r; sound = sound; next = c; left = k }) ≡ rest_of t n
    near_again sound =
        let at : (turned r c).at < mark_words = omega (arith, turned-at r c) in
        rw (ne_eqb k 0 (omega arith), e, from_start t (turned r c) c k more) (sym (near-rest t (turned r c) c k at ∙ chain-turned t r c k more small))

    pub near-comes-on : n.left < k
    near-comes-on = rw e (near-less t (turned r c) (eqb k 0 && eqb c end_mark) c k more (turned-at r c))

-- For a chain behind an entry's first cluster: where none is left it is followed to its end, else the rest follows behind.
module _ (t : List ℕ) (r : Reached) (first k : ℕ) (h : r.at < mark_words) (n : Near) (e : n ≡ near_behind t r first k) where
  rest_some : 0 < k → rest_of t n ≡ chain_behind t r first k
  rest_some more = ap (rest_of t) (e ∙ from_start t r first k more) ∙ near-rest t r first k h ∙ sym (chain-some t r first k (omega arith))

  pub near-done : n.left ≡ 0 → record { sound = n.sound; reached = n.reached } ≡ chain_behind t r first k
  unfolding near_from
  near-done d = go (ℕ_discrete k 0)
    where
      go : Dec (k ≡ 0) → record { sound = n.sound; reached = n.reached } ≡ chain_behind t r first k
      go (yes z) = rw (e, z, chain-none t r first 0 refl)
      go (no z) = rw d at (rest_some (omega arith))

  pub near-goes-on : 0 < n.left → chain_behind t n.reached n.next n.left ≡ chain_behind t r first k
  near-goes-on d =
      let more : 0 < k = omega (arith, ap (λ (x : Near). x.left) e, near-most t r (eqb k 0 && eqb first end_mark) first k) in
      chain-some t n.reached n.next n.left (omega arith) ∙ (rw (ne_eqb n.left 0 (omega arith)) at (rest_some more))

  -- as a walk joins both ways
  pub near-joined : (q : Reached) (sound : Bool)
      → ((x : Chain) × (0 < n.left) × (x ≡ chain_behind t n.reached n.next n.left) × (q ≡ x.reached) × (sound ≡ x.sound))
      ⊎ ((n.left ≤ 0) × (q ≡ n.reached) × (sound ≡ n.sound))
      → record { sound = sound; reached = q } ≡ chain_behind t r first k
  near-joined q sound = ⊎_elim (λ y. rw (y.3, y.4) (y.2 ∙ near-goes-on y.1)) (λ y. rw (y.1, y.2) (near-done (omega (arith, y.0))))
