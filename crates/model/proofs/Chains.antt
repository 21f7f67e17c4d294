-- The chains that the check follows are the sound ones.
use Prim.Native.Nat.{◌+◌, ◌<◌, ◌≤◌, suc, zero, ℕ}
use mathlib.Core.Bool.{Bool, cond, false, true}
use mathlib.Core.List.{List, [], ◌∷◌}
use mathlib.Core.Logic.{⊎_elim}
use mathlib.Core.Option.{Option, none, some}
use mathlib.Core.Path.{◌≡◌, ap, refl}
use native.Mathlib.Decide.{dec_lt}
use native.Mathlib.Omega.{arith}
use lib.Dec.{eqb}
use lib.ListN.{length}
use Rattle.model.specs.Check.{Marks, SoundChain, follow_chain, mark, prepend}
use Rattle.model.specs.Claims.{ChainsAreSound}
use Rattle.model.specs.Holds.{Chain}
use Rattle.model.specs.Tree.{hit, times}
use Rattle.model.specs.View.{Link, View}
use Rattle.model.proofs.Equality.{Eq-number, bool, zero?}
use Rattle.model.proofs.Frame.{hit-0, hit-self}

cons_ok : (a : ℕ) (o : Option (List ℕ)) (cs : List ℕ) → prepend a o ≡ some cs → (ds : List ℕ) × (o ≡ some ds) × (a ∷ ds ≡ cs)
cons_ok a none cs h = absurd (let z : ◌≡◌ {A = ℕ} 0 1 = cc in omega arith)
cons_ok a (some ds) cs h = (ds, refl, cc)

pub cond-ok : {A : Type 0} (b : Bool) (x : Option A) (a : A) → cond b x none ≡ some a → (b ≡ true) × (x ≡ some a)
cond-ok true x a h = (refl, h)
cond-ok false x a h = absurd (let z : ◌≡◌ {A = ℕ} 0 1 = cc in omega arith)

-- a chain has no free cluster
pub links-used : (v : View) (l : Link) (cs : List ℕ) (c : ℕ) → v.link c ≡ Link.free → Chain v l cs → times cs c ≡ 0
links-used v l [] c f h = refl
links-used v l (x ∷ cs) c f h = omega (arith, links-used v (v.link x) cs c f h.1, hit-0 x c (λ e. no-free cs (rw (e, f) at h.1)))
  where
    no-free : (cs : List ℕ) → Chain v Link.free cs → ⊥
    no-free [] h = let z : ◌≡◌ {A = ℕ} 0 1 = cc in omega arith
    no-free (x ∷ cs) h = let y : Link.free ≡ Link.next x = h.0 in let z : ◌≡◌ {A = ℕ} 0 1 = cc in omega arith

module _ (v : View) where
  -- what is followed is a chain of that length, and each of its clusters is reached for the first time
  follow-new : (k : ℕ) (l : Link) (m : Marks) (cs : List ℕ) → follow_chain v k l m ≡ some cs
      → (length cs ≡ k) × Chain v l cs × ((c : ℕ) → 1 ≤ times cs c → m c + times cs c ≤ 1)
  follow-new zero Link.free m cs h = absurd (let z : ◌≡◌ {A = ℕ} 0 1 = cc in omega arith)
  follow-new zero Link.last m cs h = let e : [] ≡ cs = cc in rw (← e) (refl, refl, λ c o. absurd (omega arith))
  follow-new zero (Link.next a) m cs h = absurd (let z : ◌≡◌ {A = ℕ} 0 1 = cc in omega arith)
  follow-new (suc k) Link.free m cs h = absurd (let z : ◌≡◌ {A = ℕ} 0 1 = cc in omega arith)
  follow-new (suc k) Link.last m cs h = absurd (let z : ◌≡◌ {A = ℕ} 0 1 = cc in omega arith)
  follow-new (suc k) (Link.next a) m cs h =
      let x = cond-ok (eqb (m a) 0) _ cs h in
      let y = cons_ok a _ cs x.1 in
      let ih = follow-new k (v.link a) (mark a m) y.0 y.1 in
      rw (← y.2) (ap suc ih.0, (refl, ih.1), once y.0 (Eq-number.sound (m a) 0 x.0) ih.2)
    where
      once : (ds : List ℕ) → m a ≡ 0 → ((c : ℕ) → 1 ≤ times ds c → mark a m c + times ds c ≤ 1) → (c : ℕ) → 1 ≤ times (a ∷ ds) c → m c + times (a ∷ ds) c ≤ 1
      once ds new h c o = ⊎_elim (λ (z : times ds c ≡ 0). ⊎_elim (here z) (λ (e : eqb a c ≡ false). absurd (let n : hit a c ≡ 0 = rw e in omega arith)) (bool (eqb a c))) (λ z. omega (arith, h c z)) (zero? (times ds c))
        where
          here : times ds c ≡ 0 → eqb a c ≡ true → m c + times (a ∷ ds) c ≤ 1
          here z e = let n : hit a c ≡ 1 = rw e in let q : m c ≡ 0 = rw (← Eq-number.sound a c e) new in omega arith

  pub follow-of : (l : Link) (m : Marks) (cs : List ℕ) → Chain v l cs → ((c : ℕ) → 1 ≤ times cs c → m c + times cs c ≤ 1) → follow_chain v (length cs) l m ≡ some cs
  follow-of l m [] h u = rw h
  follow-of l m (c ∷ cs) h u =
      let z : m c ≡ 0 = omega (arith, u c (omega (arith, hit-self c)), hit-self c) in
      rw (h.0, z, follow-of (v.link c) (mark c m) cs h.1 (λ d o. omega (arith, u d (omega arith))))

  -- behind clusters of which none was reached twice
  pub follow-ok : (k : ℕ) (l : Link) (m : Marks) (cs : List ℕ) → ((c : ℕ) → m c ≤ 1) → follow_chain v k l m ≡ some cs
      → (length cs ≡ k) × Chain v l cs × ((c : ℕ) → m c + times cs c ≤ 1)
  follow-ok k l m cs u h =
      let z = follow-new k l m cs h in (z.0, z.1, λ c. ⊎_elim (λ (o : times cs c ≡ 0). omega (arith, u c)) (λ o. z.2 c o) (zero? (times cs c)))

pub chains-are-sound : ChainsAreSound
chains-are-sound end v high reached start k cs = (sound, follows)
  where
    sound : follow_chain v k start reached ≡ some cs → SoundChain end v reached start k cs
    sound h =
        let z = follow-new v k start reached cs h in
        record {
          below = λ c o. low c (dec_lt c end) o z.1;
          not_free = λ c o f. omega (arith, links-used v start cs c f z.1);
          not_reached = λ c o. let n = z.2 c o in (omega arith, omega arith);
          links = z.1;
          long = z.0;
        }
      where
        low : (c : ℕ) → Dec (c < end) → 1 ≤ times cs c → Chain v start cs → c < end
        low c (yes b) o z = b
        low c (no b) o z = absurd (omega (arith, links-used v start cs c (high c (omega arith)) z))

    follows : SoundChain end v reached start k cs → follow_chain v k start reached ≡ some cs
    follows s = rw (← s.long) (follow-of v start reached cs s.links (λ c o. let n = s.not_reached c o in omega arith))
