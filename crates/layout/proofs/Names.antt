-- The names of the table's clusters, judged one by one: one law for each way of a turn.
use Rattle.std.proofs.Common.{◌≡◌, ℕ, zero, suc, ◌+◌, ◌-◌, ◌<◌, ◌≤◌, Bool, true, false, cond, not, ◌&&◌, eqb, ltb, leb, List, [], ◌∷◌, length, get_or, drop, sym, refl, ap, ◌∙◌, add-one, sub-one, arith, drop_of_length-le, ltb-true, ne_eqb, eqb-true, leb-true}
use native.Mathlib.Decide.{ℕ_discrete}
use Rattle.model.specs.Counts.{block_of, is_listed}
use Rattle.model.specs.Tree.{hit, times}
use Rattle.model.proofs.Equality.{and_l, and_r}
use Rattle.model.proofs.Allocation.{times-append}
use Rattle.model.proofs.Frame.{hit-self, hit-0}
use Rattle.layout.specs.Superblock.{up_to}
use Rattle.layout.specs.Table.{in_range, good_name, good_table_names}
use Rattle.layout.proofs.UpTo.{length-up_to, drop-up_to}

times-next : (f : ℕ → ℕ) (n x : ℕ) → times (up_to f (suc n)) x ≡ times (up_to f n) x + hit (f n) x
unfolding up_to
times-next f n x = omega (arith, times-append (up_to f n) (f n ∷ []) x)

-- ---- a name is new: it is none of the names before it, nor the indirect cluster's own
module _ (f : ℕ → ℕ) (indirect name : ℕ) where
  abbrev pub is_new : ℕ → Bool
  is_new n = eqb (times (indirect ∷ up_to f n) name) 0

  met : (n i : ℕ) → i < n → f i ≡ name → 1 ≤ times (up_to f n) name
  met zero i h e = absurd (omega arith)
  met (suc n) i h e = go (ℕ_discrete i n) (λ l. met n i l e)
    where
      go : Dec (i ≡ n) → (i < n → 1 ≤ times (up_to f n) name) → 1 ≤ times (up_to f (suc n)) name
      go (yes l) before = let last : hit (f n) name ≡ 1 = rw (← l, e) (hit-self name) in omega (arith, times-next f n name)
      go (no l) before = omega (arith, times-next f n name, before (omega arith))

  pub new_none : (n : ℕ) → n ≡ 0 → not (eqb indirect name) ≡ is_new n
  unfolding up_to
  new_none n e = rw e (go (eqb indirect name))
    where
      go : (b : Bool) → not b ≡ eqb (cond b 1 0 + 0) 0
      go true = refl
      go false = refl

  pub new-later : (n : ℕ) → 0 < n → (f (n - 1) ≡ name → ⊥) → is_new n ≡ is_new (n - 1)
  new-later zero h e = absurd (omega arith)
  new-later (suc n) h e =
      let none : hit (f n) name ≡ 0 = hit-0 (f n) name (rw (sub-one (suc n)) at e) in
      let same : times (indirect ∷ up_to f (suc n)) name ≡ times (indirect ∷ up_to f n) name = omega (arith, times-next f n name) in
      rw (sub-one (suc n)) (ap (λ (x : ℕ). eqb x 0) same)

  pub new-stop : (n i : ℕ) → i < n → f i ≡ name → is_new n ≡ false
  new-stop n i h e = ne_eqb _ 0 (λ (z : times (indirect ∷ up_to f n) name ≡ 0). omega (arith, met n i h e))

  pub new_more : (i : ℕ) → (f i ≡ name → ⊥) → times (up_to f i) name ≡ 0 → times (up_to f (i + 1)) name ≡ 0
  new_more i e none = rw (add-one i) (omega (arith, times-next f i name, hit-0 (f i) name e))

-- ---- all names, in order
module _ (f : ℕ → ℕ) (indirect : ℕ) where
  -- the names before name n, the latest first, with the indirect cluster's own
  abbrev pub seen : ℕ → List ℕ
  seen zero = indirect ∷ []
  seen (suc n) = f n ∷ seen n

  times-seen : (n x : ℕ) → times (seen n) x ≡ times (indirect ∷ up_to f n) x
  times-seen zero x = unfold up_to in refl
  times-seen (suc n) x = omega (arith, times-seen n x, times-next f n x)

  module _ (offset : ℕ) (bad : List ℕ) (k : ℕ) where
    abbrev pub good_from : ℕ → Bool
    good_from i = good_table_names offset bad (seen i) (drop i (up_to f k))

    abbrev pub good_at : ℕ → Bool
    good_at i = good_name offset bad (f i) && is_new f indirect (f i) i

    step : (i : ℕ) → i < k → good_from i ≡ good_at i && good_from (suc i)
    step i h = rw (drop-up_to f k i h, times-seen i (f i))

    pub names-stop : (i : ℕ) → i < k → good_at i ≡ false → good_from i ≡ false
    names-stop i h e = step i h ∙ rw e

    pub names_more : (i : ℕ) → i < k → good_at i ≡ true → good_from i ≡ good_from (i + 1)
    names_more i h e = rw (add-one i) (step i h ∙ rw e)

    pub names-done : (i : ℕ) → k ≤ i → good_from i ≡ true
    names-done i h = rw (drop_of_length-le (up_to f k) {i = i} (omega (arith, length-up_to f k)))

-- ---- what good names have
abbrev pub Named : ℕ → List ℕ → ℕ → Type 0
Named offset before name = (1 ≤ name) × (name < offset) × (times before name ≡ 0)

pub in-range : (offset n : ℕ) (bad : List ℕ) → good_name offset bad n ≡ true → (1 ≤ n) × (n < offset)
in-range offset n bad e =
    let range = and_l (in_range offset n) (not (is_listed bad (block_of n))) e in
    (leb-true 1 n (and_l (leb 1 n) (ltb n offset) range), ltb-true n offset (and_r (leb 1 n) (ltb n offset) range))

named : (offset n : ℕ) (bad before : List ℕ) → (good_name offset bad n && eqb (times before n) 0) ≡ true → Named offset before n
named offset n bad before e =
    let range = in-range offset n bad (and_l (good_name offset bad n) (eqb (times before n) 0) e) in
    (range.0, range.1, eqb-true (times before n) 0 (and_r (good_name offset bad n) (eqb (times before n) 0) e))

rest : (offset n : ℕ) (bad before ns : List ℕ) → good_table_names offset bad before (n ∷ ns) ≡ true → good_table_names offset bad (n ∷ before) ns ≡ true
rest offset n bad before ns e = and_r (good_name offset bad n && eqb (times before n) 0) (good_table_names offset bad (n ∷ before) ns) e

pub name-good : (offset : ℕ) (bad before ns : List ℕ) → good_table_names offset bad before ns ≡ true → (i : ℕ) → i < length ns → Named offset before (get_or ns i 0)
name-good offset bad before [] e i h = absurd (omega arith)
name-good offset bad before (n ∷ ns) e zero h = named offset n bad before (and_l _ (good_table_names offset bad (n ∷ before) ns) e)
name-good offset bad before (n ∷ ns) e (suc i) h =
    let z = name-good offset bad (n ∷ before) ns (rest offset n bad before ns e) i (omega arith) in
    (z.0, z.1, omega (arith, z.2))

later : (offset n : ℕ) (bad before ns : List ℕ) → good_table_names offset bad before (n ∷ ns) ≡ true → (j : ℕ) → j < length ns → n ≡ get_or ns j 0 → ⊥
later offset n bad before ns e j h q =
    let z = name-good offset bad (n ∷ before) ns (rest offset n bad before ns e) j h in
    let y : times (n ∷ before) n ≡ 0 = rw (← q) at z.2 in
    omega (arith, hit-self n)

pub name-once : (offset : ℕ) (bad before ns : List ℕ) → good_table_names offset bad before ns ≡ true → (i j : ℕ) → i < length ns → j < length ns
    → get_or ns i 0 ≡ get_or ns j 0 → i ≡ j
name-once offset bad before [] e i j h k q = absurd (omega arith)
name-once offset bad before (n ∷ ns) e zero zero h k q = refl
name-once offset bad before (n ∷ ns) e zero (suc j) h k q = absurd (later offset n bad before ns e j (omega arith) q)
name-once offset bad before (n ∷ ns) e (suc i) zero h k q = absurd (later offset n bad before ns e i (omega arith) (sym q))
name-once offset bad before (n ∷ ns) e (suc i) (suc j) h k q =
    ap suc (name-once offset bad (n ∷ before) ns (rest offset n bad before ns e) i j (omega arith) (omega arith) q)

-- what is out of range is none of them
pub names-out : (offset : ℕ) (bad before ns : List ℕ) → good_table_names offset bad before ns ≡ true → (x : ℕ) → (1 ≤ x → x < offset → ⊥) → times ns x ≡ 0
names-out offset bad before [] e x out = refl
names-out offset bad before (n ∷ ns) e x out =
    let z = name-good offset bad before (n ∷ ns) e 0 (omega arith) in
    omega (arith, names-out offset bad (n ∷ before) ns (rest offset n bad before ns e) x out, hit-0 n x (λ q. out (omega arith) (omega arith)))

-- each stands there once, and not among those before
pub names-times : (offset : ℕ) (bad before ns : List ℕ) → good_table_names offset bad before ns ≡ true → ((x : ℕ) → times before x ≤ 1) → (x : ℕ)
    → times before x + times ns x ≤ 1
names-times offset bad before [] e u x = omega (arith, u x)
names-times offset bad before (n ∷ ns) e u x =
    omega (arith, names-times offset bad (n ∷ before) ns (rest offset n bad before ns e) (λ y. new y (ℕ_discrete n y)) x)
  where
    new : (y : ℕ) → Dec (n ≡ y) → times (n ∷ before) y ≤ 1
    new y (yes q) = let z = name-good offset bad before (n ∷ ns) e 0 (omega arith) in rw (← q) (omega (arith, hit-self n))
    new y (no q) = omega (arith, hit-0 n y q, u y)
