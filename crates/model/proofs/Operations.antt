-- The abstract card (tree, rooms of the directories, free count), and operations given by footprints. Demand 3 as one claim.
use Prim.Native.Nat.{◌%◌, ◌+◌, ◌-◌, ◌≤◌, suc, zero, ℕ}
use mathlib.Core.Bool.{Bool, cond, false, true}
use mathlib.Core.Logic.{◌⊎◌, inl, inr}
use mathlib.Core.Option.{Option}
use mathlib.Core.Path.{◌∙◌, ◌≡◌, ap, refl, sym}
use native.Mathlib.Omega.{arith}
use Rattle.model.specs.Names.{Path, same_path}
use Rattle.model.specs.Standing.{Standing}
use Rattle.model.proofs.Equality.{Eq-path, comm, tf}

-- What demand 3 does not compare: a directory's dead slots from 2 and its length, and how many clusters a node gives back when it goes.
pub record Room : Type 0 where
  pub dead : ℕ
  pub length : ℕ
  pub back : ℕ

-- one more entry: the room after it, and the clusters by which the directory grows
abbrev pub take₁ : ℕ → ℕ → ℕ → Room
take₁ zero l b = record { dead = zero; length = suc l; back = b + (1 - l % 2) }
take₁ (suc n) l b = record { dead = n; length = l; back = b }

abbrev pub grow₁ : ℕ → ℕ → ℕ
grow₁ zero l = 1 - l % 2
grow₁ (suc n) l = 0

unfoldable pub taken : ℕ → Room → Room
taken zero r = r
taken (suc k) r = taken k (take₁ r.dead r.length r.back)

unfoldable pub grown : ℕ → Room → ℕ
grown zero r = 0
grown (suc k) r = grow₁ r.dead r.length + grown k (take₁ r.dead r.length r.back)

pub taken-add : (j k : ℕ) (r : Room) → taken k (taken j r) ≡ taken j (taken k r)
unfolding taken
taken-add zero k r = refl
taken-add (suc j) k r = taken-add j k (take₁ r.dead r.length r.back) ∙ ap (taken j) (one k r)
  where
    one : (k : ℕ) (r : Room) → taken k (take₁ r.dead r.length r.back) ≡ take₁ (taken k r).dead (taken k r).length (taken k r).back
    one zero r = refl
    one (suc k) r = one k (take₁ r.dead r.length r.back)

grown-swap : (j k : ℕ) (r : Room) → grown j r + grown k (taken j r) ≡ grown k r + grown j (taken k r)
unfolding taken grown
grown-swap zero k r = omega arith
grown-swap (suc j) k r =
    let r' = take₁ r.dead r.length r.back in
    let ih : grown j r' + grown k (taken j r') ≡ grown k r' + grown j (taken k r') = grown-swap j k r' in
    let s : grown (suc k) r ≡ grown k r + grow₁ (taken k r).dead (taken k r).length = last k r in
    let t : grown j (taken k r') ≡ grown j (take₁ (taken k r).dead (taken k r).length (taken k r).back) = ap (grown j) (one k r) in
    omega arith
  where
    one : (k : ℕ) (r : Room) → taken k (take₁ r.dead r.length r.back) ≡ take₁ (taken k r).dead (taken k r).length (taken k r).back
    one zero r = refl
    one (suc k) r = one k (take₁ r.dead r.length r.back)

    last : (k : ℕ) (r : Room) → grown (suc k) r ≡ grown k r + grow₁ (taken k r).dead (taken k r).length
    last zero r = omega arith
    last (suc k) r =
        let r' = take₁ r.dead r.length r.back in
        let ih : grown (suc k) r' ≡ grown k r' + grow₁ (taken k r').dead (taken k r').length = last k r' in
        omega arith

-- What demand 3 compares, and the rooms, which it does not.
pub record AbstractCard : Type 0 where
  pub look : Path → Option Standing
  pub room : Path → Room
  pub free : ℕ

-- An operation by its footprint: it writes the paths W, reads the paths R, and enters `adds` entries into, or kills `dels` of, the directory `dir`.
pub record Operation : Type 0 where
  pub writes : Path → Bool
  pub reads : Path → Bool
  pub directory : Path
  pub adds : ℕ
  pub kills : ℕ
  pub size : AbstractCard → ℕ
  pub test : AbstractCard → ℕ
  pub freed : AbstractCard → ℕ
  pub puts : AbstractCard → Path → Option Standing
  pub rooms : AbstractCard → Path → Room

-- equal on a set, rooms only on the second
abbrev pub Agree : (R W : Path → Bool) → AbstractCard → AbstractCard → Type 0
Agree R W σ τ = ((r : Path) → R r ≡ true → σ.look r ≡ τ.look r) × ((r : Path) → W r ≡ true → σ.room r ≡ τ.room r)

pub record Local (o : Operation) : Type 0 where
  pub sub : (r : Path) → o.writes r ≡ true → o.reads r ≡ true
  pub dir-R : o.reads o.directory ≡ true
  pub test-local : (σ τ : AbstractCard) → Agree o.reads o.writes σ τ → o.test σ ≡ o.test τ
  pub size-local : (σ τ : AbstractCard) → Agree o.reads o.writes σ τ → o.size σ ≡ o.size τ
  pub freed-local : (σ τ : AbstractCard) → Agree o.reads o.writes σ τ → o.freed σ ≡ o.freed τ
  pub puts-local : (σ τ : AbstractCard) → Agree o.reads o.writes σ τ → (r : Path) → o.puts σ r ≡ o.puts τ r
  pub rooms-local : (σ τ : AbstractCard) → Agree o.reads o.writes σ τ → (r : Path) → o.rooms σ r ≡ o.rooms τ r

unfoldable pub worked : Operation → Room → Room
worked o r = let s = taken o.adds r in record { dead = s.dead + o.kills; length = s.length; back = s.back }

unfoldable pub need : Operation → AbstractCard → ℕ
need o σ = o.size σ + grown o.adds (σ.room o.directory)

unfoldable pub effect : Operation → AbstractCard → AbstractCard
effect o σ =
    record {
      look = λ r. cond (o.writes r) (o.puts σ r) (σ.look r);
      room = λ r. cond (o.writes r) (o.rooms σ r) (cond (same_path r o.directory) (worked o (σ.room r)) (σ.room r));
      free = σ.free - need o σ + o.freed σ;
    }

abbrev pub Accepts : Operation → AbstractCard → Type 0
Accepts o σ = (o.test σ ≡ 0) × (need o σ ≤ σ.free)

-- neither writes what the other reads
abbrev pub Apart : Operation → Operation → Type 0
Apart a b = ((r : Path) → a.writes r ≡ true → b.reads r ≡ false) × ((r : Path) → b.writes r ≡ true → a.reads r ≡ false)

-- what another operation reads stays
pub not-W : (a b : Operation) → Apart a b → (r : Path) → b.reads r ≡ true → a.writes r ≡ false
not-W a b d r h = go (a.writes r) refl
  where
    go : (x : Bool) → a.writes r ≡ x → x ≡ false
    go true e = tf h (d.0 r e)
    go false e = refl

look-stays : (a b : Operation) (σ : AbstractCard) → Apart a b → (r : Path) → b.reads r ≡ true → (effect a σ).look r ≡ σ.look r
unfolding effect
look-stays a b σ d r h = rw (not-W a b d r h)

pub dir-apart : (a b : Operation) (la : Local a) → Apart a b → (r : Path) → b.writes r ≡ true → same_path r a.directory ≡ false
dir-apart a b la d r h = go (same_path r a.directory) refl
  where
    go : (x : Bool) → same_path r a.directory ≡ x → x ≡ false
    go true e = tf la.dir-R (rw (Eq-path.sound r a.directory e) at (d.1 r h))
    go false e = refl

room-stays : (a b : Operation) (σ : AbstractCard) → Local a → Local b → Apart a b → (r : Path) → b.writes r ≡ true → (effect a σ).room r ≡ σ.room r
unfolding effect
room-stays a b σ la lb d r h = rw (not-W a b d r (lb.sub r h), dir-apart a b la d r h)

pub agree : (a b : Operation) (σ : AbstractCard) → Local a → Local b → Apart a b → Agree b.reads b.writes (effect a σ) σ
agree a b σ la lb d = (look-stays a b σ d, room-stays a b σ la lb d)

pub apart-sym : (a b : Operation) → Apart a b → Apart b a
apart-sym a b d = (d.1, d.0)

-- (1) The tree: the two orders agree, whatever is accepted.
pub look-comm : (a b : Operation) (σ : AbstractCard) → Local a → Local b → Apart a b → (r : Path) → (effect b (effect a σ)).look r ≡ (effect a (effect b σ)).look r
unfolding effect
look-comm a b σ la lb d r = go (a.writes r) (b.writes r) refl refl
  where
    go : (x y : Bool) → a.writes r ≡ x → b.writes r ≡ y → (effect b (effect a σ)).look r ≡ (effect a (effect b σ)).look r
    go true true p q = tf (lb.sub r q) (d.0 r p)
    go true false p q = rw (p, q) (sym (la.puts-local (effect b σ) σ (agree b a σ lb la (apart-sym a b d)) r))
    go false true p q = rw (p, q) (lb.puts-local (effect a σ) σ (agree a b σ la lb d) r)
    go false false p q = rw (p, q)

-- The room of b's directory after a.
room-dir : (a b : Operation) (σ : AbstractCard) → Local a → Local b → Apart a b
    → (effect a σ).room b.directory ≡ cond (same_path b.directory a.directory) (worked a (σ.room b.directory)) (σ.room b.directory)
unfolding effect
room-dir a b σ la lb d = rw (not-W a b d b.directory lb.dir-R)

-- Not one that enters and one that kills entries in one directory.
abbrev pub NoClash : Operation → Operation → Type 0
NoClash a b = same_path b.directory a.directory ≡ true → ((a.kills ≡ 0) × (b.kills ≡ 0)) ⊎ ((a.adds ≡ 0) × (b.adds ≡ 0))

pub worked-adds : (o : Operation) (r : Room) → o.kills ≡ 0 → worked o r ≡ taken o.adds r
unfolding worked
worked-adds o r e = λ i. record { dead = h i; length = (taken o.adds r).length; back = (taken o.adds r).back }
  where
    h : (taken o.adds r).dead + o.kills ≡ (taken o.adds r).dead
    h = omega arith

-- The clusters that both orders need together are the same.
needs : (a b : Operation) (σ : AbstractCard) → Local a → Local b → Apart a b → NoClash a b
    → need a σ + need b (effect a σ) ≡ need b σ + need a (effect b σ)
unfolding need grown
needs a b σ la lb d nc = rw (lb.size-local (effect a σ) σ (agree a b σ la lb d), la.size-local (effect b σ) σ (agree b a σ lb la (apart-sym a b d)), room-dir a b σ la lb d, room-dir b a σ lb la (apart-sym a b d), comm Eq-path a.directory b.directory) (go (same_path b.directory a.directory) refl)
  where
    ra : Room
    ra = σ.room a.directory

    rb : Room
    rb = σ.room b.directory

    Goal : Bool → Type 0
    Goal x =
        (a.size σ + grown a.adds ra) + (b.size σ + grown b.adds (cond x (worked a rb) rb))
        ≡ (b.size σ + grown b.adds rb) + (a.size σ + grown a.adds (cond x (worked b ra) ra))

    both : ra ≡ rb → ((a.kills ≡ 0) × (b.kills ≡ 0)) ⊎ ((a.adds ≡ 0) × (b.adds ≡ 0)) → Goal true
    both e (inl (p, q)) = rw (worked-adds a rb p, worked-adds b ra q, e) (omega (arith, grown-swap a.adds b.adds rb))
    both e (inr (p, q)) = rw (p, q) (omega arith)

    go : (x : Bool) → same_path b.directory a.directory ≡ x → Goal x
    go true e = both (ap σ.room (sym (Eq-path.sound b.directory a.directory e))) (nc e)
    go false e = omega arith

-- (2) The free count.
pub free-comm : (a b : Operation) (σ : AbstractCard) → Local a → Local b → Apart a b → NoClash a b
    → Accepts a σ → Accepts b (effect a σ) → Accepts b σ → Accepts a (effect b σ) → (effect b (effect a σ)).free ≡ (effect a (effect b σ)).free
unfolding effect
free-comm a b σ la lb d nc oa ob' ob oa' =
    let n : need a σ + need b (effect a σ) ≡ need b σ + need a (effect b σ) = needs a b σ la lb d nc in
    let fb : b.freed (effect a σ) ≡ b.freed σ = lb.freed-local (effect a σ) σ (agree a b σ la lb d) in
    let fa : a.freed (effect b σ) ≡ a.freed σ = la.freed-local (effect b σ) σ (agree b a σ lb la (apart-sym a b d)) in
    let h₁ : need b (effect a σ) ≤ σ.free - need a σ + a.freed σ = ob'.1 in
    let h₂ : need a (effect b σ) ≤ σ.free - need b σ + b.freed σ = oa'.1 in
    omega arith

abbrev pub Creation : Operation → Type 0
Creation o = (o.kills ≡ 0) × ((σ : AbstractCard) → o.freed σ ≡ 0)

-- (3) Two creations: one order is accepted to its end exactly when the other is.
pub ok-comm : (a b : Operation) (σ : AbstractCard) → Local a → Local b → Apart a b → Creation a → Creation b
    → Accepts a σ → Accepts b (effect a σ) → Accepts b σ × Accepts a (effect b σ)
unfolding effect
ok-comm a b σ la lb d ca cb oa ob' =
    let n : need a σ + need b (effect a σ) ≡ need b σ + need a (effect b σ) = needs a b σ la lb d (λ e. inl (ca.0, cb.0)) in
    let h₁ : need b (effect a σ) ≤ σ.free - need a σ + a.freed σ = ob'.1 in
    let tb : b.test (effect a σ) ≡ b.test σ = lb.test-local (effect a σ) σ (agree a b σ la lb d) in
    let ta : a.test (effect b σ) ≡ a.test σ = la.test-local (effect b σ) σ (agree b a σ lb la (apart-sym a b d)) in
    let fa : a.freed σ ≡ 0 = ca.1 σ in
    let fb : b.freed σ ≡ 0 = cb.1 σ in
    let h₂ : need a (effect b σ) ≤ σ.free - need b σ + b.freed σ = omega arith in
    ((sym tb ∙ ob'.0, omega arith), (ta ∙ oa.0, h₂))
