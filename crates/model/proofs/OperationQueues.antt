-- Whole queues of operations, in any order.
use mathlib.Core.Bool.{Bool, cond, false, true}
use mathlib.Core.List.{List, [], ◌++◌, ◌∷◌}
use mathlib.Core.Logic.{inl, ⊎_elim}
use mathlib.Core.Option.{Option}
use mathlib.Core.Path.{◌∙◌, ◌≡◌, ap, ap₂, fun_ext, refl, sym}
use Rattle.model.specs.Names.{Path, same_path}
use Rattle.model.specs.Standing.{Standing}
use Rattle.model.proofs.Equality.{bool, tf}
use Rattle.model.proofs.Operations.{AbstractCard, Accepts, Apart, Creation, Local, Operation, Room, agree, apart-sym, dir-apart, effect, free-comm, look-comm, not-W, ok-comm, taken, taken-add, worked, worked-adds}

-- Two creations give one abstract card in both orders, rooms and all.
room-comm : (a b : Operation) (σ : AbstractCard) → Local a → Local b → Apart a b → Creation a → Creation b → (z : Path) → (effect b (effect a σ)).room z ≡ (effect a (effect b σ)).room z
unfolding effect
room-comm a b σ la lb d ca cb z = go (a.writes z) (b.writes z) refl refl
  where
    swap : (r : Room) → worked b (worked a r) ≡ worked a (worked b r)
    swap r = worked-adds b (worked a r) cb.0 ∙ ap (taken b.adds) (worked-adds a r ca.0) ∙ taken-add a.adds b.adds r
        ∙ ap (taken a.adds) (sym (worked-adds b r cb.0)) ∙ sym (worked-adds a (worked b r) ca.0)

    both : (x y : Bool) (r : Room) → cond y (worked b (cond x (worked a r) r)) (cond x (worked a r) r) ≡ cond x (worked a (cond y (worked b r) r)) (cond y (worked b r) r)
    both true true r = swap r
    both true false r = refl
    both false true r = refl
    both false false r = refl

    go : (x y : Bool) → a.writes z ≡ x → b.writes z ≡ y → (effect b (effect a σ)).room z ≡ (effect a (effect b σ)).room z
    go true true p q = tf (lb.sub z q) (d.0 z p)
    go true false p q = rw (p, q, dir-apart b a lb (apart-sym a b d) z p) (sym (la.rooms-local (effect b σ) σ (agree b a σ lb la (apart-sym a b d)) z))
    go false true p q = rw (p, q, dir-apart a b la d z q) (lb.rooms-local (effect a σ) σ (agree a b σ la lb d) z)
    go false false p q = rw (p, q) (both (same_path z a.directory) (same_path z b.directory) (σ.room z))

pub swap-all : (a b : Operation) (σ : AbstractCard) → Local a → Local b → Apart a b → Creation a → Creation b → Accepts a σ → Accepts b (effect a σ)
    → Accepts b σ × Accepts a (effect b σ) × (effect b (effect a σ) ≡ effect a (effect b σ))
swap-all a b σ la lb d ca cb oa ob =
    let o = ok-comm a b σ la lb d ca cb oa ob in
    let l : (effect b (effect a σ)).look ≡ (effect a (effect b σ)).look = fun_ext (look-comm a b σ la lb d) in
    let r : (effect b (effect a σ)).room ≡ (effect a (effect b σ)).room = fun_ext (room-comm a b σ la lb d ca cb) in
    let f = free-comm a b σ la lb d (λ e. inl (ca.0, cb.0)) oa ob o.0 o.1 in
    (o.0, o.1, λ i. record { look = l i; room = r i; free = f i })

abbrev pub runs : List Operation → AbstractCard → AbstractCard
runs [] σ = σ
runs (x ∷ xs) σ = runs xs (effect x σ)

-- every one is accepted in its turn
abbrev pub Oks : List Operation → AbstractCard → Type 0
Oks [] σ = Unit {0}
Oks (x ∷ xs) σ = Accepts x σ × Oks xs (effect x σ)

abbrev pub Each : Operation → List Operation → Type 0
Each x [] = Unit {0}
Each x (o ∷ os) = Apart x o × Each x os

-- no two touch each other
abbrev pub Clear : List Operation → Type 0
Clear [] = Unit {0}
Clear (x ∷ xs) = Local x × Each x xs × Clear xs

abbrev pub Creations : List Operation → Type 0
Creations [] = Unit {0}
Creations (x ∷ xs) = Creation x × Creations xs

-- ys holds what xs holds, in another order
abbrev pub Perm : List Operation → List Operation → Type 0
Perm [] ys = ys ≡ []
Perm (x ∷ xs) ys = (l : List Operation) × (r : List Operation) × (ys ≡ l ++ (x ∷ r)) × Perm xs (l ++ r)

each-mid : (a : Operation) (l r : List Operation) (x : Operation) → Each a (l ++ (x ∷ r)) → Apart a x × Each a (l ++ r)
each-mid a [] r x e = e
each-mid a (b ∷ l) r x e = let z = each-mid a l r x e.1 in (z.0, (e.0, z.1))

-- one taken out of the middle
clear-mid : (l r : List Operation) (x : Operation) → Clear (l ++ (x ∷ r)) → Local x × Each x (l ++ r) × Clear (l ++ r)
clear-mid [] r x c = c
clear-mid (a ∷ l) r x c =
    let z = clear-mid l r x c.2 in
    let e = each-mid a l r x c.1 in
    (z.0, (apart-sym a x e.0, z.1), (c.0, e.1, z.2))

create-mid : (l r : List Operation) (x : Operation) → Creations (l ++ (x ∷ r)) → Creation x × Creations (l ++ r)
create-mid [] r x c = c
create-mid (a ∷ l) r x c = let z = create-mid l r x c.1 in (z.0, (c.0, z.1))

-- the first may go later
later : (l r : List Operation) (x : Operation) (σ : AbstractCard) → Clear (l ++ r) → Local x → Each x (l ++ r) → Creation x → Creations (l ++ r) → Oks (x ∷ (l ++ r)) σ
    → Oks (l ++ (x ∷ r)) σ × (runs (l ++ (x ∷ r)) σ ≡ runs (x ∷ (l ++ r)) σ)
later [] r x σ c lx e cx cs o = (o, refl)
later (a ∷ l) r x σ c lx e cx cs o =
    let s = swap-all x a σ lx c.0 e.0 cx cs.0 o.0 o.1.0 in
    let i = later l r x (effect a σ) c.2 lx e.1 cx cs.1 (s.1, rw s.2 at o.1.1) in
    ((s.0, i.0), i.1 ∙ ap (runs (l ++ r)) (sym s.2))

-- Creations only: one order is accepted to its end when another is, and gives the same card.
pub any_order : (xs ys : List Operation) (σ : AbstractCard) → Perm xs ys → Clear ys → Creations ys → Oks xs σ → Oks ys σ × (runs ys σ ≡ runs xs σ)
any_order [] ys σ p c cs o = rw p (tt, refl)
any_order (x ∷ xs) ys σ (l, r, e, p) c cs o =
    let c' = clear-mid l r x (rw e at c) in
    let k = create-mid l r x (rw e at cs) in
    let i = any_order xs (l ++ r) (effect x σ) p c'.2 k.1 o.1 in
    let z = later l r x σ c'.2 c'.0 c'.1 k.0 k.1 (o.0, i.0) in
    rw e (z.0, z.1 ∙ i.1)

-- Any operations: the tree after them, path by path.
abbrev pub look_all : List Operation → AbstractCard → Path → Option Standing
look_all [] σ z = σ.look z
look_all (x ∷ xs) σ z = cond (x.writes z) (x.puts σ z) (look_all xs σ z)

look_skip : (xs : List Operation) (x : Operation) (σ : AbstractCard) (z : Path) → Local x → Each x xs → Clear xs → look_all xs (effect x σ) z ≡ cond (x.writes z) (x.puts σ z) (look_all xs σ z)
unfolding effect
look_skip [] x σ z lx e c = refl
look_skip (o ∷ os) x σ z lx e c =
    ⊎_elim
    (λ (i : x.writes z ≡ true). let n : o.writes z ≡ false = not-W o x (apart-sym x o e.0) z (lx.sub z i) in rw n (look_skip os x σ z lx e.1 c.2))
    (λ (i : x.writes z ≡ false). rw i (ap₂ (λ a b. cond (o.writes z) a b) (c.0.puts-local (effect x σ) σ (agree x o σ lx c.0 e.0) z) (look_skip os x σ z lx e.1 c.2 ∙ rw i)))
    (bool (x.writes z))

pub look-runs : (xs : List Operation) (σ : AbstractCard) (z : Path) → Clear xs → (runs xs σ).look z ≡ look_all xs σ z
look-runs [] σ z c = refl
look-runs (x ∷ xs) σ z c = look-runs xs (effect x σ) z c.2 ∙ look_skip xs x σ z c.0 c.1 c.2

look-mid : (l r : List Operation) (x : Operation) (σ : AbstractCard) (z : Path) → Clear (l ++ r) → Local x → Each x (l ++ r) → look_all (l ++ (x ∷ r)) σ z ≡ cond (x.writes z) (x.puts σ z) (look_all (l ++ r) σ z)
look-mid [] r x σ z c lx e = refl
look-mid (a ∷ l) r x σ z c lx e =
    rw (look-mid l r x σ z c.2 lx e.1)
    (⊎_elim (λ (i : x.writes z ≡ true). let n : a.writes z ≡ false = not-W a x (apart-sym x a e.0) z (lx.sub z i) in rw (i, n)) (λ (i : x.writes z ≡ false). rw i) (bool (x.writes z)))

-- Any two orders give one tree, whatever is accepted on the way.
pub one-tree : (xs ys : List Operation) (σ : AbstractCard) (z : Path) → Perm xs ys → Clear xs → Clear ys → (runs xs σ).look z ≡ (runs ys σ).look z
one-tree xs ys σ z p cx cy = look-runs xs σ z cx ∙ go xs ys p cy ∙ sym (look-runs ys σ z cy)
  where
    go : (xs ys : List Operation) → Perm xs ys → Clear ys → look_all xs σ z ≡ look_all ys σ z
    go [] ys p c = rw p
    go (x ∷ xs) ys (l, r, e, p) c =
        let c' = clear-mid l r x (rw e at c) in
        rw e (ap (λ a. cond (x.writes z) (x.puts σ z) a) (go xs (l ++ r) p c'.2) ∙ sym (look-mid l r x σ z c'.2 c'.0 c'.1))

-- What holds of one order's list holds of the other's.
each-perm : (a : Operation) (xs ys : List Operation) → Perm xs ys → Each a xs → Each a ys
each-perm a [] ys p e = rw p tt
each-perm a (x ∷ xs) ys (l, r, q, p) e = rw q (put l r (each-perm a xs (l ++ r) p e.1))
  where
    put : (l r : List Operation) → Each a (l ++ r) → Each a (l ++ (x ∷ r))
    put [] r z = (e.0, z)
    put (b ∷ l) r z = (z.0, put l r z.1)

pub clear-perm : (xs ys : List Operation) → Perm xs ys → Clear xs → Clear ys
clear-perm [] ys p c = rw p tt
clear-perm (x ∷ xs) ys (l, r, q, p) c = rw q (put l r (each-perm x xs (l ++ r) p c.1) (clear-perm xs (l ++ r) p c.2))
  where
    mid : (a : Operation) (l r : List Operation) → Apart a x → Each a (l ++ r) → Each a (l ++ (x ∷ r))
    mid a [] r d z = (d, z)
    mid a (b ∷ l) r d z = (z.0, mid a l r d z.1)

    put : (l r : List Operation) → Each x (l ++ r) → Clear (l ++ r) → Clear (l ++ (x ∷ r))
    put [] r e z = (c.0, e, z)
    put (a ∷ l) r e z = (z.0, mid a l r (apart-sym x a e.0) z.1, put l r e.1 z.2)

pub creations-perm : (xs ys : List Operation) → Perm xs ys → Creations xs → Creations ys
creations-perm [] ys p c = rw p tt
creations-perm (x ∷ xs) ys (l, r, q, p) c = rw q (put l r (creations-perm xs (l ++ r) p c.1))
  where
    put : (l r : List Operation) → Creations (l ++ r) → Creations (l ++ (x ∷ r))
    put [] r z = (c.0, z)
    put (a ∷ l) r z = (z.0, put l r z.1)
