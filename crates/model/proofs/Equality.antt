-- Names and paths: equality tests and the prefix test.
use Prim.Native.Nat.{◌≤◌, suc, zero, ℕ}
use mathlib.Core.Bool.{Bool, ◌&&◌, cond, false, true}
use mathlib.Core.List.{List, [], ◌∷◌}
use mathlib.Core.Logic.{◌⊎◌, inl, inr}
use mathlib.Core.Path.{◌∙◌, ◌≡◌, ap, ap₂, refl, sym}
use native.Mathlib.Omega.{arith}
use lib.Dec.{T, eqb, eqb_refl, eqb→eq}
use Rattle.model.specs.Names.{Name, Path, beginning, parent, same_list}

pub tf {ℓ} : {A : Type ℓ} {b : Bool} → b ≡ true → b ≡ false → A
tf p q = absurd (let z : ◌≡◌ {A = ℕ} 0 1 = ap (λ (b : Bool). cond b 0 1) (sym p ∙ q) in omega arith)

pub bool : (b : Bool) → (b ≡ true) ⊎ (b ≡ false)
bool true = inl refl
bool false = inr refl

pub zero? : (n : ℕ) → (n ≡ 0) ⊎ (1 ≤ n)
zero? zero = inl refl
zero? (suc n) = inr (omega arith)

pub to-T : {b : Bool} → b ≡ true → T b
to-T e = rw e tt

pub of_T : {b : Bool} → T b → b ≡ true
of_T {b} h = go b h
  where
    go : (b : Bool) → T b → b ≡ true
    go true h = refl
    go false h = absurd h

pub and_l : (a b : Bool) → (a && b) ≡ true → a ≡ true
and_l true b h = refl
and_l false b h = h

pub and_r : (a b : Bool) → (a && b) ≡ true → b ≡ true
and_r true b h = h
and_r false b h = tf h refl

-- A test of equality, lifted to lists.
pub record Eq (A : Type 0) : Type 0 where
  pub same : A → A → Bool
  pub sound : (a b : A) → same a b ≡ true → a ≡ b
  pub self : (a : A) → same a a ≡ true

module _ {A : Type 0} (q : Eq A) where
  pub sound_l : (a b : List A) → same_list q.same a b ≡ true → a ≡ b
  sound_l [] [] h = refl
  sound_l [] (b ∷ bs) h = tf h refl
  sound_l (a ∷ u) [] h = tf h refl
  sound_l (a ∷ u) (b ∷ bs) h = ap₂ (λ x xs. x ∷ xs) (q.sound a b (and_l _ _ h)) (sound_l u bs (and_r (q.same a b) _ h))

  pub self_l : (a : List A) → same_list q.same a a ≡ true
  self_l [] = refl
  self_l (a ∷ u) = rw (q.self a) (self_l u)

  abbrev pub Eq-list : Eq (List A)
  Eq-list = record { same = same_list q.same; sound = sound_l; self = self_l }

  pub comm : (a b : A) → q.same a b ≡ q.same b a
  comm a b = go (q.same a b) (q.same b a) refl refl
    where
      go : (x y : Bool) → q.same a b ≡ x → q.same b a ≡ y → q.same a b ≡ q.same b a
      go true y e f = rw (q.sound a b e) refl
      go false true e f = rw (q.sound b a f) refl
      go false false e f = e ∙ sym f

abbrev pub Eq-number : Eq ℕ
Eq-number = record { same = eqb; sound = λ a b h. eqb→eq a b (to-T h); self = λ a. of_T (eqb_refl a) }

abbrev pub Eq-name : Eq Name
Eq-name = Eq-list Eq-number

abbrev pub Eq-path : Eq Path
Eq-path = Eq-list Eq-name

pub beginning-self : (p : Path) → beginning p p ≡ true
beginning-self [] = refl
beginning-self (a ∷ p) = rw (Eq-name.self a) (beginning-self p)

pub beginning-parent : (p : Path) → beginning (parent p) p ≡ true
beginning-parent [] = refl
beginning-parent (a ∷ []) = refl
beginning-parent (a ∷ b ∷ p) = rw (Eq-name.self a) (beginning-parent (b ∷ p))
