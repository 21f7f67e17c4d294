-- A name as the beginning of its field, its bytes judged one by one, and the model's test of names.
use Prim.Native.Nat.{◌+◌, ◌≤◌, ℕ}
use mathlib.Core.Bool.{Bool, ◌&&◌, ◌||◌, cond, false, not, true}
use mathlib.Core.List.{List, [], ◌∷◌}
use mathlib.Core.Path.{◌∙◌, ◌≡◌, ap, refl, sym}
use native.Mathlib.Omega.{arith}
use borrow.Author.Tests.{ltb-false, ltb-true}
use lib.Dec.{eqb, leb, ltb}
use lib.ListN.{length, length-take, take}
use Rattle.std.specs.List.{list_all, position_or_len}
use Rattle.std.specs.Option.{unwrap_or}
use Rattle.std.specs.Prelude.{None, Option, Some, position}
use Rattle.std.proofs.lemmas.List.Recursion.{is_position_or_len}
use Rattle.model.specs.Bytes.{before_zero}
use Rattle.model.proofs.Equality.{and_l, and_r}
use Rattle.model.specs.Names.{Name, good_name, legal_bytes}

-- a name is the beginning of its field, and no longer
pub name-in-field : (l : List ℕ) → take (length (before_zero l)) l ≡ before_zero l
name-in-field [] = refl
name-in-field (b ∷ l) = go (eqb b 0) (name-in-field l)
  where
    go : (z : Bool) → take (length (before_zero l)) l ≡ before_zero l → take (length (cond z [] (b ∷ before_zero l))) (b ∷ l) ≡ cond z [] (b ∷ before_zero l)
    go true e = refl
    go false e = ap (λ (s : List ℕ). b ∷ s) e

pub name-short : (l : List ℕ) → length (before_zero l) ≤ length l
name-short l = omega (arith, rw name-in-field at (length-take (length (before_zero l)) l))

-- it ends where the first zero stands, or with the field
zero-place : (l : List ℕ) → length (before_zero l) ≡ position_or_len (λ b. eqb b 0) l
zero-place = is_position_or_len (λ l. length (before_zero l)) (λ b. eqb b 0) refl (λ b l. go b l (eqb b 0))
  where
    go : (b : ℕ) (l : List ℕ) (z : Bool) → length (cond z [] (b ∷ before_zero l)) ≡ cond z 0 (1 + length (before_zero l))
    go b l true = refl
    go b l false = omega arith

pub name-end : (l : List ℕ) (r : Option ℕ) (n : ℕ) → n ≡ unwrap_or r (length l) → r ≡ position (λ b. eqb b 0) l → n ≡ length (before_zero l)
name-end l r n e f = go (position_or_len (λ b. eqb b 0) l) (zero-place l) (ltb (position_or_len (λ b. eqb b 0) l) (length l)) refl (e ∙ ap (λ r. unwrap_or r (length l)) f)
  where
    go : (p : ℕ) → length (before_zero l) ≡ p → (z : Bool) → ltb p (length l) ≡ z → n ≡ unwrap_or (cond z (Some p) None) (length l) → n ≡ length (before_zero l)
    go p h true k i = i ∙ sym h
    go p h false k i = omega (arith, name-short l, ltb-false p (length l) k)

-- the bytes of a name are legal where each is
pub all-legal : (l : List ℕ) → list_all (λ b. legal_bytes (b ∷ [])) l ≡ legal_bytes l
all-legal [] = refl
all-legal (b ∷ l) = rw (all-legal l) (go (leb 0x20 b && leb b 0x7E && not (eqb b 0x2A || eqb b 0x2F || eqb b 0x3F)))
  where
    go : (x : Bool) → (x && true && legal_bytes l) ≡ (x && legal_bytes l)
    go true = refl
    go false = refl

-- a good name has at most 31 bytes
pub good-short : (n : Name) → good_name n ≡ true → length n ≤ 31
good-short n h = let l = ltb-true (length n) 32 (and_r (ltb 0 (length n)) _ (and_l _ _ (and_l _ _ (and_l _ _ h)))) in omega arith
