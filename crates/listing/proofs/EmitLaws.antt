-- Writing one text after another, and the digits of a number.
use Prim.Native.Nat.{ℕ, suc, zero, ◌%◌, ◌+◌, ◌/◌, ◌<◌, ◌≤◌, min}
use mathlib.Core.Bool.{Bool, false, true}
use mathlib.Core.List.{List, [], ◌++◌, ◌∷◌, append-nil}
use mathlib.Core.Path.{◌∙◌, ◌≡◌, ap, refl, sym}
use native.Mathlib.Nat.{add-zero}
use native.Mathlib.Numerals.{add-one}
use native.Mathlib.Omega.{arith}
use borrow.Author.Tests.{eq-eqb, le-ltb, leb-false, leb-true, lt-ltb, ne_eqb}
use lib.Dec.{leb}
use lib.ListN.{drop, get_or, length, length-append, set, take}
use lib.Seq.{append_snoc, length-sets, length-take-le, set-append_seam, set_out, sets, sets-eq, take_at, take-length, take-nil, take-suc}
use Rattle.listing.specs.Emit.{Writes}
use Rattle.listing.specs.Sizes.{most}
use Rattle.listing.specs.declared.emit.Text.{Text}
use Rattle.listing.specs.Text.{decimal_of, digits_of, fitted, page_text, space}

sets-append : (a b l : List ℕ) (i : ℕ) → sets l i (a ++ b) ≡ sets (sets l i a) (i + length a) b
sets-append [] b l i = rw (add-zero i)
sets-append (x ∷ a) b l i = sets-append a b (set l i x) (suc i) ∙ ap (λ (n : ℕ). sets (sets (set l i x) (suc i) a) n b) (omega arith)

sets-out : (s l : List ℕ) (i : ℕ) → length l ≤ i → sets l i s ≡ l
sets-out [] l i h = refl
sets-out (x ∷ s) l i h = rw (set_out l i x h) (sets-out s l (suc i) (omega arith))

-- beyond the buffer all places are the same
sets-most : (s l : List ℕ) (p : ℕ) → length l ≤ most → sets l (min p most) s ≡ sets l p s
sets-most s l p h = go (leb p most) refl
  where
    go : (b : Bool) → leb p most ≡ b → sets l (min p most) s ≡ sets l p s
    go true e = let f = leb-true p most e in let m : min p most ≡ p = omega arith in rw m
    go false e = let f = leb-false p most e in sets-out s l (min p most) (omega arith) ∙ sym (sets-out s l p (omega arith))

pub writes_none : (a : Text) → Writes a [] a
writes_none a = record { same_reference = refl; out = refl; place = let h = a.counted.0 in omega arith }

module _ {a b : Text} {s : List ℕ} where
  pub writes-append : {c : Text} {t : List ℕ} → Writes a s b → Writes b t c → Writes a (s ++ t) c
  writes-append {c} {t} v w =
      record {
        same_reference = w.same_reference ∙ v.same_reference;
        out = w.out ∙ rw (v.out, v.place) (sets-most t (sets a.out.now a.at s) (a.at + length s) (rw (length-sets a.out.now a.at s) a.counted.1)) ∙ sym (sets-append s t a.out.now a.at);
        place = w.place ∙ rw (length-append s t, v.place) (omega arith);
      }

  pub writes-length : Writes a s b → length b.out.now ≡ length a.out.now
  writes-length w = ap length w.out ∙ length-sets a.out.now a.at s

  -- the same bytes, said otherwise
  pub writes_as : {t : List ℕ} → s ≡ t → Writes a s b → Writes a t b
  writes_as e w = rw e at w

-- a turn of a copy, and its end
module _ (s : List ℕ) (i : ℕ) {a b : Text} where
  pub writes-more : {c : Text} → i < length s → Writes a (take i s) b → Writes b (get_or s i 0 ∷ []) c → Writes a (take (i + 1) s) c
  writes-more l v w = writes_as (sym (take-suc s i 0 l) ∙ ap (λ (n : ℕ). take n s) (sym (add-one i))) (writes-append v w)

  pub writes-whole : i ≡ length s → Writes a (take i s) b → Writes a s b
  writes-whole e w = writes_as (ap (λ (n : ℕ). take n s) e ∙ take-length s) w

-- what stands in a buffer that had room for the bytes
pub writes-fits : {a b : Text} {s : List ℕ} → a.at + length s ≤ length a.out.now → Writes a s b
    → (take b.at b.out.now ≡ take a.at a.out.now ++ s) × (b.at ≡ a.at + length s)
writes-fits {a} {b} {s} h w = (rw (w.out, e, sets-eq s a.out.now a.at h) (take_at (take a.at a.out.now ++ s) (drop (a.at + length s) a.out.now) (a.at + length s) l), e)
  where
    e : b.at ≡ a.at + length s
    e = omega (arith, a.counted.1, w.place)

    l : length (take a.at a.out.now ++ s) ≡ a.at + length s
    l = rw (length-append (take a.at a.out.now) s, length-take-le a.at a.out.now (omega arith))

-- a text from the start of a part on: what fits, and behind a shorter text what stood there
sets-fitted : (front l s : List ℕ) → sets (front ++ l) (length front) s ≡ front ++ fitted l s
sets-fitted front l [] = rw (take-nil {A = ℕ} (length l))
sets-fitted front [] (x ∷ s) = sets-out (x ∷ s) (front ++ []) (length front) (rw (append-nil front) (omega arith))
sets-fitted front (y ∷ l) (x ∷ s) =
    let longer : length (front ++ (x ∷ [])) ≡ suc (length front) = rw (length-append front (x ∷ [])) (omega arith) in
    let rest = sets-fitted (front ++ (x ∷ [])) l s in
    rw (set-append_seam front y l x) (rw (append_snoc front x l, append_snoc front x (fitted l s), longer) at rest)

-- what a whole text from the start of a buffer on leaves
pub writes-listing : {a b : Text} {s : List ℕ} → length s ≤ most → a.at ≡ 0 → Writes a s b
    → (b.at ≡ length s) × (b.out.now ≡ fitted a.out.now s) × (a.out.ghost_name ≡ b.out.ghost_name)
writes-listing {a} {b} {s} h e w = (omega (arith, w.place), w.out ∙ rw e (sets-fitted [] a.out.now s), sym w.same_reference)

-- ---- the digits of a number

module _ (n : ℕ) where
  last-digit : n < 10 → n % 10 ≡ n
  last-digit l = omega arith

  pub digits-none : (k : ℕ) → k ≡ 0 → digits_of k n ≡ []
  digits-none k e = rw e (unfold digits_of in refl)

  pub digits-one : (k : ℕ) → 0 < k → n < 10 → digits_of k n ≡ (0x30 + n % 10) ∷ []
  digits-one zero h l = absurd (omega arith)
  digits-one (suc k) h l = unfold digits_of in rw (lt-ltb n 10 l, last-digit l)

  pub digits_more : (k j : ℕ) → k ≡ suc j → 10 ≤ n → digits_of k n ≡ digits_of j (n / 10) ++ ((0x30 + n % 10) ∷ [])
  digits_more k j e l = rw e (unfold digits_of in rw (le-ltb n 10 l))

-- ---- the page of a refusal

pub page-two : (number page : ℕ) → number ≡ 2 → space ++ decimal_of page ≡ page_text number page
page-two number page e = rw (eq-eqb number 2 e)

pub page-other : (number page : ℕ) → (number ≡ 2 → ⊥) → [] ≡ page_text number page
page-other number page e = rw (ne_eqb number 2 e)
