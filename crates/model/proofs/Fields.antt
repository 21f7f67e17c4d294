-- Fields written into a page, and what is then read there. That two fields do not overlap is computed.
use Prim.Native.Nat.{◌+◌, ◌≤◌, ℕ}
use mathlib.Core.Bool.{Bool, ◌&&◌, ◌||◌, cond, false, true}
use mathlib.Core.List.{List, [], ◌∷◌}
use mathlib.Core.Logic.{◌⊎◌, inl, inr, ⊎_elim}
use mathlib.Core.Path.{◌∙◌, ◌≡◌, ap₂, refl, sym}
use native.Mathlib.Omega.{arith}
use lib.Dec.{eqb, leb, leb→le}
use lib.ListN.{length}
use lib.Seq.{length-sets}
use Rattle.model.specs.Bytes.{slice}
use Rattle.model.specs.Pages.{Field, fill}
use Rattle.model.proofs.Equality.{Eq-number, and_l, and_r, bool, to-T}
use Rattle.model.proofs.Slices.{slice-other, slice-same}

-- what is read at a, of n bytes; d where no field stands there
abbrev pub read : ℕ → ℕ → List Field → List ℕ → List ℕ
read a n [] d = d
read a n (f ∷ fs) d = cond (eqb f.from a && eqb f.count n) f.bytes (read a n fs d)

abbrev pub aside : ℕ → ℕ → Field → Bool
aside a n f = leb (f.from + f.count) a || leb (a + n) f.from

-- each field stands there or aside, and inside the page
abbrev pub clean : ℕ → ℕ → List Field → Bool
clean a n [] = true
clean a n (f ∷ fs) = ((eqb f.from a && eqb f.count n) || aside a n f) && (leb (f.from + f.count) 512 && clean a n fs)

abbrev pub Sized : List Field → Type 0
Sized [] = Unit {0}
Sized (f ∷ fs) = (length f.bytes ≡ f.count) × Sized fs

pub length-fill : (b : List ℕ) (fs : List Field) → length (fill b fs) ≡ length b
length-fill b [] = refl
length-fill b (f ∷ fs) = length-sets (fill b fs) f.from f.bytes ∙ length-fill b fs

or-two : (a b : Bool) → (a || b) ≡ true → (a ≡ true) ⊎ (b ≡ true)
or-two true b e = inl refl
or-two false b e = inr e

pub read-fill : (b : List ℕ) (a n : ℕ) (fs : List Field) → length b ≡ 512 → Sized fs → clean a n fs ≡ true → slice (fill b fs) a n ≡ read a n fs (slice b a n)
read-fill b a n [] h z c = refl
read-fill b a n (f ∷ fs) h z c =
    ⊎_elim stands (miss (λ k. read-fill b a n fs h z.1 k)) (bool (eqb f.from a && eqb f.count n))
  where
    t₁ : ((eqb f.from a && eqb f.count n) || aside a n f) ≡ true
    t₁ = and_l _ _ c

    t₂ : (leb (f.from + f.count) 512 && clean a n fs) ≡ true
    t₂ = and_r ((eqb f.from a && eqb f.count n) || aside a n f) _ c

    low : f.from + f.count ≤ 512
    low = leb→le (f.from + f.count) 512 (to-T {b = leb (f.from + f.count) 512} (and_l _ (clean a n fs) t₂))

    stands : (eqb f.from a && eqb f.count n) ≡ true → slice (fill b (f ∷ fs)) a n ≡ read a n (f ∷ fs) (slice b a n)
    stands e =
        let p : f.from ≡ a = Eq-number.sound _ _ (and_l _ _ e) in
        let q : f.count ≡ n = Eq-number.sound _ _ (and_r (eqb f.from a) _ e) in
        rw e (ap₂ (λ x m. slice (fill b (f ∷ fs)) x m) (sym p) (sym q ∙ sym z.0) ∙ slice-same (fill b fs) f.from f.bytes (omega (arith, z.0, length-fill b fs, low)))

    miss : (clean a n fs ≡ true → slice (fill b fs) a n ≡ read a n fs (slice b a n)) → (eqb f.from a && eqb f.count n) ≡ false → slice (fill b (f ∷ fs)) a n ≡ read a n (f ∷ fs) (slice b a n)
    miss ih e =
        rw e (slice-other (fill b fs) a n f.from f.bytes (side (or-two _ _ (rw e at t₁))) ∙ ih (and_r (leb (f.from + f.count) 512) _ t₂))
      where
        side : (leb (f.from + f.count) a ≡ true) ⊎ (leb (a + n) f.from ≡ true) → (f.from + length f.bytes ≤ a) ⊎ (a + n ≤ f.from)
        side (inl k) = inl (let l : f.from + f.count ≤ a = leb→le (f.from + f.count) a (to-T k) in omega (arith, z.0))
        side (inr k) = inr (leb→le _ _ (to-T k))
