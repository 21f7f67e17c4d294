-- An entry's fields as slices of its page, and what a patched page then holds.
use Prim.Native.Nat.{◌+◌, ◌-◌, ◌/◌, ◌<◌, ◌^◌, ◌≤◌, suc, zero, ℕ}
use mathlib.Core.List.{List, [], ◌++◌, ◌∷◌, append_assoc}
use mathlib.Core.Logic.{◌⊎◌, inl, inr}
use mathlib.Core.Path.{◌∙◌, ◌≡◌, ap, refl, sym}
use native.Mathlib.Omega.{arith}
use lib.ListN.{drop, length, set, take}
use lib.Seq.{drop_at, drop-set-add, drop-set-lt, length-take-le, sets, sets-eq, take_at, take-set-le}
use Rattle.model.specs.Bytes.{little, little_bytes, slice}

pub length-bytes : (w v : ℕ) → length (little_bytes w v) ≡ w
length-bytes zero v = refl
length-bytes (suc w) v = ap suc (length-bytes w (v / 256))

pub little-bytes : (w v : ℕ) → v < 256 ^ w → little (little_bytes w v) ≡ v
little-bytes zero v h = omega arith
little-bytes (suc w) v h = let i = little-bytes w (v / 256) (omega arith) in omega arith

slice_set : (b : List ℕ) (a n i v : ℕ) → (i < a) ⊎ (a + n ≤ i) → slice (set b i v) a n ≡ slice b a n
slice_set b a n i v (inl h) = ap (take n) (drop-set-lt a b i v h)
slice_set b a n i v (inr h) =
    let e : a + (i - a) ≡ i = omega arith in
    ap (take n) (ap (λ j. drop a (set b j v)) (sym e) ∙ drop-set-add a b (i - a) v) ∙ take-set-le n (drop a b) (i - a) v (omega arith)

-- other bytes stay
pub slice-other : (b : List ℕ) (a n i : ℕ) (ws : List ℕ) → (i + length ws ≤ a) ⊎ (a + n ≤ i) → slice (sets b i ws) a n ≡ slice b a n
slice-other b a n i [] h = refl
slice-other b a n i (w ∷ ws) (inl h) = slice-other (set b i w) a n (suc i) ws (inl (omega arith)) ∙ slice_set b a n i w (inl (omega arith))
slice-other b a n i (w ∷ ws) (inr h) = slice-other (set b i w) a n (suc i) ws (inr (omega arith)) ∙ slice_set b a n i w (inr h)

-- the bytes written
pub slice-same : (b : List ℕ) (i : ℕ) (ws : List ℕ) → i + length ws ≤ length b → slice (sets b i ws) i (length ws) ≡ ws
slice-same b i ws h =
    ap (λ l. slice l i (length ws)) (sets-eq ws b i h ∙ append_assoc (take i b) ws (drop (i + length ws) b)) ∙ ap (take (length ws)) (drop_at (take i b) (ws ++ drop (i + length ws) b) i (length-take-le i b (omega arith))) ∙ take_at ws (drop (i + length ws) b) (length ws) refl
