-- A text that is compared, and a word in the first or the second of two joined pages, or past them.
use Rattle.std.proofs.Common.{◌≡◌, ℕ, ◌+◌, ◌-◌, ◌*◌, ◌<◌, ◌≤◌, Bool, true, false, ◌&&◌, eqb, List, [], ◌∷◌, ◌++◌, length, take, drop, sym, refl, ap, ap₂, ◌∙◌, ⊎_elim, arith, length-append, length-drop}
use lib.Seq.{take-append-le, drop-append-le, drop-append-add}
use Rattle.fields.proofs.NumberLaws.{little-past}
use Rattle.model.specs.Bytes.{little, word}
use Rattle.model.specs.Names.{same_name}
use Rattle.model.proofs.Equality.{bool, tf, Eq-name, Eq-number, comm}
use Rattle.std.specs.Cmp.Lexicographic.{pointwise}

-- a bool that is true just where the texts are equal
pub same_text : (u v : List ℕ) (r : Bool) → (r ≡ true → u ≡ v) → (u ≡ v → r ≡ true) → r ≡ same_name u v
same_text u v true f g = sym (ap (same_name u) (sym (f refl)) ∙ Eq-name.self u)
same_text u v false f g = ⊎_elim (λ (t : same_name u v ≡ true). tf (g (Eq-name.sound u v t)) refl) sym (bool (same_name u v))

-- texts are compared from either side
pub same-bytes : (u v : List ℕ) → pointwise eqb u v ≡ same_name v u
same-bytes [] [] = refl
same-bytes [] (b ∷ v) = refl
same-bytes (a ∷ u) [] = refl
same-bytes (a ∷ u) (b ∷ v) = ap₂ (λ (x y : Bool). x && y) (comm Eq-number a b) (same-bytes u v)

module _ (first second : List ℕ) (i : ℕ) (long : length first ≡ 512) where
  pub word_first : i < 128 → word first (4 * i) ≡ word (first ++ second) (4 * i)
  word_first h =
      let size : 4 ≤ length (drop (4 * i) first) = simp length-drop (omega arith) in
      sym (ap (λ (l : List ℕ). little (take 4 l)) (drop-append-le (4 * i) first second (omega arith))
      ∙ ap little (take-append-le 4 (drop (4 * i) first) second size))

  pub word-second : 128 ≤ i → word second (4 * (i - 128)) ≡ word (first ++ second) (4 * i)
  word-second h =
      let at : length first + 4 * (i - 128) ≡ 4 * i = omega arith in
      sym (ap (λ (l : List ℕ). little (take 4 l)) (rw at at (drop-append-add first second (4 * (i - 128)))))

  pub word-past : length second ≡ 512 → 256 ≤ i → 0 ≡ word (first ++ second) (4 * i)
  word-past size h = sym (little-past (first ++ second) (4 * i) 4 (omega (arith, length-append first second)))
