-- The values of a function in order: how many, which stands where, and a list whose front they replace one by one.
use Rattle.std.proofs.Common.{◌≡◌, ℕ, zero, suc, ◌+◌, ◌<◌, ◌≤◌, true, false, ltb, List, [], ◌∷◌, ◌++◌, length, get_or, drop, set, sym, refl, ap, ◌∙◌, ⊎_elim, append-nil, add-one, arith, length-append, length-drop, drop_of_length-le, drop-cons, ltb-false, ltb-true}
use Rattle.std.proofs.lemmas.List.FromFn.{fill_by_all}
use Rattle.std.specs.Array.{IsFromFnResult, IsFromFnResultFrom}
use Rattle.std.specs.Fn.{Called}
use denote.Param.Members.{Mut}
use native.Mathlib.Decide.{ℕ_discrete}
use lib.ListN.{get_or-append}
use lib.Seq.{get_or_at, set_at, append_snoc}
use Rattle.model.proofs.Equality.{bool}
use Rattle.layout.specs.Superblock.{up_to}

pub length-up_to : (f : ℕ → ℕ) (n : ℕ) → length (up_to f n) ≡ n
unfolding up_to
length-up_to f zero = refl
length-up_to f (suc n) = simp (length-append, length-up_to f n) (omega arith)

pub get_or-up_to : (f : ℕ → ℕ) (n i : ℕ) → i < n → get_or (up_to f n) i 0 ≡ f i
unfolding up_to
get_or-up_to f zero i h = absurd (omega arith)
get_or-up_to f (suc n) i h =
    ⊎_elim (λ (t : ltb i n ≡ true). let l = ltb-true i n t in get_or-append (up_to f n) (f n ∷ []) 0 i (omega (arith, length-up_to f n)) ∙ get_or-up_to f n i l)
    (λ (t : ltb i n ≡ false). let e : i ≡ n = omega (arith, ltb-false i n t) in rw e (get_or_at (up_to f n) (f n) [] 0 n (length-up_to f n)))
    (bool (ltb i n))

-- the one list that is as long and has these values
pub up_to-is : (f : ℕ → ℕ) (xs : List ℕ) (n : ℕ) → length xs ≡ n → ((i : ℕ) → i < n → get_or xs i 0 ≡ f i) → xs ≡ up_to f n
up_to-is f xs n long each = fill_by_all f xs n 0 long each ∙ sym (fill_by_all f (up_to f n) n 0 (length-up_to f n) (get_or-up_to f n))

-- what `array::from_fn` makes of a closure that stays as it is and gives h of each number
made_from : {F : Type 0} (g : Mut F (ℕ × Unit {0}) ℕ) (f : F) (h : ℕ → ℕ) (ys : List ℕ) → ((i y : ℕ) (q : F) → Called g f (i, tt) y q → (q ≡ f) × (y ≡ h i)) → (n i : ℕ)
    → IsFromFnResultFrom g f ys i n → (k : ℕ) → i ≤ k → k < i + n → get_or ys k 0 ≡ h k
made_from g f h ys gives zero i each k low high = absurd (omega arith)
made_from g f h ys gives (suc n) i (q, y, is, called, rest) k low high =
    let kept = gives i y q called in
    here (ℕ_discrete k i) kept.1 (λ e. made_from g f h ys gives n (i + 1) (rw kept.0 at rest) k e (omega arith))
  where
    here : Dec (k ≡ i) → y ≡ h i → (i + 1 ≤ k → get_or ys k 0 ≡ h k) → get_or ys k 0 ≡ h k
    here (yes e) value later = rw e (is.1 0 ∙ value)
    here (no e) value later = later (omega arith)

pub made : {F : Type 0} (g : Mut F (ℕ × Unit {0}) ℕ) (f : F) (h : ℕ → ℕ) (ys : List ℕ) (n : ℕ) → IsFromFnResult g f ys n
    → ((i y : ℕ) (q : F) → Called g f (i, tt) y q → (q ≡ f) × (y ≡ h i)) → ys ≡ up_to h n
made g f h ys n result gives = up_to-is h ys n result.long (λ k below. made_from g f h ys gives n 0 result.each k (omega arith) (omega arith))

pub drop-up_to : (f : ℕ → ℕ) (n i : ℕ) → i < n → drop i (up_to f n) ≡ f i ∷ drop (suc i) (up_to f n)
drop-up_to f n i h =
    drop-cons (up_to f n) i 0 (omega (arith, length-up_to f n)) ∙ ap (λ (x : ℕ). x ∷ drop (suc i) (up_to f n)) (get_or-up_to f n i h)

-- the list with its first n elements replaced
abbrev pub filled : (ℕ → ℕ) → List ℕ → ℕ → List ℕ
filled f list n = up_to f n ++ drop n list

pub filled_none : (f : ℕ → ℕ) (list : List ℕ) → filled f list 0 ≡ list
unfolding up_to
filled_none f list = refl

pub filled_more : (f : ℕ → ℕ) (list : List ℕ) (n : ℕ) → n < length list → set (filled f list n) n (f n) ≡ filled f list (n + 1)
unfolding up_to
filled_more f list n h =
    rw (drop-cons list n 0 h, set_at (up_to f n) (get_or list n 0) (drop (suc n) list) (f n) n (length-up_to f n), add-one n)
    (sym (append_snoc (up_to f n) (f n) (drop (suc n) list)))

pub length-filled : (f : ℕ → ℕ) (list : List ℕ) (n : ℕ) → n ≤ length list → length (filled f list n) ≡ length list
length-filled f list n h = simp (length-append, length-up_to f n, length-drop) (omega arith)

pub filled-whole : (f : ℕ → ℕ) (list : List ℕ) (n : ℕ) → length list ≡ n → filled f list n ≡ up_to f n
filled-whole f list n h = rw (drop_of_length-le list {i = n} (omega arith)) (append-nil (up_to f n))
