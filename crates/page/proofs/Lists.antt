-- Laws of `part` and `put_at` on any list, and what a copy or a lent part leaves, in their words.
use Rattle.std.proofs.Common.{◌≡◌, ℕ, zero, suc, ◌+◌, ◌-◌, ◌*◌, ◌<◌, ◌≤◌, ◌⊎◌, List, [], ◌∷◌, ◌++◌, length, get_or, take, drop, set, sym, refl, ap, ◌∙◌, ap₂, inl, inr, ⊎_elim, append_assoc, append-nil, suc-le-suc, zero-le, le_trans, arith, lit<, length-append, length-drop, take-append-drop, drop_of_length-le, length-take-le, get_or-drop, take_all, get_or-take, take-take, drop-drop, take_at, ext_get_or, drop_at}
use native.Mathlib.Decide.{dec_lt}
use lib.ListN.{get_or-append, get_or-eq_default}
use lib.Seq.{take-append_seam, drop-append_seam, sets-eq}
use borrow.Rule.Slice.PartMut.{put_mid, Post-is}
use Rattle.page.specs.Page.{part, put_at}

pub below_or_not : (a b : ℕ) → (a < b) ⊎ (b ≤ a)
below_or_not a b = go (dec_lt a b)
  where
    go : Dec (a < b) → (a < b) ⊎ (b ≤ a)
    go (yes h) = inl h
    go (no h) = inr (omega arith)

-- ---- parts
pub length_part : (l : List ℕ) (a n : ℕ) → a + n ≤ length l → length (part l a n) ≡ n
length_part l a n h = length-take-le n (drop a l) (simp length-drop (omega arith))

-- a part that is lent from a to e
pub lent-part : (l : List ℕ) (a n : ℕ) → take (a + n - a) (drop a l) ≡ part l a n
lent-part l a n = ap (λ (k : ℕ). take k (drop a l)) (width a n)
  where
    width : (a n : ℕ) → a + n - a ≡ n
    width a n = omega arith

pub part-take : (l : List ℕ) (m n k : ℕ) → m + n ≤ k → part (take k l) m n ≡ part l m n
part-take l zero n k h = take-take n k l (omega arith)
part-take l (suc m) n zero h = let z : n ≡ 0 = omega arith in rw z
part-take [] (suc m) n (suc k) h = refl
part-take (x ∷ l) (suc m) n (suc k) h = part-take l m n k (omega arith)

-- a part of a part
pub part-part : (l : List ℕ) (a n b m : ℕ) → b + m ≤ n → part (part l a n) b m ≡ part l (a + b) m
part-part l a n b m h = part-take (drop a l) b m n h ∙ ap (take m) (drop-drop b a l)

pub get_d_part : (l : List ℕ) (a n i : ℕ) → i < n → get_or (part l a n) i 0 ≡ get_or l (a + i) 0
get_d_part l a n i h = get_or-take n (drop a l) i 0 h ∙ get_or-drop a l i 0

pub part_same : (l m : List ℕ) (a n : ℕ) → length l ≡ length m → a + n ≤ length l
    → ((i : ℕ) → a ≤ i → i < a + n → get_or l i 0 ≡ get_or m i 0) → part l a n ≡ part m a n
part_same l m a n e h f =
    let p = length_part l a n h in
    let q = length_part m a n (omega arith) in
    ext_get_or 0 (part l a n) (part m a n) (p ∙ sym q)
    (λ i hi.
    let j : i < n = omega (arith, p) in
    get_d_part l a n i j ∙ f (a + i) (omega arith) (omega arith) ∙ sym (get_d_part m a n i j))

-- a part of bytes is bytes
pub part_bytes : (l : List ℕ) (a n : ℕ) → ((i : ℕ) → get_or l i 0 < 256) → (i : ℕ) → get_or (part l a n) i 0 < 256
part_bytes l a n h i =
    ⊎_elim (λ (k : i < n). rw (get_d_part l a n i k) (h (a + i)))
    (λ (k : n ≤ i). rw (get_or-eq_default (part l a n) 0 (le_trans (at_most n (drop a l)) k)) (lit< tt))
    (below_or_not i n)
  where
    at_most : (n : ℕ) (l : List ℕ) → length (take n l) ≤ n
    at_most zero l = zero-le
    at_most (suc n) [] = zero-le
    at_most (suc n) (x ∷ l) = suc-le-suc (at_most n l)

-- so are two lists of bytes, joined
pub append-bytes : (l m : List ℕ) → ((i : ℕ) → get_or l i 0 < 256) → ((i : ℕ) → get_or m i 0 < 256) → (i : ℕ) → get_or (l ++ m) i 0 < 256
append-bytes [] m h k i = k i
append-bytes (x ∷ l) m h k zero = h zero
append-bytes (x ∷ l) m h k (suc i) = append-bytes l m (λ j. h (suc j)) k i

-- and a list of bytes with a byte stored
pub set-bytes : (l : List ℕ) (n v : ℕ) → v < 256 → ((i : ℕ) → get_or l i 0 < 256) → (i : ℕ) → get_or (set l n v) i 0 < 256
set-bytes [] n v hv h i = h i
set-bytes (x ∷ l) zero v hv h zero = hv
set-bytes (x ∷ l) zero v hv h (suc i) = h (suc i)
set-bytes (x ∷ l) (suc n) v hv h zero = h zero
set-bytes (x ∷ l) (suc n) v hv h (suc i) = set-bytes l n v hv (λ j. h (suc j)) i

-- ---- a list with a part replaced
module _ (l : List ℕ) (a : ℕ) (s : List ℕ) (h : a + length s ≤ length l) where
  front : length (take a l) ≡ a
  front = length-take-le a l (omega arith)

  pub length-put-at : length (put_at l a s) ≡ length l
  length-put-at = simp (length-append, length-drop) (omega (arith, front))

  after : drop (a + length s) (put_at l a s) ≡ drop (a + length s) l
  after =
      sym (drop-drop (length s) a (put_at l a s))
      ∙ ap (drop (length s)) (drop_at (take a l) (s ++ drop (a + length s) l) a front) ∙ drop-append_seam s (drop (a + length s) l)

  pub put_same : part (put_at l a s) a (length s) ≡ s
  put_same = ap (take (length s)) (drop_at (take a l) (s ++ drop (a + length s) l) a front) ∙ take-append_seam s (drop (a + length s) l)

  pub get_or-put-left : (i : ℕ) → i < a → get_or (put_at l a s) i 0 ≡ get_or l i 0
  get_or-put-left i k = get_or-append (take a l) (s ++ drop (a + length s) l) 0 i (omega (arith, front)) ∙ get_or-take a l i 0 k

  pub get_or-put-right : (i : ℕ) → a + length s ≤ i → get_or (put_at l a s) i 0 ≡ get_or l i 0
  get_or-put-right i k =
      let j = i - (a + length s) in
      let e : a + length s + j ≡ i = omega arith in
      ap (λ (n : ℕ). get_or (put_at l a s) n 0) (sym e) ∙ sym (get_or-drop (a + length s) (put_at l a s) j 0) ∙ ap (λ (t : List ℕ). get_or t j 0) after
      ∙ get_or-drop (a + length s) l j 0 ∙ ap (λ (n : ℕ). get_or l n 0) e

  pub get_or-put-in : (i : ℕ) → i < length s → get_or (put_at l a s) (a + i) 0 ≡ get_or s i 0
  get_or-put-in i k = sym (get_d_part (put_at l a s) a (length s) i k) ∙ ap (λ (t : List ℕ). get_or t i 0) put_same

  pub part-put-apart : (b n : ℕ) → b + n ≤ length l → (b + n ≤ a) ⊎ (a + length s ≤ b) → part (put_at l a s) b n ≡ part l b n
  part-put-apart b n k side =
      part_same (put_at l a s) l b n length-put-at (omega (arith, length-put-at))
      (λ i x y.
      ⊎_elim (λ (z : b + n ≤ a). get_or-put-left i (omega arith)) (λ (z : a + length s ≤ b). get_or-put-right i (omega arith)) side)

-- what stands right after the new bytes may be put with them
pub put-with-next : (l : List ℕ) (a : ℕ) (s : List ℕ) (n : ℕ) → a + length s + n ≤ length l → put_at l a (s ++ part l (a + length s) n) ≡ put_at l a s
put-with-next l a s n h =
    let b = a + length s in
    let e : a + length (s ++ part l b n) ≡ b + n = ap (λ (k : ℕ). a + k) (length-append s (part l b n)) ∙ omega (arith, length_part l b n h) in
    ap (λ (t : List ℕ). take a l ++ t)
    (append_assoc s (part l b n) (drop (a + length (s ++ part l b n)) l)
    ∙ ap (λ (t : List ℕ). s ++ t)
    (ap (λ (k : ℕ). part l b n ++ drop k l) e ∙ ap (λ (t : List ℕ). part l b n ++ t) (sym (drop-drop n b l)) ∙ take-append-drop n (drop b l)))

-- s is put, and t right after it
pub put-append : (l : List ℕ) (a : ℕ) (s t : List ℕ) (b : ℕ) → a + length s ≡ b → b + length t ≤ length l
    → put_at (put_at l a s) b t ≡ put_at l a (s ++ t)
put-append l a s t b e h =
    let r = drop (a + length s) l in
    let n : length (take a l ++ s) ≡ b = length-append (take a l) s ∙ omega (arith, front l a s (omega arith)) in
    let m : b + length t ≡ a + length (s ++ t) = omega (arith, length-append s t) in
    ap₂ (λ (x y : List ℕ). x ++ (t ++ y)) (ap (take b) (sym (append_assoc (take a l) s r)) ∙ take_at (take a l ++ s) r b n)
    (sym (drop-drop (length t) b (put_at l a s)) ∙ ap (λ (k : ℕ). drop (length t) (drop k (put_at l a s))) (sym e)
    ∙ ap (drop (length t)) (after l a s (omega arith) ∙ ap (λ (k : ℕ). drop k l) e) ∙ drop-drop (length t) b l)
    ∙ append_assoc (take a l) s (t ++ drop (b + length t) l)
    ∙ ap (λ (x : List ℕ). take a l ++ x) (sym (append_assoc s t (drop (b + length t) l)))
    ∙ ap (λ (k : ℕ). take a l ++ ((s ++ t) ++ drop k l)) m

-- four parts of n put in a row after s, which stands at the beginning
pub put_four : (l s x0 x1 x2 x3 l0 l1 l2 l3 l4 : List ℕ) (a n : ℕ) → a + 4 * n ≤ length l
    → length s ≡ a → length x0 ≡ n → length x1 ≡ n → length x2 ≡ n → length x3 ≡ n
    → l0 ≡ put_at l 0 s → l1 ≡ put_at l0 (a + n * 0) x0 → l2 ≡ put_at l1 (a + n * 1) x1 → l3 ≡ put_at l2 (a + n * 2) x2 → l4 ≡ put_at l3 (a + n * 3) x3
    → l4 ≡ s ++ (x0 ++ (x1 ++ (x2 ++ (x3 ++ drop (a + 4 * n) l))))
put_four l s x0 x1 x2 x3 l0 l1 l2 l3 l4 a n h hs h0 h1 h2 h3 e e0 e1 e2 e3 =
    let m0 = length-append s x0 in
    let m1 = length-append (s ++ x0) x1 in
    let m2 = length-append ((s ++ x0) ++ x1) x2 in
    let m3 = length-append (((s ++ x0) ++ x1) ++ x2) x3 in
    let d : 0 + length ((((s ++ x0) ++ x1) ++ x2) ++ x3) ≡ a + 4 * n = omega arith in
    let f0 : l1 ≡ put_at l 0 (s ++ x0) = e0 ∙ ap (λ (t : List ℕ). put_at t (a + n * 0) x0) e ∙ put-append l 0 s x0 (a + n * 0) (omega arith) (omega arith) in
    let f1 : l2 ≡ put_at l 0 ((s ++ x0) ++ x1) =
    e1 ∙ ap (λ (t : List ℕ). put_at t (a + n * 1) x1) f0 ∙ put-append l 0 (s ++ x0) x1 (a + n * 1) (omega arith) (omega arith) in
    let f2 : l3 ≡ put_at l 0 (((s ++ x0) ++ x1) ++ x2) =
    e2 ∙ ap (λ (t : List ℕ). put_at t (a + n * 2) x2) f1 ∙ put-append l 0 ((s ++ x0) ++ x1) x2 (a + n * 2) (omega arith) (omega arith) in
    e3 ∙ ap (λ (t : List ℕ). put_at t (a + n * 3) x3) f2 ∙ put-append l 0 (((s ++ x0) ++ x1) ++ x2) x3 (a + n * 3) (omega arith) (omega arith)
    ∙ ap (λ (k : ℕ). ((((s ++ x0) ++ x1) ++ x2) ++ x3) ++ drop k l) d ∙ simp append_assoc

-- two parts that do not meet may be put in either order
pub put-commute : (l : List ℕ) (a : ℕ) (s : List ℕ) (b : ℕ) (t : List ℕ) → a + length s ≤ b → b + length t ≤ length l
    → put_at (put_at l a s) b t ≡ put_at (put_at l b t) a s
put-commute l a s b t h k =
    let n = length-put-at l a s (omega arith) in
    let m = length-put-at l b t k in
    let x = length-put-at (put_at l a s) b t (omega (arith, n)) in
    let y = length-put-at (put_at l b t) a s (omega (arith, m)) in
    ext_get_or 0 (put_at (put_at l a s) b t) (put_at (put_at l b t) a s) (x ∙ n ∙ sym (y ∙ m)) (λ i _. go i n m)
  where
    go : (i : ℕ) → length (put_at l a s) ≡ length l → length (put_at l b t) ≡ length l → get_or (put_at (put_at l a s) b t) i 0 ≡ get_or (put_at (put_at l b t) a s) i 0
    go i n m =
        ⊎_elim
        (λ (z : i < b).
        get_or-put-left (put_at l a s) b t (omega (arith, n)) i z
        ∙ ⊎_elim
        (λ (w : i < a). get_or-put-left l a s (omega arith) i w ∙ sym (get_or-put-left (put_at l b t) a s (omega (arith, m)) i w ∙ get_or-put-left l b t k i z))
        (λ (w : a ≤ i).
        ⊎_elim
        (λ (v : i - a < length s).
        let e : a + (i - a) ≡ i = omega arith in
        ap (λ (j : ℕ). get_or (put_at l a s) j 0) (sym e) ∙ get_or-put-in l a s (omega arith) (i - a) v
        ∙ sym (ap (λ (j : ℕ). get_or (put_at (put_at l b t) a s) j 0) (sym e) ∙ get_or-put-in (put_at l b t) a s (omega (arith, m)) (i - a) v))
        (λ (v : length s ≤ i - a).
        get_or-put-right l a s (omega arith) i (omega arith) ∙ sym (get_or-put-right (put_at l b t) a s (omega (arith, m)) i (omega arith) ∙ get_or-put-left l b t k i z))
        (below_or_not (i - a) (length s)))
        (below_or_not i a))
        (λ (z : b ≤ i).
        ⊎_elim
        (λ (v : i - b < length t).
        let e : b + (i - b) ≡ i = omega arith in
        ap (λ (j : ℕ). get_or (put_at (put_at l a s) b t) j 0) (sym e) ∙ get_or-put-in (put_at l a s) b t (omega (arith, n)) (i - b) v
        ∙ sym (get_or-put-right (put_at l b t) a s (omega (arith, m)) i (omega arith) ∙ ap (λ (j : ℕ). get_or (put_at l b t) j 0) (sym e) ∙ get_or-put-in l b t k (i - b) v))
        (λ (v : length t ≤ i - b).
        get_or-put-right (put_at l a s) b t (omega (arith, n)) i (omega arith) ∙ get_or-put-right l a s (omega arith) i (omega arith)
        ∙ sym (get_or-put-right (put_at l b t) a s (omega (arith, m)) i (omega arith) ∙ get_or-put-right l b t k i (omega arith)))
        (below_or_not (i - b) (length t)))
        (below_or_not i b)

-- ---- what code leaves
-- a lent part comes back
pub lent_back : (l : List ℕ) (a n : ℕ) (s : List ℕ) → length s ≡ n → put_mid a (a + n - a) l s ≡ put_at l a s
lent_back l a n s e = ap (λ (t : List ℕ). take a l ++ (s ++ t)) (Post-is a (a + n) l (omega arith)) ∙ ap (λ (k : ℕ). take a l ++ (s ++ drop (a + k) l)) (sym e)

-- a copy over something as long
pub copied : (s d : List ℕ) → length d ≡ length s → take (length s) s ++ drop (length s) d ≡ s
copied s d e =
    ap₂ ◌++◌ (take_all (length s) s (omega arith)) (drop_of_length-le d {i = length s} (omega arith)) ∙ append-nil s

-- three stores in a row
pub stored : (l : List ℕ) (a x y z : ℕ) → a + 3 ≤ length l → set (set (set l a x) (a + 1) y) (a + 2) z ≡ put_at l a (x ∷ y ∷ z ∷ [])
stored l a x y z h =
    rw (← one a, ← two a) (sets-eq (x ∷ y ∷ z ∷ []) l a h ∙ append_assoc (take a l) (x ∷ y ∷ z ∷ []) (drop (a + 3) l))
  where
    one : (a : ℕ) → suc a ≡ a + 1
    one a = omega arith

    two : (a : ℕ) → suc (suc a) ≡ a + 2
    two a = omega arith
