-- A path's names as the parts that its slashes cut: how many there are and whether they are good, where each ends, and the name at a place.
use Prim.Native.Nat.{◌+◌, ◌-◌, ◌*◌, ◌<◌, ◌≤◌, suc, zero, ℕ}
use mathlib.Core.Bool.{Bool, ◌&&◌, and-false, cond, false, true}
use mathlib.Core.List.{List, [], ◌∷◌}
use mathlib.Core.Option as math
use mathlib.Core.Path.{◌∙◌, ◌≡◌, ap, refl, sym}
use native.Mathlib.Nat.{add-zero}
use native.Mathlib.Numerals.{add-one, sub-one}
use native.Mathlib.Omega.{arith}
use borrow.Author.Tests.{eq-eqb, le-leb, le-ltb, lt-leb, lt-ltb, ne_eqb}
use lib.Dec.{eqb, leb, leb-suc-suc, leb→le, ltb}
use lib.ListN.{drop, drop_of_length-le, get_or, length, length-drop, length-take, take}
use lib.Pointwise.{pointwise}
use lib.Seq.{drop-cons, drop-drop, take-nil}
use Rattle.std.specs.Bool.{then_some}
use Rattle.std.specs.List.{list_all, onto_first, slice_split}
use Rattle.std.specs.Option.{option_map, unwrap_or}
use Rattle.std.specs.Prelude.{None, Option, Some, slice_get}
use Rattle.std.proofs.Common.{Bor}
use Rattle.std.proofs.lemmas.Option.{unwrap_or-slice_get}
use Rattle.fields.specs.PathBytes.{name_at, on_first, parsed_of, path_of, split_names}
use Rattle.fields.proofs.NameLaws.{good-short}
use Rattle.model.proofs.Equality.{and_l, and_r, to-T}
use Rattle.model.specs.Holds.{deepest, most_names}
use Rattle.model.specs.Names.{Name, Path, good_name, good_names, good_path}

abbrev pub parts : List ℕ → Path
parts = slice_split (λ b. eqb b 0x2F)

pub names-parts : (l : List ℕ) → split_names l ≡ parts l
names-parts [] = refl
names-parts (b ∷ l) = rw (names-parts l) (ap (λ p. cond (eqb b 0x2F) ([] ∷ parts l) p) (go (parts l)))
  where
    go : (p : Path) → on_first b p ≡ onto_first b p
    go [] = refl
    go (n ∷ ns) = refl

good-parts : (p : Path) → good_names p ≡ list_all good_name p
good-parts [] = refl
good-parts (n ∷ p) = rw (good-parts p)

-- there is always a name between slashes
pub names-some : (l : List ℕ) → 0 < length (split_names l)
names-some [] = omega arith
names-some (b ∷ l) = go (eqb b 0x2F) (split_names l)
  where
    go : (z : Bool) (p : Path) → 0 < length (cond z ([] ∷ p) (on_first b p))
    go true p = omega arith
    go false [] = omega arith
    go false (n ∷ ns) = omega arith

-- the bytes of names, with a slash before each
abbrev bytes-of : Path → ℕ
bytes-of [] = 0
bytes-of (n ∷ p) = length n + 1 + bytes-of p

bytes-names : (l : List ℕ) → bytes-of (split_names l) ≡ length l + 1
bytes-names [] = refl
bytes-names (b ∷ l) = go (eqb b 0x2F) (split_names l) (names-some l) (bytes-names l)
  where
    go : (z : Bool) (p : Path) → 0 < length p → bytes-of p ≡ length l + 1 → bytes-of (cond z ([] ∷ p) (on_first b p)) ≡ length (b ∷ l) + 1
    go true p h e = omega (arith, e)
    go false [] h e = absurd (omega (arith, h))
    go false (n ∷ p) h e = omega (arith, e)

good-bytes : (p : Path) → good_names p ≡ true → bytes-of p ≤ 32 * length p
good-bytes [] h = omega arith
good-bytes (n ∷ p) h = omega (arith, good-short n (and_l (good_name n) (good_names p) h), good-bytes p (and_r (good_name n) (good_names p) h))

-- the first of the names between slashes
abbrev pub first_name : List ℕ → Name
first_name l = get_or (split_names l) 0 []

first-slash : (b : ℕ) (l : List ℕ) → b ≡ 0x2F → first_name (b ∷ l) ≡ []
first-slash b l e = rw (eq-eqb b 0x2F e)

first_byte : (b : ℕ) (l : List ℕ) → (b ≡ 0x2F → ⊥) → length (first_name (b ∷ l)) ≡ suc (length (first_name l))
first_byte b l e = rw (ne_eqb b 0x2F e) (go (split_names l))
  where
    go : (p : Path) → length (get_or (on_first b p) 0 []) ≡ suc (length (get_or p 0 []))
    go [] = refl
    go (n ∷ ns) = refl

-- one law for each way of a turn of the search for the slash
module _ (l : List ℕ) (end : ℕ) where
  pub end-slash : end < length l → get_or l end 0 ≡ 0x2F → end + length (first_name (drop end l)) ≡ end
  end-slash h e = rw (drop-cons l end 0 h, first-slash (get_or l end 0) (drop (suc end) l) e) (add-zero end)

  pub end_more : end < length l → (get_or l end 0 ≡ 0x2F → ⊥) → end + length (first_name (drop end l)) ≡ end + 1 + length (first_name (drop (end + 1) l))
  end_more h e = rw (drop-cons l end 0 h, add-one end) (omega (arith, first_byte (get_or l end 0) (drop (suc end) l) e))

  pub end-last : end ≡ length l → end + length (first_name (drop end l)) ≡ end
  end-last e = rw (drop_of_length-le l {i = end} (omega arith)) (add-zero end)

-- the bytes before a place, and the names after it
abbrev cut_at : List ℕ → ℕ → Path
cut_at l n = take n l ∷ cond (ltb n (length l)) (split_names (drop (suc n) l)) []

names-split : (l : List ℕ) → split_names l ≡ cut_at l (length (first_name l))
names-split [] = refl
names-split (b ∷ l) = go (eqb b 0x2F) (split_names l) (names-split l)
  where
    go : (z : Bool) (p : Path) → p ≡ cut_at l (length (get_or p 0 [])) → cond z ([] ∷ split_names l) (on_first b p) ≡ cut_at (b ∷ l) (length (get_or (cond z ([] ∷ split_names l) (on_first b p)) 0 []))
    go true p e = rw (lt-ltb 0 (suc (length l)) (omega arith))
    go false [] e = absurd (let z : ◌≡◌ {A = ℕ} 0 1 = cc in omega arith)
    go false (n ∷ ns) e = rw (leb-suc-suc (suc (length n)) (length l)) (ap (on_first b) e)

first-inside : (l : List ℕ) → length (first_name l) ≤ length l
first-inside l = omega (arith, length-take (length (first_name l)) l, ap (λ (p : Path). length (get_or p 0 [])) (names-split l))

-- what the end of a name says of the names from its beginning on
module _ (l : List ℕ) (from end : ℕ) (start : from ≤ length l) (ends : end ≡ from + length (first_name (drop from l))) where
  pub end-inside : end ≤ length l
  end-inside = omega (arith, first-inside (drop from l), length-drop from l)

  pub names-last : end ≡ length l → split_names (drop from l) ≡ take (end - from) (drop from l) ∷ []
  names-last h =
      let size : length (first_name (drop from l)) ≡ end - from = omega arith in
      names-split (drop from l) ∙ rw (size, le-ltb (end - from) (length (drop from l)) (rw (length-drop from l) (omega arith)))

  pub names_more : (end ≡ length l → ⊥) → split_names (drop from l) ≡ take (end - from) (drop from l) ∷ split_names (drop (end + 1) l)
  names_more h =
      let size : length (first_name (drop from l)) ≡ end - from = omega arith in
      let next : from + suc (end - from) ≡ end + 1 = omega arith in
      names-split (drop from l) ∙ rw (size, lt-ltb (end - from) (length (drop from l)) (rw (length-drop from l) (omega (arith, end-inside))), drop-drop (suc (end - from)) from l, next)

  pub name-here : (left : ℕ) → left ≡ 0 → get_or (split_names (drop from l)) left [] ≡ take (end - from) (drop from l)
  name-here left h =
      let size : length (first_name (drop from l)) ≡ end - from = omega arith in
      rw h (ap (λ (p : Path). get_or p 0 []) (names-split (drop from l)) ∙ ap (λ (n : ℕ). take n (drop from l)) size)

  pub name-past : (left : ℕ) → 0 < left → end ≡ length l → get_or (split_names (drop from l)) left [] ≡ []
  name-past zero h k = absurd (omega arith)
  name-past (suc left) h k = rw (names-last k)

  pub name-later : (left : ℕ) → 0 < left → (end ≡ length l → ⊥) → get_or (split_names (drop from l)) left [] ≡ get_or (split_names (drop (end + 1) l)) (left - 1) []
  name-later zero h k = absurd (omega arith)
  name-later (suc left) h k = rw (names_more k, sub-one (suc left))

  pub bad-first : good_name (take (end - from) (drop from l)) ≡ false → good_names (split_names (drop from l)) ≡ false
  bad-first h =
      let size : length (first_name (drop from l)) ≡ end - from = omega arith in
      ap good_names (names-split (drop from l)) ∙ rw (size, h)

-- nothing is left behind the last byte
pub rest-empty : (l : List ℕ) (n end : ℕ) → end ≡ length l → take n (drop end l) ≡ []
rest-empty l n end h = rw (drop_of_length-le l {i = end} (omega arith), take-nil {A = ℕ} n)

-- bytes that hold no name have none at any place
pub name-nowhere : (l : List ℕ) (i : ℕ) → length l ≡ 0 → l ≡ name_at l i
name-nowhere [] zero h = refl
name-nowhere [] (suc i) h = refl
name-nowhere (b ∷ l) i h = absurd (omega arith)

-- the answer where the bytes are too few, or do not begin with a slash
pub parse-nothing : (l : List ℕ) → length l ≡ 0 → None ≡ parsed_of (path_of l)
parse-nothing [] h = refl
parse-nothing (b ∷ l) h = absurd (omega arith)

pub parse-relative : (l : List ℕ) → (get_or l 0 0 ≡ 0x2F → ⊥) → None ≡ parsed_of (path_of l)
parse-relative [] h = refl
parse-relative (b ∷ []) h = rw (ne_eqb b 0x2F h)
parse-relative (b ∷ c ∷ l) h = rw (ne_eqb b 0x2F h)

pub parse-root : (l : List ℕ) → get_or l 0 0 ≡ 0x2F → length l ≡ 1 → Some 0 ≡ parsed_of (path_of l)
parse-root [] h k = absurd (omega arith)
parse-root (b ∷ []) h k = rw (eq-eqb b 0x2F h)
parse-root (b ∷ c ∷ l) h k = absurd (omega arith)

-- the answer by the names after the first slash
path_names : (l : List ℕ) → get_or l 0 0 ≡ 0x2F → 1 < length l → path_of l ≡ cond (good_path (suc deepest) (split_names (drop 1 l))) (math.some (split_names (drop 1 l))) math.none
path_names [] h k = absurd (omega arith)
path_names (b ∷ []) h k = absurd (omega arith)
path_names (b ∷ c ∷ l) h k = rw (eq-eqb b 0x2F h)

module _ (l : List ℕ) (slash : get_or l 0 0 ≡ 0x2F) (some_bytes : 1 < length l) where
  pub parse-bad : good_names (split_names (drop 1 l)) ≡ false → None ≡ parsed_of (path_of l)
  parse-bad h = rw (path_names l slash some_bytes) (go (split_names (drop 1 l)) h)
    where
      go : (p : Path) → good_names p ≡ false → None ≡ parsed_of (cond (good_path (suc deepest) p) (math.some p) math.none)
      go p e = rw (e, and-false (ltb 0 (length p) && leb (length p) (suc deepest)))

  pub parse-many : suc deepest < length (split_names (drop 1 l)) → None ≡ parsed_of (path_of l)
  parse-many h = rw (path_names l slash some_bytes) (go (split_names (drop 1 l)) h)
    where
      go : (p : Path) → suc deepest < length p → None ≡ parsed_of (cond (good_path (suc deepest) p) (math.some p) math.none)
      go p e = rw (lt-leb (length p) (suc deepest) e, and-false (ltb 0 (length p)))

  pub parse-good : (n : ℕ) → length (split_names (drop 1 l)) ≡ n → 0 < n → n ≤ suc deepest → good_names (split_names (drop 1 l)) ≡ true → Some n ≡ parsed_of (path_of l)
  parse-good n e h k g = rw (path_names l slash some_bytes) (go (split_names (drop 1 l)) e g)
    where
      go : (p : Path) → length p ≡ n → good_names p ≡ true → Some n ≡ parsed_of (cond (good_path (suc deepest) p) (math.some p) math.none)
      go p q t = rw (lt-ltb 0 (length p) (omega arith), le-leb (length p) (suc deepest) (omega arith), t) (ap Some (sym q))

-- What the parser's answer is behind the first slash, where bytes follow it.
module _ (l names : List ℕ) (slash : pointwise eqb (take 1 l) (0x2F ∷ []) ≡ true) (rest : names ≡ drop 1 l) (bytes : 0 < length names) where
  answer : path_of l ≡ cond (good_path most_names (split_names names)) (math.some (split_names names)) math.none
  answer = go l slash rest
    where
      go : (l : List ℕ) → pointwise eqb (take 1 l) (0x2F ∷ []) ≡ true → names ≡ drop 1 l → path_of l ≡ cond (good_path most_names (split_names names)) (math.some (split_names names)) math.none
      go [] h e = absurd (omega (arith, bytes, ap length e))
      go (b ∷ []) h e = absurd (omega (arith, bytes, ap length e))
      go (b ∷ c ∷ l) h e = rw (e, and_l (eqb b 0x2F) true h)

  -- names of more bytes than most_names good ones have are no path
  pub too-long : 32 * most_names < length l → None ≡ parsed_of (path_of l)
  too-long h = rw answer (go (split_names names) (omega (arith, h, bytes, bytes-names names, ap length rest, length-drop 1 l)) (good_path most_names (split_names names)) refl)
    where
      go : (p : Path) → 32 * most_names < bytes-of p → (x : Bool) → good_path most_names p ≡ x → None ≡ parsed_of (cond x (math.some p) math.none)
      go p h true e = absurd (omega (arith, h, good-bytes p (and_r _ _ e), leb→le (length p) most_names (to-T (and_r _ _ (and_l _ _ e)))))
      go p h false e = refl

  -- and else they are counted and judged
  module _ (count : ℕ) (is-count : count ≡ length (parts names)) (good : Bool) (is-good : good ≡ list_all good_name (parts names)) where
    of-count : count ≡ length (split_names names)
    of-count = is-count ∙ ap length (sym (names-parts names))

    of-good : good ≡ good_names (split_names names)
    of-good = is-good ∙ sym (ap good_names (names-parts names) ∙ good-parts (parts names))

    pub parse-names : then_some (good && leb count most_names) count ≡ parsed_of (path_of l)
    parse-names = rw (answer, of-count, of-good) (go (split_names names) (names-some names) (leb (length (split_names names)) most_names) (good_names (split_names names)))
      where
        go : (p : Path) → 0 < length p → (few every : Bool) → then_some (every && few) (length p) ≡ parsed_of (cond (ltb 0 (length p) && few && every) (math.some p) math.none)
        go p h few every = rw (lt-ltb 0 (length p) h) (both few every)
          where
            both : (few every : Bool) → then_some (every && few) (length p) ≡ parsed_of (cond (few && every) (math.some p) math.none)
            both true true = refl
            both true false = refl
            both false true = refl
            both false false = refl

-- the part at a place is the name there, or no bytes
pub name-part : (l : List ℕ) (i : ℕ) (r : Option (Bor (List ℕ))) (d : Bor (List ℕ)) → d.now ≡ [] → option_map (λ x. x.now) r ≡ slice_get (parts l) i → (unwrap_or r d).now ≡ get_or (split_names l) i []
name-part l i r d e f = go r ∙ rw (f, e, names-parts l) (unwrap_or-slice_get (parts l) i [])
  where
    go : (r : Option (Bor (List ℕ))) → (unwrap_or r d).now ≡ unwrap_or (option_map (λ x. x.now) r) d.now
    go None = refl
    go (Some x) = refl

-- The name at a place of a path is the path's own: what a caller that looks names up from the left needs.
pub name-of-path : (l : List ℕ) (p : Path) (i : ℕ) → path_of l ≡ math.some p → i < length p → name_at l i ≡ get_or p i []
name-of-path [] p i e h = absurd (let z : ◌≡◌ {A = ℕ} 0 1 = cc in omega arith)
name-of-path (b ∷ []) p i e h = go (eqb b 0x2F) e
  where
    go : (z : Bool) → cond z (math.some []) math.none ≡ math.some p → name_at (b ∷ []) i ≡ get_or p i []
    go true q = let nothing : [] ≡ p = cc in absurd (omega (arith, ap length nothing))
    go false q = absurd (let z : ◌≡◌ {A = ℕ} 0 1 = cc in omega arith)
name-of-path (b ∷ c ∷ l) p i e h = go (eqb b 0x2F && good_path most_names (split_names (c ∷ l))) (split_names (c ∷ l)) e
  where
    go : (z : Bool) (s : Path) → cond z (math.some s) math.none ≡ math.some p → get_or s i [] ≡ get_or p i []
    go true s q = let same : s ≡ p = cc in rw same
    go false s q = absurd (let z : ◌≡◌ {A = ℕ} 0 1 = cc in omega arith)

-- What the parser's answer says of the path, for callers that go by its cases.
pub of-malformed : (p : math.Option Path) → parsed_of p ≡ None → p ≡ math.none
of-malformed math.none h = refl
of-malformed (math.some p) h = cc

pub of-names : (p : math.Option Path) (n : ℕ) → parsed_of p ≡ Some n → (q : Path) × (p ≡ math.some q) × (length q ≡ n)
of-names math.none n h = ([], cc, cc)
of-names (math.some p) n h = (p, refl, cc)
