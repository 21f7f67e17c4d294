-- The laws of the record: what a mark changes, that another current word changes no mark, that the count stays the number of
-- marks, and that a record keeps the model's marks.
use Prim.Native.Nat.{◌%◌, ◌+◌, ◌/◌, ◌<◌, ◌≤◌, ◌^◌, suc, zero, ℕ}
use mathlib.Core.Bool.{Bool, cond, false, true}
use mathlib.Core.List.{List}
use mathlib.Core.Logic.{◌≢◌}
use mathlib.Core.Path.{◌∙◌, ◌≡◌, ap, refl, sym}
use native.Mathlib.Decide.{ℕ_discrete}
use native.Mathlib.Nat.{zero-div}
use native.Mathlib.Omega.{arith}
use borrow.Author.Tests.{eq-eqb, eqb-true, le-ltb, lt-ltb, ne_eqb}
use lib.Bits.{bit_or}
use lib.Dec.{eqb, ltb}
use lib.ListN.{get_or, length, length-set, replicate, set}
use lib.Seq.{get_or-set_other, get_or-set_same, set-get_or}
use Rattle.model.proofs.CountLaws.{total_ext}
use Rattle.model.proofs.Frame.{hit-0, hit-self}
use Rattle.model.specs.Check.{Marks, mark}
use Rattle.model.specs.Counts.{total_below}
use Rattle.model.specs.Tree.{hit}
use Rattle.model.specs.View.{most_clusters}
use Rattle.reached.specs.Marks.{Keeps, Sound, current_mark, mark_count, mark_words, marked, marked_in, marks_of, no_marks, put_word, reach, turned, with_bit, with_mark, words_of}
use Rattle.reached.specs.declared.Reached.{Reached}
use Rattle.reached.proofs.Totalling.{total-bounds, total-mark, total-room, total-zero}
use Rattle.reached.proofs.WordBits.{bit_kept, bit-set}

-- past the last mark nothing is marked
pub marked-past : (r : Reached) (c : ℕ) → most_clusters ≤ c → marked r c ≡ false
unfolding marked_in
marked-past r c h = rw (le-ltb c most_clusters h)

-- ---- a cluster of the current word

module _ (r : Reached) (long : length r.words ≡ mark_words) (c : ℕ) (h : c < most_clusters) (near : c / 64 ≡ r.at) where
  at_small : r.at < mark_words
  at_small = omega arith

  word_in : (w : ℕ) → get_or (put_word r.words r.at w) (c / 64) 0 ≡ w
  word_in w = let i : r.at < length r.words = omega arith in rw (lt-ltb r.at mark_words at_small, near) (get_or-set_same r.words r.at w 0 i)

  pub marked-current : marked r c ≡ current_mark r.current c
  unfolding marked_in words_of
  marked-current = rw (lt-ltb c most_clusters h, word_in r.current)

  marked-same : marked (with_bit r c) c ≡ true
  unfolding marked_in with_bit words_of
  marked-same =
      rw (lt-ltb c most_clusters h, word_in (bit_or r.current (2 ^ (c % 64)))) (bit-set r.current (c % 64))

  marked_other : (x : ℕ) → x ≢ c → marked (with_bit r c) x ≡ marked r x
  unfolding marked_in with_bit words_of
  marked_other x n = go (ℕ_discrete (x / 64) r.at)
    where
      new : ℕ
      new = bit_or r.current (2 ^ (c % 64))

      go : Dec (x / 64 ≡ r.at) → marked (with_bit r c) x ≡ marked r x
      go (no d) = rw (lt-ltb r.at mark_words at_small, get_or-set_other r.words r.at (x / 64) new 0 d, get_or-set_other r.words r.at (x / 64) r.current 0 d)
      go (yes e) =
          let i : r.at < length r.words = omega arith in
          let m : x % 64 ≢ c % 64 = omega arith in
          rw (e, lt-ltb r.at mark_words at_small, get_or-set_same r.words r.at new 0 i, get_or-set_same r.words r.at r.current 0 i, bit_kept r.current (c % 64) (x % 64) m)

-- A new mark in a sound record: the model's marks with one more, one more counted, and the record is sound again.
module _ (r : Reached) (s : Sound r) (c : ℕ) (near : c / 64 ≡ r.at) (new : marked r c ≡ false) where
  h : c < most_clusters
  h = omega (arith, s.at)

  at_most : (x : ℕ) → mark c (marks_of r) x ≤ 1
  at_most x = go (marked r x) refl (ℕ_discrete c x)
    where
      go : (b : Bool) → marked r x ≡ b → Dec (c ≡ x) → cond b 1 0 + hit c x ≤ 1
      go b e (no n) = rw (hit-0 c x n) (small b)
        where
          small : (b : Bool) → cond b 1 0 + 0 ≤ 1
          small true = omega arith
          small false = omega arith
      go false e (yes q) = rw (← q, hit-self c) (omega arith)
      go true e (yes q) = absurd (let z : ◌≡◌ {A = ℕ} 0 1 = ap (λ (b : Bool). cond b 1 0) (sym new ∙ ap (marked r) q ∙ e) in omega arith)

  with-bit : with_mark r c ≡ with_bit r c
  unfolding with_mark mark_count
  with-bit =
      let room : r.count < most_clusters = total-room (marks_of r) c most_clusters r.count h s.count at_most in
      rw (eq-eqb (c / 64) r.at near, lt-ltb r.count most_clusters room, sym (marked-current r s.words c h near) ∙ new)

  pub mark-marks : (x : ℕ) → marks_of (with_mark r c) x ≡ mark c (marks_of r) x
  mark-marks x = rw with-bit (go (ℕ_discrete c x))
    where
      go : Dec (c ≡ x) → marks_of (with_bit r c) x ≡ marks_of r x + hit c x
      go (yes e) = rw (← e, marked-same r s.words c h near, new, hit-self c)
      go (no n) = rw (marked_other r s.words c h near x (λ e. n (sym e)), hit-0 c x n) (omega arith)

  bit-words : length (with_bit r c).words ≡ mark_words
  unfolding with_bit
  bit-words = s.words

  bit-at : (with_bit r c).at ≡ r.at
  unfolding with_bit
  bit-at = refl

  bit-count : (with_bit r c).count ≡ r.count + 1
  unfolding with_bit
  bit-count = refl

  pub mark-count : (with_mark r c).count ≡ r.count + 1
  mark-count = rw with-bit bit-count

  pub mark-sound : Sound (with_mark r c)
  unfolding mark_count
  mark-sound =
      record {
        words = rw with-bit bit-words;
        at = rw (with-bit, bit-at) s.at;
        count = mark-count ∙ sym (total-mark (marks_of r) c most_clusters r.count h s.count) ∙ total_ext (mark c (marks_of r)) (marks_of (with_mark r c)) most_clusters (λ x l. sym (mark-marks x));
      }

-- ---- another current word

-- where its word is the current one already
pub turned-near : (r : Reached) (c : ℕ) → c / 64 ≡ r.at → turned r c ≡ r
unfolding turned
turned-near r c e = rw (eq-eqb (c / 64) r.at e)

-- the record with its word put in place and another read
pub turned-far : (r : Reached) (c : ℕ) → c / 64 ≢ r.at → (words : List ℕ) (next : ℕ) → words ≡ put_word r.words r.at r.current
    → next ≡ get_or (put_word r.words r.at r.current) (c / 64) 0
    → record { words = words; count = r.count; at = c / 64; current = next; spare = r.spare } ≡ turned r c
unfolding turned words_of
turned-far r c far words next e f = rw (ne_eqb (c / 64) r.at far, e, f)

module _ (r : Reached) (c : ℕ) where
  at-by : (b : Bool) → eqb (c / 64) r.at ≡ b → c / 64 ≡ (turned r c).at
  unfolding turned
  at-by true e = rw e (eqb-true (c / 64) r.at e)
  at-by false e = rw e

  pub turned-at : c / 64 ≡ (turned r c).at
  turned-at = at-by (eqb (c / 64) r.at) refl

  words-by : (b : Bool) → eqb (c / 64) r.at ≡ b → words_of (turned r c) ≡ words_of r
  unfolding turned words_of
  words-by true e = rw e
  words-by false e = rw e (same (put_word r.words r.at r.current) (ltb (c / 64) mark_words))
    where
      same : (l : List ℕ) (b : Bool) → cond b (set l (c / 64) (get_or l (c / 64) 0)) l ≡ l
      same l true = set-get_or l (c / 64) 0
      same l false = refl

  pub turned-words : words_of (turned r c) ≡ words_of r
  turned-words = words-by (eqb (c / 64) r.at) refl

  long-by : (b : Bool) → eqb (c / 64) r.at ≡ b → length (turned r c).words ≡ length r.words
  unfolding turned words_of
  long-by true e = rw e
  long-by false e = rw e (long (ltb r.at mark_words))
    where
      long : (b : Bool) → length (cond b (set r.words r.at r.current) r.words) ≡ length r.words
      long true = length-set r.words r.at r.current
      long false = refl

  count_by : (b : Bool) → eqb (c / 64) r.at ≡ b → (turned r c).count ≡ r.count
  unfolding turned
  count_by true e = rw e
  count_by false e = rw e

  pub turned-again : turned (turned r c) c ≡ turned r c
  turned-again = turned-near (turned r c) c turned-at

  pub turned-count : (turned r c).count ≡ r.count
  turned-count = count_by (eqb (c / 64) r.at) refl

  pub turned-marked : (x : ℕ) → marked (turned r c) x ≡ marked r x
  turned-marked x = ap (λ (l : List ℕ). marked_in l x) turned-words

  module _ (s : Sound r) (h : c < most_clusters) where
    pub turned-sound : Sound (turned r c)
    unfolding mark_count
    turned-sound =
        record {
          words = long-by (eqb (c / 64) r.at) refl ∙ s.words;
          at = omega (arith, turned-at);
          count = turned-count ∙ s.count ∙ total_ext (marks_of r) (marks_of (turned r c)) most_clusters (λ x l. ap (λ (b : Bool). cond b 1 0) (sym (turned-marked x)));
        }

    -- the test of the current word is the record's
    pub turned-test : current_mark (turned r c).current c ≡ marked r c
    turned-test = sym (marked-current (turned r c) turned-sound.words c h turned-at) ∙ turned-marked c

-- ---- the record at the start

zeros : (n i : ℕ) → ◌≡◌ {A = ℕ} (get_or (replicate n 0) i 0) 0
zeros zero zero = refl
zeros zero (suc i) = refl
zeros (suc n) zero = refl
zeros (suc n) (suc i) = zeros n i

none-word : (i : ℕ) → get_or (words_of no_marks) i 0 ≡ 0
unfolding no_marks words_of
none-word i = go (ℕ_discrete i 0)
  where
    go : Dec (i ≡ 0) → ◌≡◌ {A = ℕ} (get_or (set (replicate mark_words 0) 0 0) i 0) 0
    go (yes e) = rw e
    go (no n) = get_or-set_other (replicate mark_words 0) 0 i 0 0 n ∙ zeros mark_words i

none-words : length no_marks.words ≡ mark_words
unfolding no_marks
none-words = refl

none-at : no_marks.at ≡ 0
unfolding no_marks
none-at = refl

none-count : no_marks.count ≡ 0
unfolding no_marks
none-count = refl

pub marked-none : (c : ℕ) → marked no_marks c ≡ false
unfolding marked_in
marked-none c = rw (none-word (c / 64), zero-div (2 ^ (c % 64))) (go (ltb c most_clusters))
  where
    go : (b : Bool) → cond b false false ≡ false
    go true = refl
    go false = refl

pub sound_none : Sound no_marks
unfolding mark_count
sound_none =
    record {
      words = none-words;
      at = omega (arith, none-at);
      count = none-count ∙ sym (total-zero (marks_of no_marks) most_clusters (λ c l. rw (marked-none c)));
    }

pub keeps-none : Keeps no_marks (λ c. 0)
keeps-none = record { sound = sound_none; marks = λ c. rw (marked-none c) }

pub keeps_self : (r : Reached) → Sound r → Keeps r (marks_of r)
keeps_self r s = record { sound = s; marks = λ c. refl }

-- a record's test is the model's
pub keeps-test : (r : Reached) (m : Marks) → Keeps r m → (c : ℕ) → eqb (m c) 0 ≡ cond (marked r c) false true
keeps-test r m k c = rw (← k.marks c) (go (marked r c))
  where
    go : (b : Bool) → eqb (cond b 1 0) 0 ≡ cond b false true
    go true = refl
    go false = refl

-- a cluster that is reached, its word made the current one
module _ (r : Reached) (m : Marks) (k : Keeps r m) (c : ℕ) (h : c < most_clusters) (fresh : marked r c ≡ false) where
  sound-there : Sound (turned r c)
  sound-there = turned-sound r c k.sound h

  fresh-there : marked (turned r c) c ≡ false
  fresh-there = turned-marked r c c ∙ fresh

  pub keeps-mark : Keeps (reach r c) (mark c m)
  keeps-mark =
      record {
        sound = mark-sound (turned r c) sound-there c (turned-at r c) fresh-there;
        marks = λ x. mark-marks (turned r c) sound-there c (turned-at r c) fresh-there x ∙ ap (λ (b : Bool). cond b 1 0 + hit c x) (turned-marked r c x) ∙ ap (λ (n : ℕ). n + hit c x) (k.marks x);
      }

  pub reach-count : (reach r c).count ≡ r.count + 1
  reach-count = mark-count (turned r c) sound-there c (turned-at r c) fresh-there ∙ ap (λ (n : ℕ). n + 1) (turned-count r c)

-- The count is the sum of the marks below any bound that they keep to.
pub count-below : (r : Reached) → Sound r → (n : ℕ) → ((c : ℕ) → n ≤ c → marks_of r c ≡ 0) → r.count ≡ total_below (marks_of r) n
unfolding mark_count
count-below r s n low = s.count ∙ total-bounds (marks_of r) most_clusters n (λ c h. rw (marked-past r c h)) low
