-- The counts: what a turn over the table adds, and that the sums are the model's counts of a view with that table.
use Prim.Native.Nat.{◌+◌, ◌-◌, ◌<◌, ◌≤◌, ℕ}
use mathlib.Core.Bool.{Bool, ◌&&◌, cond, false, not, true}
use mathlib.Core.List.{List}
use mathlib.Core.Path.{◌∙◌, ◌≡◌, refl}
use native.Mathlib.Numerals.{add-one}
use native.Mathlib.Omega.{arith}
use borrow.Author.Tests.{le-leb, le-ltb, lt-leb, lt-ltb}
use lib.Dec.{eqb, leb, ltb}
use lib.ListN.{get_or, length}
use native.Mathlib.Decide.{dec_lt}
use Rattle.model.proofs.CountLaws.{total_ext}
use Rattle.model.specs.Check.{Marks}
use Rattle.model.specs.Counts.{free_count, held_count, is_free, is_held, is_orphan, takeable, total_below}
use Rattle.model.specs.Entry.{end_mark}
use Rattle.model.specs.View.{Link, View, link_of, top_bit}
use Rattle.reached.specs.Marks.{Keeps, marked_in, marks_of}
use Rattle.reached.specs.Table.{table_links}
use Rattle.reached.specs.Totals.{free_at, free_words, held_at, held_words, orphan_at, orphans_in}
use Rattle.reached.specs.declared.Reached.{Reached}
use Rattle.reached.proofs.MarkLaws.{count-below}

pub total-step : (f : ℕ → ℕ) (n d i : ℕ) → n ≡ total_below f i → f i ≡ d → n + d ≡ total_below f (i + 1)
total-step f n d i e q = rw (add-one i) (omega arith)

pub total-same : (f : ℕ → ℕ) (n i : ℕ) → n ≡ total_below f i → f i ≡ 0 → n ≡ total_below f (i + 1)
total-same f n i e q = rw (add-one i) (omega arith)

-- a word is free exactly where its top bit is clear
free-word : (w : ℕ) → is_free (link_of w) ≡ cond (ltb w top_bit) 1 0
free-word w = go (ltb w top_bit) (eqb w end_mark)
  where
    go : (low last : Bool) → is_free (cond low Link.free (cond last Link.last (Link.next (w - top_bit)))) ≡ cond low 1 0
    go true last = refl
    go false true = refl
    go false false = refl

-- an orphan by the words of a record
abbrev pub orphan_in : List ℕ → List ℕ → ℕ → ℕ
orphan_in t words c = is_orphan (table_links t c) (cond (marked_in words c) 1 0)

module _ (t : List ℕ) (i : ℕ) (inside : i < length t) where
  -- the code's tests are the model's free and held back cluster
  module _ (may_take : ℕ → Bool) (may : Bool) (m : may ≡ may_take i) where
    pub free-test : (b : Bool) → (may && ltb (get_or t i 0) top_bit) ≡ b → free_at may_take t i ≡ cond b 1 0
    free-test b e = rw (← e, ← m, lt-ltb i (length t) inside) (go may)
      where
        go : (x : Bool) → is_free (cond x (link_of (get_or t i 0)) Link.last) ≡ cond (x && ltb (get_or t i 0) top_bit) 1 0
        go true = free-word (get_or t i 0)
        go false = refl

    pub held_test : (b : Bool) → (not may && ltb (get_or t i 0) top_bit) ≡ b → held_at may_take t i ≡ cond b 1 0
    held_test b e = rw (← e, ← m, lt-ltb i (length t) inside) (go may)
      where
        go : (x : Bool) → is_held x (link_of (get_or t i 0)) ≡ cond (not x && ltb (get_or t i 0) top_bit) 1 0
        go true = refl
        go false = free-word (get_or t i 0)

  -- the code's test is the model's orphan
  pub orphan-test : (words : List ℕ) (b : Bool) → (leb top_bit (get_or t i 0) && not (marked_in words i)) ≡ b → orphan_in t words i ≡ cond b 1 0
  orphan-test words b e = rw (← e, lt-ltb i (length t) inside) (go (dec_lt (get_or t i 0) top_bit))
    where
      w : ℕ
      w = get_or t i 0

      used : (b m : Bool) → is_orphan (cond b Link.last (Link.next (w - top_bit))) (cond m 1 0) ≡ cond (not m) 1 0
      used true true = refl
      used true false = refl
      used false true = refl
      used false false = refl

      go : Dec (w < top_bit) → is_orphan (link_of w) (cond (marked_in words i) 1 0) ≡ cond (leb top_bit w && not (marked_in words i)) 1 0
      go (yes f) = rw (lt-ltb w top_bit f, lt-leb top_bit w f)
      go (no f) = let u : top_bit ≤ w = omega arith in rw (le-ltb w top_bit u, le-leb top_bit w u) (used (eqb w end_mark) (marked_in words i))

-- The code's counts are the model's, for a view with that table and a record that keeps the model's marks.
module _ (t : List ℕ) (v : View) (links : (c : ℕ) → v.link c ≡ table_links t c) where
  pub free-count : (may_take : ℕ → Bool) → free_words may_take t ≡ free_count may_take (length t) v
  free-count may_take = total_ext (free_at may_take t) (λ c. is_free (takeable may_take v.link c)) (length t) (λ c h. rw (links c))

  pub held-count : (may_take : ℕ → Bool) → held_words may_take t ≡ held_count may_take (length t) v
  held-count may_take = total_ext (held_at may_take t) (λ c. is_held (may_take c) (v.link c)) (length t) (λ c h. rw (links c))

  pub orphan-count : (r : Reached) (m : Marks) → Keeps r m → orphans_in t r ≡ total_below (λ c. is_orphan (v.link c) (m c)) (length t)
  orphan-count r m k = total_ext (orphan_at t r) (λ c. is_orphan (v.link c) (m c)) (length t) (λ c h. rw (links c, ← k.marks c))

pub reached-count : (r : Reached) (m : Marks) → Keeps r m → (n : ℕ) → ((c : ℕ) → n ≤ c → m c ≡ 0) → r.count ≡ total_below m n
reached-count r m k n low = count-below r k.sound n (λ c h. k.marks c ∙ low c h) ∙ total_ext (marks_of r) m n (λ c h. k.marks c)
