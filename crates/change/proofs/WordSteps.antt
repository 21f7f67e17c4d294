-- The loops over the table in memory: one law for each way of a turn.
use Prim.Native.Nat.{ℕ, zero, suc, ◌%◌, ◌+◌, ◌-◌, ◌<◌, ◌≤◌}
use mathlib.Core.Bool.{Bool, ◌&&◌, cond, false, true}
use mathlib.Core.List.{List, [], ◌++◌, ◌∷◌, append-nil, append_assoc}
use mathlib.Core.Path.{◌∙◌, ◌≡◌, ap, refl, sym}
use native.Mathlib.Decide.{dec_lt}
use native.Mathlib.Numerals.{add-one}
use native.Mathlib.Omega.{arith}
use lib.Dec.{eqb, ltb}
use lib.ListN.{drop, get_or, length, set, take}
use lib.Seq.{drop-cons, set_out, take-suc-set}
use Rattle.model.specs.Counts.{takeable}
use Rattle.model.specs.Entry.{end_mark}
use Rattle.model.specs.Plan.{free_below, if_free}
use Rattle.model.specs.Tree.{times}
use Rattle.model.specs.View.{Link, link_of, top_bit}
use Rattle.model.specs.Writes.{word_to}
use Rattle.model.proofs.Allocation.{times-append}
use Rattle.model.proofs.Equality.{and_l, and_r, tf}
use Rattle.model.proofs.Frame.{hit-self}
use Rattle.tree.specs.Slots.{next_of}
use Rattle.change.specs.Words.{chained, cleared_from}

-- ---- free clusters that may be taken
abbrev pub free_up_to : (ℕ → Bool) → List ℕ → ℕ → List ℕ
free_up_to may_take table c = free_below (takeable may_take (λ x. link_of (get_or table x 0))) c

pub none_yet : (may_take : ℕ → Bool) (table : List ℕ) → [] ≡ free_up_to may_take table 0
unfolding free_below
none_yet may_take table = refl

module _ (may_take : ℕ → Bool) (table list : List ℕ) (count c : ℕ) (found : take count list ≡ free_up_to may_take table c) (may : Bool) (m : may ≡ may_take c) where
  pub one_more : count < length list → (may && ltb (get_or table c 0) top_bit) ≡ true → take (count + 1) (set list count c) ≡ free_up_to may_take table (c + 1)
  unfolding free_below
  one_more room test =
      rw (add-one count, add-one c, ← m, and_l may _ test, and_r may _ test) (take-suc-set list count c room ∙ ap (λ (l : List ℕ). l ++ (c ∷ [])) found)

  pub not-one : (may && ltb (get_or table c 0) top_bit) ≡ false → take count list ≡ free_up_to may_take table (c + 1)
  unfolding free_below
  not-one test = rw (add-one c, ← m) (found ∙ go may (ltb (get_or table c 0) top_bit) (eqb (get_or table c 0) end_mark) test)
    where
      go : (x low last : Bool) → (x && low) ≡ false
          → free_up_to may_take table c ≡ free_up_to may_take table c ++ if_free (cond x (cond low Link.free (cond last Link.last (Link.next (get_or table c 0 - top_bit)))) Link.last) c
      go true true last e = tf refl e
      go true false true e = sym (append-nil (free_up_to may_take table c))
      go true false false e = sym (append-nil (free_up_to may_take table c))
      go false low last e = sym (append-nil (free_up_to may_take table c))

-- ---- a chain linked, from its last cluster to its first: those behind the ones that are left
pub record Linked (clusters before left : List ℕ) (word : ℕ) (table : List ℕ) : Type 0 where
  pub behind : List ℕ
  pub whole : clusters ≡ left ++ behind
  pub leads : word ≡ word_to behind
  pub done : table ≡ chained behind before

pub nothing-linked : (clusters table : List ℕ) → Linked clusters table clusters end_mark table
unfolding chained
nothing-linked clusters table = record { behind = []; whole = sym (append-nil clusters); leads = refl; done = refl }

module _ {clusters before left : List ℕ} {word : ℕ} {table : List ℕ} (l : Linked clusters before left word table) where
  pub all-linked : length left ≡ 0 → table ≡ chained clusters before
  all-linked none = l.done ∙ ap (λ cs. chained cs before) (sym (l.whole ∙ gone left none))
    where
      gone : (cs : List ℕ) → length cs ≡ 0 → cs ++ l.behind ≡ l.behind
      gone [] e = refl
      gone (c ∷ cs) e = absurd (omega arith)

  module _ (fewer : List ℕ) (c : ℕ) (one : left ≡ fewer ++ (c ∷ [])) where
    next-whole : clusters ≡ fewer ++ (c ∷ l.behind)
    next-whole = l.whole ∙ ap (λ cs. cs ++ l.behind) one ∙ append_assoc fewer (c ∷ []) l.behind

    pub linked : Linked clusters before fewer (top_bit + c) (set table c word)
    unfolding chained
    linked = record { behind = c ∷ l.behind; whole = next-whole; leads = refl; done = rw (l.done, l.leads) }

    pub linked-past : length table ≤ c → Linked clusters before fewer (top_bit + c) table
    linked-past h = rw (set_out table c word h) at linked

    -- clusters below 2^31, so that the words that lead to them fit
    pub low-word : ((x : ℕ) → top_bit ≤ x → times clusters x ≡ 0) → c < top_bit
    low-word low = go (dec_lt c top_bit)
      where
        go : Dec (c < top_bit) → c < top_bit
        go (yes u) = u
        go (no u) = absurd (omega (arith, low c (omega arith), ap (λ cs. times cs c) next-whole, times-append fewer (c ∷ l.behind) c, hit-self c))

-- the same by the number of those that are left
module _ (clusters : List ℕ) (left : ℕ) (some : 0 < left) (inside : left ≤ length clusters) where
  first_of : drop (left - 1) clusters ≡ get_or clusters (left - 1) 0 ∷ drop left clusters
  first_of =
      let e : suc (left - 1) ≡ left = omega arith in
      drop-cons clusters (left - 1) 0 (omega arith) ∙ ap (λ n. get_or clusters (left - 1) 0 ∷ drop n clusters) e

  pub word-to : top_bit + get_or clusters (left - 1) 0 ≡ word_to (drop (left - 1) clusters)
  word-to = rw first_of

-- clusters below a number, as a count and one by one
pub each_below : (n : ℕ) (cs : List ℕ) → ((x : ℕ) → n ≤ x → times cs x ≡ 0) → (i : ℕ) → i < length cs → get_or cs i 0 < n
each_below n [] low i h = absurd (omega arith)
each_below n (c ∷ cs) low zero h = go (dec_lt c n)
  where
    go : Dec (c < n) → c < n
    go (yes u) = u
    go (no u) = absurd (omega (arith, low c (omega arith), hit-self c))
each_below n (c ∷ cs) low (suc i) h = each_below n cs (λ x u. omega (arith, low x u)) i (omega arith)

-- ---- a chain freed, from its first cluster on
module _ (table : List ℕ) (c left : ℕ) (some : 0 < left) where
  pub freed : cleared_from c left table ≡ cleared_from (next_of table c) (left - 1) (set table c (get_or table c 0 % top_bit))
  unfolding cleared_from
  freed = go left some
    where
      go : (n : ℕ) → 0 < n → cleared_from c n table ≡ cleared_from (next_of table c) (n - 1) (set table c (get_or table c 0 % top_bit))
      go zero h = absurd (omega arith)
      go (suc n) h = let e : suc n - 1 ≡ n = omega arith in rw e

  pub freed-past : length table ≤ c → cleared_from c left table ≡ cleared_from (next_of table c) (left - 1) table
  freed-past h = freed ∙ ap (cleared_from (next_of table c) (left - 1)) (set_out table c (get_or table c 0 % top_bit) h)

pub all-freed : (c left : ℕ) (table : List ℕ) → left ≤ 0 → cleared_from c left table ≡ table
unfolding cleared_from
all-freed c zero table h = refl
all-freed c (suc left) table h = absurd (omega arith)
