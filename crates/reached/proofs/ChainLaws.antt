-- The code's chain is the model's: it is sound exactly where the model follows it, and then keeps the model's marks.
use Prim.Native.Nat.{◌+◌, ◌-◌, ◌<◌, ◌≤◌, suc, zero, ℕ}
use mathlib.Core.Bool.{Bool, cond, false, true}
use mathlib.Core.List.{List, [], ◌∷◌}
use mathlib.Core.Option.{Option, none, some}
use mathlib.Core.Path.{◌∙◌, ◌≡◌, ap, refl}
use native.Mathlib.Decide.{dec_lt, ℕ_discrete}
use native.Mathlib.Numerals.{sub-one}
use native.Mathlib.Omega.{arith}
use borrow.Author.Tests.{eq-eqb, eqb-true, le-ltb, lt-ltb, ne_eqb}
use lib.Dec.{eqb, eqb-suc-zero}
use lib.ListN.{get_or, length}
use Rattle.model.proofs.Equality.{tf}
use Rattle.model.proofs.Frame.{hit-0}
use Rattle.model.specs.Check.{Marks, follow_chain, mark, marks, prepend}
use Rattle.model.specs.Entry.{Entry, end_mark}
use Rattle.model.specs.Tree.{times}
use Rattle.model.specs.View.{Link, View, first_link, most_clusters, top_bit}
use Rattle.reached.specs.Chain.{broken, chain_from, chain_behind}
use Rattle.reached.specs.Marks.{Keeps, marked, reach, turned}
use Rattle.reached.specs.Table.{first_link_of, table_links}
use Rattle.reached.specs.declared.Chain.{Chain}
use Rattle.reached.specs.declared.Reached.{Reached}
use Rattle.reached.proofs.ChainSteps.{chain-end, chain-free, chain_next, chain-none, chain-out, chain-over, chain-past, chain-seen, chain-some}
use Rattle.reached.proofs.MarkLaws.{keeps-mark, keeps-test, reach-count, turned-test}

-- A sound chain: its clusters lie in the table, the record after it keeps the model's marks, and as many more are counted.
pub record ChainGood (t : List ℕ) (r : Reached) (m : Marks) (cs : List ℕ) (x : Chain) : Type 0 where
  pub sound : x.sound ≡ true
  pub keeps : Keeps x.reached (marks m cs)
  pub count : x.reached.count ≡ r.count + length cs
  pub inside : (c : ℕ) → length t ≤ c → times cs c ≡ 0

-- what the model's answer says of the code's
abbrev pub Follows : List ℕ → Reached → Marks → Option (List ℕ) → Chain → Type 0
Follows t r m none x = x.sound ≡ false
Follows t r m (some cs) x = ChainGood t r m cs x

follows_by : (t : List ℕ) (r : Reached) (m : Marks) (o p : Option (List ℕ)) (x y : Chain) → o ≡ p → x ≡ y → Follows t r m p y → Follows t r m o x
follows_by t r m o p x y e f h = rw (e, f) h

-- ---- the links of a table

module _ (t : List ℕ) (c : ℕ) where
  link-out : length t ≤ c → table_links t c ≡ Link.free
  link-out h = rw (le-ltb c (length t) h)

  module _ (inside : c < length t) where
    link-free : get_or t c 0 < top_bit → table_links t c ≡ Link.free
    link-free f = rw (lt-ltb c (length t) inside, lt-ltb (get_or t c 0) top_bit f)

    module _ (used : top_bit ≤ get_or t c 0) where
      link-last : get_or t c 0 ≡ end_mark → table_links t c ≡ Link.last
      link-last e = rw (lt-ltb c (length t) inside, le-ltb (get_or t c 0) top_bit used, eq-eqb (get_or t c 0) end_mark e)

      link-next : (get_or t c 0 ≡ end_mark → ⊥) → table_links t c ≡ Link.next (get_or t c 0 - top_bit)
      link-next n = rw (lt-ltb c (length t) inside, le-ltb (get_or t c 0) top_bit used, ne_eqb (get_or t c 0) end_mark n)

-- an entry's first link, and the root's
pub link-entry : (e : Entry) → first_link e ≡ first_link_of e.first_cluster
link-entry e = refl

pub link-root : Link.next 0 ≡ first_link_of 0
link-root = refl

-- ---- one cluster more in front

module _ (t : List ℕ) (r : Reached) (m : Marks) (k : Keeps r m) (c : ℕ) (inside : c < length t) (small : c < most_clusters) (fresh : marked r c ≡ false) where
  good-cons : (cs : List ℕ) (x : Chain) → ChainGood t (reach r c) (mark c m) cs x → ChainGood t r m (c ∷ cs) x
  good-cons cs x g =
      record {
        sound = g.sound;
        keeps = record { sound = g.keeps.sound; marks = λ a. omega (arith, g.keeps.marks a) };
        count = omega (arith, g.count, reach-count r m k c small fresh);
        inside = λ a h. omega (arith, g.inside a h, hit-0 c a (omega arith));
      }

  follows-cons : (o : Option (List ℕ)) (x : Chain) → Follows t (reach r c) (mark c m) o x → Follows t r m (prepend c o) x
  follows-cons none x f = f
  follows-cons (some cs) x f = good-cons cs x f

good_none : (t : List ℕ) (r : Reached) (m : Marks) (x : Chain) → Keeps r m → x ≡ record { sound = true; reached = r } → ChainGood t r m [] x
good_none t r m x k e =
    rw e (record { sound = refl; keeps = record { sound = k.sound; marks = λ a. omega (arith, k.marks a) }; count = omega arith; inside = λ a h. refl })

module _ (t : List ℕ) (small : length t ≤ most_clusters) (v : View) (links : (c : ℕ) → v.link c ≡ table_links t c) where
  follow-free : (k : ℕ) (m : Marks) → follow_chain v k Link.free m ≡ none
  follow-free zero m = refl
  follow-free (suc k) m = refl

  end-follows : (k : ℕ) (r : Reached) (m : Marks) → Keeps r m → Follows t r m (follow_chain v k Link.last m) (record { sound = eqb k 0; reached = r })
  end-follows zero r m h = good_none t r m _ h refl
  end-follows (suc k) r m h = eqb-suc-zero k

  step-none : (c k : ℕ) (m : Marks) → v.link c ≡ Link.free → follow_chain v (suc k) (Link.next c) m ≡ none
  step-none c k m e = rw (e, follow-free k (mark c m)) (go (eqb (m c) 0))
    where
      go : (b : Bool) → cond b (prepend c none) none ≡ none
      go true = refl
      go false = refl

  -- the chain that begins with cluster c
  from-follows : (k : ℕ) (r : Reached) (m : Marks) (c : ℕ) → Keeps r m → Follows t r m (follow_chain v k (Link.next c) m) (chain_from t r c k)
  from-follows zero r m c h = ap (λ (x : Chain). x.sound) (chain-over t r c 0 refl)
  from-follows (suc k) r m c h = in_range (dec_lt c (length t)) (dec_lt w top_bit) (marked r c) refl (ℕ_discrete w end_mark) (λ q n d j. from-follows k q n d j)
    where
      w : ℕ
      w = get_or t c 0

      chain : Chain
      chain = chain_from t r c (suc k)

      followed : Option (List ℕ)
      followed = follow_chain v (suc k) (Link.next c) m

      more : 0 < suc k
      more = omega arith

      in_range : Dec (c < length t) → Dec (w < top_bit) → (b : Bool) → marked r c ≡ b → Dec (w ≡ end_mark)
          → ((q : Reached) (n : Marks) (d : ℕ) → Keeps q n → Follows t q n (follow_chain v k (Link.next d) n) (chain_from t q d k))
          → Follows t r m followed chain
      in_range (no l) f b e d ih = let o : length t ≤ c = omega arith in outside o (dec_lt c most_clusters)
        where
          outside : length t ≤ c → Dec (c < most_clusters) → Follows t r m followed chain
          outside o (yes s) =
              follows_by t r m followed none chain (broken (turned r c)) (step-none c k m (links c ∙ link-out t c o)) (chain-out t r c (suc k) more s o) refl
          outside o (no s) =
              follows_by t r m followed none chain (broken r) (step-none c k m (links c ∙ link-out t c o)) (chain-past t r c (suc k) more (omega arith)) refl
      in_range (yes l) (yes f) b e d ih =
          let s : c < most_clusters = omega arith in
          follows_by t r m followed none chain (broken (turned r c)) (step-none c k m (links c ∙ link-free t c l f)) (chain-free t r c (suc k) more s l f) refl
      in_range (yes l) (no f) true e d ih =
          let u : top_bit ≤ w = omega arith in
          let s : c < most_clusters = omega arith in
          follows_by t r m followed none chain (broken (turned r c)) (rw (keeps-test r m h c, e)) (chain-seen t r c (suc k) more s l u (turned-test r c h.sound s ∙ e)) refl
      in_range (yes l) (no f) false e (yes d) ih =
          let u : top_bit ≤ w = omega arith in
          let s : c < most_clusters = omega arith in
          follows_by t r m followed (prepend c (follow_chain v k Link.last (mark c m))) chain (record { sound = eqb k 0; reached = reach r c })
          (rw (keeps-test r m h c, e, links c ∙ link-last t c l u d)) (chain-end t r c (suc k) more s l u (turned-test r c h.sound s ∙ e) d ∙ rw (sub-one (suc k)))
          (follows-cons t r m h c l s e (follow_chain v k Link.last (mark c m)) (record { sound = eqb k 0; reached = reach r c })
          (end-follows k (reach r c) (mark c m) (keeps-mark r m h c s e)))
      in_range (yes l) (no f) false e (no d) ih =
          let u : top_bit ≤ w = omega arith in
          let s : c < most_clusters = omega arith in
          follows_by t r m followed (prepend c (follow_chain v k (Link.next (w - top_bit)) (mark c m))) chain (chain_from t (reach r c) (w - top_bit) k)
          (rw (keeps-test r m h c, e, links c ∙ link-next t c l u d)) (chain_next t r c (suc k) more s l u (turned-test r c h.sound s ∙ e) d ∙ rw (sub-one (suc k)))
          (follows-cons t r m h c l s e (follow_chain v k (Link.next (w - top_bit)) (mark c m)) (chain_from t (reach r c) (w - top_bit) k)
          (ih (reach r c) (mark c m) (w - top_bit) (keeps-mark r m h c s e)))

  -- The chain behind an entry's first cluster, as the model follows it.
  pub follows : (k first : ℕ) (r : Reached) (m : Marks) → Keeps r m → Follows t r m (follow_chain v k (first_link_of first) m) (chain_behind t r first k)
  follows k first r m h = go k (eqb first end_mark) refl
    where
      go : (k : ℕ) (b : Bool) → eqb first end_mark ≡ b → Follows t r m (follow_chain v k (cond b Link.last (Link.next first)) m) (chain_behind t r first k)
      go zero true e = good_none t r m _ h (chain-none t r first 0 refl ∙ rw e)
      go zero false e = ap (λ (x : Chain). x.sound) (chain-none t r first 0 refl) ∙ e
      go (suc k) true e =
          let o : most_clusters ≤ first = omega (arith, eqb-true first end_mark e) in
          ap (λ (x : Chain). x.sound) (chain-some t r first (suc k) (λ z. omega arith) ∙ chain-past t r first (suc k) (omega arith) o)
      go (suc k) false e =
          rw (chain-some t r first (suc k) (λ z. omega arith)) (from-follows (suc k) r m first h)

  -- By cases on the code's answer.
  module _ (k first : ℕ) (r : Reached) (m : Marks) (h : Keeps r m) where
    pub sound-some : (chain_behind t r first k).sound ≡ true → (cs : List ℕ) × (follow_chain v k (first_link_of first) m ≡ some cs) × ChainGood t r m cs (chain_behind t r first k)
    sound-some e = go (follow_chain v k (first_link_of first) m) refl (follows k first r m h)
      where
        go : (o : Option (List ℕ)) → follow_chain v k (first_link_of first) m ≡ o → Follows t r m o (chain_behind t r first k)
            → (cs : List ℕ) × (follow_chain v k (first_link_of first) m ≡ some cs) × ChainGood t r m cs (chain_behind t r first k)
        go none q f = tf e f
        go (some cs) q f = (cs, q, f)

    pub broken-none : (chain_behind t r first k).sound ≡ false → follow_chain v k (first_link_of first) m ≡ none
    broken-none e = go (follow_chain v k (first_link_of first) m) refl (follows k first r m h)
      where
        go : (o : Option (List ℕ)) → follow_chain v k (first_link_of first) m ≡ o → Follows t r m o (chain_behind t r first k) → follow_chain v k (first_link_of first) m ≡ none
        go none q f = q
        go (some cs) q f = tf f.sound e
