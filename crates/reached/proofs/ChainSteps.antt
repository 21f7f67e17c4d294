-- One law for each way that a chain can go at a cluster.
use Prim.Native.Nat.{◌-◌, ◌<◌, ◌≤◌, suc, zero, ℕ}
use mathlib.Core.Bool.{cond, false, true}
use mathlib.Core.List.{List}
use mathlib.Core.Path.{◌≡◌, refl}
use native.Mathlib.Numerals.{sub-one}
use native.Mathlib.Omega.{arith}
use borrow.Author.Tests.{eq-eqb, le-ltb, lt-ltb, ne_eqb}
use lib.Dec.{eqb, ltb}
use lib.ListN.{get_or, length}
use Rattle.model.specs.Entry.{end_mark}
use Rattle.model.specs.View.{most_clusters, top_bit}
use Rattle.reached.specs.Chain.{broken, by_cluster, chain_behind, chain_from}
use Rattle.reached.specs.Marks.{current_mark, reach, turned}
use Rattle.reached.specs.declared.Chain.{Chain}
use Rattle.reached.specs.declared.Reached.{Reached}
use Rattle.reached.proofs.MarkLaws.{turned-again}

-- One cluster c of a chain, behind which k clusters are to follow: `rest` is what they give.
abbrev one_cluster : List ℕ → Reached → ℕ → ℕ → Chain → Chain
one_cluster t r c k rest =
    cond (ltb c most_clusters)
    (by_cluster t (turned r c).current c (broken (turned r c)) (record { sound = eqb k 0; reached = reach r c }) rest)
    (broken r)

module _ (t : List ℕ) (r : Reached) (c k : ℕ) where
  pub chain-none : k ≡ 0 → chain_behind t r c k ≡ record { sound = eqb c end_mark; reached = r }
  unfolding chain_behind
  chain-none e = rw e

  pub chain-some : (k ≡ 0 → ⊥) → chain_behind t r c k ≡ chain_from t r c k
  unfolding chain_behind
  chain-some n = go k n
    where
      go : (k : ℕ) → (k ≡ 0 → ⊥) → chain_behind t r c k ≡ chain_from t r c k
      go zero n = absurd (n refl)
      go (suc k) n = refl

  pub chain-over : k ≡ 0 → chain_from t r c k ≡ broken r
  unfolding chain_from
  chain-over e = rw e

  chain-one : 0 < k → chain_from t r c k ≡ one_cluster t r c (k - 1) (chain_from t (reach r c) (get_or t c 0 - top_bit) (k - 1))
  unfolding chain_from
  chain-one h = go k h
    where
      go : (k : ℕ) → 0 < k → chain_from t r c k ≡ one_cluster t r c (k - 1) (chain_from t (reach r c) (get_or t c 0 - top_bit) (k - 1))
      go zero h = absurd (omega arith)
      go (suc k) h = rw (sub-one (suc k))

  module _ (more : 0 < k) where
    pub chain-past : most_clusters ≤ c → chain_from t r c k ≡ broken r
    chain-past o = rw (chain-one more, le-ltb c most_clusters o)

    module _ (small : c < most_clusters) where
      pub chain-out : length t ≤ c → chain_from t r c k ≡ broken (turned r c)
      chain-out o = rw (chain-one more, lt-ltb c most_clusters small, le-ltb c (length t) o)

      module _ (inside : c < length t) where
        pub chain-free : get_or t c 0 < top_bit → chain_from t r c k ≡ broken (turned r c)
        chain-free f = rw (chain-one more, lt-ltb c most_clusters small, lt-ltb c (length t) inside, lt-ltb (get_or t c 0) top_bit f)

        module _ (used : top_bit ≤ get_or t c 0) where
          pub chain-seen : current_mark (turned r c).current c ≡ true → chain_from t r c k ≡ broken (turned r c)
          chain-seen m = rw (chain-one more, lt-ltb c most_clusters small, lt-ltb c (length t) inside, le-ltb (get_or t c 0) top_bit used, m)

          module _ (fresh : current_mark (turned r c).current c ≡ false) where
            pub chain-end : get_or t c 0 ≡ end_mark → chain_from t r c k ≡ record { sound = eqb (k - 1) 0; reached = reach r c }
            chain-end e = rw (chain-one more, lt-ltb c most_clusters small, lt-ltb c (length t) inside, le-ltb (get_or t c 0) top_bit used, fresh, eq-eqb (get_or t c 0) end_mark e)

            pub chain_next : (get_or t c 0 ≡ end_mark → ⊥) → chain_from t r c k ≡ chain_from t (reach r c) (get_or t c 0 - top_bit) (k - 1)
            chain_next e = rw (chain-one more, lt-ltb c most_clusters small, lt-ltb c (length t) inside, le-ltb (get_or t c 0) top_bit used, fresh, ne_eqb (get_or t c 0) end_mark e)

-- which word is the current one makes no difference, once the cluster's own is
pub chain-turned : (t : List ℕ) (r : Reached) (c k : ℕ) → 0 < k → c < most_clusters → chain_from t (turned r c) c k ≡ chain_from t r c k
chain-turned t r c k more small =
    rw (chain-one t (turned r c) c k more, chain-one t r c k more, lt-ltb c most_clusters small, turned-again r c)
