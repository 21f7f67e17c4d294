-- A sound chain of k clusters (RULES, "Superblock and table"): every cluster is below alloc_end, is not free, has not been reached before,
-- and the end mark stands at exactly the k-th. The record of the clusters reached is handed through.
use Rattle.std.specs.Prelude.{◌-◌, ◌/◌, suc, zero, ℕ, Bool, ◌&&◌, cond, false, true, List, eqb, ltb, get_or, length}
use Rattle.model.specs.Entry.{end_mark}
use Rattle.model.specs.View.{most_clusters, top_bit}
use Rattle.reached.specs.Marks.{current_mark, turned, with_mark}
use Rattle.reached.specs.declared.Chain.{Chain}
use Rattle.reached.specs.declared.Near.{Near}
use Rattle.reached.specs.declared.Reached.{Reached}
use Rattle.reached.specs.declared.Step.{Step}

-- a chain that is not sound, with the record as it stands
abbrev pub broken : Reached → Chain
broken r = record { sound = false; reached = r }

-- By the rule for one cluster c of the current word: the chain is broken there, ends with it, or goes on behind it.
abbrev pub by_cluster : {A : Type 0} → List ℕ → ℕ → ℕ → A → A → A → A
by_cluster t current c breaks ends goes_on =
    cond (ltb c (length t))
    (cond (ltb (get_or t c 0) top_bit) breaks
    (cond (current_mark current c) breaks
    (cond (eqb (get_or t c 0) end_mark) ends goes_on)))
    breaks

-- The chain of exactly k clusters that begins with cluster c. The word of each cluster is made the current one before it is marked.
unfoldable pub chain_from : List ℕ → Reached → ℕ → ℕ → Chain
chain_from t r c zero = broken r
chain_from t r c (suc k) =
    cond (ltb c most_clusters)
    (by_cluster t (turned r c).current c (broken (turned r c)) (record { sound = eqb k 0; reached = with_mark (turned r c) c })
    (chain_from t (with_mark (turned r c) c) (get_or t c 0 - top_bit) k))
    (broken r)

-- The chain of exactly k clusters behind an entry's first cluster. No clusters at all are sound exactly where that is the end mark.
unfoldable pub chain_behind : List ℕ → Reached → ℕ → ℕ → Chain
chain_behind t r first zero = record { sound = eqb first end_mark; reached = r }
chain_behind t r first (suc k) = chain_from t r first (suc k)

-- ---- a chain as far as it stays in the current word

-- one cluster of it, with as many left as are to follow from it on
abbrev pub step_at : List ℕ → ℕ → ℕ → ℕ → Step
step_at t current c left =
    by_cluster t current c (record { marks = false; sound = false; next = c; left = 0 })
    (record { marks = true; sound = eqb (left - 1) 0; next = c; left = 0 })
    (record { marks = true; sound = false; next = get_or t c 0 - top_bit; left = left - 1 })

-- Cluster c with k clusters left from it on; `sound` is what was found so far. Where clusters are left, the next one lies in another word.
unfoldable pub near_from : List ℕ → Reached → Bool → ℕ → ℕ → Near
near_from t r sound c zero = record { reached = r; sound = sound; next = c; left = 0 }
near_from t r sound c (suc k) =
    cond (eqb (c / 64) r.at)
    (by_cluster t r.current c (record { reached = r; sound = false; next = c; left = 0 })
    (record { reached = with_mark r c; sound = eqb k 0; next = c; left = 0 })
    (near_from t (with_mark r c) false (get_or t c 0 - top_bit) k))
    (record { reached = r; sound = sound; next = c; left = suc k })

abbrev pub near_behind : List ℕ → Reached → ℕ → ℕ → Near
near_behind t r first k = near_from t r (eqb k 0 && eqb first end_mark) first k
