-- The words that a plan gives the table are words, and all words of a table are.
use Prim.Native.Nat.{ℕ, ◌^◌, ◌<◌, ◌≤◌}
use mathlib.Core.Bool.{false, true}
use mathlib.Core.List.{List, [], ◌++◌, ◌∷◌}
use mathlib.Core.Logic.{⊎_elim}
use mathlib.Core.Path.{◌∙◌, ◌≡◌}
use native.Mathlib.Decide.{dec_lt}
use native.Mathlib.Omega.{arith}
use lib.Dec.{eqb}
use Rattle.model.specs.Plan.{Plan}
use Rattle.model.specs.Tree.{times}
use Rattle.model.specs.Writes.{chain_words, cleared_words, word_to, words_after}
use Rattle.model.specs.View.{most_clusters}
use Rattle.model.proofs.Allocation.{times-append}
use Rattle.model.proofs.Equality.{bool}
use Rattle.model.proofs.Frame.{hit-self}

module _ (end : ℕ) (small : end ≤ most_clusters) where
  to-fits : (cs : List ℕ) → ((c : ℕ) → end ≤ c → times cs c ≡ 0) → word_to cs < 256 ^ 4
  to-fits [] low = omega arith
  to-fits (c ∷ cs) low = go (dec_lt c end)
    where
      go : Dec (c < end) → word_to (c ∷ cs) < 256 ^ 4
      go (yes z) = omega arith
      go (no z) = absurd (omega (arith, low c (omega arith), hit-self c))

  chain_fits : (cs : List ℕ) (words : ℕ → ℕ) → ((c : ℕ) → end ≤ c → times cs c ≡ 0) → ((c : ℕ) → words c < 256 ^ 4) → (x : ℕ) → chain_words cs words x < 256 ^ 4
  chain_fits [] words low all x = all x
  chain_fits (c ∷ cs) words low all x =
      ⊎_elim (λ (e : eqb c x ≡ true). rw e (to-fits cs (λ z u. omega (arith, low z u)))) (λ (e : eqb c x ≡ false). rw e (chain_fits cs words (λ z u. omega (arith, low z u)) all x)) (bool (eqb c x))

  cleared-fits : (cs : List ℕ) (words : ℕ → ℕ) → ((c : ℕ) → words c < 256 ^ 4) → (x : ℕ) → cleared_words cs words x < 256 ^ 4
  cleared-fits [] words all x = all x
  cleared-fits (c ∷ cs) words all x =
      ⊎_elim (λ (e : eqb c x ≡ true). rw e (omega arith)) (λ (e : eqb c x ≡ false). rw e (cleared-fits cs words all x)) (bool (eqb c x))

  pub words-fit : (p : Plan) (words : ℕ → ℕ) → ((c : ℕ) → end ≤ c → times p.directory.chain c ≡ 0) → ((c : ℕ) → end ≤ c → times p.growth c ≡ 0)
      → ((c : ℕ) → end ≤ c → times p.taken c ≡ 0) → ((c : ℕ) → words c < 256 ^ 4) → (x : ℕ) → words_after p words x < 256 ^ 4
  words-fit p words chain growth taken all x =
      chain_fits (p.directory.chain ++ p.growth) _ (λ c u. times-append p.directory.chain p.growth c ∙ omega (arith, chain c u, growth c u))
      (chain_fits p.taken _ taken (cleared-fits p.given words all)) x
