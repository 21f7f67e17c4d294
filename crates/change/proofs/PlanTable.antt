-- The table that the code links has the words that a plan gives.
use Prim.Native.Nat.{ℕ, ◌+◌, ◌<◌, ◌≤◌}
use mathlib.Core.List.{List, [], ◌++◌, ◌∷◌, append-nil}
use mathlib.Core.Path.{◌∙◌, ◌≡◌, ap, sym}
use native.Mathlib.Omega.{arith}
use lib.ListN.{get_or, length}
use Rattle.model.specs.Holds.{Chain}
use Rattle.model.specs.Tree.{times}
use Rattle.model.specs.View.{Link, View}
use Rattle.model.specs.Writes.{chain_words, cleared_words}
use Rattle.model.proofs.Frame.{hit-self}
use Rattle.reached.specs.Table.{table_links}
use Rattle.change.specs.Deeds.{relinked}
use Rattle.change.specs.Words.{chained, cleared_from}
use Rattle.change.proofs.ChainWords.{Follows, Worded, chain-at, chain-grown, chain-out, chain-self, chain-worded, cleared-out, last_in, length-chained, length-cleared, word-chained, word-cleared, worded-as}

module _ (v : View) (t : List ℕ) (links : (c : ℕ) → v.link c ≡ table_links t c) (first : ℕ) (rest given taken : List ℕ) (back : ℕ)
    (linked : Chain v (Link.next first) (first ∷ rest)) (follows : Follows t back given) where
  abbrev words : ℕ → ℕ
  words = chain_words taken (cleared_words given (λ c. get_or t c 0))

  module _ (apart : (c : ℕ) → times (first ∷ rest) c + times given c + times taken c ≤ 1) where
    -- the chain's own words are untouched by those given back and taken
    worded : Worded (chain_words taken (cleared_words given (λ c. get_or t c 0))) (first ∷ rest)
    worded =
        worded-as (λ c. get_or t c 0) _ (first ∷ rest)
        (λ x u. chain-out taken _ x (omega (arith, apart x)) ∙ cleared-out given (λ c. get_or t c 0) x (omega (arith, apart x)))
        (chain-worded v t links (Link.next first) (first ∷ rest) linked)

    taken_word : (x : ℕ) → x < length t → get_or (chained taken (cleared_from back (length given) t)) x 0 ≡ chain_words taken (cleared_words given (λ c. get_or t c 0)) x
    taken_word x h =
        word-chained taken (cleared_from back (length given) t) x (omega (arith, length-cleared (length given) back t))
        ∙ chain-at taken (λ c. get_or (cleared_from back (length given) t) c 0) (cleared_words given (λ c. get_or t c 0)) x (word-cleared given t back x follows (λ c. omega (arith, apart c)) h)

    pub same-words : (growth : List ℕ) (last : ℕ) → length growth ≤ 1 → ((c : ℕ) → times (first ∷ rest) c + times growth c ≤ 1) → last ≡ last_in first rest
        → (x : ℕ) → x < length t → chain_words ((first ∷ rest) ++ growth) (chain_words taken (cleared_words given (λ c. get_or t c 0))) x
        ≡ get_or (relinked back (length given) taken last growth t) x 0
    same-words [] last short new l x h =
        ap (λ cs. chain_words cs (chain_words taken (cleared_words given (λ c. get_or t c 0))) x) (append-nil (first ∷ rest))
        ∙ chain-self (first ∷ rest) _ worded x ∙ sym (taken_word x h)
    same-words (g ∷ []) last short new l x h =
        chain-grown first rest g _ worded (λ c. omega (arith, apart c)) (omega (arith, new g, hit-self g)) x
        ∙ ap (λ n. chain_words (n ∷ g ∷ []) (chain_words taken (cleared_words given (λ c. get_or t c 0))) x) (sym l)
        ∙ sym (word-chained (last ∷ g ∷ []) (chained taken (cleared_from back (length given) t)) x
        (omega (arith, length-chained taken (cleared_from back (length given) t), length-cleared (length given) back t))
        ∙ chain-at (last ∷ g ∷ []) (λ c. get_or (chained taken (cleared_from back (length given) t)) c 0) (chain_words taken (cleared_words given (λ c. get_or t c 0))) x (taken_word x h))
    same-words (g ∷ i ∷ gs) last short new l x h = absurd (omega arith)
