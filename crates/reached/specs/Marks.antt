-- The record of which clusters have been reached so far (RULES, "Superblock and table"): a mark for each cluster, and how many are set.
use Rattle.std.specs.Prelude.{◌%◌, ◌+◌, ◌/◌, ◌<◌, ◌^◌, ℕ, Bool, ◌&&◌, cond, false, not, List, ◌≡◌, eqb, ltb, get_or, length, replicate, set}
use Rattle.std.specs.Int.Bits.{bit_or}
use Rattle.model.specs.Check.{Marks}
use Rattle.model.specs.Counts.{total_below}
use Rattle.model.specs.View.{most_clusters}
use Rattle.reached.specs.declared.Reached.{Reached}

-- 65,536 marks, 64 to a word
abbrev pub mark_words : ℕ
mark_words = most_clusters / 64

-- the record at the start of a walk
unfoldable pub no_marks : Reached
no_marks = record { words = replicate mark_words 0; count = 0; at = 0; current = 0; spare = replicate 5 0 }

-- bit b of a word
abbrev pub bit : ℕ → ℕ → ℕ
bit w b = w / 2 ^ b % 2

-- the words with one of them put in its place, if it has one
abbrev pub put_word : List ℕ → ℕ → ℕ → List ℕ
put_word words at w = cond (ltb at mark_words) (set words at w) words

-- All words of a record: the current one is kept beside the others, and counts in its place.
unfoldable pub words_of : Reached → List ℕ
words_of r = put_word r.words r.at r.current

-- Whether a cluster is marked: its bit. From 65,536 on none is.
unfoldable pub marked_in : List ℕ → ℕ → Bool
marked_in words c = cond (ltb c most_clusters) (eqb (bit (get_or words (c / 64) 0) (c % 64)) 1) false

abbrev pub marked : Reached → ℕ → Bool
marked r c = marked_in (words_of r) c

-- whether a cluster of the current word is marked
abbrev pub current_mark : ℕ → ℕ → Bool
current_mark current c = eqb (bit current (c % 64)) 1

-- The record with the word of a cluster as the current one; its marks are the same.
unfoldable pub turned : Reached → ℕ → Reached
turned r c =
    cond (eqb (c / 64) r.at) r
    (record { words = words_of r; count = r.count; at = c / 64; current = get_or (words_of r) (c / 64) 0; spare = r.spare })

-- the record with that bit of the current word set, and one more counted
unfoldable pub with_bit : Reached → ℕ → Reached
with_bit r c =
    record { words = r.words; count = r.count + 1; at = r.at; current = bit_or r.current (2 ^ (c % 64)); spare = r.spare }

-- Marking a cluster hands back the record with that one mark more, or the old one where it was set.
-- A cluster of another word than the current one, and a record that is full, change nothing.
unfoldable pub with_mark : Reached → ℕ → Reached
with_mark r c = cond (eqb (c / 64) r.at && (ltb r.count most_clusters && not (current_mark r.current c))) (with_bit r c) r

-- a cluster is marked once its word is the current one
abbrev pub reach : Reached → ℕ → Reached
reach r c = with_mark (turned r c) c

-- the model's marks of a record: how often each cluster was reached, 0 or 1
abbrev pub marks_of : Reached → Marks
marks_of r c = cond (marked r c) 1 0

-- how many clusters are marked
unfoldable pub mark_count : Reached → ℕ
mark_count r = total_below (marks_of r) most_clusters

-- A record as `new`, `turn` and `mark` make them: 1,024 words, one of them the current one, and the count is the number of marks.
pub record Sound (r : Reached) : Type 0 where
  pub words : length r.words ≡ mark_words
  pub at : r.at < mark_words
  pub count : r.count ≡ mark_count r

-- A sound record whose marks are the model's: what a walk hands on beside the model's walk.
pub record Keeps (r : Reached) (m : Marks) : Type 0 where
  pub sound : Sound r
  pub marks : (c : ℕ) → marks_of r c ≡ m c
