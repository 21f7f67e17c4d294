-- What the pages hold that a change writes, by the numbers and bytes that the code has in hand.
use Rattle.std.specs.Prelude.{ℕ, ◌*◌, List, ◌++◌, drop, get_or, length, take}
use Rattle.page.specs.declared.Format.{Format}
use Rattle.model.specs.Pages.{zero_page}
use Rattle.change.specs.Image.{store_table, with_words, words_in}

-- page k of data; after the data's end it is zero
abbrev pub data_page : List ℕ → ℕ → List ℕ
data_page bytes k = take 512 (drop (512 * k) bytes ++ zero_page)

-- page t of the table, with the words of a table that is in memory
abbrev pub table_in : List ℕ → ℕ → List ℕ → List ℕ
table_in table t = with_words (λ c. get_or table c 0) (128 * t) (words_in (length table) t)

-- the first k pages of the table, by the names of its clusters
abbrev pub table_stored : Format → List ℕ → List ℕ → ℕ → List ℕ → List ℕ
table_stored format names table = store_table format names (length table) (λ c. get_or table c 0)
