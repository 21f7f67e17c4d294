-- Bytes of a page and the numbers in them. Numbers are little-endian (RULES, "Pages and their code").
use Rattle.std.specs.Prelude.{◌%◌, ◌*◌, ◌+◌, ◌/◌, suc, zero, ℕ, cond, List, [], ◌∷◌, eqb, drop, take}

-- the bytes from a place on
abbrev pub slice : List ℕ → ℕ → ℕ → List ℕ
slice bytes from count = take count (drop from bytes)

-- the number that bytes make, the lowest first
abbrev pub little : List ℕ → ℕ
little [] = 0
little (b ∷ bs) = b % 256 + 256 * little bs

-- the bytes of a number, as many as its field has
abbrev pub little_bytes : ℕ → ℕ → List ℕ
little_bytes zero n = []
little_bytes (suc width) n = (n % 256) ∷ little_bytes width (n / 256)

abbrev pub half : List ℕ → ℕ → ℕ
half bytes from = little (slice bytes from 2)

abbrev pub word : List ℕ → ℕ → ℕ
word bytes from = little (slice bytes from 4)

-- what a word tells is below 2^32, and the pages of the clusters that words can name are below 2^33
abbrev pub word_limit : ℕ
word_limit = 4294967296

abbrev pub page_limit : ℕ
page_limit = 8589934592

-- what stands before the first zero
abbrev pub before_zero : List ℕ → List ℕ
before_zero [] = []
before_zero (b ∷ bs) = cond (eqb b 0) [] (b ∷ before_zero bs)
