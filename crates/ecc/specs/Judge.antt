-- How a chunk and its stored code are judged (RULES, "Pages and their code").
use Rattle.std.specs.Prelude.{Bool, true, false, ◌&&◌, cond, List, [], ◌∷◌, ℕ, zero, suc, ◌/◌, ◌%◌, ◌^◌, eqb, ◌<◌, length, get_or, set}
use Rattle.std.proofs.Math.Option.{Option, none, some}
use Rattle.std.specs.Int.Bits.{bit_and, bit_xor}
use Rattle.ecc.specs.declared.Code.{Code}
use Rattle.ecc.specs.declared.Verdict.{Verdict}
use Rattle.ecc.specs.declared.Verdict.TheVariants.{Good, DataBit, CodeBit, Unreadable}
use Rattle.ecc.specs.Code.{code_of, code_of_bytes, ◌⊕◌}

-- The 20 code bits that count: all but bits 3 and 7 of byte 0 and bit 7 of bytes 1 and 2.
unfoldable pub counted : Code → Code
counted code = record { byte0 = bit_and code.byte0 0x77; byte1 = bit_and code.byte1 0x7F; byte2 = bit_and code.byte2 0x7F }

-- Two codes are the same, byte by byte.
unfoldable pub same : Code → Code → Bool
same a b = eqb a.byte0 b.byte0 && (eqb a.byte1 b.byte1 && eqb a.byte2 b.byte2)

-- The stored code's bits match the data: those that count are the data's.
unfoldable pub matches : List ℕ → Code → Bool
matches chunk stored = same (counted (code_of chunk)) (counted stored)

-- The data with one bit of one byte flipped.
abbrev pub flip_at : List ℕ → ℕ → ℕ → List ℕ
flip_at chunk byte bit = set chunk byte (bit_xor (get_or chunk byte 0) (2 ^ bit))

-- The data with bit k of its 1,024 flipped: bit k % 8 of byte k / 8.
unfoldable pub flip_bit : List ℕ → ℕ → List ℕ
flip_bit chunk k = flip_at chunk (k / 8) (k % 8)

-- A code with one bit set, in byte 0, 1 or 2, and one with none.
abbrev pub in_byte0 : ℕ → Code
in_byte0 bit = code_of_bytes (2 ^ bit) 0 0

abbrev pub in_byte1 : ℕ → Code
in_byte1 bit = code_of_bytes 0 (2 ^ bit) 0

abbrev pub in_byte2 : ℕ → Code
in_byte2 bit = code_of_bytes 0 0 (2 ^ bit)

abbrev pub no_bits : Code
no_bits = code_of_bytes 0 0 0

-- The 20 code bits that count, one by one; to flip the k-th is to XOR with code_bit k.
unfoldable pub code_bits : List Code
code_bits =
    in_byte0 0 ∷ in_byte0 1 ∷ in_byte0 2 ∷ in_byte0 4 ∷ in_byte0 5 ∷ in_byte0 6
    ∷ in_byte1 0 ∷ in_byte1 1 ∷ in_byte1 2 ∷ in_byte1 3 ∷ in_byte1 4 ∷ in_byte1 5 ∷ in_byte1 6
    ∷ in_byte2 0 ∷ in_byte2 1 ∷ in_byte2 2 ∷ in_byte2 3 ∷ in_byte2 4 ∷ in_byte2 5 ∷ in_byte2 6 ∷ []

unfoldable pub code_bit : ℕ → Code
unfolding code_bits
code_bit k = get_or code_bits k no_bits

-- A number below the bound that passes the test, if there is one.
abbrev pub find_below : ℕ → (ℕ → Bool) → Option ℕ
find_below zero test = none
find_below (suc n) test = elim (test n) [ true ↦ some n | false ↦ find_below n test ]

-- The verdict for what was found, or else the next one.
abbrev pub good_or : Bool → Verdict → Verdict
good_or true next = Good
good_or false next = next

abbrev pub data_bit_or : Option ℕ → Verdict → Verdict
data_bit_or (some k) next = DataBit (k / 8) (k % 8)
data_bit_or none next = next

abbrev pub code_bit_or : Option ℕ → Verdict → Verdict
code_bit_or (some k) next = CodeBit
code_bit_or none next = next

-- Good if the code bits match; corrected if one of the 1,024 data bits or 20 code bits must flip to make them match; else unreadable.
-- That at most one of the 1,044 flips does is the claim OneFlipUnique.
unfoldable pub judge : List ℕ → Code → Verdict
judge chunk stored =
    good_or (matches chunk stored)
    (data_bit_or (find_below 1024 (λ k. matches (flip_bit chunk k) stored))
    (code_bit_or (find_below 20 (λ k. matches chunk (stored ⊕ code_bit k)))
    Unreadable))

-- The same for any slice of bytes: a chunk is 128 bytes.
unfoldable pub judge_slice : List ℕ → Code → Verdict
judge_slice bytes stored = cond (eqb (length bytes) 128) (judge bytes stored) Unreadable

-- The data as the verdict corrects it.
abbrev pub corrected : Verdict → List ℕ → List ℕ
corrected Good chunk = chunk
corrected (DataBit byte bit) chunk = flip_at chunk byte bit
corrected CodeBit chunk = chunk
corrected Unreadable chunk = chunk

-- The place that a verdict names lies in a chunk.
abbrev pub Placed : Verdict → Type 0
Placed Good = Unit {0}
Placed (DataBit byte bit) = (byte < 128) × (bit < 8)
Placed CodeBit = Unit {0}
Placed Unreadable = Unit {0}
