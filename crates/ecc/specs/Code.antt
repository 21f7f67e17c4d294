-- The code of a chunk (RULES, "Pages and their code"). A byte is a number, a chunk the list of its bytes.
use Rattle.std.specs.Prelude.{List, [], ◌∷◌, ℕ, zero, suc, ◌+◌, ◌-◌, ◌*◌, ◌%◌, replicate}
use Rattle.std.specs.Int.Bits.{bit_and, bit_xor}
use Rattle.std.specs.Int.Count.{ones_in}
use Rattle.ecc.specs.declared.Code.{Code}

-- Three bytes as a code, and a chunk of zeros.
abbrev pub code_of_bytes : ℕ → ℕ → ℕ → Code
code_of_bytes x y z = record { byte0 = x; byte1 = y; byte2 = z }

abbrev pub zeros : List ℕ
zeros = replicate 128 0x00

-- 1 where the byte has an odd number of ones, else 0.
unfoldable pub parity : ℕ → ℕ
parity byte = ones_in 8 byte % 2

-- What a data byte flips in code byte 0: bit 0, 1, 2, 4, 5, 6 where the byte, ANDed with that bit's mask, has an odd number of ones.
unfoldable pub column_parities : ℕ → ℕ
column_parities byte =
    parity (bit_and byte 0x55) * 1 + parity (bit_and byte 0x33) * 2 + parity (bit_and byte 0x0F) * 4
    + parity (bit_and byte 0xAA) * 16 + parity (bit_and byte 0xCC) * 32 + parity (bit_and byte 0xF0) * 64

-- The value where the parity is 1, else zero.
abbrev pub where_odd : ℕ → ℕ → ℕ
where_odd zero value = zero
where_odd (suc more) value = value

-- Exclusive or of two codes, byte by byte.
abbrev pub ◌⊕◌ : Code → Code → Code
◌⊕◌ a b = record { byte0 = bit_xor a.byte0 b.byte0; byte1 = bit_xor a.byte1 b.byte1; byte2 = bit_xor a.byte2 b.byte2 }

infixl 60 ◌⊕◌
-- What the data byte at an index flips: its columns in byte 0 and, where it has an odd number of ones, 127 - index in byte 1 and index in byte 2.
abbrev pub contribution : ℕ → ℕ → Code
contribution index byte =
    record { byte0 = column_parities byte; byte1 = where_odd (parity byte) (127 - index); byte2 = where_odd (parity byte) index }

-- Byte 0 starts at 0x77, bytes 1 and 2 at 0x7F.
abbrev pub start : Code
start = code_of_bytes 0x77 0x7F 0x7F

-- The code after the bytes, the first of which stands at the index.
abbrev pub code_from : ℕ → List ℕ → Code → Code
code_from index [] code = code
code_from index (byte ∷ bytes) code = code_from (suc index) bytes (code ⊕ contribution index byte)

-- The code of a chunk.
unfoldable pub code_of : List ℕ → Code
code_of chunk = code_from 0 chunk start
