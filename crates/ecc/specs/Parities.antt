-- The table from which the code of a chunk takes the parities of each data byte.
use Rattle.std.specs.Prelude.{◌≡◌, List, ℕ, ◌+◌, ◌*◌, ◌/◌, ◌%◌, ◌<◌, get_or}
use Rattle.std.specs.Int.Bits.{bit_xor}
use Rattle.ecc.specs.declared.Code.{Code}
use Rattle.ecc.specs.Code.{parity, column_parities}

-- The entry of a byte: its column parities, and eight ones in bits 7 to 14 where it has an odd number of ones.
abbrev pub parity_entry : ℕ → ℕ
parity_entry byte = column_parities byte + 0x7F80 * parity byte

-- The table has the entry of each of the 256 bytes.
pub record HoldsParities (table : List ℕ) : Type 0 where
  pub entries : (byte : ℕ) → byte < 256 → get_or table byte 0 ≡ parity_entry byte

-- The code carried in one number, to which entries are added: byte 0 in bits 0 to 6, byte 2 in bits 8 to 14, and bit 7
-- tells whether byte 1 is byte 2 or 127 XOR it.
abbrev pub code_in : ℕ → Code
code_in sums = record { byte0 = sums % 128; byte1 = bit_xor (sums / 256 % 256) (127 * (sums / 128 % 2)); byte2 = sums / 256 % 256 }
