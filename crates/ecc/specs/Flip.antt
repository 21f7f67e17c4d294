-- One flipped bit of a chunk or of its stored code.
use Rattle.std.specs.Prelude.{List, ℕ, ◌/◌, ◌%◌, ◌<◌}
use Rattle.ecc.specs.declared.Code.{Code}
use Rattle.ecc.specs.declared.Verdict.{Verdict}
use Rattle.ecc.specs.declared.Verdict.TheVariants.{DataBit, CodeBit}
use Rattle.ecc.specs.Code.{◌⊕◌}
use Rattle.ecc.specs.Judge.{flip_bit, code_bit}

-- Data bit k, or the k-th of the code bits that count.
pub data Flip : Type 0 where
  in_data : ℕ → Flip
  in_code : ℕ → Flip

-- It is one of the 1,024 data bits or of the 20 code bits.
abbrev pub Counts : Flip → Type 0
Counts (in_data k) = k < 1024
Counts (in_code k) = k < 20

-- The data after the flip.
abbrev pub flipped_data : Flip → List ℕ → List ℕ
flipped_data (in_data k) chunk = flip_bit chunk k
flipped_data (in_code k) chunk = chunk

-- The stored code after the flip.
abbrev pub flipped_code : Flip → Code → Code
flipped_code (in_data k) stored = stored
flipped_code (in_code k) stored = stored ⊕ code_bit k

-- The verdict that tells the flip.
abbrev pub flip_verdict : Flip → Verdict
flip_verdict (in_data k) = DataBit (k / 8) (k % 8)
flip_verdict (in_code k) = CodeBit
