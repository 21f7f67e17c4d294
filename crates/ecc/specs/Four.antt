-- The four chunks of a page, each coded and judged by itself.
use Rattle.std.specs.Prelude.{Bool, true, false, List, ℕ, ◌+◌, ◌*◌, get_or}
use Rattle.ecc.specs.declared.Code.{Code}
use Rattle.ecc.specs.declared.Four.{Four}
use Rattle.ecc.specs.declared.Verdict.{Verdict}
use Rattle.ecc.specs.Code.{code_of, code_of_bytes}
use Rattle.ecc.specs.Judge.{judge_slice}

abbrev pub codes_of : (chunk0 chunk1 chunk2 chunk3 : List ℕ) → Four Code
codes_of chunk0 chunk1 chunk2 chunk3 = record { chunk0 = code_of chunk0; chunk1 = code_of chunk1; chunk2 = code_of chunk2; chunk3 = code_of chunk3 }

-- Bytes 3k to 3k+2 are the code of chunk k; one that is missing counts as zero.
abbrev pub code_at : List ℕ → ℕ → Code
code_at stored k = code_of_bytes (get_or stored (3 * k) 0) (get_or stored (3 * k + 1) 0) (get_or stored (3 * k + 2) 0)

abbrev pub judge_four : (chunk0 chunk1 chunk2 chunk3 stored : List ℕ) → Four Verdict
judge_four chunk0 chunk1 chunk2 chunk3 stored =
    record {
      chunk0 = judge_slice chunk0 (code_at stored 0);
      chunk1 = judge_slice chunk1 (code_at stored 1);
      chunk2 = judge_slice chunk2 (code_at stored 2);
      chunk3 = judge_slice chunk3 (code_at stored 3);
    }

-- 1 for what is true
abbrev pub one : Bool → ℕ
one true = 1
one false = 0

-- How many of the four are true, 0 to 4.
abbrev pub count_of : Four Bool → ℕ
count_of f = one f.chunk0 + one f.chunk1 + one f.chunk2 + one f.chunk3
