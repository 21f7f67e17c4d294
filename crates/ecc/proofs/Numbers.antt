-- The numbers to meet on codes (RULES, marked P): the codes by computing them, the two verdicts by the syndrome.
use mathlib.Core.Path.{◌≡◌, refl}
use lib.Count.{ones_in, ones}
use lib.ListN.{set, replicate}
use Rattle.ecc.specs.declared.Verdict.TheVariants.{Good, Unreadable}
use Rattle.ecc.specs.Code.{parity, column_parities, code_of, code_of_bytes, zeros}
use Rattle.ecc.specs.Judge.{counted, same, judge}
use Rattle.ecc.proofs.Syndrome.{syndrome, locate, column_pairs, line_pairs, one_bit}
use Rattle.ecc.proofs.Laws.{judge-is}

pub zero-chunk : code_of zeros ≡ code_of_bytes 0x77 0x7F 0x7F
unfolding code_of column_parities parity ones_in
zero-chunk = refl

pub only-byte-0 : code_of (set zeros 0 0x01) ≡ code_of_bytes 0x70 0x00 0x7F
unfolding code_of column_parities parity ones_in
only-byte-0 = refl

pub only-byte-127 : code_of (set zeros 127 0x80) ≡ code_of_bytes 0x07 0x7F 0x00
unfolding code_of column_parities parity ones_in
only-byte-127 = refl

pub only-byte-5 : code_of (set zeros 5 0x10) ≡ code_of_bytes 0x34 0x05 0x7A
unfolding code_of column_parities parity ones_in
only-byte-5 = refl

pub bytes-0-and-1 : judge (set (set zeros 0 0x01) 1 0x01) (code_of_bytes 0x77 0x7F 0x7F) ≡ Unreadable
unfolding code_of column_parities parity ones_in ones locate syndrome same counted column_pairs line_pairs one_bit
bytes-0-and-1 = judge-is (set (set zeros 0 0x01) 1 0x01) (code_of_bytes 0x77 0x7F 0x7F) refl

pub all_ones : judge (replicate 128 0xFF) (code_of_bytes 0xFF 0xFF 0xFF) ≡ Good
unfolding code_of column_parities parity ones_in locate syndrome same counted
all_ones = judge-is (replicate 128 0xFF) (code_of_bytes 0xFF 0xFF 0xFF) refl
