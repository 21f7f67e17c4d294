-- The numbers marked P (RULES, "Numbers to meet"), in the order there.
use Rattle.std.specs.Prelude.{false, true, [], ◌∷◌, ◌≡◌, replicate, set}
use Rattle.ecc.specs.Code.{code_of, code_of_bytes, zeros}
use Rattle.ecc.specs.Judge.{judge}
use Rattle.ecc.specs.declared.Verdict.TheVariants.{Good, Unreadable}
use Rattle.model.specs.Time.{valid_time}
use Rattle.model.specs.View.{Link, link_of}

pub record MarkedNumbers : Type 0 where
  -- Zero chunk: 77 7F 7F. Only byte 0 = 01: 70 00 7F. Only byte 127 = 80: 07 7F 00. Only byte 5 = 10: 34 05 7A.
  pub zero-chunk : code_of zeros ≡ code_of_bytes 0x77 0x7F 0x7F
  pub only-byte-0 : code_of (set zeros 0 0x01) ≡ code_of_bytes 0x70 0x00 0x7F
  pub only-byte-127 : code_of (set zeros 127 0x80) ≡ code_of_bytes 0x07 0x7F 0x00
  pub only-byte-5 : code_of (set zeros 5 0x10) ≡ code_of_bytes 0x34 0x05 0x7A
  -- Bytes 0 and 1 = 01, stored 77 7F 7F: unreadable. All FF with code FF FF FF: good.
  pub bytes-0-and-1 : judge (set (set zeros 0 0x01) 1 0x01) (code_of_bytes 0x77 0x7F 0x7F) ≡ Unreadable
  pub all_ones : judge (replicate 128 0xFF) (code_of_bytes 0xFF 0xFF 0xFF) ≡ Good
  -- 29 February 2000 accepted; 2100 refused.
  pub leap-day-2000 : valid_time (0 ∷ 0 ∷ 0 ∷ 0 ∷ 29 ∷ 2 ∷ 0xD0 ∷ 0x07 ∷ []) ≡ true
  pub leap-day-2100 : valid_time (0 ∷ 0 ∷ 0 ∷ 0 ∷ 29 ∷ 2 ∷ 0x34 ∷ 0x08 ∷ []) ≡ false
  -- Table word 0x7FFFFFFF is free; 0x80000001 leads to 1; 0xFFFFFFFF ends.
  pub word-free : link_of 0x7FFFFFFF ≡ Link.free
  pub word_next : link_of 0x80000001 ≡ Link.next 1
  pub word_end : link_of 0xFFFFFFFF ≡ Link.last
