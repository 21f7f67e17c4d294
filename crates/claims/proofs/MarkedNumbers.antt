-- The numbers marked P, each computed where its rule is defined.
use Rattle.ecc.proofs.Numbers.{all_ones, bytes-0-and-1, only-byte-0, only-byte-127, only-byte-5, zero-chunk}
use Rattle.model.proofs.BenchHolds.{rule-numbers}
use Rattle.claims.specs.Numbers.{MarkedNumbers}

pub marked-numbers : MarkedNumbers
marked-numbers =
    record {
      zero-chunk = zero-chunk;
      only-byte-0 = only-byte-0;
      only-byte-127 = only-byte-127;
      only-byte-5 = only-byte-5;
      bytes-0-and-1 = bytes-0-and-1;
      all_ones = all_ones;
      leap-day-2000 = rule-numbers.leap_day2000;
      leap-day-2100 = rule-numbers.leap_day2100;
      word-free = rule-numbers.word_free;
      word_next = rule-numbers.word_next;
      word_end = rule-numbers.word_end;
    }
