-- All digits but the last with one digit less to go, then the last.
use Rattle.std.proofs.Common.{◌-◌, arith, sym}
use Rattle.listing.proofs.EmitLaws.{digits_more, digits-none, digits-one, writes-append, writes_as, writes_none}
use Rattle.listing.proofs.emit.Text.+put_digits.Goals.{then-number-ge10, else-number-ge10}
use Rattle.listing.proofs.emit.Text.+put_digits.Goals as goal

pub returns-then-count-eq0 : goal.returns-then-count-eq0
returns-then-count-eq0 t c = writes_as (sym (digits-none _ _ c.if-count-eq0.true)) (writes_none _)

pub returns : goal.returns
returns t c = elim c.if-number-ge10.branch [
  | then-number-ge10 w ↦
      writes_as (sym (digits_more _ _ (c.args.count - 1) (omega arith) w.if-number-ge10.true))
      (writes-append w.put_digits.ensures (rw w.self-is at c.put_byte.ensures))
  | else-number-ge10 w ↦
      writes_as (sym (digits-one _ _ (omega arith) w.if-number-ge10.false)) (rw w.self-is at c.put_byte.ensures)
]
