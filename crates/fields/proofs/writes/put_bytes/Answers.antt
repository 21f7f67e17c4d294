-- As much as fits is put; past the end the list stays as it is.
use Rattle.std.proofs.Common.{sym}
use Rattle.fields.proofs.WriteLaws.{puts-part, puts-past}
use Rattle.fields.proofs.writes.put_bytes.Goals as goal

pub returns-then-at-bytes : goal.returns-then-at-bytes
returns-then-at-bytes c =
    puts-part c.args.bytes.now c.args.at c.min-count.result c.args.field.now c.copy_from_slice.new.self c.if-at-bytes.true c.min-count.ensures c.copy_from_slice.ensures.after

pub returns-else-at-bytes : goal.returns-else-at-bytes
returns-else-at-bytes c =
    sym (puts-past c.args.bytes.now c.args.at c.args.field.now c.if-at-bytes.false)
