-- A valid time shows a valid moment; the shift's bits are the shift.
use Rattle.std.proofs.Common.{ap, ◌∙◌}
use mir.Syntax.{w32}
use mir.ValLaws.{to_z-of_z}
use Rattle.model.specs.Calendar.{is_shift}
use Rattle.model.specs.Time.{valid_moment}
use Rattle.fields.proofs.ShiftLaws.{takes-shift}
use Rattle.fields.proofs.calendar.shop_time.Goals as goal

pub shift-moment-requires : goal.shift-moment-requires
shift-moment-requires c =
    let s = to_z-of_z w32 c.args.minutes c.ranges.minutes in
    let takes = takes-shift c.args.minutes c.args.time.now _ _ c.is_valid_time.ensures (c.is_shift.ensures ∙ ap is_shift s) c.if-is_valid_time-is_shift.false in
    (ap valid_moment c.moment_of.ensures ∙ takes.0, ap is_shift s ∙ takes.1)
