-- The shifted minute lies in the day before, in the day or in the day after, and nowhere else.
use Rattle.fields.proofs.ShiftLaws.{lands-after, lands-before, lands_within, shifts_by}
use Rattle.fields.proofs.calendar.shift.Goals as goal

pub returns-then-minute-lt0 : goal.returns-then-minute-lt0
returns-then-minute-lt0 c =
    let way = lands-before (shifts_by c.args.moment c.args.minutes _ c.requires c.ranges.minutes c.add_shift-minute.ensures) c.if-minute-lt0.true in
    rw (c.clock_at.ensures, c.day_before.ensures, way.1.value) way.2

pub returns-then-minute-lt-DAY : goal.returns-then-minute-lt-DAY
returns-then-minute-lt-DAY c =
    let way = lands_within (shifts_by c.args.moment c.args.minutes _ c.requires c.ranges.minutes c.add_shift-minute.ensures) c.if-minute-lt0.false c.if-minute-lt-DAY.true in
    rw (c.clock_at-then-minute-lt-DAY.ensures, way.1.value) way.2

pub returns : goal.returns
returns c =
    let way = lands-after (shifts_by c.args.moment c.args.minutes _ c.requires c.ranges.minutes c.add_shift-minute.ensures) c.if-minute-lt0.false c.if-minute-lt-DAY.false in
    rw (c.clock_at-2.ensures, c.day_after.ensures, way.1.value) way.2
