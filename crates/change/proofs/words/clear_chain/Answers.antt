use Prim.Native.Nat.{◌+◌, ◌-◌}
use mathlib.Core.Path.{◌∙◌, ◌≡◌, sym}
use native.Mathlib.Omega.{arith}
use Rattle.change.proofs.WordSteps.{all-freed, freed, freed-past}
use Rattle.change.proofs.words.clear_chain.Goals as goal
use Rattle.change.proofs.words.clear_chain.Goals.{else-i-table, then-i-table}

pub loop-preserved : goal.loop-preserved
loop-preserved c =
    let l = c.loop in
    let left = c.args.count - l.counter in
    let less : c.args.count - (l.counter + 1) ≡ c.args.count - l.counter - 1 = omega arith in (
      c.if-i-table.auto.table ∙ c.loop.auto.table,
      rw less
          (elim c.if-i-table.branch [
            | then-i-table w ↦ rw (w.table-is, c.next_of-next.ensures) (sym (freed l.table l.c left (omega arith))) ∙ l.invariant.1
            | else-i-table w ↦ rw (w.table-is, c.next_of-next.ensures) (sym (freed-past l.table l.c left (omega arith) w.if-i-table.false)) ∙ l.invariant.1
          ]),
    )

pub returns : goal.returns
returns c =
    sym (all-freed c.loop.c (c.args.count - c.loop.counter) c.loop.table (omega arith)) ∙ c.loop.invariant.1
