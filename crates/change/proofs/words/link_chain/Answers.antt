use Prim.Native.Nat.{ℕ}
use mathlib.Core.List.{List}
use mathlib.Core.Path.{◌∙◌, ◌≡◌, refl, subst, sym}
use native.Mathlib.Omega.{arith}
use borrow.Author.Rules.{rules}
use Rattle.change.proofs.WordSteps.{Linked, all-linked, linked, linked-past, low-word, nothing-linked}
use Rattle.change.proofs.words.link_chain.Goals as goal
use Rattle.change.proofs.words.link_chain.Goals.{else-i-table, then-i-table}

pub loop-cluster-init : goal.loop-cluster-init
loop-cluster-init c =
    let a = c.args in
    let whole : c.into_iter-cluster-iterator.result.iter.rest.now ≡ a.clusters.now = search rules in
    (refl, subst (λ (left : List ℕ). Linked a.clusters.now a.table.now left 4294967295 a.table.now) (sym whole) (nothing-linked a.clusters.now a.table.now))

pub overflow_add-word : goal.overflow_add-word
overflow_add-word c = omega (arith, low-word c.loop-cluster.invariant.1 c.next.new.self.iter.rest.now c.in-Some.cluster.now (search rules) c.requires)

pub loop-cluster-preserved : goal.loop-cluster-preserved
loop-cluster-preserved c =
    let l = c.loop-cluster in (
      c.if-i-table.auto.table ∙ l.auto.table,
      elim c.if-i-table.branch [
        | then-i-table w ↦ rw w.table-is (linked l.invariant.1 c.next.new.self.iter.rest.now c.in-Some.cluster.now (search rules))
        | else-i-table w ↦ rw w.table-is (linked-past l.invariant.1 c.next.new.self.iter.rest.now c.in-Some.cluster.now (search rules) w.if-i-table.false)
      ],
    )

pub returns : goal.returns
returns c = all-linked c.loop-cluster.invariant.1 (search rules)
