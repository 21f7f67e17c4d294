-- The path (8), the names that the change takes (8), the time (14), and then the change.
use native.Mathlib.Omega.{arith}
use mathlib.Core.Bool.{true}
use mathlib.Core.Path.{◌∙◌, ◌≡◌, ap, subst, sym}
use lib.ListN.{length}
use Rattle.std.specs.Prelude.{None, Some}
use Rattle.fields.proofs.PathLaws.{of-malformed, of-names}
use Rattle.fields.specs.PathBytes.{path_of}
use Rattle.layout.specs.declared.Refusal.TheVariants as is
use Rattle.change.specs.Kinds.{Ready, takes_names}
use Rattle.change.proofs.CallLaws.{leaves, leaves-refused}
use Rattle.change.proofs.CallSteps.{bad-path, bad-time, malformed, ready}
use Rattle.change.proofs.calls.change_card.Goals as goal

pub returns-then-not-takes_names : goal.returns-then-not-takes_names
returns-then-not-takes_names c =
    let a = c.args in
    let given : c.parse_path.result ≡ Some c.in_ok-count.count = grind arith in
    let n = of-names (path_of a.path.now) _ (sym c.parse_path.ensures ∙ given) in
    leaves (bad-path a.image.now a.s a.table.now c.requires a.change a.path.now n.0 n.1 (ap (takes_names a.change) n.2 ∙ sym c.takes_names.ensures ∙ c.if-not-takes_names.true))

pub returns-then-not-takes_time : goal.returns-then-not-takes_time
returns-then-not-takes_time c =
    let a = c.args in
    let given : c.parse_path.result ≡ Some c.in_ok-count.count = grind arith in
    let n = of-names (path_of a.path.now) _ (sym c.parse_path.ensures ∙ given) in
    let t : takes_names a.change (length n.0) ≡ true = ap (takes_names a.change) n.2 ∙ sym c.takes_names.ensures ∙ c.if-not-takes_names.false in
    leaves (bad-time a.image.now a.s a.table.now c.requires a.change a.path.now n.0 n.1 t (sym c.takes_time.ensures ∙ c.if-not-takes_time.true))

pub change_at-requires : goal.change_at-requires
change_at-requires c =
    let a = c.args in
    let given : c.parse_path.result ≡ Some c.in_ok-count.count = grind arith in
    let n = of-names (path_of a.path.now) _ (sym c.parse_path.ensures ∙ given) in
    let t : takes_names a.change (length n.0) ≡ true = ap (takes_names a.change) n.2 ∙ sym c.takes_names.ensures ∙ c.if-not-takes_names.false in
    subst (λ i. Ready a.image.now a.s a.table.now a.change a.path.now i) n.2
    (ready a.image.now a.s a.table.now c.requires a.change a.path.now n.0 n.1 t (sym c.takes_time.ensures ∙ c.if-not-takes_time.false))

pub returns-in_err-count : goal.returns-in_err-count
returns-in_err-count c =
    let a = c.args in
    let none : c.parse_path.result ≡ None = grind arith in
    leaves-refused {r = is.BadPath} (malformed a.image.now a.s a.table.now c.requires a.change a.path.now (of-malformed (path_of a.path.now) (sym c.parse_path.ensures ∙ none))) (grind arith)
