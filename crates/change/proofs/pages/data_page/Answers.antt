-- The data's bytes stand in a page of zeros: a piece of 512 of them, the last ones, or none.
use Prim.Native.Nat.{◌*◌}
use mathlib.Core.Path.{◌∙◌, ◌≡◌, ap}
use native.Mathlib.Omega.{arith}
use lib.ListN.{drop, length}
use Rattle.std.proofs.lemmas.Slice.{between_to_end}
use Rattle.change.proofs.PageSteps.{page-from, page-past}
use Rattle.change.proofs.pages.data_page.Goals as goal

pub returns-in-Some : goal.returns-in-Some
returns-in-Some c =
    let a = c.args in
    let found = c.in-Some.ensures.lookup.0 in
    let place : c.saturating_mul.result ≡ 512 * a.k = omega (arith, c.saturating_mul.ensures, c.well_formed, found.0) in
    page-from a.bytes.now a.k c.zero_page-page.ensures c.put_bytes.ensures c.min.ensures
    (found.2 ∙ between_to_end a.bytes.now c.saturating_mul.result (length a.bytes.now) (omega arith) ∙ ap (λ n. drop n a.bytes.now) place)

pub returns-in_default : goal.returns-in_default
returns-in_default c =
    let a = c.args in
    page-past a.bytes.now a.k c.zero_page-page.ensures (omega (arith, c.saturating_mul.ensures, c.in_default.ensures.lookup))
