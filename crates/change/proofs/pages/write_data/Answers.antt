use Prim.Native.Nat.{◌%◌, ◌*◌, ◌+◌, ◌/◌}
use mathlib.Core.Path.{◌∙◌, ◌≡◌, sym}
use native.Mathlib.Omega.{arith}
use borrow.Author.Rules.{rules}
use lib.ListN.{get_or}
use Rattle.layout.specs.See.{image_page}
use Rattle.change.proofs.PageSteps.{all_left, none_left, one_less}
use Rattle.change.proofs.pages.write_data.Goals as goal

pub loop-k-preserved : goal.loop-k-preserved
loop-k-preserved c =
    let l = c.loop-k in
    let a = c.args in
    let there : c.image_page.result ≡ image_page a.geometry (2 * get_or a.clusters.now (l.k / 2) 0 + l.k % 2) = omega (arith, c.well_formed.1.0.1, c.image_page.ensures, c.type_inv.clusters (l.k / 2)) in
    (search rules, one_less a.geometry a.clusters.now a.bytes.now l.k l.image c.requires (omega arith) c.data_page-page.ensures there c.write_page.ensures ∙ l.invariant.1)

pub returns : goal.returns
returns c =
    let a = c.args in
    let l = c.loop-k in
    sym (none_left a.geometry a.clusters.now a.bytes.now l.k l.image (omega arith)) ∙ l.invariant.1 ∙ all_left a.geometry a.clusters.now a.bytes.now a.image.now
