-- A page of the view is the image's page.
use Rattle.std.proofs.Common.{◌≡◌, arith}
use Rattle.layout.specs.See.{image_page}
use Rattle.tree.proofs.PagePlaces.{inside, outside, past}
use Rattle.tree.proofs.slots.place_of.Goals as goal
use Rattle.tree.proofs.slots.place_of.Goals.{then-count-page-via-then-count-page, then-count-page-via-else-count-page+then-page_count-page}

pub returns-then-count-page : goal.returns-then-count-page
returns-then-count-page c =
    let a = c.args in
    elim c.then-count-page.branch [
      | then-count-page-via-then-count-page w ↦ outside a.geometry a.count a.image.now a.page w.if-count-page.true
      | then-count-page-via-else-count-page+then-page_count-page w ↦ past a.geometry a.count a.image.now a.page _ w.page_count.ensures.0 w.if-page_count-page.true
    ]

pub returns : goal.returns
returns c =
    let known = c.well_formed in
    let a = c.args in
    let at : c.image_page.result ≡ image_page a.geometry a.page = omega (arith, c.image_page.ensures, c.page_count.ensures) in
    (at, inside a.geometry a.count a.image.now a.page c.image_page.result c.if-count-page.false at)
