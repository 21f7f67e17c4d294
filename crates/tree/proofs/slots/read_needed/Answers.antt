-- The count grows with the data.
use Rattle.layout.specs.declared.Geometry.{Geometry}
use Rattle.std.proofs.Common.{◌≡◌, ℕ, ◌+◌, false, List, refl, ap, ◌∙◌}
use mathlib.Core.Option.{Option, none, some}
use Rattle.layout.specs.See.{image_page}
use Rattle.page.specs.Mended.{chunks_in, mended_chunks, wrapped}
use Rattle.page.specs.Page.{Read}
use Rattle.page.proofs.Puts.{read_none, read_some}
use Rattle.tree.specs.Mended.{count_after, mended_page}
use Rattle.tree.proofs.slots.read_needed.Goals as goal

-- without data the buffer and the count stay
none_read : (o : Option (List ℕ)) (out : List ℕ) (chunks before : ℕ) → o ≡ none → Read o out false out × (before ≡ count_after o chunks before)
none_read o out chunks before e = rw e (record { readable = refl; buffer = refl }, refl)

-- the count of a page that was read
adds : (geometry : Geometry) (image : List ℕ) (page p before : ℕ) {o : Option (List ℕ)} {d : List ℕ} {n now : ℕ} → p ≡ image_page geometry page
    → o ≡ some d → n ≡ mended_chunks geometry.format image p → now ≡ wrapped (before + n) → now ≡ count_after o (mended_page geometry image page) before
adds geometry image page p before e f g k = rw (f, ← e, ← g) k

pub returns-in_default : goal.returns-in_default
returns-in_default c =
    let a = c.args in
    let kept = none_read _ a.out.now (mended_page a.geometry a.image.now a.page) a.mended.now c.in_default.ensures in
    record { read = kept.0; counted = kept.1 }

pub returns-in-None : goal.returns-in-None
returns-in-None c =
    let a = c.args in
    let here = c.in-Some.ensures.1 in
    let read = c.in-None.ensures.read in
    let kept = none_read _ a.out.now (mended_page a.geometry a.image.now a.page) a.mended.now (here ∙ read_none _ read refl) in
    record { read = rw here read; counted = kept.1 }

pub returns-in-Some-read_page : goal.returns-in-Some-read_page
unfolding mended_chunks
returns-in-Some-read_page c =
    let a = c.args in
    let here = c.in-Some.ensures.1 in
    let read = c.in-Some-read_page.ensures.read in
    let found = here ∙ read_some _ read refl in
    record { read = rw here read; counted = adds a.geometry a.image.now a.page _ a.mended.now c.in-Some.ensures.0 found (c.count.ensures.0 ∙ ap chunks_in c.in-Some-read_page.ensures.mended) refl }
