-- The clusters taken are the first of those listed; pages and words are those that the change names.
use native.Mathlib.Omega.{arith}
use Rattle.change.proofs.DeedSteps.{image-as}
use Rattle.change.proofs.EditSteps.{few_bytes, own-low, own-taken, replaced-lands, replaced-words, replaced-writes}
use Rattle.change.proofs.editing.replace_listed.Goals as goal

pub overflow_cast-bytes : goal.overflow_cast-bytes
overflow_cast-bytes c =
    let a = c.args in
    omega (arith, few_bytes a.s a.table.now a.list.now a.bytes.now c.requires.1.listed c.requires.1.room c.clusters_for-own.ensures a.image.now c.requires.0)

pub relink-requires : goal.relink-requires
relink-requires c =
    let a = c.args in
    (omega arith, own-low a.s a.table.now a.list.now a.bytes.now c.requires.1.listed c.requires.1.room c.clusters_for-own.ensures a.image.now c.requires.0)

pub put_down-requires : goal.put_down-requires
put_down-requires c =
    let a = c.args in
    record {
      card = record { opened = c.requires.0.opened; long = omega (arith, c.relink.auto, c.requires.0.long) };
      one = omega arith;
      filled = own-taken a.s a.table.now a.list.now a.bytes.now c.requires.1.listed c.requires.1.room c.clusters_for-own.ensures;
      lands =
          replaced-lands a.s a.table.now a.list.now a.bytes.now c.requires.1.listed c.requires.1.room c.clusters_for-own.ensures a.directory a.entry a.time.now
          c.word_at.ensures c.with_length-kept.ensures c.first_of.ensures c.replaced_page-contents.ensures a.s.end c.requires.2;
    }

pub returns : goal.returns
returns c =
    let a = c.args in
    image-as a.s a.image.now c.put_down.ensures
    (replaced-writes a.s a.table.now a.list.now a.bytes.now c.requires.1.listed c.requires.1.room c.clusters_for-own.ensures a.directory a.entry a.time.now
    c.word_at.ensures c.with_length-kept.ensures c.first_of.ensures c.replaced_page-contents.ensures)
    (replaced-words a.s a.table.now a.list.now a.bytes.now c.requires.1.listed c.requires.1.room c.clusters_for-own.ensures a.entry c.clusters_for-back.ensures c.word_at-2.ensures c.relink.ensures)
