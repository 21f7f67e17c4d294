-- `read_in` judges the pages with a byte to copy and then copies; the laws say that the tree's file has these bytes.
use Rattle.std.specs.Prelude.{None}
use mathlib.Core.Path.{◌∙◌, ◌≡◌, refl, sym}
use Prim.Native.Nat.{◌%◌, ◌<◌}
use native.Mathlib.Omega.{arith}
use lib.ListN.{length, length-take, take}
use Rattle.layout.specs.declared.Refusal.TheVariants.{BadOffset, WrongKind}
use Rattle.model.specs.Entry.{entry_of}
use Rattle.tree.specs.Card.{view_of}
use Rattle.tree.proofs.ScanLaws.{within}
use Rattle.lookup.specs.Descend.{pages_for}
use Rattle.lookup.proofs.ReadLaws.{read-beyond, read-directory, read-refused}
use Rattle.lookup.proofs.ReadSteps.{counted-bytes, counted_none, tells-bytes, tells_none, tells-unreadable}
use Rattle.lookup.proofs.reading.read_in.Goals as goal

pub returns-then-is_directory-clause-told : goal.returns-then-is_directory-clause-told
returns-then-is_directory-clause-told c =
    let a = c.args in
    let card = a.card.now in
    λ h s x. read-refused card.geometry _ 10 0 WrongKind _ (read-directory (view_of card) card.table.now (λ z. refl) a.file.now.first a.from (length a.out.now) (entry_of a.file.now.page) h s x (sym c.is_directory.ensures ∙ c.if-is_directory.true)) refl

pub returns-then-size-from-clause-told : goal.returns-then-size-from-clause-told
returns-then-size-from-clause-told c =
    let a = c.args in
    let card = a.card.now in
    λ h s x. read-refused card.geometry _ 15 0 BadOffset _ (read-beyond (view_of card) card.table.now (λ z. refl) a.file.now.first a.from (length a.out.now) (entry_of a.file.now.page) h s x (sym c.is_directory.ensures ∙ c.if-is_directory.false) (omega (arith, c.word_at-size.ensures, c.if-size-from.true))) refl

pub returns-then-count-eq0 : goal.returns-then-count-eq0
returns-then-count-eq0 c =
    let a = c.args in
    let card = a.card.now in
    let file = sym c.is_directory.ensures ∙ c.if-is_directory.false in record {
      told = λ h s x. tells_none card a.file.now a.from (length a.out.now) c.word_at-size.result c.min-count.result c.word_at-size.ensures c.min-count.ensures h s x file c.if-size-from.false c.if-count-eq0.true _;
      counted = λ h s x. counted_none card a.file.now a.from (length a.out.now) c.word_at-size.result c.min-count.result c.word_at-size.ensures c.min-count.ensures h s x file c.if-size-from.false c.if-count-eq0.true _;
    }

pub returns-in-Some-clause-told : goal.returns-in-Some-clause-told
returns-in-Some-clause-told c =
    let a = c.args in
    let card = a.card.now in
    let scanned = c.first_unreadable.ensures in
    λ h s x. tells-unreadable card a.file.now a.from (length a.out.now) c.word_at-size.result c.min-count.result c.word_at-size.ensures c.min-count.ensures _ _ c.cluster_at-start.ensures c.div_ceil-high.ensures _ scanned.0 h s x (sym c.is_directory.ensures ∙ c.if-is_directory.false) c.if-size-from.false c.if-count-eq0.false c.in-Some.bad _ (c.unreadable.ensures.whole (within _ _ _ scanned.1 c.in-Some.is).0) c.in-Some.is _

pub returns : goal.returns
returns c =
    let a = c.args in
    let card = a.card.now in
    let file = sym c.is_directory.ensures ∙ c.if-is_directory.false in
    let none : c.first_unreadable.result ≡ None = grind arith in
    let long : length (take c.min-count.result a.out.now) ≡ c.min-count.result = omega (arith, length-take c.min-count.result a.out.now, c.min-count.ensures) in
    let few : pages_for (a.from % 512) c.min-count.result < 4294967296 = omega (arith, c.min-count.ensures) in record {
      told = λ h s x. tells-bytes card a.file.now a.from (length a.out.now) c.word_at-size.result c.min-count.result c.word_at-size.ensures c.min-count.ensures _ _ c.cluster_at-start.ensures c.div_ceil-high.ensures _ c.first_unreadable.ensures.0 h s x file c.if-size-from.false c.if-count-eq0.false none _ c.copy_pages.new.out (rw long at c.copy_pages.ensures.copied);
      counted = λ h s x. counted-bytes card a.file.now a.from (length a.out.now) c.word_at-size.result c.min-count.result c.word_at-size.ensures c.min-count.ensures _ _ c.cluster_at-start.ensures c.div_ceil-high.ensures _ c.first_unreadable.ensures.0 h s x file c.if-size-from.false c.if-count-eq0.false _ _ few (rw long at c.copy_pages.ensures.counted);
    }
