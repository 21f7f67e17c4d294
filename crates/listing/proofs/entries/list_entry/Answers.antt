-- The line of a live entry, and where its inside lies.
use Rattle.std.proofs.Common.{false, ◌∙◌, ◌≡◌, ap, arith, refl, sym}
use mir.Syntax.{w32}
use mir.ValLaws.{to_z-of_z}
use Rattle.fields.specs.Calendar.{shown_as}
use Rattle.model.specs.Calendar.{shown}
use Rattle.model.specs.Entry.{entry_of}
use Rattle.tree.specs.Card.{view_of}
use Rattle.tree.specs.Scan.{lives}
use Rattle.tree.proofs.PageReads.{none-lives, shown-live}
use Rattle.tree.proofs.LookLaws.{unread, was_read}
use Rattle.listing.specs.Paths.{path_bytes}
use Rattle.listing.proofs.EmitLaws.{writes_as, writes_none}
use Rattle.listing.proofs.EntryLaws.{directory-leads, directory-line, file-line, name-fits, no_line, seen_by}
use Rattle.listing.proofs.entries.list_entry.Goals.{then-not-read_slot-via-then-not-read_slot, then-not-read_slot-via-else-not-read_slot+then-not-is_live}
use Rattle.listing.proofs.entries.list_entry.Goals as goal

pub returns-then-not-read_slot-clause-line : goal.returns-then-not-read_slot-clause-line
returns-then-not-read_slot-clause-line c =
    let o = (view_of c.args.card.now).entry c.args.page in
    let quiet : false ≡ lives o =
    elim c.then-not-read_slot.branch [
      | then-not-read_slot-via-then-not-read_slot w ↦ none-lives (unread c.read_slot.ensures w.if-not-read_slot.true)
      | then-not-read_slot-via-else-not-read_slot+then-not-is_live w ↦
          sym w.if-not-is_live.true ∙ shown-live _ c.read_slot.ensures w.if-not-read_slot.false w.is_live.ensures
    ] in
    writes_as (no_line (path_bytes c.args.path.now) o quiet c.args.minutes) (writes_none _)

pub with_name-own-requires : goal.with_name-own-requires
with_name-own-requires c =
    omega (arith, name-fits c.read_slot.new.out _ c.entry_name.ensures)

pub returns-then-not-is_directory-clause-line : goal.returns-then-not-is_directory-clause-line
returns-then-not-is_directory-clause-line c =
    let seen =
    seen_by c.read_slot.new.out (was_read c.read_slot.ensures c.if-not-read_slot.false) (sym c.if-not-is_live.false ∙ c.is_live.ensures) c.word_at-length.ensures c.entry_name.ensures c.with_name-own.ensures.0 in
    let stamp = c.modified_at-changed.ensures ∙ ap (λ s. shown_as (shown s (entry_of c.read_slot.new.out).modified)) (to_z-of_z w32 c.args.minutes c.ranges.minutes) in
    writes_as (file-line seen c.args.minutes _ stamp (sym c.if-not-is_directory.true ∙ c.is_directory.ensures)) (rw c.as_bytes.ensures at c.put_entry.ensures)

pub returns : goal.returns
returns c =
    let seen =
    seen_by c.read_slot.new.out (was_read c.read_slot.ensures c.if-not-read_slot.false) (sym c.if-not-is_live.false ∙ c.is_live.ensures) c.word_at-length.ensures c.entry_name.ensures c.with_name-own.ensures.0 in
    let stamp = c.modified_at-changed.ensures ∙ ap (λ s. shown_as (shown s (entry_of c.read_slot.new.out).modified)) (to_z-of_z w32 c.args.minutes c.ranges.minutes) in
    let kind = sym c.if-not-is_directory.false ∙ c.is_directory.ensures in record {
      line = writes_as (directory-line seen c.args.minutes _ stamp kind) (rw c.as_bytes-2.ensures at c.put_entry-2.ensures);
      leads = directory-leads seen _ _ _ _ _ kind refl (omega (arith, c.with_name-own.ensures.1, name-fits c.read_slot.new.out _ c.entry_name.ensures)) c.word_at.ensures c.next_of.ensures c.slots_of.ensures;
    }
