-- The answer of `stand`, asked for bytes.
use Rattle.std.specs.Prelude.{Ok, Err}
use mathlib.Core.Path.{◌∙◌, ◌≡◌}
use native.Mathlib.Omega.{arith}
use lib.ListN.{length}
use Rattle.layout.specs.See.{on_image}
use Rattle.lookup.specs.Mended.{read_mended}
use Rattle.lookup.specs.Read.{read_from}
use Rattle.lookup.proofs.CardLaws.{read-unopened}
use Rattle.lookup.proofs.AskLaws.{ask-refused, read-so, stood-at}
use Rattle.lookup.proofs.ReadCounts.{read-reports, read-there}
use Rattle.lookup.proofs.MendedLaws.{kept, reports}
use Rattle.lookup.proofs.reading.read.Goals as goal

pub returns-in_err-stood : goal.returns-in_err-stood
returns-in_err-stood c =
    let a = c.args in
    let refused = read-so a.format a.image.now a.path.now a.from (length a.out.now) ∙ ask-refused (λ geometry h t. on_image geometry (read_from a.from (length a.out.now) h t)) a.format a.image.now a.path.now c.in_err-stood.field-0.0 c.in_err-stood.ensures.told in
    let same : c.from_residual.result ≡ Err c.in_err-stood.field-0.0 = grind arith in record {
      told = rw same (read-unopened _ c.in_err-stood.field-0.0 a.out.now refused);
      counted = kept _ _ _ _ _ refused;
    }

pub returns-in_err-count : goal.returns-in_err-count
returns-in_err-count c =
    let a = c.args in
    let room = length a.out.now in
    let stood = c.in_ok-stood.stood in
    let there = stood-at a.format a.image.now a.path.now stood c.in_ok-stood.ensures.told in
    let answer = read-there a.format a.image.now a.path.now a.from room there.0 there.1 there.2 there.3 stood.card there.4 there.5 (Err c.in_err-count.field-0.0) a.out.now c.read_in.new.out (c.in_err-count.ensures.told there.1 there.2 there.6) in
    let same : c.from_residual-in_err-count.result ≡ Err c.in_err-count.field-0.0 = grind arith in record {
      told = rw same answer;
      counted = reports _ length (read_mended a.format a.image.now a.path.now a.from room) a.mended.now answer.count;
    }

pub returns : goal.returns
returns c =
    let a = c.args in
    let room = length a.out.now in
    let stood = c.in_ok-stood.stood in
    let there = stood-at a.format a.image.now a.path.now stood c.in_ok-stood.ensures.told in
    let counted = c.in_ok-stood.ensures.counted in
    let answer = read-there a.format a.image.now a.path.now a.from room there.0 there.1 there.2 there.3 stood.card there.4 there.5 (Ok c.in_ok-count.count) a.out.now c.read_in.new.out (c.in_ok-count.ensures.told there.1 there.2 there.6) in record {
      told = answer;
      counted = read-reports a.format a.image.now a.path.now a.from room there.0 there.1 there.2 there.3 stood.card there.4 there.5 c.in_ok-count.count stood.mended c.read_in.new.mended c.settled.result a.mended.now counted.0 counted.1
          (c.in_ok-count.ensures.counted there.1 there.2 there.6) c.settled.ensures.0 c.settled.ensures.1 answer.count;
    }
