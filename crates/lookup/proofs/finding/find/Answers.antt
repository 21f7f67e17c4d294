-- The answer of `stand`, asked for the entry.
use mathlib.Core.Path.{◌∙◌}
use native.Mathlib.Omega.{arith}
use Rattle.fields.specs.Entries.{fields_of_entry}
use Rattle.layout.specs.Mended.{mended_of}
use Rattle.lookup.specs.Find.{found_entry}
use Rattle.lookup.proofs.AnswerLaws.{find_at, tells-refused}
use Rattle.lookup.proofs.AskLaws.{ask-at, ask-refused}
use Rattle.lookup.proofs.MendedLaws.{kept, reports}
use Rattle.lookup.proofs.finding.find.Goals as goal

pub returns-in_err-stood : goal.returns-in_err-stood
returns-in_err-stood c =
    let a = c.args in
    let refused = ask-refused (λ geometry. found_entry) a.format a.image.now a.path.now c.in_err-stood.field-0.0 c.in_err-stood.ensures.told in record {
      told = tells-refused _ fields_of_entry c.in_err-stood.field-0.0 _ (grind arith) refused;
      counted = kept _ _ _ _ _ refused;
    }

pub returns : goal.returns
returns c =
    let a = c.args in
    let answer = find_at _ _ c.in_ok-stood.stood.entry c.entry_of.result (ask-at (λ geometry. found_entry) a.format a.image.now a.path.now c.in_ok-stood.stood c.in_ok-stood.ensures.told) c.entry_of.ensures in record {
      told = answer;
      counted = c.in_ok-stood.ensures.counted.0 ∙ reports _ fields_of_entry (mended_of a.format a.image.now) a.mended.now answer;
    }
