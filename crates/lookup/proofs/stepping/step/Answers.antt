-- The answer of `stand`, asked for a step.
use Rattle.std.specs.Prelude.{Ok, Err}
use mathlib.Core.Path.{◌∙◌, ◌≡◌}
use native.Mathlib.Omega.{arith}
use Rattle.layout.specs.Mended.{mended_of}
use Rattle.lookup.specs.Answers.{stepped_in}
use Rattle.lookup.specs.Step.{step_from}
use Rattle.lookup.proofs.AnswerLaws.{tells-refused}
use Rattle.lookup.proofs.AskLaws.{ask-at, ask-refused}
use Rattle.lookup.proofs.MendedLaws.{kept, reports}
use Rattle.lookup.proofs.StepLaws.{step-at}
use Rattle.lookup.proofs.stepping.step.Goals as goal

pub returns-in_err-stood : goal.returns-in_err-stood
returns-in_err-stood c =
    let a = c.args in
    let refused = ask-refused (λ geometry. step_from a.slot) a.format a.image.now a.path.now c.in_err-stood.field-0.0 c.in_err-stood.ensures.told in record {
      told = tells-refused _ stepped_in c.in_err-stood.field-0.0 _ (grind arith) refused;
      counted = kept _ _ _ _ _ refused;
    }

pub returns-in_err-stepped : goal.returns-in_err-stepped
returns-in_err-stepped c =
    let a = c.args in
    let there = ask-at (λ geometry. step_from a.slot) a.format a.image.now a.path.now c.in_ok-stood.stood c.in_ok-stood.ensures.told in
    let answer = step-at a.slot _ _ c.in_ok-stood.stood.entry _ (Err c.in_err-stepped.field-0.0) c.in_err-stepped.was there c.step_in.ensures in
    let same : c.from_residual-in_err-stepped.result ≡ Err c.in_err-stepped.field-0.0 = grind arith in record {
      told = rw same answer;
      counted = reports _ stepped_in (mended_of a.format a.image.now) a.mended.now answer;
    }

pub returns : goal.returns
returns c =
    let a = c.args in
    let there = ask-at (λ geometry. step_from a.slot) a.format a.image.now a.path.now c.in_ok-stood.stood c.in_ok-stood.ensures.told in
    let answer = step-at a.slot _ _ c.in_ok-stood.stood.entry _ (Ok c.in_ok-stepped.stepped) c.in_ok-stepped.was there c.step_in.ensures in record {
      told = answer;
      counted = c.in_ok-stood.ensures.counted.0 ∙ reports _ stepped_in (mended_of a.format a.image.now) a.mended.now answer;
    }
