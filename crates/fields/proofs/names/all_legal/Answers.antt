-- The test of each byte is the model's.
use Rattle.std.proofs.Common.{◌∷◌, ◌∙◌, [], rules, tests}
use Rattle.std.proofs.lemmas.Iterator.{YieldsList-from_slice}
use Rattle.std.proofs.lemmas.Iterator.Search.{all_from_yields_List}
use Rattle.model.specs.Names.{legal_bytes}
use Rattle.fields.proofs.NameLaws.{all-legal}
use Rattle.fields.proofs.names.all_legal.Goals as goal

pub returns : goal.returns
returns c =
    all_from_yields_List (λ b. legal_bytes (b ∷ [])) _ _ _ c.all.ensures.ran (YieldsList-from_slice c.args.name.now cc) (λ x b q k. search (rules, tests)) ∙ all-legal c.args.name.now
