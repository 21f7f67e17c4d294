-- Word i of the list is what the closure gave at i.
use Rattle.std.proofs.Common.{ℕ, ◌+◌, ◌*◌, rules}
use Rattle.model.specs.Bytes.{word}
use Rattle.model.specs.Counts.{list_words}
use Rattle.layout.proofs.UpTo.{made}
use Rattle.layout.proofs.page0.bad_blocks.Goals as goal

pub returns : goal.returns
returns c = made _ _ (λ (i : ℕ). word c.args.page.now (0xD0 + 4 * i)) c.from_fn.result list_words c.from_fn.ensures.items (λ i y q k. search rules)
