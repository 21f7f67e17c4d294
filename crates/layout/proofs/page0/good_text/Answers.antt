-- The first bytes are compared with the text.
use Rattle.std.proofs.Common.{◌∙◌}
use Rattle.model.specs.Bytes.{slice}
use Rattle.layout.proofs.Texts.{same-bytes}
use Rattle.layout.specs.Superblock.{format_text}
use Rattle.layout.proofs.page0.good_text.Goals as goal

pub returns : goal.returns
returns c = c.starts_with.ensures.value ∙ same-bytes format_text (slice c.args.page.now 0 28)
