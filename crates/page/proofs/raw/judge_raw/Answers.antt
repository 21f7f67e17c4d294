-- The parts lent are the page's chunks and code bytes.
use Rattle.std.proofs.Common.{arith}
use Rattle.page.proofs.Chunks.{judged-four}
use Rattle.page.proofs.raw.judge_raw.Goals as goal

pub returns : goal.returns
returns c = judged-four c.args.page.now (omega arith) c.judge_four.ensures
