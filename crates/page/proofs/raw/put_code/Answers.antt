-- The three stores put the code of the lent chunk, which is chunk k of the data, into its place.
use Rattle.std.proofs.Common.{◌+◌, ◌*◌, ap, ◌∙◌, arith}
use Rattle.page.specs.Page.{put_at}
use Rattle.page.proofs.Lists.{stored}
use Rattle.page.proofs.Chunks.{fresh}
use Rattle.page.proofs.raw.put_code.Goals as goal

pub returns : goal.returns
returns c =
    let a = c.args in
    let code = c.chunk_code-code.result in
    stored a.page.now (512 + 3 * a.k) code.byte0 code.byte1 code.byte2 (omega arith)
    ∙ ap (put_at a.page.now (512 + 3 * a.k)) (fresh a.bytes.now a.k {code = code} (omega arith) c.requires.1 c.chunk_code-code.ensures)
