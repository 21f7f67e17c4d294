-- `/` and the name behind the path; there is room for both.
use Rattle.std.proofs.Common.{◌∷◌, ◌∙◌, arith, rules, sym}
use Rattle.listing.proofs.EmitLaws.{writes-append, writes-fits}
use Rattle.listing.proofs.path.Path.with_name.Goals as goal

pub returns : goal.returns
returns c =
    let w = writes-fits {s = 0x2F ∷ c.args.name.now} (omega arith) (writes-append c.put_byte.ensures c.put.ensures) in
    let same = sym (c.put.ensures.same_reference ∙ c.put_byte.ensures.same_reference) in
    (search (rules, w.0, same), omega (arith, w.1))
