-- `tree::names::name_hash` meets its contract: the name by threes, and one turn more.
use Rattle.std.proofs.Common.{◌≡◌, ℕ, suc, ◌+◌, ◌*◌, List, drop, ap, sym, ◌∙◌, arith}
use Rattle.tree.specs.declared.names.Hash.{Hash}
use Rattle.tree.specs.Met.{hash_from, hash_of, mixed, three_of}
use Rattle.tree.proofs.names.name_hash.Goals as goal

-- one turn more, and the end
step : (l : List ℕ) (k left after : ℕ) (h m : Hash) (x : ℕ) → left ≡ suc after → x ≡ three_of (drop (3 * k) l) → m ≡ mixed h x → hash_from l k left h ≡ hash_from l (k + 1) after m
unfolding hash_from
step l k left after h m x more e f = rw (more, f, e)

done : (l : List ℕ) (k left : ℕ) (h : Hash) → left ≡ 0 → hash_from l k left h ≡ h
unfolding hash_from
done l k left h e = rw e

pub loop-k-preserved : goal.loop-k-preserved
loop-k-preserved c = record {
  small = c.mix-h.ensures.1;
  hash = c.loop-k.invariant.hash ∙ step c.args.name.now c.loop-k.k _ _ c.loop-k.h _ _ (omega arith) c.three_at.ensures.0 c.mix-h.ensures.0;
}

pub returns : goal.returns
unfolding hash_of
returns c =
    (c.mix.ensures.0 ∙ ap (λ (h : Hash). mixed h 0) (sym (c.loop-k.invariant.hash ∙ done c.args.name.now c.loop-k.k _ c.loop-k.h (omega arith))), c.mix.ensures.1)
