-- The loop's invariant: the page has its first i words.
use Prim.Native.Nat.{◌*◌}
use mathlib.Core.Path.{◌≡◌}
use lib.ListN.{get_or}
use Rattle.change.specs.Image.{with_words}
use Rattle.change.proofs.store.put_words.Given as goal

abbrev pub invariant-loop-i : goal.invariant-loop-i
invariant-loop-i l = l.page ≡ with_words (λ c. get_or l.table c 0) (128 * l.t) l.i l.initial.page
