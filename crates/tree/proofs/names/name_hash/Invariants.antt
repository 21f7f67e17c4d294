use Rattle.std.proofs.Common.{◌≡◌, ◌-◌}
use Rattle.tree.specs.Met.{Small, hash_from, seed_of}
use Rattle.tree.proofs.names.name_hash.Given as goal

-- the threes that are left give the whole
abbrev pub invariant-loop-k : goal.invariant-loop-k
invariant-loop-k l = record { small : Small l.h; hash : hash_from l.name 0 l.turns (seed_of l.first) ≡ hash_from l.name l.k (l.turns - l.k) l.h }
