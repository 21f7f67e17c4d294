-- A path as bytes (RULES, "Changes"): `/`, or one to most_names names each after `/`, each name by the entry's name rule.
use Rattle.std.specs.Prelude.{None, Option, Some, ℕ, ◌&&◌, cond, List, [], ◌∷◌, eqb, drop, get_or, length}
use Rattle.std.proofs.Math.Option as math
use Rattle.model.specs.Holds.{most_names}
use Rattle.model.specs.Names.{Name, Path, good_path}

-- a byte more at the front of the first name
abbrev pub on_first : ℕ → Path → Path
on_first b [] = (b ∷ []) ∷ []
on_first b (n ∷ ns) = (b ∷ n) ∷ ns

-- the names between slashes; an empty one stands wherever two slashes meet or one ends the bytes
abbrev pub split_names : List ℕ → Path
split_names [] = [] ∷ []
split_names (b ∷ bs) = cond (eqb b 0x2F) ([] ∷ split_names bs) (on_first b (split_names bs))

-- `/`, or one to most_names names each after `/`; everything else is malformed: no path
abbrev pub path_of : List ℕ → math.Option Path
path_of [] = math.none
path_of (b ∷ []) = cond (eqb b 0x2F) (math.some []) math.none
path_of (b ∷ c ∷ bs) = cond (eqb b 0x2F && good_path most_names (split_names (c ∷ bs))) (math.some (split_names (c ∷ bs))) math.none

-- the parser's answer: how many names, none where the path is malformed
abbrev pub parsed_of : math.Option Path → Option ℕ
parsed_of math.none = None
parsed_of (math.some p) = Some (length p)

-- the name at a place between the slashes after the first byte, no bytes where there is none; of a path it is the path's own
abbrev pub name_at : List ℕ → ℕ → Name
name_at bytes i = get_or (split_names (drop 1 bytes)) i []
