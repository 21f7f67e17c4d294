-- How far the code counts, and how long a path may be.
use Rattle.std.specs.Prelude.{ℕ, ◌*◌}
use Rattle.model.specs.Holds.{most_names}

-- the greatest place that the code counts; it stands for all beyond it
abbrev pub most : ℕ
most = 0xFFFF_FFFF_FFFF_FFFF

-- a name in its field has at most 32 bytes; in a path `/` stands before it
abbrev pub name_room : ℕ
name_room = 33

-- the most bytes of a path: so many names, each after `/`
abbrev pub path_room : ℕ
path_room = name_room * most_names
