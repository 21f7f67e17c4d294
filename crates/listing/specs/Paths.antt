-- A path as the code carries it: so many bytes of an array.
use Rattle.std.specs.Prelude.{ℕ, List, take}
use Rattle.listing.specs.declared.path.Path.{Path}

abbrev pub path_bytes : Path → List ℕ
path_bytes path = take path.len path.bytes
