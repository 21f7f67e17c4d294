-- The directory that a change is in, and the entry at its last name, as the code has found them.
use Prim.Native.Nat.{ℕ}
use mathlib.Core.List.{List}
use Rattle.lookup.proofs.SiteLaws as lookup
use Rattle.model.specs.Bytes.{word}
use Rattle.model.specs.Entry.{entry_of}
use Rattle.model.specs.Names.{Path}
use Rattle.model.specs.Plan.{Directory}
use Rattle.model.specs.Tree.{Root}
use Rattle.model.specs.View.{View}
use Rattle.lookup.specs.declared.way.EntryAt.{EntryAt}

abbrev pub Site : View → List ℕ → Root → Path → EntryAt → Type 0
Site v table root p here = lookup.Site v table root p here.first here.at here.page

abbrev pub directory_at : EntryAt → List ℕ → Directory
directory_at here chain = record { page = here.at; entry = entry_of here.page; chain = chain }

-- an entry in a page, whose chain begins where the page says
abbrev pub entry_in : ℕ → List ℕ → EntryAt
entry_in slot page = record { at = slot; first = word page 0x10; page = page }
