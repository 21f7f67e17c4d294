-- The tree as demand 3 compares it: for `/` and each path its kind, mode, attribute, both times and file bytes.
-- Slot order and directory lengths are not part of it.
use Rattle.std.specs.Prelude.{◌-◌, ℕ, cond, List, [], ◌∷◌, eqb, take}
use Rattle.std.proofs.Math.Option.{Option, none, some}
use Rattle.model.specs.Check.{Marks, Result, check_tree, fault, ok}
use Rattle.model.specs.Entry.{Entry}
use Rattle.model.specs.Lookup.{look_up, tell}
use Rattle.model.specs.Names.{Path}
use Rattle.model.specs.Tree.{Root, Slot, Tree}
use Rattle.model.specs.View.{View}

pub record Fields : Type 0 where
  pub mode : ℕ
  pub attribute : ℕ
  pub created : List ℕ
  pub modified : List ℕ

-- A file's bytes: how many, and page by page; an unreadable page stands as that.
pub record Content : Type 0 where
  pub size : ℕ
  pub pages : List (Option (List ℕ))

pub data Standing : Type 0 where
  file : Fields → Content → Standing
  directory : Fields → Standing

abbrev pub fields_of : Entry → Fields
fields_of e = record { mode = e.mode; attribute = e.attribute; created = e.created; modified = e.modified }

abbrev pub page_front : ℕ → Option (List ℕ) → Option (List ℕ)
page_front n none = none
page_front n (some d) = some (take n d)

-- a chain's pages up to the file's end; pages without a byte of the file do not count
unfoldable pub file_pages : ℕ → List (Option (List ℕ)) → List (Option (List ℕ))
file_pages size [] = []
file_pages size (d ∷ ds) = cond (eqb size 0) [] (page_front size d ∷ file_pages (size - 512) ds)

abbrev pub content : ℕ → List (Option (List ℕ)) → Content
content size ds = record { size = size; pages = file_pages size ds }

abbrev pub standing : Slot → Tree → Option Standing
standing Slot.dead s = none
standing (Slot.file e cs ds) s = some (Standing.file (fields_of e) (content e.length ds))
standing (Slot.directory e cs) s = some (Standing.directory (fields_of e))

-- what stands at a path
abbrev pub stands_at : Root → Path → Option Standing
stands_at r q = tell standing none (look_up r q)

-- the tree of a view: of one that the check refuses, nothing
abbrev pub standings_of : Result (Root × Marks) → Path → Option Standing
standings_of (fault n p) q = none
standings_of (ok x) q = stands_at x.0 q

unfoldable pub tree_of : View → Path → Option Standing
tree_of v q = standings_of (check_tree v) q
