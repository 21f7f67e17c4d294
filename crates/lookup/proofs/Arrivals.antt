-- Where names lead from a slot of the tree, and what an arrival of the code says of it.
use Rattle.std.specs.Prelude.{Ok, Err}
use Rattle.std.specs.Prelude.{Result as Returned}
use mathlib.Core.List.{[], ◌∷◌}
use mathlib.Core.Path.{◌≡◌, ap, ap₂}
use Rattle.model.specs.Check.{Result, fault, ok}
use Rattle.model.specs.Lookup.{found, look_in, tell}
use Rattle.model.specs.Names.{Path}
use Rattle.model.specs.Tree.{Slot, Tree}
use Rattle.model.specs.View.{View}
use Rattle.layout.specs.Refusal.{number_of, page_of}
use Rattle.layout.specs.declared.Refusal.{Refusal}
use Rattle.lookup.specs.Descend.{StandsAt}
use Rattle.lookup.specs.declared.way.EntryAt.{EntryAt}

-- from a slot on: each name in the directory that the names before it lead to
abbrev pub arrive : Slot → Tree → Path → Result (Slot × Tree)
arrive h s [] = ok (h, s)
arrive Slot.dead s (n ∷ path) = fault 9 0
arrive (Slot.file e chain pages) s (n ∷ path) = fault 10 0
arrive (Slot.directory e chain) s (n ∷ path) = tell (λ h t. arrive h t path) (fault 9 0) (look_in s (n ∷ []))

-- what an arrival says of it: a refusal has its number, and no page
abbrev pub Arrives : View → Result (Slot × Tree) → Returned EntryAt Refusal → Type 0
Arrives v (fault n p) (Ok e) = ⊥
Arrives v (fault n p) (Err r) = (n ≡ number_of r) × (p ≡ page_of r) × (page_of r ≡ 0)
Arrives v (ok x) (Ok e) = StandsAt v e x.0 x.1
Arrives v (ok x) (Err r) = ⊥

pub arrives-as : (v : View) (r : Result (Slot × Tree)) (a b : Returned EntryAt Refusal) → a ≡ b → Arrives v r a → Arrives v r b
arrives-as v r a b e x = rw e at x

-- a slot and its inside, as arrived at and as found
pub found-same : (g h : Slot) (u s : Tree) → ◌≡◌ {A = Result (Slot × Tree)} (ok (g, u)) (ok (h, s)) → found g u ≡ found h s
found-same g h u s e =
    let same : ◌≡◌ {A = Slot × Tree} (g, u) (h, s) = cc in
    ap₂ found (ap (λ (x : Slot × Tree). x.0) same) (ap (λ (x : Slot × Tree). x.1) same)
