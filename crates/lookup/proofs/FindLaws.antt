-- A directory's slots that the view holds: scanning their pages for a name finds what the tree has there.
use Rattle.std.specs.Prelude.{Option, Some, None}
use Prim.Native.Nat.{pred, suc, ℕ}
use mathlib.Core.Bool.{cond, false, true}
use mathlib.Core.List.{List, [], ◌∷◌}
use mathlib.Core.Logic.{⊎_elim}
use mathlib.Core.Path.{◌≡◌, refl}
use Rattle.model.proofs.Equality.{and_l, bool}
use Rattle.model.specs.Entry.{Entry, is_file, is_live, is_subdirectory}
use Rattle.model.specs.Holds.{HoldsSlot, HoldsSlots}
use Rattle.model.specs.Lookup.{absent, found, is_named, look_in}
use Rattle.model.specs.Names.{Name}
use Rattle.model.specs.Tree.{Slot, Tree, end, entry_pages, node}
use Rattle.model.specs.View.{View}
use Rattle.tree.specs.Scan.{bearing, bears, scan}
use Rattle.tree.specs.declared.along.Place.{Place}

pub file-live : (e : Entry) → is_file e ≡ true → is_live e ≡ true
file-live e h = and_l _ _ (and_l _ _ (and_l _ _ (and_l _ _ h)))

pub directory-live : (e : Entry) → is_subdirectory e ≡ true → is_live e ≡ true
directory-live e h = and_l _ _ (and_l _ _ (and_l _ _ (and_l _ _ h)))

-- the page of a slot bears the name that the slot has
pub bears-slot : (v : View) (below p : ℕ) (h : Slot) (n : Name) → HoldsSlot v below p h → bears n (v.entry p) ≡ is_named h n
bears-slot v below p Slot.dead n x = rw (x.1, x.2)
bears-slot v below p (Slot.file e cs ds) n x = rw (x.0, file-live e x.1)
bears-slot v below p (Slot.directory e cs) n x = rw (x.0, directory-live e x.1)

-- what a name's place says of the tree: nothing bears it, or the page holds the slot that is found
abbrev pub Finds : View → ℕ → Tree → Name → Option Place → Type 0
Finds v below t n None = look_in t (n ∷ []) ≡ absent
Finds v below t n (Some at) =
    (h : Slot) × (s : Tree) × (look_in t (n ∷ []) ≡ found h s) × HoldsSlot v below at.page h × HoldsSlots v (pred below) (entry_pages h) s × (is_named h n ≡ true)

pub scan-finds : (v : View) (below : ℕ) (n : Name) (ps : List ℕ) (t : Tree) (k : ℕ) → HoldsSlots v below ps t → Finds v below t n (scan (bearing v n) ps k)
unfolding scan
scan-finds v below n [] end k x = refl
scan-finds v below n [] (node h s t) k x = absurd x
scan-finds v below n (p ∷ ps) end k x = absurd x
scan-finds v below n (p ∷ ps) (node h s t) k x = ⊎_elim here (there (scan-finds v below n ps t (suc k) x.3)) (bool (is_named h n))
  where
    past : is_named h n ≡ false → (r : Option Place) → Finds v below t n r → Finds v below (node h s t) n r
    past i None f = rw i f
    past i (Some at) f = (f.0, f.1, rw i f.2, f.3, f.4, f.5)

    here : is_named h n ≡ true → Finds v below (node h s t) n (cond (bears n (v.entry p)) (Some (record { slot = k; page = p })) (scan (bearing v n) ps (suc k)))
    here i = rw (bears-slot v below p h n x.0, i) (h, s, rw i, x.0, x.2, i)

    there : Finds v below t n (scan (bearing v n) ps (suc k)) → is_named h n ≡ false
        → Finds v below (node h s t) n (cond (bears n (v.entry p)) (Some (record { slot = k; page = p })) (scan (bearing v n) ps (suc k)))
    there f i = rw (bears-slot v below p h n x.0, i) (past i (scan (bearing v n) ps (suc k)) f)
