-- A directory's slots that the view holds: scanning their pages for a dead entry, a name or a live entry gives the tree's own slot.
use Rattle.std.specs.Prelude.{Option, Some, None}
use Prim.Native.Nat.{◌+◌, ◌<◌, ◌≤◌, suc, ℕ}
use mathlib.Core.Bool.{Bool, cond, false, not, true}
use mathlib.Core.List.{List, [], ◌∷◌}
use mathlib.Core.Path.{◌∙◌, ◌≡◌, ap, refl}
use native.Mathlib.Omega.{arith}
use borrow.Author.Tests.{le-leb}
use lib.ListN.{get_or}
use Rattle.model.specs.Holds.{HoldsSlot, HoldsSlots}
use Rattle.model.specs.Lookup.{absent, first_dead, index_of, is_named, look_in}
use Rattle.model.specs.Names.{Name}
use Rattle.model.specs.Tree.{Slot, Tree, dead_slots, end, node, slot_count}
use Rattle.model.specs.View.{View}
use Rattle.tree.specs.Scan.{bearing, dying, living_from, scan}
use Rattle.tree.specs.declared.along.Place.{Place}
use Rattle.lookup.proofs.FindLaws.{Finds, bears-slot, directory-live, file-live, scan-finds}

-- ---- the first slot that a test takes

-- counted from slot 2; the number of slots where no slot is taken
abbrev first_by : (Slot → Bool) → Tree → ℕ
first_by takes end = 0
first_by takes (node h s t) = cond (takes h) 0 (suc (first_by takes t))

-- what a place says of it; the first of the pages is slot k's
abbrev First : (Slot → Bool) → Tree → List ℕ → ℕ → Option Place → Type 0
First takes t ps k None = first_by takes t ≡ slot_count t
First takes t ps k (Some at) = (k + first_by takes t ≡ at.slot) × (first_by takes t < slot_count t) × (at.page ≡ get_or ps (first_by takes t) 0)

module _ (v : View) (below : ℕ) (test : ℕ → ℕ → Bool) (takes : Slot → Bool) (same : (k p : ℕ) (h : Slot) → HoldsSlot v below p h → test k p ≡ takes h) where
  scan-first : (ps : List ℕ) (t : Tree) (k : ℕ) → HoldsSlots v below ps t → First takes t ps k (scan test ps k)
  unfolding scan
  scan-first [] end k x = refl
  scan-first [] (node h s t) k x = absurd x
  scan-first (p ∷ ps) end k x = absurd x
  scan-first (p ∷ ps) (node h s t) k x = go (takes h) refl (scan-first ps t (suc k) x.3)
    where
      past : takes h ≡ false → (r : Option Place) → First takes t ps (suc k) r → First takes (node h s t) (p ∷ ps) k r
      past b None f = rw b (ap suc f)
      past b (Some at) f = rw b (omega (arith, f.0), omega (arith, f.1), f.2)

      go : (b : Bool) → takes h ≡ b → First takes t ps (suc k) (scan test ps (suc k)) → First takes (node h s t) (p ∷ ps) k (cond (test k p) (Some (record { slot = k; page = p })) (scan test ps (suc k)))
      go true b f = rw (same k p h x.0, b) (rw b (omega arith, omega arith, refl))
      go false b f = rw (same k p h x.0, b) (past b (scan test ps (suc k)) f)

  by-nowhere : (ps : List ℕ) (t : Tree) → HoldsSlots v below ps t → scan test ps 0 ≡ None → first_by takes t ≡ slot_count t
  by-nowhere ps t x e = rw e at (scan-first ps t 0 x)

  by-at : (ps : List ℕ) (t : Tree) → HoldsSlots v below ps t → (at : Place) → scan test ps 0 ≡ Some at
      → (first_by takes t ≡ at.slot) × (at.slot < slot_count t) × (at.page ≡ get_or ps at.slot 0)
  by-at ps t x at e =
      let f : First takes t ps 0 (Some at) = rw e at (scan-first ps t 0 x) in
      let i : first_by takes t ≡ at.slot = omega (arith, f.0) in
      (i, omega (arith, f.1), f.2 ∙ ap (λ (j : ℕ). get_or ps j 0) i)

-- ---- dead slots

abbrev is_dead : Slot → Bool
is_dead Slot.dead = true
is_dead (Slot.file e cs ds) = false
is_dead (Slot.directory e cs) = false

dying-slot : (v : View) (below k p : ℕ) (h : Slot) → HoldsSlot v below p h → dying v k p ≡ is_dead h
dying-slot v below k p Slot.dead x = rw (x.1, x.2)
dying-slot v below k p (Slot.file e cs ds) x = rw (x.0, file-live e x.1)
dying-slot v below k p (Slot.directory e cs) x = rw (x.0, directory-live e x.1)

dead-first : (t : Tree) → first_dead t ≡ first_by is_dead t
dead-first end = refl
dead-first (node Slot.dead s t) = refl
dead-first (node (Slot.file e cs ds) s t) = ap suc (dead-first t)
dead-first (node (Slot.directory e cs) s t) = ap suc (dead-first t)

module _ (v : View) (below : ℕ) (ps : List ℕ) (t : Tree) (x : HoldsSlots v below ps t) where
  pub dead-nowhere : scan (dying v) ps 0 ≡ None → first_dead t ≡ slot_count t
  dead-nowhere e = dead-first t ∙ by-nowhere v below (dying v) is_dead (dying-slot v below) ps t x e

  pub dead-at : (at : Place) → scan (dying v) ps 0 ≡ Some at → (first_dead t ≡ at.slot) × (at.slot < slot_count t) × (at.page ≡ get_or ps at.slot 0)
  dead-at at e = let y = by-at v below (dying v) is_dead (dying-slot v below) ps t x at e in (dead-first t ∙ y.0, y.1, y.2)

-- ---- the slot of a name

name-first : (n : Name) (t : Tree) → index_of n t ≡ first_by (λ h. is_named h n) t
name-first n end = refl
name-first n (node h s t) = rw (name-first n t)

module _ (v : View) (below : ℕ) (ps : List ℕ) (t : Tree) (x : HoldsSlots v below ps t) (n : Name) where
  pub name-nowhere : scan (bearing v n) ps 0 ≡ None → look_in t (n ∷ []) ≡ absent
  name-nowhere e = rw e at (scan-finds v below n ps t 0 x)

  -- the slot that is found, with its inside
  pub name-found : (at : Place) → scan (bearing v n) ps 0 ≡ Some at → Finds v below t n (Some at)
  name-found at e = rw e at (scan-finds v below n ps t 0 x)

  pub name-at : (at : Place) → scan (bearing v n) ps 0 ≡ Some at → (index_of n t ≡ at.slot) × (at.page ≡ get_or ps at.slot 0)
  name-at at e =
      let y = by-at v below (bearing v n) (λ h. is_named h n) (λ k p h. bears-slot v below p h n) ps t x at e in
      (name-first n t ∙ y.0, y.2)

-- ---- live slots

abbrev is_alive : Slot → Bool
is_alive h = not (is_dead h)

living-slot : (v : View) (below k p : ℕ) (h : Slot) → HoldsSlot v below p h → living_from v 0 k p ≡ is_alive h
living-slot v below k p Slot.dead x = rw (le-leb 0 k (omega arith), x.1, x.2)
living-slot v below k p (Slot.file e cs ds) x = rw (le-leb 0 k (omega arith), x.0, file-live e x.1)
living-slot v below k p (Slot.directory e cs) x = rw (le-leb 0 k (omega arith), x.0, directory-live e x.1)

dead-slots : (t : Tree) → dead_slots t ≤ slot_count t
dead-slots end = omega arith
dead-slots (node Slot.dead s t) = omega (arith, dead-slots t)
dead-slots (node (Slot.file e cs ds) s t) = omega (arith, dead-slots t)
dead-slots (node (Slot.directory e cs) s t) = omega (arith, dead-slots t)

all-dead : (t : Tree) → first_by is_alive t ≡ slot_count t → slot_count t ≡ dead_slots t
all-dead end e = refl
all-dead (node Slot.dead s t) e = omega (arith, all-dead t (omega arith))
all-dead (node (Slot.file d cs ds) s t) e = absurd (omega arith)
all-dead (node (Slot.directory d cs) s t) e = absurd (omega arith)

one-live : (t : Tree) → first_by is_alive t < slot_count t → slot_count t ≡ dead_slots t → ⊥
one-live end l e = omega arith
one-live (node Slot.dead s t) l e = one-live t (omega arith) (omega arith)
one-live (node (Slot.file d cs ds) s t) l e = omega (arith, dead-slots t)
one-live (node (Slot.directory d cs) s t) l e = omega (arith, dead-slots t)

module _ (v : View) (below : ℕ) (ps : List ℕ) (t : Tree) (x : HoldsSlots v below ps t) where
  pub live-nowhere : scan (living_from v 0) ps 0 ≡ None → slot_count t ≡ dead_slots t
  live-nowhere e = all-dead t (by-nowhere v below (living_from v 0) is_alive (living-slot v below) ps t x e)

  pub live_at : (at : Place) → scan (living_from v 0) ps 0 ≡ Some at → slot_count t ≡ dead_slots t → ⊥
  live_at at e = let y = by-at v below (living_from v 0) is_alive (living-slot v below) ps t x at e in one-live t (rw y.0 y.1)
