-- What is asked at a path, by the model's way to it, is what is asked where its names lead one after the other.
use Prim.Native.Nat.{◌<◌, suc, zero, ℕ}
use mathlib.Core.List.{List, [], ◌∷◌}
use mathlib.Core.Option.{Option}
use mathlib.Core.Path.{◌∙◌, ◌≡◌, ap, ap₂, refl, sym}
use native.Mathlib.Omega.{arith}
use lib.ListN.{length}
use Rattle.model.proofs.SlotOfName.{slot_of}
use Rattle.model.specs.Check.{Result, and_then, fault, ok}
use Rattle.model.specs.Entry.{Entry}
use Rattle.model.specs.Lookup.{Found, absent, found, look_from, look_in, look_up, tell}
use Rattle.model.specs.Names.{Name, Path, parent}
use Rattle.model.specs.Refusal.{first, on_way, way}
use Rattle.model.specs.Tree.{Root, Slot, Tree, root_slot}
use Rattle.lookup.specs.Paths.{at_path, refusing}
use Rattle.lookup.proofs.Arrivals.{arrive, found-same}

-- the way asks only for paths with a name
way_same : (look look' : Path → Found) → ((n : Name) (q : Path) → look (n ∷ q) ≡ look' (n ∷ q)) → (n : Name) (q : Path) → way look (n ∷ q) ≡ way look' (n ∷ q)
way_same look look' same n [] = refl
way_same look look' same n (m ∷ q) = ap₂ first (ap on_way (same n [])) (way_same (λ r. look (n ∷ r)) (λ r. look' (n ∷ r)) (λ k r. same n (k ∷ r)) m q)

-- ---- what is asked at a path

module _ {A : Type 0} (ask : Slot → Tree → Result A) where
  abbrev asked : Slot → Tree → Path → Result A
  asked h s q = and_then (arrive h s q) (λ x. ask x.0 x.1)

  one : (f : Found) → tell ask (fault 9 0) f ≡ and_then (tell (λ h t. arrive h t []) (fault 9 0) f) (λ x. ask x.0 x.1)
  unfolding and_then
  one absent = refl
  one (found h t) = refl

  along : (e : Entry) (cs : List ℕ) (s : Tree) (q : Path)
      → refusing (way (look_from (Slot.directory e cs) s) q) (tell ask (fault 9 0) (look_from (Slot.directory e cs) s q)) ≡ asked (Slot.directory e cs) s q
  unfolding and_then
  along e cs s [] = refl
  along e cs s (n ∷ []) = one (look_in s (n ∷ []))
  along e cs s (n ∷ m ∷ q) = go (look_in s (n ∷ [])) refl (λ d ds t. along d ds t (m ∷ q))
    where
      go : (f : Found) → look_in s (n ∷ []) ≡ f
          → ((d : Entry) (ds : List ℕ) (t : Tree) → refusing (way (look_from (Slot.directory d ds) t) (m ∷ q)) (tell ask (fault 9 0) (look_in t (m ∷ q))) ≡ asked (Slot.directory d ds) t (m ∷ q))
          → refusing (first (on_way f) (way (λ r. look_in s (n ∷ r)) (m ∷ q))) (tell ask (fault 9 0) (look_in s (n ∷ m ∷ q)))
          ≡ and_then (tell (λ h t. arrive h t (m ∷ q)) (fault 9 0) f) (λ x. ask x.0 x.1)
      go absent i ih = refl
      go (found Slot.dead t) i ih = refl
      go (found (Slot.file d ds ps) t) i ih = refl
      go (found (Slot.directory d ds) t) i ih =
          let u = slot_of n s (Slot.directory d ds) t i in
          ap₂ (λ w f. refusing w (tell ask (fault 9 0) f)) (way_same (λ r. look_in s (n ∷ r)) (look_from (Slot.directory d ds) t) (λ k z. u.under k z) m q) (u.under m q)
          ∙ ih d ds t

  pub at_path_lem : (root : Root) (q : Path) → at_path root q ask ≡ and_then (arrive (root_slot root) root.slots q) (λ x. ask x.0 x.1)
  unfolding at_path
  at_path_lem root q = along root.root_entry root.chain root.slots q

abbrev itself : Slot → Tree → Result (Slot × Tree)
itself h s = ok (h, s)

-- what stands where the names lead
pub arrive-found : (root : Root) (q : Path) (h : Slot) (s : Tree) → arrive (root_slot root) root.slots q ≡ ok (h, s) → look_up root q ≡ found h s
unfolding at_path and_then
arrive-found root q h s e = go (way (look_up root) q) (look_up root q) (at_path_lem itself root q ∙ rw e)
  where
    go : (w : ℕ) (f : Found) → refusing w (tell itself (fault 9 0) f) ≡ ok (h, s) → f ≡ found h s
    go zero absent z = cc
    go zero (found g u) z = found-same g h u s z
    go (suc w) f z = cc

-- ---- the way to a path's last name

-- the refusal on it, by where the names before it lead
abbrev pub refused_at : Result (Slot × Tree) → ℕ
refused_at (fault n p) = n
refused_at (ok x) = on_way (found x.0 x.1)

dead-ends : (t : Tree) (q : Path) → refused_at (arrive Slot.dead t q) ≡ 9
dead-ends t [] = refl
dead-ends t (n ∷ q) = refl

file-ends : (e : Entry) (cs : List ℕ) (ds : List (Option (List ℕ))) (t : Tree) (q : Path) → refused_at (arrive (Slot.file e cs ds) t q) ≡ 10
file-ends e cs ds t [] = refl
file-ends e cs ds t (n ∷ q) = refl

way-from : (e : Entry) (cs : List ℕ) (s : Tree) (q : Path) → 0 < length q → way (look_from (Slot.directory e cs) s) q ≡ refused_at (arrive (Slot.directory e cs) s (parent q))
way-from e cs s [] l = absurd (omega arith)
way-from e cs s (n ∷ []) l = refl
way-from e cs s (n ∷ m ∷ q) l = go (look_in s (n ∷ [])) refl (λ d ds t. way-from d ds t (m ∷ q) (omega arith))
  where
    go : (f : Found) → look_in s (n ∷ []) ≡ f
        → ((d : Entry) (ds : List ℕ) (t : Tree) → way (look_from (Slot.directory d ds) t) (m ∷ q) ≡ refused_at (arrive (Slot.directory d ds) t (parent (m ∷ q))))
        → first (on_way f) (way (λ r. look_in s (n ∷ r)) (m ∷ q)) ≡ refused_at (tell (λ h t. arrive h t (parent (m ∷ q))) (fault 9 0) f)
    go absent i ih = refl
    go (found Slot.dead t) i ih = sym (dead-ends t (parent (m ∷ q)))
    go (found (Slot.file d ds ps) t) i ih = sym (file-ends d ds ps t (parent (m ∷ q)))
    go (found (Slot.directory d ds) t) i ih =
        let u = slot_of n s (Slot.directory d ds) t i in
        way_same (λ r. look_in s (n ∷ r)) (look_from (Slot.directory d ds) t) (λ k z. u.under k z) m q ∙ ih d ds t

pub way-to : (root : Root) (q : Path) → 0 < length q → way (look_up root) q ≡ refused_at (arrive (root_slot root) root.slots (parent q))
way-to root q l = way-from root.root_entry root.chain root.slots q l
