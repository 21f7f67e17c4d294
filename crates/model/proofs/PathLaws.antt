-- What is told of every path after one slot was replaced.
use Prim.Native.Nat.{◌≤◌, ℕ}
use mathlib.Core.Bool.{cond, false, true}
use mathlib.Core.List.{List, [], ◌++◌, ◌∷◌}
use mathlib.Core.Logic.{◌⊎◌, inl, inr, ⊎_elim}
use mathlib.Core.Path.{◌∙◌, ◌≡◌, ap, refl}
use Rattle.model.specs.Entry.{Entry}
use Rattle.model.specs.Holds.{UniqueNames}
use Rattle.model.specs.Lookup.{absent, is_named, look_from, look_in, tell}
use Rattle.model.specs.Names.{Name, Path, beginning, same_name, same_path}
use Rattle.model.specs.Tree.{Root, Slot, Tree, end, name_uses, root_slot, slot_count}
use Rattle.model.specs.View.{View}
use Rattle.model.proofs.Equality.{Eq-name, Eq-path, bool, tf}
use Rattle.model.proofs.LookupLaws.{pre-split}
use Rattle.model.proofs.Sites.{Moved, Site}
use Rattle.model.proofs.SlotLaws.{get-new, get_none, get_other, old_name, set_slot}
use Rattle.model.proofs.TreePlaces.{Context, plug}

same-append : (q a b : Path) → same_path (q ++ a) (q ++ b) ≡ same_path a b
same-append [] a b = refl
same-append (n ∷ q) a b = rw (Eq-name.self n) (same-append q a b)

pre-append : (q a : Path) → beginning q (q ++ a) ≡ true
pre-append [] a = refl
pre-append (n ∷ q) a = rw (Eq-name.self n) (pre-append q a)

-- a path that q does not begin is no path below q
same-off : (q z a : Path) → beginning q z ≡ false → same_path z (q ++ a) ≡ false
same-off q z a p = ⊎_elim (λ (e : same_path z (q ++ a) ≡ true). tf (pre-append q a) (rw (Eq-path.sound z (q ++ a) e) at p)) (λ e. e) (bool (same_path z (q ++ a)))

append-end : (q : Path) → q ++ [] ≡ q
append-end [] = refl
append-end (n ∷ q) = ap (λ l. n ∷ l) (append-end q)

module _ {B : Type 0} (f : Slot → Tree → B) (b : B) where
  -- in the directory itself
  pub level-law : (i : ℕ) (x : Slot) (s : Tree) (nm : Name) → i ≤ slot_count s → UniqueNames (set_slot i x end s)
      → ((m : Name) → is_named x m ≡ same_name nm m) ⊎ (((m : Name) → is_named x m ≡ false) × (name_uses (set_slot i x end s) nm ≡ 0))
      → ((m : Name) → same_name nm m ≡ false → old_name i s m ≡ 0) → ((k : Name) (z : Path) → look_in s (nm ∷ k ∷ z) ≡ absent)
      → (m : Name) (z : Path) → tell f b (look_in (set_slot i x end s) (m ∷ z)) ≡ cond (same_path (m ∷ z) (nm ∷ [])) (tell f b (look_in (set_slot i x end s) (nm ∷ []))) (tell f b (look_in s (m ∷ z)))
  level-law i x s nm le un hx ho hb m z = ⊎_elim (hit m z) (miss m z) (bool (same_name nm m))
    where
      Goal : Name → Path → Type 0
      Goal m z = tell f b (look_in (set_slot i x end s) (m ∷ z)) ≡ cond (same_path (m ∷ z) (nm ∷ [])) (tell f b (look_in (set_slot i x end s) (nm ∷ []))) (tell f b (look_in s (m ∷ z)))

      gone : (k : Name) (z : Path) → ((m : Name) → is_named x m ≡ same_name nm m) ⊎ (((m : Name) → is_named x m ≡ false) × (name_uses (set_slot i x end s) nm ≡ 0)) → look_in (set_slot i x end s) (nm ∷ k ∷ z) ≡ absent
      gone k z (inl h) = get-new x end i s nm (k ∷ z) le (h nm ∙ Eq-name.self nm) (un nm)
      gone k z (inr h) = get_none (set_slot i x end s) nm (k ∷ z) h.1

      at_name : (z : Path) → Goal nm z
      at_name [] = rw (Eq-name.self nm)
      at_name (k ∷ z) = rw (Eq-name.self nm, gone k z hx, hb k z)

      hit : (m : Name) (z : Path) → same_name nm m ≡ true → Goal m z
      hit m z e = rw (← Eq-name.sound nm m e) (at_name z)

      no : (m : Name) → same_name nm m ≡ false → ((m : Name) → is_named x m ≡ same_name nm m) ⊎ (((m : Name) → is_named x m ≡ false) × (name_uses (set_slot i x end s) nm ≡ 0)) → is_named x m ≡ false
      no m e (inl h) = h m ∙ e
      no m e (inr h) = h.0 m

      flip : (m : Name) → same_name nm m ≡ false → same_name m nm ≡ false
      flip m e = ⊎_elim (λ (a : same_name m nm ≡ true). tf (Eq-name.self m) (rw (← Eq-name.sound m nm a) at e)) (λ a. a) (bool (same_name m nm))

      miss : (m : Name) (z : Path) → same_name nm m ≡ false → Goal m z
      miss m z e = rw (flip m e) (ap (tell f b) (get_other x end i s m z le (no m e hx) (ho m e)))

  -- in the whole tree
  pub path-law : (v : View) (r r' : Root) (q : Path) (P : ℕ) (e : Entry) (cs : List ℕ) (s : Tree) (D : ℕ) (X' : Slot) (s' : Tree) (nm : Name) (new : B)
      → Site v r q P e cs s D → Moved r r' q (Slot.directory e cs) s X' s' → ((x : Slot) (l : Context) → f x (plug l X' s') ≡ f x (plug l (Slot.directory e cs) s))
      → ((m : Name) (z : Path) → tell f b (look_in s' (m ∷ z)) ≡ cond (same_path (m ∷ z) (nm ∷ [])) new (tell f b (look_in s (m ∷ z))))
      → (z : Path) → tell f b (look_from (root_slot r') r'.slots z)
      ≡ cond (same_path z (q ++ (nm ∷ []))) new (cond (same_path z q) (f X' s') (tell f b (look_from (root_slot r) r.slots z)))
  path-law v r r' q P e cs s D X' s' nm new t mv st lv z = ⊎_elim below off (bool (beginning q z))
    where
      Goal : Path → Type 0
      Goal z = tell f b (look_from (root_slot r') r'.slots z) ≡ cond (same_path z (q ++ (nm ∷ []))) new (cond (same_path z q) (f X' s') (tell f b (look_from (root_slot r) r.slots z)))

      off : beginning q z ≡ false → Goal z
      off p =
          let a : same_path z q ≡ false = rw (append-end q) at (same-off q z [] p) in
          rw (same-off q z (nm ∷ []) p, a) (mv.aside f b st z p)

      self-q : (u : Path) → same_path (q ++ u) q ≡ same_path u []
      self-q u = rw (append-end q) at (same-append q u [])

      under : (u : Path) → Goal (q ++ u)
      under [] = rw (same-append q [] (nm ∷ []), self-q []) (ap (tell f b) (mv.below []))
      under (m ∷ u) = rw (same-append q (m ∷ u) (nm ∷ []), self-q (m ∷ u), mv.below (m ∷ u), t.here (m ∷ u)) (lv m u)

      below : beginning q z ≡ true → Goal z
      below p = let d = pre-split q z p in rw (← d.1) (under d.0)
