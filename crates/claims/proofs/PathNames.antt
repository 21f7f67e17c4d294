-- Whatever stands in a tree stands at a path that can be handed in: its names are by the rule, and there are at most most_names.
use Prim.Native.Nat.{ℕ, suc, ◌≤◌, pred}
use mathlib.Core.Bool.{Bool, ◌&&◌, ◌||◌, false, not, true}
use mathlib.Core.List.{List, [], ◌++◌, ◌∷◌}
use mathlib.Core.Option.{some}
use mathlib.Core.Path.{◌≡◌, ap, refl}
use native.Mathlib.Omega.{arith}
use borrow.Author.Tests.{le-leb, lt-ltb}
use lib.Dec.{eqb, leb, ltb}
use lib.ListN.{length}
use Rattle.fields.specs.PathBytes.{on_first, path_of, split_names}
use Rattle.model.proofs.Equality.{Eq-name, and_l, and_r, tf}
use Rattle.model.proofs.SlotOfName.{slot_of}
use Rattle.model.specs.Entry.{Entry, end_mark, has_bit, is_directory, is_file, is_live, is_subdirectory}
use Rattle.model.specs.Holds.{HoldsCard, HoldsSlot, HoldsSlots, deepest}
use Rattle.model.specs.Lookup.{Found, absent, found, is_named, look_in, look_up}
use Rattle.model.specs.Names.{Name, Path, dot_dot_name, dot_name, good_name, good_names, legal_bytes, same_name}
use Rattle.model.specs.Tree.{Root, Slot, Tree, end, entry_pages, node}
use Rattle.model.specs.View.{View}
use Rattle.claims.proofs.PathFinds.{absent-under}

-- ---- names that are found

not_found : {A : Type 0} (f : Found) (h : Slot) (t : Tree) → f ≡ absent → f ≡ found h t → A
not_found f h t i e = absurd (let z : ◌≡◌ {A = ℕ} 0 1 = cc in omega arith)

file-named : (e : Entry) → is_file e ≡ true → good_name e.name ≡ true
file-named e h =
    and_r (is_live e && has_bit e.mode 0x10 && not (has_bit e.mode 0x20)) (good_name e.name)
    (and_l _ (ltb 0 e.length || eqb e.first_cluster end_mark) h)

directory-named : (e : Entry) → is_subdirectory e ≡ true → good_name e.name ≡ true
directory-named e h = and_r (is_directory e) (good_name e.name) (and_l _ (leb 2 e.length) h)

module _ (v : View) where
  named-good : (d p : ℕ) (h : Slot) (n : Name) → HoldsSlot v d p h → is_named h n ≡ true → good_name n ≡ true
  named-good d p Slot.dead n x i = tf i refl
  named-good d p (Slot.file e cs ds) n x i = rw (← Eq-name.sound e.name n i) (file-named e x.1)
  named-good d p (Slot.directory e cs) n x i = rw (← Eq-name.sound e.name n i) (directory-named e x.1)

  found-good : (d : ℕ) (ps : List ℕ) (s : Tree) → HoldsSlots v d ps s → (q : Path) (h : Slot) (t : Tree) → look_in s q ≡ found h t
      → (length q ≤ suc d) × (good_names q ≡ true)
  found-good d ps s held [] h t e = (omega arith, refl)
  found-good d ps s held (n ∷ []) h t e =
      let u = slot_of n s h t e in
      let y = u.held v d ps held in
      (omega arith, rw (named-good d y.0 h n y.1 u.named-so))
  found-good d ps s held (n ∷ m ∷ q) h t e = go (λ us u y x. found-good (pred d) us u y (m ∷ q) h t x) (look_in s (n ∷ [])) refl
    where
      Deeper : Type 0
      Deeper = (us : List ℕ) (u : Tree) → HoldsSlots v (pred d) us u → look_in u (m ∷ q) ≡ found h t → (length (m ∷ q) ≤ suc (pred d)) × (good_names (m ∷ q) ≡ true)

      inside : Deeper → (g : Slot) (u : Tree) (p : ℕ) → HoldsSlot v d p g → is_named g n ≡ true → HoldsSlots v (pred d) (entry_pages g) u → look_in u (m ∷ q) ≡ found h t
          → (length (n ∷ m ∷ q) ≤ suc d) × (good_names (n ∷ m ∷ q) ≡ true)
      inside more Slot.dead u p x i y k = tf i refl
      inside more (Slot.file c cs ds) end p x i y k = not_found absent h t refl k
      inside more (Slot.file c cs ds) (node a b z) p x i y k = absurd y
      inside more (Slot.directory c cs) u p x i y k =
          let r = more (entry_pages (Slot.directory c cs)) u y k in
          (omega (arith, r.0, x.2), rw (named-good d p (Slot.directory c cs) n x i) r.1)

      go : Deeper → (f : Found) → look_in s (n ∷ []) ≡ f → (length (n ∷ m ∷ q) ≤ suc d) × (good_names (n ∷ m ∷ q) ≡ true)
      go more absent i = not_found (look_in s (n ∷ m ∷ q)) h t (absent-under s n m q i) e
      go more (found g u) i =
          let z = slot_of n s g u i in
          let y = z.held v d ps held in
          inside more g u y.0 y.1 z.named-so y.2 (rw (z.under m q) at e)

-- ---- a path's bytes

abbrev slashed : Path → List ℕ
slashed [] = []
slashed (n ∷ q) = 0x2F ∷ (n ++ slashed q)

abbrev is_legal : ℕ → Bool
is_legal b = leb 0x20 b && leb b 0x7E && not (eqb b 0x2A || eqb b 0x2F || eqb b 0x3F)

no_slash : (b : ℕ) (n : Name) → legal_bytes (b ∷ n) ≡ true → eqb b 0x2F ≡ false
no_slash b n h = go (eqb b 0x2A) (eqb b 0x2F) (eqb b 0x3F) (and_r (leb 0x20 b && leb b 0x7E) _ (and_l _ (legal_bytes n) h))
  where
    go : (x y z : Bool) → not (x || y || z) ≡ true → y ≡ false
    go x false z h = refl
    go true true z h = tf h refl
    go false true z h = tf h refl

split_after : (n : Name) (rest : List ℕ) (q : Path) → legal_bytes n ≡ true → split_names rest ≡ [] ∷ q → split_names (n ++ rest) ≡ n ∷ q
split_after [] rest q h e = e
split_after (b ∷ n) rest q h e = rw (no_slash b n h) (ap (on_first b) (split_after n rest q (and_r (is_legal b) (legal_bytes n) h) e))

name-legal : (n : Name) → good_name n ≡ true → legal_bytes n ≡ true
name-legal n h = and_r (ltb 0 (length n) && ltb (length n) 32) (legal_bytes n) (and_l _ (not (same_name n dot_name)) (and_l _ (not (same_name n dot_dot_name)) h))

split-slashed : (q : Path) → good_names q ≡ true → split_names (slashed q) ≡ [] ∷ q
split-slashed [] h = refl
split-slashed (n ∷ q) h = ap (λ (p : Path). [] ∷ p) (split_after n (slashed q) q (name-legal n (and_l _ _ h)) (split-slashed q (and_r (good_name n) _ h)))

path-of : (n : Name) (q : Path) → length (n ∷ q) ≤ suc deepest → good_names (n ∷ q) ≡ true → path_of (slashed (n ∷ q)) ≡ some (n ∷ q)
path-of [] q l h = tf h refl
path-of (c ∷ n) q l h =
    let e : split_names (c ∷ (n ++ slashed q)) ≡ (c ∷ n) ∷ q = split_after (c ∷ n) (slashed q) q (name-legal (c ∷ n) (and_l _ _ h)) (split-slashed q (and_r (good_name (c ∷ n)) _ h)) in
    rw (e, lt-ltb 0 (length ((c ∷ n) ∷ q)) (omega arith), le-leb (length ((c ∷ n) ∷ q)) (suc deepest) l, h)

pub path-there : (v : View) (r : Root) → HoldsCard v r → (q : Path) (h : Slot) (t : Tree) → look_up r q ≡ found h t → (path : List ℕ) × (path_of path ≡ some q)
path-there v r card [] h t e = (0x2F ∷ [], refl)
path-there v r card (n ∷ q) h t e =
    let good = found-good v deepest _ r.slots card.rep (n ∷ q) h t e in
    (slashed (n ∷ q), path-of n q good.0 good.1)
