-- The names of a path one after the other: the code arrives where they lead in the tree.
use Rattle.std.specs.Prelude.{Ok, Err}
use Rattle.std.specs.Prelude.{Result as Returned}
use Rattle.layout.specs.declared.Geometry.{Geometry}
use Prim.Native.Nat.{◌+◌, ◌<◌, suc, ℕ}
use mathlib.Core.List.{List, [], ◌∷◌}
use mathlib.Core.Option.{Option, none, some}
use mathlib.Core.Path.{◌∙◌, ◌≡◌, ap, ap₂, refl, sym}
use native.Mathlib.Omega.{arith}
use lib.ListN.{get_or, length}
use Rattle.fields.proofs.PathLaws.{name-of-path}
use Rattle.fields.specs.PathBytes.{name_at, path_of}
use Rattle.layout.specs.See.{view_by}
use Rattle.model.specs.Check.{Result, and_then, fault, ok}
use Rattle.model.specs.Entry.{Entry, entry_of}
use Rattle.model.specs.Holds.{HoldsCard}
use Rattle.model.specs.Lookup.{Found, absent, found, look_in, tell}
use Rattle.model.specs.Names.{Name, Path}
use Rattle.model.specs.Pages.{decoded}
use Rattle.model.specs.Tree.{Root, Slot, Tree, root_slot}
use Rattle.model.specs.View.{View}
use Rattle.reached.specs.Table.{table_links}
use Rattle.layout.specs.declared.Refusal.{Refusal}
use Rattle.lookup.specs.declared.way.EntryAt.{EntryAt}
use Rattle.lookup.specs.Descend.{Stands, StandsAt, at_root, descended, entered, names_from, onward}
use Rattle.lookup.proofs.Arrivals.{Arrives, arrive}
use Rattle.lookup.proofs.DescendSteps.{onward-refused}
use Rattle.lookup.proofs.EnterLaws.{enters, root_stands, some_same}

-- one name, then the others
arrive-more : (h : Slot) (s : Tree) (n : Name) (q : Path) → arrive h s (n ∷ q) ≡ and_then (arrive h s (n ∷ [])) (λ x. arrive x.0 x.1 q)
unfolding and_then
arrive-more Slot.dead s n q = refl
arrive-more (Slot.file e cs ds) s n q = refl
arrive-more (Slot.directory e cs) s n q = go (look_in s (n ∷ []))
  where
    go : (f : Found) → tell (λ h t. arrive h t q) (fault 9 0) f ≡ and_then (tell (λ h t. arrive h t []) (fault 9 0) f) (λ x. arrive x.0 x.1 q)
    go absent = refl
    go (found h t) = refl

module _ (v : View) (t : List ℕ) (names : Path) where
  -- the other names, from where the first one leads
  abbrev pub Others : Type 0
  Others = (here : EntryAt) (h : Slot) (s : Tree) → StandsAt v here h s → Arrives v (arrive h s names) (onward v t (Ok here) names)

  next-arrives : Others → (a : Returned EntryAt Refusal) (r : Result (Slot × Tree)) → Arrives v r a → Arrives v (and_then r (λ x. arrive x.0 x.1 names)) (onward v t a names)
  unfolding and_then
  next-arrives others (Ok here) (fault k b) u = absurd u
  next-arrives others (Ok here) (ok y) u = others here y.0 y.1 u
  next-arrives others (Err r) (fault k b) u = rw (onward-refused v t r names) u
  next-arrives others (Err r) (ok y) u = absurd u

-- the root stands where page 0 was read
pub root-read : (v : View) → ((p : ℕ) → v.entry p ≡ decoded (v.page p)) → (root : Root) → HoldsCard v root → (page : List ℕ) → v.page 0 ≡ some page
    → Stands v 0 (entry_of page) (root_slot root) root.slots
root-read v reads root card page e =
    stands_same root.root_entry (entry_of page) (some_same _ _ (sym card.root_page ∙ (reads 0 ∙ ap decoded e))) (root_stands v root card)
  where
    stands_same : (d e : Entry) → d ≡ e → Stands v 0 d (root_slot root) root.slots → Stands v 0 e (root_slot root) root.slots
    stands_same d e q x = rw (← q) x

module _ (v : View) (t : List ℕ) (links : (c : ℕ) → v.link c ≡ table_links t c) (reads : (p : ℕ) → v.entry p ≡ decoded (v.page p)) where
  -- from an entry that stands in the tree on
  pub onward-arrives : (names : Path) (here : EntryAt) (h : Slot) (s : Tree) → StandsAt v here h s → Arrives v (arrive h s names) (onward v t (Ok here) names)
  unfolding onward and_then
  onward-arrives [] here h s x = x
  onward-arrives (n ∷ names) here h s x =
      rw (arrive-more h s n names) (next-arrives v t names (λ here h s. onward-arrives names here h s) (entered v t here.first here.page n) (arrive h s (n ∷ [])) (enters v t links reads here.first here.page n h s x))

  pub descended-arrives : (root : Root) → HoldsCard v root → (names : Path)
      → Arrives v (arrive (root_slot root) root.slots names) (descended v t names)
  unfolding descended
  descended-arrives root card names = go (v.page 0) refl
    where
      go : (o : Option (List ℕ)) → v.page 0 ≡ o → Arrives v (arrive (root_slot root) root.slots names) (onward v t (at_root o) names)
      go none e = absurd (let z : none ≡ some root.root_entry = sym (reads 0 ∙ ap decoded e) ∙ card.root_page in let w : ◌≡◌ {A = ℕ} 0 1 = cc in omega arith)
      go (some page) e = onward-arrives names (record { at = 0; first = 0; page = page }) (root_slot root) root.slots (root-read v reads root card page e)

-- ---- the names of a path's bytes

names-get : (q : Path) (bytes : List ℕ) (i : ℕ) → ((j : ℕ) → j < length q → name_at bytes (i + j) ≡ get_or q j []) → names_from bytes i (length q) ≡ q
names-get [] bytes i h = refl
names-get (n ∷ q) bytes i h =
    let z : i + 0 ≡ i = omega arith in
    ap₂ (λ x y. x ∷ y) (ap (name_at bytes) (sym z) ∙ h 0 (omega arith))
    (names-get q bytes (suc i) (λ j l. let y : suc i + j ≡ i + suc j = omega arith in ap (name_at bytes) y ∙ h (suc j) (omega arith)))

-- of a path they are its own
pub names-of-path : (bytes : List ℕ) (names : Path) → path_of bytes ≡ some names → names_from bytes 0 (length names) ≡ names
names-of-path bytes names e =
    names-get names bytes 0 (λ j l. let z : 0 + j ≡ j = omega arith in ap (name_at bytes) z ∙ name-of-path bytes names j e l)

-- for every card that the view holds and every path that the bytes are
abbrev pub Leads : View → List ℕ → ℕ → Returned EntryAt Refusal → Type 0
Leads v path count a =
    (root : Root) → HoldsCard v root → (names : Path) → path_of path ≡ some names → length names ≡ count → Arrives v (arrive (root_slot root) root.slots names) a

pub leads : (geometry : Geometry) (table image path : List ℕ) (count : ℕ) (r : Returned EntryAt Refusal) → r ≡ descended (view_by geometry table image) table (names_from path 0 count)
    → Leads (view_by geometry table image) path count r
leads geometry table image path count r e root card names p l =
    let same : names_from path 0 count ≡ names = ap (names_from path 0) (sym l) ∙ names-of-path path names p in
    rw (e, same) (descended-arrives (view_by geometry table image) table (λ c. refl) (λ a. refl) root card names)
