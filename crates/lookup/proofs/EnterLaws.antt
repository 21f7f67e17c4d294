-- One name further: from a slot that the view holds to the slot that is found inside it.
use Rattle.std.specs.Prelude.{Some, None, Ok, Err}
use Rattle.std.specs.Prelude.{Option}
use Prim.Native.Nat.{◌-◌, ℕ}
use mathlib.Core.Bool.{Bool, ◌&&◌, cond, false, not, true}
use mathlib.Core.List.{List, [], ◌∷◌}
use mathlib.Core.Option.{Option as Maybe, none, some}
use mathlib.Core.Path.{◌∙◌, ◌≡◌, ap, refl, sym}
use native.Mathlib.Omega.{arith}
use lib.Dec.{leb→le}
use Rattle.model.proofs.Equality.{and_l, and_r, tf, to-T}
use Rattle.model.specs.Bytes.{word}
use Rattle.model.specs.Check.{ok}
use Rattle.model.specs.Entry.{Entry, entry_of, has_bit, is_directory, is_file, is_live}
use Rattle.model.specs.Holds.{HoldsCard, HoldsSlot, HoldsSlots, deepest}
use Rattle.model.specs.Lookup.{absent, look_in}
use Rattle.model.specs.Names.{Name, good_name, same_name}
use Rattle.model.specs.Pages.{decoded}
use Rattle.model.specs.Tree.{Root, Slot, Tree, entry_pages, root_slot}
use Rattle.model.specs.View.{View}
use Rattle.reached.specs.Table.{table_links}
use Rattle.tree.specs.declared.along.Place.{Place}
use Rattle.layout.specs.declared.Refusal.TheVariants as is
use Rattle.lookup.specs.Descend.{Stands, entered, landed, landed_at}
use Rattle.tree.specs.Scan.{bearing, scan}
use Rattle.lookup.proofs.Arrivals.{Arrives, arrive}
use Rattle.tree.specs.Slots.{next_of, slot_pages}
use Rattle.tree.proofs.ChainPages.{directory-pages}
use Rattle.lookup.proofs.FindLaws.{Finds, scan-finds}

and-not : (a b : Bool) → b ≡ true → (a && not b) ≡ false
and-not true b e = ap not e
and-not false b e = refl

-- a file is no directory
pub file-kind : (e : Entry) → is_file e ≡ true → is_directory e ≡ false
file-kind e h = and-not (is_live e && has_bit e.mode 0x20) (has_bit e.mode 0x10) (and_r (is_live e) _ (and_l _ _ (and_l _ _ (and_l _ _ h))))

-- a slot that a page holds stands there, with its inside
pub held-stands : (v : View) (below below' p : ℕ) (h : Slot) (s : Tree) (n : Name) → HoldsSlot v below p h → HoldsSlots v below' (entry_pages h) s → (h ≡ Slot.dead → ⊥)
    → (e : Entry) × (v.entry p ≡ some e) × Stands v e.first_cluster e h s
held-stands v below below' p Slot.dead s n x y d = absurd (d refl)
held-stands v below below' p (Slot.file e cs ds) s n x y d = (e, x.0, (refl, file-kind e x.1, x.2, x.3, x.4))
held-stands v below below' p (Slot.directory e cs) s n x y d =
    (e, x.0, (refl, and_l _ _ (and_l _ _ x.1), leb→le 2 _ (to-T (and_r (is_directory e && good_name e.name) _ x.1)), x.3, x.4, (below', y)))

-- the root stands in page 0; its slots begin behind cluster 0
pub root_stands : (v : View) (r : Root) → HoldsCard v r → Stands v 0 r.root_entry (root_slot r) r.slots
root_stands v r x =
    (refl, and_l _ _ (and_l _ _ x.good), leb→le 2 _ (to-T (and_r (is_directory r.root_entry && same_name r.root_entry.name (0x2E ∷ [])) _ x.good)), x.long, x.links, (deepest, x.rep))

pub some_same : (a b : Entry) → some a ≡ some b → a ≡ b
some_same a b e = cc

-- the slots of a directory that stands: their pages are those that the code steps through, and they hold the tree's
module _ (v : View) (t : List ℕ) (links : (c : ℕ) → v.link c ≡ table_links t c) (first : ℕ) (e d : Entry) (cs : List ℕ) (s : Tree) (x : Stands v first e (Slot.directory d cs) s) where
  pub stands-chain : (ds : List ℕ) × (cs ≡ first ∷ ds) × (entry_pages (Slot.directory d cs) ≡ slot_pages t (next_of t first) 0 (e.length - 2))
  stands-chain = let a = directory-pages v t links first cs x.4 e.length x.2 x.3 in (a.0, a.1, rw x.0 a.2)

  pub stands-held : HoldsSlots v x.5.0 (slot_pages t (next_of t first) 0 (e.length - 2)) s
  stands-held = rw stands-chain.2 at x.5.1

module _ (v : View) (t : List ℕ) (links : (c : ℕ) → v.link c ≡ table_links t c) (first : ℕ) (e : Entry) (n : Name) where
  -- the place of a name in a directory of this entry
  abbrev placed : Option Place
  placed = scan (bearing v n) (slot_pages t (next_of t first) 0 (e.length - 2)) 0

  enter-file : (h : Slot) (s : Tree) → Stands v first e h s → is_directory e ≡ false → Arrives v (arrive h s (n ∷ [])) (Err is.WrongKind)
  enter-file Slot.dead s x f = absurd x
  enter-file (Slot.file d cs ds) s x f = (refl, refl, refl)
  enter-file (Slot.directory d cs) s x f = tf x.1 f

  -- a directory's place of a name says what is found
  directory-finds : (d : Entry) (cs : List ℕ) (s : Tree) → (x : Stands v first e (Slot.directory d cs) s) → Finds v x.5.0 s n placed
  directory-finds d cs s x = scan-finds v x.5.0 n (slot_pages t (next_of t first) 0 (e.length - 2)) s 0 (stands-held v t links first e d cs s x)

  enter-absent : (h : Slot) (s : Tree) → Stands v first e h s → is_directory e ≡ true → placed ≡ None → Arrives v (arrive h s (n ∷ [])) (Err is.Absent)
  enter-absent Slot.dead s x f q = absurd x
  enter-absent (Slot.file d cs ds) s x f q = tf f x.1
  enter-absent (Slot.directory d cs) s x f q =
      let y : look_in s (n ∷ []) ≡ absent = rw q at (directory-finds d cs s x) in
      rw y (refl, refl, refl)

  -- the page of a name that is found holds an entry, which stands there
  enter-found : (h : Slot) (s : Tree) → Stands v first e h s → is_directory e ≡ true → (at : Place) → placed ≡ Some at
      → (g : Slot) × (u : Tree) × (d : Entry) × (v.entry at.page ≡ some d) × Stands v d.first_cluster d g u × (arrive h s (n ∷ []) ≡ ok (g, u))
  enter-found Slot.dead s x f at q = absurd x
  enter-found (Slot.file d cs ds) s x f at q = tf f x.1
  enter-found (Slot.directory d cs) s x f at q =
      let y : Finds v x.5.0 s n (Some at) = rw q at (directory-finds d cs s x) in
      let z = held-stands v _ _ at.page y.0 y.1 n y.3 y.4 (λ w. tf (rw w at y.5) refl) in
      (y.0, y.1, z.0, z.1, z.2, rw y.2)

  stands-as : (g : Slot) (u : Tree) (d d' : Entry) (next : ℕ) → Stands v d.first_cluster d g u → d ≡ d' → next ≡ d'.first_cluster → Stands v next d' g u
  stands-as g u d d' next x z eq = rw (eq, ← z) x

  -- the entry that was read stands where the name leads
  enter-there : (h : Slot) (s : Tree) → Stands v first e h s → is_directory e ≡ true → (at : Place) → placed ≡ Some at
      → (page : List ℕ) (next : ℕ) → v.entry at.page ≡ some (entry_of page) → next ≡ (entry_of page).first_cluster
      → Arrives v (arrive h s (n ∷ [])) (Ok (record { at = at.page; first = next; page = page }))
  enter-there h s x f at q page next read eq =
      let y = enter-found h s x f at q in
      let z : y.2 ≡ entry_of page = some_same _ _ (sym y.3 ∙ read) in
      rw y.5 (stands-as y.0 y.1 y.2 (entry_of page) next y.4 z eq)

-- One name further the code arrives where the tree's name leads; the view's entries are those of its pages.
pub enters : (v : View) (t : List ℕ) → ((c : ℕ) → v.link c ≡ table_links t c) → ((p : ℕ) → v.entry p ≡ decoded (v.page p)) → (first : ℕ) (page : List ℕ) (n : Name) (h : Slot) (s : Tree)
    → Stands v first (entry_of page) h s → Arrives v (arrive h s (n ∷ [])) (entered v t first page n)
unfolding entered
enters v t links reads first page n h s x = kind (is_directory (entry_of page)) refl
  where
    read : is_directory (entry_of page) ≡ true → (at : Place) → placed v t links first (entry_of page) n ≡ Some at → (o : Maybe (List ℕ)) → v.page at.page ≡ o
        → Arrives v (arrive h s (n ∷ [])) (landed at.page o)
    read d at q none r =
        let y = enter-found v t links first (entry_of page) n h s x d at q in
        absurd (let z : none ≡ some y.2 = sym (reads at.page ∙ ap decoded r) ∙ y.3 in let w : ◌≡◌ {A = ℕ} 0 1 = cc in omega arith)
    read d at q (some bytes) r = enter-there v t links first (entry_of page) n h s x d at q bytes (word bytes 0x10) (reads at.page ∙ ap decoded r) refl

    found : is_directory (entry_of page) ≡ true → (r : Option Place) → placed v t links first (entry_of page) n ≡ r → Arrives v (arrive h s (n ∷ [])) (landed_at v r)
    found d None q = enter-absent v t links first (entry_of page) n h s x d q
    found d (Some at) q = read d at q (v.page at.page) refl

    kind : (b : Bool) → is_directory (entry_of page) ≡ b → Arrives v (arrive h s (n ∷ [])) (cond b (landed_at v (placed v t links first (entry_of page) n)) (Err is.WrongKind))
    kind true d = found d (placed v t links first (entry_of page) n) refl
    kind false d = enter-file v t links first (entry_of page) n h s x d
