-- A directory in the tree, the root or one below it, seen alike.
use Prim.Native.Nat.{◌+◌, ◌-◌, ◌/◌, ◌≤◌, pred, suc, ℕ}
use mathlib.Core.Bool.{◌&&◌, false, true}
use mathlib.Core.List.{List, [], ◌++◌, ◌∷◌}
use mathlib.Core.Logic.{◌⊎◌, inl, inr, ⊎_elim}
use mathlib.Core.Option.{some}
use mathlib.Core.Path.{◌∙◌, ◌≡◌, ap, refl, subst}
use native.Mathlib.Omega.{arith}
use lib.Dec.{eqb, leb→le}
use lib.ListN.{length}
use Rattle.model.specs.Entry.{Entry, directory_clusters, is_directory}
use Rattle.model.specs.Holds.{DotEntries, HoldsCard, HoldsSlot, HoldsSlots, UniqueNames, deepest}
use Rattle.model.specs.Lookup.{found, look_from, look_in, page_among, page_at_path, tell}
use Rattle.model.specs.Names.{Name, Path, beginning, good_name, same_name}
use Rattle.model.specs.Tree.{Root, Slot, Tree, cluster_uses, entry_pages, hit, reached, root_slot, times}
use Rattle.model.specs.View.{View}
use Rattle.model.proofs.Equality.{Eq-number, and_r, bool, tf, to-T}
use Rattle.model.proofs.Frame.{hit-self, needs, parts-le}
use Rattle.model.proofs.LookupLaws.{get_at, get_off}
use Rattle.model.proofs.SlotLaws.{set_slot}
use Rattle.model.proofs.StepHolds.{Step, root-page, root-step, sub-step}
use Rattle.model.proofs.TreePlaces.{Context, On, deep_at, down, next, page_at, part, part-links, place, plug, top}

page-at : (v : View) (l : Context) (h : Slot) (s : Tree) (d : ℕ) (ps : List ℕ) (q : Path) → HoldsSlots v d ps (plug l h s) → On l h q → page_among ps (plug l h s) q ≡ page_at l ps
page-at v (top b) h s d [] q r o = absurd r
page-at v (top b) h s d (p ∷ ps) [] r o = absurd o
page-at v (top b) h s d (p ∷ ps) (n ∷ []) r o = rw o
page-at v (top b) h s d (p ∷ ps) (n ∷ m ∷ q) r o = absurd o
page-at v (next x a l) h s d [] q r o = absurd r
page-at v (next x a l) h s d (p ∷ ps) [] r o = absurd o
page-at v (next x a l) h s d (p ∷ ps) (n ∷ []) r o = rw o.0 (page-at v l h s d ps (n ∷ []) r.3 o.1)
page-at v (next x a l) h s d (p ∷ ps) (n ∷ m ∷ q) r o = rw o.0 (page-at v l h s d ps (n ∷ m ∷ q) r.3 o.1)
page-at v (down x b l) h s d [] q r o = absurd r
page-at v (down x b l) h s d (p ∷ ps) [] r o = absurd o
page-at v (down x b l) h s d (p ∷ ps) (n ∷ []) r o = absurd o
page-at v (down x b l) h s d (p ∷ ps) (n ∷ m ∷ q) r o = rw o.0 (page-at v l h s (pred d) (entry_pages x) (m ∷ q) r.2 o.1)

deep-at : (l : Context) (h : Slot) (d : ℕ) (q : Path) → On l h q → deep_at l d ≡ d - (length q - 1)
deep-at (top b) h d [] o = absurd o
deep-at (top b) h d (n ∷ []) o = omega arith
deep-at (top b) h d (n ∷ m ∷ q) o = absurd o
deep-at (next x a l) h d [] o = absurd o
deep-at (next x a l) h d (n ∷ q) o = deep-at l h d (n ∷ q) o.1
deep-at (down x b l) h d [] o = absurd o
deep-at (down x b l) h d (n ∷ []) o = absurd o
deep-at (down x b l) h d (n ∷ m ∷ q) o = deep-at l h (pred d) (m ∷ q) o.1 ∙ omega arith

-- the node at a place is held as a directory
at_held : (v : View) (l : Context) (h : Slot) (s : Tree) (d : ℕ) (ps : List ℕ) → HoldsSlots v d ps (plug l h s) → HoldsSlot v (deep_at l d) (page_at l ps) h × UniqueNames s × HoldsSlots v (pred (deep_at l d)) (entry_pages h) s
at_held v (top b) h s d [] r = absurd r
at_held v (top b) h s d (p ∷ ps) r = (r.0, r.1, r.2)
at_held v (next x a l) h s d [] r = absurd r
at_held v (next x a l) h s d (p ∷ ps) r = at_held v l h s d ps r.3
at_held v (down x b l) h s d [] r = absurd r
at_held v (down x b l) h s d (p ∷ ps) r = at_held v l h s (pred d) (entry_pages x) r.2

-- What became of the root: the directory at q is now (X', s'), and all else is told as before.
pub record Moved (r r' : Root) (q : Path) (X : Slot) (s : Tree) (X' : Slot) (s' : Tree) : Type 1 where
  pub below : (z : Path) → look_from (root_slot r') r'.slots (q ++ z) ≡ look_from X' s' z
  pub aside : {B : Type 0} (f : Slot → Tree → B) (b : B) → ((x : Slot) (l : Context) → f x (plug l X' s') ≡ f x (plug l X s))
      → (z : Path) → beginning q z ≡ false → tell f b (look_from (root_slot r') r'.slots z) ≡ tell f b (look_from (root_slot r) r.slots z)

-- The directory (e, cs, s) at the path q, its entry in page P, its slots at depth D.
pub record Site (v : View) (r : Root) (q : Path) (P : ℕ) (e : Entry) (cs : List ℕ) (s : Tree) (D : ℕ) : Type 1 where
  pub depth : D ≡ deepest - length q
  pub entered : v.entry P ≡ some e
  pub here : (z : Path) → look_from (root_slot r) r.slots (q ++ z) ≡ look_from (Slot.directory e cs) s z
  pub dots : DotEntries v cs
  pub long : length cs ≡ directory_clusters e
  pub two : 2 ≤ e.length
  pub uniq : UniqueNames s
  pub rep : HoldsSlots v D (entry_pages (Slot.directory e cs)) s
  pub own : (c : ℕ) → times cs c + cluster_uses s c ≤ reached r c
  pub entry : ((a : ℕ) → hit P a + times cs (a / 2) ≤ reached r (a / 2)) ⊎ ((a : ℕ) → hit P a ≤ times (needs (Slot.directory e cs)) a)
  pub finish : (w : View) (e' : Entry) (gs : List ℕ) (i Q : ℕ) (x : Slot) (y : Tree) (N : ℕ → ℕ) → Step v w (reached r) P e cs s e' gs i Q x y N
      → HoldsSlot w D Q x × UniqueNames y × HoldsSlots w (pred D) (entry_pages x) y
      → (r' : Root) × HoldsCard w r' × Moved r r' q (Slot.directory e cs) s (Slot.directory e' (cs ++ gs)) (set_slot i x y s)

pub root-site : (v : View) (r : Root) → HoldsCard v r → Site v r [] 0 r.root_entry r.chain r.slots deepest
root-site v r h =
    record {
      depth = refl;
      entered = h.root_page;
      here = λ z. refl;
      dots = h.dots;
      long = h.long;
      two = leb→le 2 _ (to-T (and_r (is_directory r.root_entry && same_name r.root_entry.name (0x2E ∷ [])) _ h.good));
      uniq = h.uniq;
      rep = h.rep;
      own = λ c. omega arith;
      entry = inr (λ a. ⊎_elim (λ (z : eqb 0 a ≡ true). let b : 0 ≡ a = Eq-number.sound 0 a z in rw (← b) (omega (arith, root-page v r.chain h.links, hit-self 0))) (λ (z : eqb 0 a ≡ false). rw z (omega arith)) (bool (eqb 0 a)));
      finish = λ w e' gs i Q x y N k g. (
        record { root_entry = e'; chain = r.chain ++ gs; slots = set_slot i x y r.slots },
        root-step v w (reached r) 0 r.root_entry r.chain r.slots e' gs i Q x y N k h refl (λ c. refl) g,
        record { below = λ z. refl; aside = λ f b st z p. tf refl p },
      );
    }

module _ (v : View) (t : Entry) (ch : List ℕ) (l : Context) (e : Entry) (cs : List ℕ) (s : Tree) where
  abbrev R : Root
  R = record { root_entry = t; chain = ch; slots = plug l (Slot.directory e cs) s }

  sub_at : (n : Name) (q : Path) → On l (Slot.directory e cs) (n ∷ q) → HoldsCard v R → Site v R (n ∷ q) (page_at_path R (n ∷ q)) e cs s (deepest - suc (length q))
  sub_at n q on h =
      let a = at_held v l (Slot.directory e cs) s deepest (entry_pages (Slot.directory t ch)) h.rep in
      let dp = deep-at l (Slot.directory e cs) deepest (n ∷ q) on in
      let D : pred (deep_at l deepest) ≡ deepest - suc (length q) = rw dp (omega arith) in
      let pa = page-at v l (Slot.directory e cs) s deepest (entry_pages (Slot.directory t ch)) (n ∷ q) h.rep on in
      record {
        depth = refl;
        entered = ap v.entry pa ∙ a.0.0;
        here = λ z. get_at l (Slot.directory e cs) s (n ∷ q) z on;
        dots = a.0.5;
        long = a.0.3;
        two = leb→le 2 _ (to-T (and_r (is_directory e && good_name e.name) _ a.0.1));
        uniq = a.1;
        rep = rw (← D) a.2;
        own = λ c. omega (arith, part-links (Slot.directory e cs) s l c);
        entry = inl (λ b. rw pa (omega (arith, part (Slot.directory e cs) s v l deepest (entry_pages (Slot.directory t ch)) h.rep b, parts-le (Slot.directory t ch) b)));
        finish = λ w e' gs i Q x y N k g. (
          record { root_entry = t; chain = ch; slots = plug l (Slot.directory e' (cs ++ gs)) (set_slot i x y s) },
          sub-step v w (reached R) (page_at_path R (n ∷ q)) e cs s e' gs i Q x y N k t ch l h pa (λ c. refl) (rw D g),
          record {
            below = λ z. get_at l (Slot.directory e' (cs ++ gs)) (set_slot i x y s) (n ∷ q) z (on' e' gs k.name l (n ∷ q) on);
            aside = λ f b st z p. off f b e' gs (set_slot i x y s) k.name st z p;
          },
        );
      }
    where
      on' : (e' : Entry) (gs : List ℕ) → e'.name ≡ e.name → (l : Context) (q : Path) → On l (Slot.directory e cs) q → On l (Slot.directory e' (cs ++ gs)) q
      on' e' gs eq (top b) [] o = o
      on' e' gs eq (top b) (n ∷ []) o = rw eq o
      on' e' gs eq (top b) (n ∷ m ∷ q) o = o
      on' e' gs eq (next x a l) [] o = o
      on' e' gs eq (next x a l) (n ∷ q) o = (o.0, on' e' gs eq l (n ∷ q) o.1)
      on' e' gs eq (down x b l) [] o = o
      on' e' gs eq (down x b l) (n ∷ []) o = o
      on' e' gs eq (down x b l) (n ∷ m ∷ q) o = (o.0, on' e' gs eq l (m ∷ q) o.1)

      off : {B : Type 0} (f : Slot → Tree → B) (b : B) (e' : Entry) (gs : List ℕ) (s' : Tree) → e'.name ≡ e.name
          → ((x : Slot) (l : Context) → f x (plug l (Slot.directory e' (cs ++ gs)) s') ≡ f x (plug l (Slot.directory e cs) s))
          → (z : Path) → beginning (n ∷ q) z ≡ false
          → tell f b (look_from (Slot.directory t ch) (plug l (Slot.directory e' (cs ++ gs)) s') z) ≡ tell f b (look_from (Slot.directory t ch) (plug l (Slot.directory e cs) s) z)
      off f b e' gs s' eq st [] p = st (Slot.directory t ch) l
      off f b e' gs s' eq st (m ∷ z) p = get_off f b (Slot.directory e cs) (Slot.directory e' (cs ++ gs)) s s' (λ k. rw eq) st l (n ∷ q) (m ∷ z) on p

pub sub-site : (v : View) (r : Root) → HoldsCard v r → (n : Name) (q : Path) (e : Entry) (cs : List ℕ) (s : Tree) → look_in r.slots (n ∷ q) ≡ found (Slot.directory e cs) s
    → Site v r (n ∷ q) (page_at_path r (n ∷ q)) e cs s (deepest - suc (length q))
sub-site v r h n q e cs s g =
    let z = place r.slots (n ∷ q) (Slot.directory e cs) s g in
    subst (λ (b : Tree). HoldsCard v (record { root_entry = r.root_entry; chain = r.chain; slots = b })
    → Site v (record { root_entry = r.root_entry; chain = r.chain; slots = b }) (n ∷ q) (page_at_path (record { root_entry = r.root_entry; chain = r.chain; slots = b }) (n ∷ q)) e cs s (deepest - suc (length q)))
    z.1 (sub_at v r.root_entry r.chain z.0 e cs s n q z.2) h

dir-parts : (h : Slot) (t : Tree) (e : Entry) (cs : List ℕ) (s : Tree) (e₀ : Entry) (cs₀ : List ℕ) → h ≡ Slot.directory e₀ cs₀ → found h t ≡ found (Slot.directory e cs) s → (e₀ ≡ e) × (cs₀ ≡ cs) × (t ≡ s)
dir-parts h t e cs s e₀ cs₀ a b = (cc, cc, cc)

site-root : (v : View) (r : Root) (e : Entry) (cs : List ℕ) (s : Tree) → r.root_entry ≡ e → r.chain ≡ cs → r.slots ≡ s → HoldsCard v r → Site v r [] 0 e cs s deepest
site-root v r e cs s a b c h = rw (← a, ← b, ← c) (root-site v r h)

-- one for both
pub site : (v : View) (r : Root) → HoldsCard v r → (q : Path) (e : Entry) (cs : List ℕ) (s : Tree) → look_from (root_slot r) r.slots q ≡ found (Slot.directory e cs) s
    → Site v r q (page_at_path r q) e cs s (deepest - length q)
site v r h [] e cs s g = let d = dir-parts (root_slot r) r.slots e cs s r.root_entry r.chain refl g in site-root v r e cs s d.0 d.1 d.2 h
site v r h (n ∷ q) e cs s g = sub-site v r h n q e cs s g
