-- The page of the entry to which names lead: it reads as the view's, and its number is the tree's own.
use Rattle.std.specs.Prelude.{Some, None, Ok, Err}
use Rattle.std.specs.Prelude.{Option, Result as Returned}
use Prim.Native.Nat.{◌-◌, suc, ℕ}
use mathlib.Core.Bool.{Bool, cond, false, true}
use mathlib.Core.List.{List, [], ◌∷◌}
use mathlib.Core.Logic.{⊎_elim}
use mathlib.Core.Option.{Option as Maybe, none, some}
use mathlib.Core.Path.{◌∙◌, ◌≡◌, ap, refl, sym}
use native.Mathlib.Omega.{arith}
use lib.ListN.{get_or}
use Rattle.model.proofs.Equality.{bool}
use Rattle.model.specs.Check.{Result, fault, ok}
use Rattle.model.specs.Entry.{entry_of, is_directory}
use Rattle.model.specs.Holds.{HoldsCard}
use Rattle.model.specs.Lookup.{Found, absent, first_page, found, index_of, is_named, later_pages, look_in, page_among, page_at_path, tell}
use Rattle.model.specs.Names.{Name, Path}
use Rattle.model.specs.Pages.{decoded}
use Rattle.model.specs.Tree.{Root, Slot, Tree, end, entry_pages, node, root_slot}
use Rattle.model.specs.View.{View}
use Rattle.reached.specs.Table.{table_links}
use Rattle.tree.specs.Slots.{next_of, slot_pages}
use Rattle.layout.specs.declared.Refusal.{Refusal}
use Rattle.layout.specs.declared.Refusal.TheVariants as is
use Rattle.lookup.specs.Descend.{StandsAt, at_root, descended, entered, landed, landed_at, onward}
use Rattle.tree.specs.Scan.{bearing, scan}
use Rattle.tree.specs.declared.along.Place.{Place}
use Rattle.lookup.specs.declared.way.EntryAt.{EntryAt}
use Rattle.lookup.proofs.Arrivals.{Arrives, arrive, found-same}
use Rattle.lookup.proofs.DescendLaws.{root-read}
use Rattle.lookup.proofs.DescendSteps.{onward-refused}
use Rattle.lookup.proofs.EnterLaws.{enters, stands-chain, stands-held}
use Rattle.lookup.proofs.SlotLaws.{name-at}

-- a refusal is no entry
no-entry : {A : Type 0} {r : Refusal} {e : EntryAt} → ◌≡◌ {A = Returned EntryAt Refusal} (Err r) (Ok e) → A
no-entry e = absurd (let z : ◌≡◌ {A = ℕ} 0 1 = cc in omega arith)

entry-same : {a b : EntryAt} → ◌≡◌ {A = Returned EntryAt Refusal} (Ok a) (Ok b) → a ≡ b
entry-same e = cc

-- ---- in the code

module _ (v : View) (t : List ℕ) where
  -- the page of an arrival at an entry is the view's
  abbrev pub Shown : Returned EntryAt Refusal → Type 0
  Shown (Ok e) = v.page e.at ≡ some e.page
  Shown (Err r) = Unit {0}

  landed-shown : (p : ℕ) (o : Maybe (List ℕ)) → v.page p ≡ o → Shown (landed p o)
  landed-shown p none e = tt
  landed-shown p (some page) e = e

  entered-shown : (first : ℕ) (page : List ℕ) (n : Name) → Shown (entered v t first page n)
  unfolding entered
  entered-shown first page n = kind (is_directory (entry_of page)) (scan (bearing v n) (slot_pages t (next_of t first) 0 ((entry_of page).length - 2)) 0)
    where
      kind : (b : Bool) (r : Option Place) → Shown (cond b (landed_at v r) (Err is.WrongKind))
      kind false r = tt
      kind true None = tt
      kind true (Some at) = landed-shown at.page (v.page at.page) refl

  onward-shown : (names : Path) (a : Returned EntryAt Refusal) → Shown a → Shown (onward v t a names)
  unfolding onward
  onward-shown [] a x = x
  onward-shown (n ∷ names) (Ok e) x = onward-shown names (entered v t e.first e.page n) (entered-shown e.first e.page n)
  onward-shown (n ∷ names) (Err r) x = tt

  pub descended-shown : (names : Path) → Shown (descended v t names)
  unfolding descended
  descended-shown names = onward-shown names (at_root (v.page 0)) (go (v.page 0) refl)
    where
      go : (o : Maybe (List ℕ)) → v.page 0 ≡ o → Shown (at_root o)
      go none e = tt
      go (some page) e = e

  -- the page of an entry that was entered is that of the name's place
  entered-place : (first : ℕ) (page : List ℕ) (n : Name) (e : EntryAt) → entered v t first page n ≡ Ok e
      → (at : Place) × (scan (bearing v n) (slot_pages t (next_of t first) 0 ((entry_of page).length - 2)) 0 ≡ Some at) × (at.page ≡ e.at)
  unfolding entered
  entered-place first page n e f = kind (is_directory (entry_of page)) (scan (bearing v n) (slot_pages t (next_of t first) 0 ((entry_of page).length - 2)) 0) f
    where
      read : (p : ℕ) (o : Maybe (List ℕ)) → landed p o ≡ Ok e → p ≡ e.at
      read p none f = no-entry f
      read p (some page) f = ap (λ (a : EntryAt). a.at) (entry-same f)

      kind : (b : Bool) (r : Option Place) → cond b (landed_at v r) (Err is.WrongKind) ≡ Ok e → (at : Place) × (r ≡ Some at) × (at.page ≡ e.at)
      kind false r f = no-entry f
      kind true None f = no-entry f
      kind true (Some at) f = (at, refl, read at.page (v.page at.page) f)

-- ---- in the tree

-- from a slot on, whose entry is in page p: its own page, or that of an entry inside it
abbrev page_from : Slot → Tree → ℕ → Path → ℕ
page_from h s p [] = p
page_from h s p (n ∷ q) = page_among (entry_pages h) s (n ∷ q)

page-node : (ps : List ℕ) (h : Slot) (s t : Tree) (n : Name) (q : Path) → page_among ps (node h s t) (n ∷ q) ≡ cond (is_named h n) (page_from h s (first_page ps) q) (page_among (later_pages ps) t (n ∷ q))
page-node ps h s t n [] = refl
page-node ps h s t n (m ∷ q) = refl

page-first : (ps : List ℕ) → first_page ps ≡ get_or ps 0 0
page-first [] = refl
page-first (p ∷ ps) = refl

page-later : (ps : List ℕ) (i : ℕ) → get_or (later_pages ps) i 0 ≡ get_or ps (suc i) 0
page-later [] i = refl
page-later (p ∷ ps) i = refl

page-inside : (n : Name) (t : Tree) (ps : List ℕ) (q : Path) (h : Slot) (s : Tree) → look_in t (n ∷ []) ≡ found h s → page_among ps t (n ∷ q) ≡ page_from h s (get_or ps (index_of n t) 0) q
page-inside n end ps q h s e = absurd (let z : ◌≡◌ {A = ℕ} 0 1 = cc in omega arith)
page-inside n (node x a b) ps q h s e =
    page-node ps x a b n q ∙ ⊎_elim (λ i. here i (rw i at e)) (λ i. later i (page-inside n b (later_pages ps) q h s (rw i at e))) (bool (is_named x n))
  where
    here : is_named x n ≡ true → found x a ≡ found h s
        → cond (is_named x n) (page_from x a (first_page ps) q) (page_among (later_pages ps) b (n ∷ q)) ≡ page_from h s (get_or ps (index_of n (node x a b)) 0) q
    here i f = let y : x ≡ h = cc in let z : a ≡ s = cc in rw (i, y, z, page-first ps)

    later : is_named x n ≡ false → page_among (later_pages ps) b (n ∷ q) ≡ page_from h s (get_or (later_pages ps) (index_of n b) 0) q
        → cond (is_named x n) (page_from x a (first_page ps) q) (page_among (later_pages ps) b (n ∷ q)) ≡ page_from h s (get_or ps (index_of n (node x a b)) 0) q
    later i f = rw i (f ∙ rw (page-later ps (index_of n b)))

found-by : (f : Found) (h : Slot) (s : Tree) → tell (λ h t. arrive h t []) (fault 9 0) f ≡ ok (h, s) → f ≡ found h s
found-by absent h s e = cc
found-by (found g u) h s e = found-same g h u s e

-- ---- the two numbers are the same

module _ (v : View) (t : List ℕ) (links : (c : ℕ) → v.link c ≡ table_links t c) (reads : (p : ℕ) → v.entry p ≡ decoded (v.page p)) where
  entered-page : (here next : EntryAt) (n : Name) (h g : Slot) (s u : Tree) → StandsAt v here h s → entered v t here.first here.page n ≡ Ok next
      → arrive h s (n ∷ []) ≡ ok (g, u) → (q : Path) → page_from h s here.at (n ∷ q) ≡ page_from g u next.at q
  entered-page here next n Slot.dead g s u x e a q = absurd x
  entered-page here next n (Slot.file d cs ds) g s u x e a q = absurd (let z : ◌≡◌ {A = ℕ} 0 1 = cc in omega arith)
  entered-page here next n (Slot.directory d cs) g s u x e a q =
      let place = entered-place v t here.first here.page n next e in
      let at = name-at v x.5.0 (slot_pages t (next_of t here.first) 0 ((entry_of here.page).length - 2)) s (stands-held v t links here.first (entry_of here.page) d cs s x) n place.0 place.1 in
      let pages = (stands-chain v t links here.first (entry_of here.page) d cs s x).2 in
      page-inside n s (entry_pages (Slot.directory d cs)) q g u (found-by (look_in s (n ∷ [])) g u a)
      ∙ ap (λ (p : ℕ). page_from g u p q) (ap (λ (ps : List ℕ). get_or ps (index_of n s) 0) pages ∙ rw at.0 (sym at.1) ∙ place.2)

  onward-page : (names : Path) (here last : EntryAt) (h : Slot) (s : Tree) → StandsAt v here h s → onward v t (Ok here) names ≡ Ok last → page_from h s here.at names ≡ last.at
  unfolding onward
  onward-page [] here last h s x e = ap (λ (a : EntryAt). a.at) (entry-same e)
  onward-page (n ∷ names) here last h s x e =
      go (entered v t here.first here.page n) refl (arrive h s (n ∷ [])) refl (enters v t links reads here.first here.page n h s x) e (λ next g u. onward-page names next last g u)
    where
      go : (a : Returned EntryAt Refusal) → entered v t here.first here.page n ≡ a → (r : Result (Slot × Tree)) → arrive h s (n ∷ []) ≡ r → Arrives v r a → onward v t a names ≡ Ok last
          → ((next : EntryAt) (g : Slot) (u : Tree) → StandsAt v next g u → onward v t (Ok next) names ≡ Ok last → page_from g u next.at names ≡ last.at)
          → page_from h s here.at (n ∷ names) ≡ last.at
      go (Err k) f r a y z later = no-entry (sym (onward-refused v t k names) ∙ z)
      go (Ok next) f (fault k c) a y z later = absurd y
      go (Ok next) f (ok w) a y z later = entered-page here next n h w.0 s w.1 x f a names ∙ later next w.0 w.1 y z

  pub descended-page : (root : Root) → HoldsCard v root → (names : Path) (last : EntryAt) → descended v t names ≡ Ok last → page_at_path root names ≡ last.at
  unfolding descended
  descended-page root card names last e = from names ∙ go (v.page 0) refl e
    where
      from : (names : Path) → page_at_path root names ≡ page_from (root_slot root) root.slots 0 names
      from [] = refl
      from (n ∷ q) = refl

      go : (o : Maybe (List ℕ)) → v.page 0 ≡ o → onward v t (at_root o) names ≡ Ok last → page_from (root_slot root) root.slots 0 names ≡ last.at
      go none z f = no-entry (sym (onward-refused v t is.Absent names) ∙ f)
      go (some page) z f = onward-page names (record { at = 0; first = 0; page = page }) last (root_slot root) root.slots (root-read v reads root card page z) f
