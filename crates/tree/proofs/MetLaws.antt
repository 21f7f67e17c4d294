-- The cells forget no name: a filled cell stays, so a search that found a name finds it again, and one that ended in an
-- empty cell finds there what was put into it.
use Rattle.std.proofs.Common.{◌≡◌, ℕ, zero, suc, ◌+◌, ◌/◌, ◌%◌, ◌<◌, ◌≤◌, Bool, true, false, cond, ◌&&◌, ◌||◌, eqb, ◌⊎◌, List, length, get_or, set, sym, refl, ap, ◌∙◌, inl, inr, mod-lt, arith, length-set, get_or-set_other, get_or-set_same, eq-eqb, ne_eqb, eqb-true}
use mathlib.Core.Option.{Option, some}
use native.Mathlib.Decide.{ℕ_discrete}
use borrow.Author.Tests.{eqb-false}
use Rattle.model.proofs.Equality.{Eq-name, bool, tf}
use Rattle.model.specs.Entry.{Entry, is_live}
use Rattle.model.specs.Names.{Name, same_name}
use Rattle.model.specs.View.{View}
use Rattle.tree.specs.declared.names.Hash.{Hash}
use Rattle.tree.specs.Met.{Grows, Knows, cell_of, hash_of, is_met, is_same, known, learnt, mark_of, mixed, most_pages, with_name, word_of}
use Rattle.tree.specs.Scan.{bears}
use Rattle.tree.specs.Slots.{cluster_at, is_slot, live_before, live_hit, slot_page}

-- ---- the slots before slot k

or-true : (b : Bool) → (b || true) ≡ true
or-true true = refl
or-true false = refl

module _ (t : List ℕ) (start : ℕ) (page : ℕ) where
  pub slot-none : is_slot t start 0 page ≡ false
  unfolding is_slot
  slot-none = refl

  pub slot-later : (k : ℕ) → is_slot t start k page ≡ true → is_slot t start (suc k) page ≡ true
  unfolding is_slot
  slot-later k e = rw e

  pub slot-here : (k : ℕ) → page ≡ slot_page (cluster_at t start k) k → is_slot t start (suc k) page ≡ true
  unfolding is_slot
  slot-here k e = rw (eq-eqb page (slot_page (cluster_at t start k) k) e) (or-true (is_slot t start k page))

  pub slot-not : (k : ℕ) → is_slot t start k page ≡ false → (page ≡ slot_page (cluster_at t start k) k → ⊥) → is_slot t start (suc k) page ≡ false
  unfolding is_slot
  slot-not k e f = rw (e, ne_eqb page (slot_page (cluster_at t start k) k) f)

  pub slot-up : (j k : ℕ) → j ≤ k → is_slot t start j page ≡ true → is_slot t start k page ≡ true
  slot-up j zero h e = let z : j ≡ 0 = omega arith in rw z at e
  slot-up j (suc k) h e = go (ℕ_discrete j (suc k)) (λ l. slot-up j k l e)
    where
      go : Dec (j ≡ suc k) → (j ≤ k → is_slot t start k page ≡ true) → is_slot t start (suc k) page ≡ true
      go (yes q) f = rw q at e
      go (no q) f = slot-later k (f (omega arith))

onward : (x : Bool) {y : Bool} → y ≡ true → cond x true y ≡ true
onward true q = refl
onward false q = q

-- ---- filled cells stay

pub grows_self : (cells : List ℕ) → Grows cells cells
grows_self cells = record { room = refl; kept = λ i f. refl }

pub grows-more : (a b c : List ℕ) → Grows a b → Grows b c → Grows a c
grows-more a b c g h =
    record { room = h.room ∙ g.room; kept = λ i f. h.kept i (λ z. f (sym (g.kept i f) ∙ z)) ∙ g.kept i f }

grows-set : (cells : List ℕ) (i word : ℕ) → get_or cells i 0 ≡ 0 → Grows cells (set cells i word)
grows-set cells i word e = record { room = length-set cells i word; kept = λ j f. get_or-set_other cells i j word 0 (λ z. f (ap (λ n. get_or cells n 0) z ∙ e)) }

module _ (v : View) (t : List ℕ) (start : ℕ) (n : Name) (mark : ℕ) where
  -- a word that is the name's stays so among more slots
  abbrev More : ℕ → ℕ → Type 0
  More k j = (page : ℕ) → is_slot t start k page ≡ true → is_slot t start j page ≡ true

  same_more : (k j word : ℕ) → More k j → is_same v t start k n mark word ≡ true → is_same v t start j n mark word ≡ true
  unfolding is_same
  same_more k j word m e = go (eqb (word / most_pages) mark) (bears n (v.entry (word % most_pages))) e
    where
      go : (a b : Bool) → (a && (b && is_slot t start k (word % most_pages))) ≡ true → (a && (b && is_slot t start j (word % most_pages))) ≡ true
      go true true h = m (word % most_pages) h
      go true false h = tf h refl
      go false b h = tf h refl

  module _ (k : ℕ) where
    known-zero : (cells : List ℕ) (h : Hash) → known v t start k n mark cells h 0 ≡ true
    unfolding known
    known-zero cells h = refl

    -- one cell, by what it holds
    known-one : (cells : List ℕ) (h : Hash) (left : ℕ)
        → known v t start k n mark cells h (suc left) ≡ cond (eqb (get_or cells (cell_of h) 0) 0) false (cond (is_same v t start k n mark (get_or cells (cell_of h) 0)) true (known v t start k n mark cells (mixed h 0) left))
    unfolding known
    known-one cells h left = refl

    learnt-one : (page : ℕ) (cells : List ℕ) (h : Hash) (left : ℕ)
        → learnt v t start k n mark page cells h (suc left)
        ≡ cond (eqb (get_or cells (cell_of h) 0) 0) (set cells (cell_of h) (word_of mark page)) (cond (is_same v t start k n mark (get_or cells (cell_of h) 0)) cells (learnt v t start k n mark page cells (mixed h 0) left))
    unfolding learnt
    learnt-one page cells h left = refl

  -- a name that was met is met among more slots and in more cells
  known_more : (k j : ℕ) → More k j → (a b : List ℕ) → Grows a b → (left : ℕ) (h : Hash) → known v t start k n mark a h left ≡ true → known v t start j n mark b h left ≡ true
  known_more k j m a b g zero h e = known-zero j b h
  known_more k j m a b g (suc left) h e = go (bool (eqb (get_or a (cell_of h) 0) 0)) (bool (is_same v t start k n mark (get_or a (cell_of h) 0))) (known_more k j m a b g left (mixed h 0))
    where
      go : (eqb (get_or a (cell_of h) 0) 0 ≡ true) ⊎ (eqb (get_or a (cell_of h) 0) 0 ≡ false) → (is_same v t start k n mark (get_or a (cell_of h) 0) ≡ true) ⊎ (is_same v t start k n mark (get_or a (cell_of h) 0) ≡ false)
          → (known v t start k n mark a (mixed h 0) left ≡ true → known v t start j n mark b (mixed h 0) left ≡ true) → known v t start j n mark b h (suc left) ≡ true
      go (inl z) s f = tf e (known-one k a h left ∙ rw z)
      go (inr z) (inl s) f = rw (known-one j b h left, g.kept (cell_of h) (eqb-false _ _ z), z, same_more k j (get_or a (cell_of h) 0) m s)
      go (inr z) (inr s) f =
          rw (known-one j b h left, g.kept (cell_of h) (eqb-false _ _ z), z)
          (onward (is_same v t start j n mark (get_or a (cell_of h) 0)) (f (sym (known-one k a h left ∙ rw (z, s)) ∙ e)))

-- what the search learns keeps the filled cells
pub learnt-grows : (v : View) (t : List ℕ) (start k : ℕ) (n : Name) (mark page : ℕ) (cells : List ℕ) (left : ℕ) (h : Hash) → Grows cells (learnt v t start k n mark page cells h left)
unfolding learnt
learnt-grows v t start k n mark page cells zero h = grows_self cells
learnt-grows v t start k n mark page cells (suc left) h = go (bool (eqb (get_or cells (cell_of h) 0) 0)) (is_same v t start k n mark (get_or cells (cell_of h) 0)) (learnt-grows v t start k n mark page cells left (mixed h 0))
  where
    go : (eqb (get_or cells (cell_of h) 0) 0 ≡ true) ⊎ (eqb (get_or cells (cell_of h) 0) 0 ≡ false) → (s : Bool) → Grows cells (learnt v t start k n mark page cells (mixed h 0) left)
        → Grows cells (cond (eqb (get_or cells (cell_of h) 0) 0) (set cells (cell_of h) (word_of mark page)) (cond s cells (learnt v t start k n mark page cells (mixed h 0) left)))
    go (inl z) s g = rw z (grows-set cells (cell_of h) (word_of mark page) (eqb-true _ _ z))
    go (inr z) true g = rw z (grows_self cells)
    go (inr z) false g = rw z g

-- a cell's word gives back its mark and its page, and is not empty
module _ (mark page : ℕ) (some-mark : 1 ≤ mark) (low : page < most_pages) where
  word-mark : word_of mark page / most_pages ≡ mark
  word-mark = omega arith

  word-page : word_of mark page % most_pages ≡ page
  word-page = omega arith

  word_some : word_of mark page ≡ 0 → ⊥
  word_some e = omega arith

-- What the search learns is met, among the slots up to the name's own.
module _ (v : View) (t : List ℕ) (start k : ℕ) (n : Name) (mark page : ℕ) (some-mark : 1 ≤ mark) (low : page < most_pages)
    (borne : bears n (v.entry page) ≡ true) (own : is_slot t start (suc k) page ≡ true) (cells : List ℕ) (room : length cells ≡ most_pages) where
  word_same : is_same v t start (suc k) n mark (word_of mark page) ≡ true
  unfolding is_same
  word_same = rw (word-mark mark page some-mark low, word-page mark page some-mark low, eq-eqb mark mark refl, own, borne)

  learnt-known : (left : ℕ) (h : Hash) → known v t start (suc k) n mark (learnt v t start k n mark page cells h left) h left ≡ true
  learnt-known zero h = known-zero v t start n mark (suc k) (learnt v t start k n mark page cells h 0) h
  learnt-known (suc left) h = go (bool (eqb (get_or cells (cell_of h) 0) 0)) (bool (is_same v t start k n mark (get_or cells (cell_of h) 0))) (learnt-known left (mixed h 0))
    where
      found : (after : List ℕ) (word : ℕ) → learnt v t start k n mark page cells h (suc left) ≡ after → get_or after (cell_of h) 0 ≡ word → (word ≡ 0 → ⊥)
          → cond (is_same v t start (suc k) n mark word) true (known v t start (suc k) n mark after (mixed h 0) left) ≡ true
          → known v t start (suc k) n mark (learnt v t start k n mark page cells h (suc left)) h (suc left) ≡ true
      found after word e f full g = rw (e, known-one v t start n mark (suc k) after h left, f, ne_eqb word 0 full) g

      go : (eqb (get_or cells (cell_of h) 0) 0 ≡ true) ⊎ (eqb (get_or cells (cell_of h) 0) 0 ≡ false)
          → (is_same v t start k n mark (get_or cells (cell_of h) 0) ≡ true) ⊎ (is_same v t start k n mark (get_or cells (cell_of h) 0) ≡ false)
          → known v t start (suc k) n mark (learnt v t start k n mark page cells (mixed h 0) left) (mixed h 0) left ≡ true
          → known v t start (suc k) n mark (learnt v t start k n mark page cells h (suc left)) h (suc left) ≡ true
      go (inl z) s f =
          found (set cells (cell_of h) (word_of mark page)) (word_of mark page) (learnt-one v t start n mark k page cells h left ∙ rw z)
          (get_or-set_same cells (cell_of h) (word_of mark page) 0 (rw room (mod-lt h.c (omega arith)))) (word_some mark page some-mark low) (rw word_same)
      go (inr z) (inl s) f =
          found cells (get_or cells (cell_of h) 0) (learnt-one v t start n mark k page cells h left ∙ rw (z, s)) refl (eqb-false _ _ z)
          (rw (same_more v t start n mark k (suc k) (get_or cells (cell_of h) 0) (λ p. slot-later t start p k) s))
      go (inr z) (inr s) f =
          found (learnt v t start k n mark page cells (mixed h 0) left) (get_or cells (cell_of h) 0) (learnt-one v t start n mark k page cells h left ∙ rw (z, s))
          ((learnt-grows v t start k n mark page cells left (mixed h 0)).kept (cell_of h) (eqb-false _ _ z)) (eqb-false _ _ z)
          (onward (is_same v t start (suc k) n mark (get_or cells (cell_of h) 0)) f)

-- ---- each way out of a turn of the search

module _ (v : View) (t : List ℕ) (start k : ℕ) (n : Name) (mark page : ℕ) (cells : List ℕ) (h : Hash) where
  -- an answer and the cells afterwards are those of a search from here on
  abbrev pub Ends : ℕ → Bool → List ℕ → Type 0
  Ends left met after = (met ≡ known v t start k n mark cells h left) × (after ≡ learnt v t start k n mark page cells h left)

  pub search-over : (left : ℕ) → left ≡ 0 → Ends left true cells
  unfolding known learnt
  search-over left e = rw e (refl, refl)

  pub search-empty : (left : ℕ) → 0 < left → get_or cells (cell_of h) 0 ≡ 0 → Ends left false (set cells (cell_of h) (word_of mark page))
  unfolding known learnt
  search-empty zero more e = absurd (omega arith)
  search-empty (suc left) more e = rw (eq-eqb _ 0 e) (refl, refl)

  pub search-found : (left : ℕ) → 0 < left → (get_or cells (cell_of h) 0 ≡ 0 → ⊥) → is_same v t start k n mark (get_or cells (cell_of h) 0) ≡ true → Ends left true cells
  unfolding known learnt
  search-found zero more full e = absurd (omega arith)
  search-found (suc left) more full e = rw (ne_eqb _ 0 full, e) (refl, refl)

  pub search-next : (left after : ℕ) → left ≡ suc after → (get_or cells (cell_of h) 0 ≡ 0 → ⊥) → is_same v t start k n mark (get_or cells (cell_of h) 0) ≡ false → (g : Hash) → g ≡ mixed h 0
      → (known v t start k n mark cells h left ≡ known v t start k n mark cells g after)
      × (learnt v t start k n mark page cells h left ≡ learnt v t start k n mark page cells g after)
  unfolding known learnt
  search-next left after l full e g f = rw (l, f, ne_eqb _ 0 full, e) (refl, refl)

-- ---- what the cells know of a directory

-- a live entry bears its own name
own_name : (e : Entry) → is_live e ≡ true → bears e.name (some e) ≡ true
own_name e l = rw (l, Eq-name.self e.name)

module _ (v : View) (t : List ℕ) (first start : ℕ) where
  pub knows-none : (cells : List ℕ) → length cells ≡ most_pages → Knows v t first start 0 cells
  unfolding live_before
  knows-none cells l = record { room = l; all = λ n h. absurd (omega arith) }

  module _ (k : ℕ) (cells : List ℕ) (kn : Knows v t first start k cells) where
    -- a name that is not met stands nowhere before
    pub knows-new : (n : Name) → is_met v t first start k n cells ≡ false → live_before v t start k n ≡ 0
    knows-new n e = go (live_before v t start k n) refl
      where
        go : (x : ℕ) → live_before v t start k n ≡ x → x ≡ 0
        go zero p = refl
        go (suc x) p = tf (kn.all n (omega arith)) e

    -- an entry that bears no live name
    pub knows-skip : ((n : Name) → live_hit (v.entry (slot_page (cluster_at t start k) k)) n ≡ 0) → Knows v t first start (suc k) cells
    unfolding live_before
    knows-skip z =
        record {
          room = kn.room;
          all = λ n h. known_more v t start n (mark_of (hash_of first n)) k (suc k) (λ p. slot-later t start p k) cells cells (grows_self cells) most_pages (hash_of first n) (kn.all n (omega (arith, z n)));
        }

    -- a live entry whose name is learnt
    pub knows-learnt : (e : Entry) → v.entry (slot_page (cluster_at t start k) k) ≡ some e → is_live e ≡ true → slot_page (cluster_at t start k) k < most_pages
        → Knows v t first start (suc k) (with_name v t first start k e.name (slot_page (cluster_at t start k) k) cells)
    unfolding live_before
    knows-learnt e i l low = record { room = grown.room ∙ kn.room; all = λ n h. go n h (bool (same_name e.name n)) }
      where
        page : ℕ
        page = slot_page (cluster_at t start k) k

        after : List ℕ
        after = with_name v t first start k e.name page cells

        grown : Grows cells after
        grown = learnt-grows v t start k e.name (mark_of (hash_of first e.name)) page cells most_pages (hash_of first e.name)

        go : (n : Name) → 1 ≤ live_before v t start k n + live_hit (v.entry page) n
            → (same_name e.name n ≡ true) ⊎ (same_name e.name n ≡ false) → is_met v t first start (suc k) n after ≡ true
        go n h (inl s) =
            rw (← Eq-name.sound e.name n s)
            (learnt-known v t start k e.name (mark_of (hash_of first e.name)) page (omega arith) low (rw i (own_name e l)) (slot-here t start page k refl) cells kn.room most_pages (hash_of first e.name))
        go n h (inr s) =
            let z : live_hit (v.entry page) n ≡ 0 = ap (λ (o : Option Entry). live_hit o n) i ∙ zero-hit (is_live e) in
            known_more v t start n (mark_of (hash_of first n)) k (suc k) (λ p. slot-later t start p k) cells after grown most_pages (hash_of first n) (kn.all n (omega arith))
          where
            zero-hit : (b : Bool) → ◌≡◌ {A = ℕ} (cond b (cond (same_name e.name n) 1 0) 0) 0
            zero-hit true = rw s
            zero-hit false = refl

    knows-grows : (after : List ℕ) → Grows cells after → Knows v t first start k after
    knows-grows after g = record { room = g.room ∙ kn.room; all = λ n h. known_more v t start n (mark_of (hash_of first n)) k k (λ p e. e) cells after g most_pages (hash_of first n) (kn.all n h) }

  -- after a slot whose inside filled more cells
  pub knows_on : (k : ℕ) (all before mid after : List ℕ) → Grows all before → Knows v t first start k mid × Grows before mid → Grows mid after
      → Knows v t first start k after × Grows all after
  knows_on k all before mid after g h i = (knows-grows k mid h.0 after i, grows-more all before after g (grows-more before mid after h.1 i))
