-- The plan of any change in a directory, and that it fits the card.
use Prim.Native.Nat.{◌%◌, ◌*◌, ◌+◌, ◌-◌, ◌/◌, ◌<◌, ◌≤◌, suc, zero, ℕ}
use mathlib.Core.Bool.{false, true}
use mathlib.Core.List.{List, [], ◌++◌, ◌∷◌, append-nil}
use mathlib.Core.Logic.{◌⊎◌, inl, inr, ⊎_elim}
use mathlib.Core.Path.{◌∙◌, ◌≡◌, ap, refl, sym}
use native.Mathlib.Omega.{arith}
use lib.Dec.{eqb}
use lib.ListN.{drop, get_or, length, length-append, length-take, take}
use lib.Seq.{drop-append-le, get_or-append_seam, take-append-le, take-suc}
use Rattle.model.specs.Change.{Rules}
use Rattle.model.specs.Counts.{takeable}
use Rattle.model.specs.Entry.{Entry, directory_clusters}
use Rattle.model.specs.Holds.{Chain, DotEntries, HoldsCard, HoldsSlots, UniqueNames}
use Rattle.model.specs.Names.{Path}
use Rattle.model.specs.Plan.{Directory, Edit, free_clusters, growth_clusters, link_to, made, own_clusters, with_length}
use Rattle.model.specs.Tree.{Root, Slot, Tree, chain_of, end, entry_pages, hit, node, reached, slot_count, times}
use Rattle.model.specs.View.{Link, View, pages_of}
use Rattle.model.proofs.Allocation.{free-times, pool-le, times-append}
use Rattle.model.proofs.CountLaws.{used-free}
use Rattle.model.proofs.Equality.{bool}
use Rattle.model.proofs.Frame.{hit-self, needs, parts-le, times-split, times-take}
use Rattle.model.proofs.PlanHolds.{Fits}
use Rattle.model.proofs.Sites.{Site}
use Rattle.model.proofs.SlotLaws.{old-le, old_uses, set_page, set_slot}

pub rep-length : (v : View) (d : ℕ) (ps : List ℕ) (t : Tree) → HoldsSlots v d ps t → length ps ≡ slot_count t
rep-length v d [] end r = refl
rep-length v d (p ∷ ps) end r = absurd r
rep-length v d [] (node h s t) r = absurd r
rep-length v d (p ∷ ps) (node h s t) r = ap suc (rep-length v d ps t r.3)

over-self : (i : ℕ) (ps : List ℕ) → i < length ps → ps ≡ set_page i (get_or ps i 0) ps
over-self zero [] h = absurd (omega arith)
over-self zero (p ∷ ps) h = refl
over-self (suc i) [] h = absurd (omega arith)
over-self (suc i) (p ∷ ps) h = ap (λ l. p ∷ l) (over-self i ps (omega arith))

over-end : (q : ℕ) (ps : List ℕ) → set_page (length ps) q ps ≡ ps ++ (q ∷ [])
over-end q [] = refl
over-end q (p ∷ ps) = ap (λ l. p ∷ l) (over-end q ps)

get_or-times : (i : ℕ) (ps : List ℕ) (a : ℕ) → i < length ps → hit (get_or ps i 0) a ≤ times ps a
get_or-times i [] a h = absurd (omega arith)
get_or-times zero (p ∷ ps) a h = omega arith
get_or-times (suc i) (p ∷ ps) a h = omega (arith, get_or-times i ps a (omega arith))

pub length-pages : (cs : List ℕ) → length (pages_of cs) ≡ 2 * length cs
length-pages [] = refl
length-pages (c ∷ cs) = omega (arith, length-pages cs)

pages-append : (cs gs : List ℕ) → pages_of (cs ++ gs) ≡ pages_of cs ++ pages_of gs
pages-append [] gs = refl
pages-append (c ∷ cs) gs = ap (λ l. (2 * c) ∷ (2 * c + 1) ∷ l) (pages-append cs gs)

-- one more entry at the end
inner-more : (e : Entry) (cs gs : List ℕ) → 2 ≤ e.length → length cs ≡ directory_clusters e → length gs ≡ 1 - e.length % 2
    → (q : ℕ) × (entry_pages (Slot.directory (with_length e (suc e.length)) (cs ++ gs)) ≡ entry_pages (Slot.directory e cs) ++ (q ∷ []))
inner-more e cs gs two lc lg = (
  q,
  rw (take-suc (pages_of (cs ++ gs)) e.length 0 (omega (arith, len)), same, drop-append-le 2 (take e.length (pages_of cs)) (q ∷ []) (omega (arith, length-take e.length (pages_of cs), length-pages cs))),
)
  where
    q : ℕ
    q = get_or (pages_of (cs ++ gs)) e.length 0

    len : length (pages_of (cs ++ gs)) ≡ 2 * (length cs + length gs)
    len = length-pages (cs ++ gs) ∙ ap (λ n. 2 * n) (length-append cs gs)

    same : take e.length (pages_of (cs ++ gs)) ≡ take e.length (pages_of cs)
    same = rw (pages-append cs gs) (take-append-le e.length (pages_of cs) (pages_of gs) (omega (arith, length-pages cs)))

-- in place, or at the end
abbrev pub Shape : Entry → Tree → ℕ → ℕ → ℕ → Type 0
Shape e s i n γ = ((γ ≡ 0) × (n ≡ e.length) × (i < slot_count s)) ⊎ ((i ≡ slot_count s) × (n ≡ suc e.length) × (γ ≡ 1 - e.length % 2))

module _ (y : Rules) (v : View) (r : Root) (h : HoldsCard v r) (q : Path) (d : Directory) (s : Tree) (D : ℕ) (t : Site v r q d.page d.entry d.chain s D) where
  -- The slot's page stands in the new list, which is the old one but for it.
  listed : (i n γ : ℕ) → Shape d.entry s i n γ → length (growth_clusters y v γ) ≡ γ
      → let L = entry_pages (Slot.directory (with_length d.entry n) (d.chain ++ growth_clusters y v γ)) in (i < length L) × (L ≡ set_page i (get_or L i 0) (entry_pages (Slot.directory d.entry d.chain)))
  listed i n γ (inl (a, b, c)) lg =
      rw (a, b, append-nil d.chain) (omega (arith, rep-length v D _ s t.rep), over-self i (entry_pages (Slot.directory d.entry d.chain)) (omega (arith, rep-length v D _ s t.rep)))
  listed i n γ (inr (a, b, c)) lg =
      let m = inner-more d.entry d.chain (growth_clusters y v γ) t.two t.long (lg ∙ c) in
      let j : i ≡ length (entry_pages (Slot.directory d.entry d.chain)) = a ∙ sym (rep-length v D _ s t.rep) in
      rw (b, m.1, j) (
        omega (arith, length-append (entry_pages (Slot.directory d.entry d.chain)) (m.0 ∷ [])),
        rw (get_or-append_seam (entry_pages (Slot.directory d.entry d.chain)) m.0 [] 0) (sym (over-end m.0 (entry_pages (Slot.directory d.entry d.chain)))),
      )

  long : (i n γ : ℕ) → Shape d.entry s i n γ → length (growth_clusters y v γ) ≡ γ → length (d.chain ++ growth_clusters y v γ) ≡ directory_clusters (with_length d.entry n)
  long i n γ (inl (a, b, c)) lg = length-append d.chain (growth_clusters y v γ) ∙ rw (lg, a, b) (omega (arith, t.long))
  long i n γ (inr (a, b, c)) lg = length-append d.chain (growth_clusters y v γ) ∙ rw (lg, c, b) (omega (arith, t.long))

  two : (i n γ : ℕ) → Shape d.entry s i n γ → 2 ≤ n
  two i n γ (inl (a, b, c)) = omega (arith, t.two)
  two i n γ (inr (a, b, c)) = omega (arith, t.two)

  some-cs : (gs : List ℕ) (l : Link) → Chain v l d.chain → l ≡ link_to (d.chain ++ gs)
  some-cs gs l = go d.chain t.dots
    where
      go : (cs : List ℕ) → DotEntries v cs → Chain v l cs → l ≡ link_to (cs ++ gs)
      go [] d k = absurd d
      go (c ∷ cs) d k = k.0

  needs-same : (gs : List ℕ) (n a : ℕ) → times (needs (Slot.directory d.entry d.chain)) a ≡ times (needs (Slot.directory (with_length d.entry n) (d.chain ++ gs))) a
  needs-same gs n a = go d.chain t.dots
    where
      go : (cs : List ℕ) → DotEntries v cs → times (take 2 (pages_of cs)) a ≡ times (take 2 (pages_of (cs ++ gs))) a
      go [] d = absurd d
      go (c ∷ cs) d = refl

  pub fits : (u : Edit) (x : Slot) → Shape d.entry s u.index u.new_length u.growing → u.growing + u.own ≤ length (free_clusters y v)
      → ((c : ℕ) → times (chain_of x) c ≡ times (own_clusters y v u.growing u.own) c) → ((c : ℕ) → times u.given c ≡ old_uses u.index s c) → UniqueNames (set_slot u.index x end s)
      → Fits v (reached r) (made y v d u) (record { slot_index = u.index; directory_slots = s; new_slot = x })
  fits u x sh room ch old un =
      record {
        low = low sh;
        lists = ls.1;
        clear = clear;
        own = λ c. omega (arith, t.own c, old-le x end u.index s c);
        chain = ch;
        old = old;
        slot = slot;
        apart = apart;
        diff = diff t.entry;
        long = long u.index u.new_length u.growing sh lg;
        some-cs = some-cs gs;
        two = two u.index u.new_length u.growing sh;
        uniq = un;
      }
    where
      gs : List ℕ
      gs = growth_clusters y v u.growing

      fs : List ℕ
      fs = own_clusters y v u.growing u.own

      L : List ℕ
      L = entry_pages (Slot.directory (with_length d.entry u.new_length) (d.chain ++ gs))

      lg : length gs ≡ u.growing
      lg = length-take u.growing (free_clusters y v) ∙ omega arith

      ls : (u.index < length L) × (L ≡ set_page u.index (get_or L u.index 0) (entry_pages (Slot.directory d.entry d.chain)))
      ls = listed u.index u.new_length u.growing sh lg

      low : Shape d.entry s u.index u.new_length u.growing → u.index ≤ slot_count s
      low (inl (a, b, c)) = omega arith
      low (inr (a, b, c)) = omega arith

      clear : (c : ℕ) → reached r c + (times fs c + times gs c) ≤ 1
      clear c = omega (arith, used-free v r h c, free-times (takeable y.may_take v.link) y.alloc_end c, pool-le y.may_take v.link c, times-split u.growing (free_clusters y v) c, times-take u.own (drop u.growing (free_clusters y v)) c)

      slot : (a : ℕ) → hit (get_or L u.index 0) a ≤ times d.chain (a / 2) + times gs (a / 2)
      slot a = omega (arith, get_or-times u.index L a ls.0, parts-le (Slot.directory (with_length d.entry u.new_length) (d.chain ++ gs)) a, times-append d.chain gs (a / 2))

      apart : (a : ℕ) → hit (get_or L u.index 0) a + times (needs (Slot.directory d.entry d.chain)) a ≤ 1
      apart a =
          omega (arith, get_or-times u.index L a ls.0, parts-le (Slot.directory (with_length d.entry u.new_length) (d.chain ++ gs)) a, needs-same gs u.new_length a, times-append d.chain gs (a / 2), clear (a / 2), t.own (a / 2))

      diff : ((a : ℕ) → hit d.page a + times d.chain (a / 2) ≤ reached r (a / 2)) ⊎ ((a : ℕ) → hit d.page a ≤ times (needs (Slot.directory d.entry d.chain)) a) → eqb (get_or L u.index 0) d.page ≡ false
      diff z = ⊎_elim (λ (b : eqb (get_or L u.index 0) d.page ≡ true). absurd (no b z)) (λ b. b) (bool (eqb (get_or L u.index 0) d.page))
        where
          no : eqb (get_or L u.index 0) d.page ≡ true → ((a : ℕ) → hit d.page a + times d.chain (a / 2) ≤ reached r (a / 2)) ⊎ ((a : ℕ) → hit d.page a ≤ times (needs (Slot.directory d.entry d.chain)) a) → ⊥
          no b (inl z) = let o : hit (get_or L u.index 0) d.page ≡ 1 = rw b in omega (arith, z d.page, slot d.page, hit-self d.page, clear (d.page / 2))
          no b (inr z) = let o : hit (get_or L u.index 0) d.page ≡ 1 = rw b in omega (arith, z d.page, apart d.page, hit-self d.page)
