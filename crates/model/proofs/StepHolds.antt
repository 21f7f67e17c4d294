-- One slot of one directory replaced on the card: the view after it holds the tree after it.
use Prim.Native.Nat.{◌*◌, ◌+◌, ◌/◌, ◌≤◌, pred, ℕ}
use mathlib.Core.Bool.{true}
use mathlib.Core.List.{List, [], ◌++◌, ◌∷◌}
use mathlib.Core.Logic.{⊎_elim}
use mathlib.Core.Option.{some}
use mathlib.Core.Path.{◌∙◌, ◌≡◌, sym}
use native.Mathlib.Omega.{arith}
use lib.Dec.{eqb}
use lib.ListN.{length, take}
use Rattle.model.specs.Entry.{Entry, directory_clusters, is_directory, is_root, is_subdirectory}
use Rattle.model.specs.Holds.{Chain, DotEntries, DotEntry, HoldsCard, HoldsSlot, HoldsSlots, UniqueNames, deepest}
use Rattle.model.specs.Names.{Name}
use Rattle.model.specs.Tree.{Slot, Tree, chain_of, cluster_uses, entry_pages, hit, name_hit, slot_count, times}
use Rattle.model.specs.View.{Link, View, first_link, pages_of}
use Rattle.model.proofs.Equality.{Eq-number, bool}
use Rattle.model.proofs.Frame.{SameP, dot-frame, dots-frame, hit-self, links-frame, needs, parts-le}
use Rattle.model.proofs.SlotLaws.{occ-set, old-le, old_uses, rep_set, set_page, set_slot}
use Rattle.model.proofs.TreePlaces.{Context, deep_at, named_put, occ-put, page_at, part, part-links, plug, rep-put}

-- The directory (e, cs, s), whose entry is in page P, becomes (e', cs ++ gs, set i x y s); the slot's page is Q; N counts the clusters newly taken.
pub record Step (v w : View) (used : ℕ → ℕ) (P : ℕ) (e : Entry) (cs : List ℕ) (s : Tree) (e' : Entry) (gs : List ℕ) (i Q : ℕ) (x : Slot) (y : Tree) (N : ℕ → ℕ) : Type 0 where
  pub low : i ≤ slot_count s
  pub lists : entry_pages (Slot.directory e' (cs ++ gs)) ≡ set_page i Q (entry_pages (Slot.directory e cs))
  pub fresh : (c : ℕ) → used c + N c ≤ 1
  pub takes : (c : ℕ) → times (cs ++ gs) c + (times (chain_of x) c + cluster_uses y c) ≤ times cs c + N c
  pub slot : (p : ℕ) → hit Q p ≤ times cs (p / 2) + N (p / 2)
  pub apart : (p : ℕ) → hit Q p + times (needs (Slot.directory e cs)) p ≤ 1
  pub pages : (p : ℕ) → hit P p + (hit Q p + (old_uses i s (p / 2) + N (p / 2))) ≡ 0 → SameP v w p
  pub words : (c : ℕ) → times cs c + (old_uses i s c + N c) ≡ 0 → w.link c ≡ v.link c
  pub entry : w.entry P ≡ some e'
  pub long : length (cs ++ gs) ≡ directory_clusters e'
  pub links : (l : Link) → Chain v l cs → Chain w l (cs ++ gs)
  pub begins : first_link e' ≡ first_link e
  pub alike : is_directory e' ≡ is_directory e
  pub name : e'.name ≡ e.name
  pub sub : is_subdirectory e ≡ true → is_subdirectory e' ≡ true
  pub root : is_root e ≡ true → is_root e' ≡ true
  pub uniq : UniqueNames (set_slot i x y s)

pub some_inj : {A : Type 0} {a b : A} → some a ≡ some b → a ≡ b
some_inj {A} {a} {b} e = cc

dots-via : (v w : View) (cs gs : List ℕ) → ((p : ℕ) (n : Name) → 1 ≤ times (take 2 (pages_of cs)) p → DotEntry v n p → DotEntry w n p) → DotEntries v cs → DotEntries w (cs ++ gs)
dots-via v w [] gs k h = absurd h
dots-via v w (c ∷ cs) gs k h = (k (2 * c) _ (omega (arith, hit-self (2 * c))) h.0, k (2 * c + 1) _ (omega (arith, hit-self (2 * c + 1))) h.1)

pub root-page : (v : View) (cs : List ℕ) → Chain v (Link.next 0) cs → 1 ≤ times (take 2 (pages_of cs)) 0
root-page v [] h = absurd (let z : ◌≡◌ {A = ℕ} 0 1 = cc in omega arith)
root-page v (c ∷ cs) h = let y : Link.next 0 ≡ Link.next c = h.0 in let z : 0 ≡ c = cc in rw (← z) (omega (arith, hit-self 0))

module _ (v w : View) (used : ℕ → ℕ) (P : ℕ) (e : Entry) (cs : List ℕ) (s : Tree) (e' : Entry) (gs : List ℕ) (i Q : ℕ) (x : Slot) (y : Tree) (N : ℕ → ℕ)
    (k : Step v w used P e cs s e' gs i Q x y N) where
  abbrev X : Slot
  X = Slot.directory e cs

  abbrev X' : Slot
  X' = Slot.directory e' (cs ++ gs)

  -- the slots
  slots-held : (d : ℕ) → ((c : ℕ) → times cs c + cluster_uses s c ≤ used c) → ((p : ℕ) → hit P p + (times (entry_pages X) p + cluster_uses s (p / 2)) ≤ 1)
      → HoldsSlots v d (entry_pages X) s → HoldsSlot w d Q x × UniqueNames y × HoldsSlots w (pred d) (entry_pages x) y → HoldsSlots w d (entry_pages X') (set_slot i x y s)
  slots-held d us pp r g =
      rw k.lists
      (rep_set x y v w i Q d (entry_pages X) s k.low r
      (λ p. let z : times (set_page i Q (entry_pages X)) p ≤ times (cs ++ gs) (p / 2) = rw (← k.lists) (omega (arith, parts-le X' p)) in
      omega (arith, us (p / 2), k.fresh (p / 2), k.takes (p / 2)))
      (λ c. omega (arith, us c, k.fresh c))
      (λ p u z. k.pages p (omega (arith, pp p, us (p / 2), k.fresh (p / 2), parts-le X p)))
      (λ c u z. k.words c (omega (arith, us c, k.fresh c)))
      g)

  -- the clusters of the whole
  once-set : (c : ℕ) → times (cs ++ gs) c + cluster_uses (set_slot i x y s) c ≤ times cs c + cluster_uses s c + N c
  once-set c = omega (arith, occ-set x y i s c k.low, k.takes c)

  names-le : (n : Name) → name_hit X' n ≤ name_hit X n
  names-le n = rw k.name (omega arith)

  -- In the root.
  pub root-step : HoldsCard v (record { root_entry = e; chain = cs; slots = s }) → P ≡ 0 → ((c : ℕ) → times cs c + cluster_uses s c ≡ used c)
      → HoldsSlot w deepest Q x × UniqueNames y × HoldsSlots w (pred deepest) (entry_pages x) y → HoldsCard w (record { root_entry = e'; chain = cs ++ gs; slots = set_slot i x y s })
  root-step h z us g =
      record {
        root_page = rw (← z) k.entry;
        good = k.root h.good;
        long = k.long;
        links = k.links _ h.links;
        dots = dots-via v w cs gs judge_dot h.dots;
        uniq = k.uniq;
        rep = slots-held deepest (λ c. omega (arith, us c)) (λ p. omega (arith, rp p, parts-le X p, us (p / 2), k.fresh (p / 2))) h.rep g;
        once = λ c. omega (arith, once-set c, us c, k.fresh c);
      }
    where
      rp : (p : ℕ) → hit P p ≤ times (needs X) p
      rp p =
          ⊎_elim (λ a. let b : 0 ≡ p = sym z ∙ Eq-number.sound P p a in rw (← b, z) (omega (arith, root-page v cs h.links, hit-self 0))) (λ a. rw a (omega arith)) (bool (eqb P p))

      judge_dot : (p : ℕ) (n : Name) → 1 ≤ times (take 2 (pages_of cs)) p → DotEntry v n p → DotEntry w n p
      judge_dot p n u dt =
          ⊎_elim
          (λ a. let b : P ≡ p = Eq-number.sound P p a in
          let c : v.entry p ≡ some e = rw (← b, z) h.root_page in
          let d : dt.0 ≡ e = some_inj (sym dt.1 ∙ c) in
          (e', rw (← b) k.entry, rw (k.alike, k.name, ← d) dt.2))
          (λ a. dot-frame v w n p (k.pages p (rw a (omega (arith, old-le x y i s (p / 2), us (p / 2), k.fresh (p / 2), k.apart p, parts-le X p)))).0 dt)
          (bool (eqb P p))

  module _ (t : Entry) (ch : List ℕ) (l : Context) where
    abbrev ps : List ℕ
    ps = entry_pages (Slot.directory t ch)

    -- Below the root.
    pub sub-step : HoldsCard v (record { root_entry = t; chain = ch; slots = plug l X s }) → P ≡ page_at l ps → ((c : ℕ) → times ch c + cluster_uses (plug l X s) c ≡ used c)
        → HoldsSlot w (pred (deep_at l deepest)) Q x × UniqueNames y × HoldsSlots w (pred (pred (deep_at l deepest))) (entry_pages x) y → HoldsCard w (record { root_entry = t; chain = ch; slots = plug l X' (set_slot i x y s) })
    sub-step h z us g =
        record {
          root_page = (rootp 0 (root-page v ch h.links)).0 ∙ h.root_page;
          good = h.good;
          long = h.long;
          links = links-frame v w _ ch (λ c u. k.words c (omega (arith, pl c, ol c, once c, us c, k.fresh c))) h.links;
          dots = dots-frame v w ch (λ p u. (rootp p u).0) h.dots;
          uniq = λ n. omega (arith, named_put X s X' (set_slot i x y s) l n (names-le n), h.uniq n);
          rep = rep-put X s X' (set_slot i x y s) v w l deepest ps names-le h.rep (λ p. omega (arith, parts-le (Slot.directory t ch) p, once (p / 2)))
              (λ p u o. let o' : hit P p + (times cs (p / 2) + cluster_uses s (p / 2)) ≡ 0 = rw z o in
              k.pages p (omega (arith, ol (p / 2), us (p / 2), k.fresh (p / 2), k.slot p, parts-le (Slot.directory t ch) p)))
              (λ c. omega (arith, once c))
              (λ c u o. k.words c (omega (arith, ol c, us c, k.fresh c)))
              here;
          once = λ c. omega (arith, occ-put X s X' (set_slot i x y s) l c, once-set c, us c, k.fresh c);
        }
      where
        once : (c : ℕ) → times ch c + cluster_uses (plug l X s) c ≤ 1
        once c = h.once c

        pl : (c : ℕ) → times cs c + cluster_uses s c ≤ cluster_uses (plug l X s) c
        pl = part-links X s l

        ol : (c : ℕ) → old_uses i s c ≤ cluster_uses s c
        ol = old-le x y i s

        pt : (p : ℕ) → hit P p + (times cs (p / 2) + cluster_uses s (p / 2)) ≤ times ps p + cluster_uses (plug l X s) (p / 2)
        pt p = rw z (part X s v l deepest ps h.rep p)

        rootp : (p : ℕ) → 1 ≤ times (needs (Slot.directory t ch)) p → SameP v w p
        rootp p u = k.pages p (omega (arith, pt p, ol (p / 2), once (p / 2), us (p / 2), k.fresh (p / 2), k.slot p, parts-le (Slot.directory t ch) p))

        here : HoldsSlot v (deep_at l deepest) (page_at l ps) X × UniqueNames s × HoldsSlots v (pred (deep_at l deepest)) (entry_pages X) s
            → HoldsSlot w (deep_at l deepest) (page_at l ps) X' × UniqueNames (set_slot i x y s) × HoldsSlots w (pred (deep_at l deepest)) (entry_pages X') (set_slot i x y s)
        here (a, b, r) = (
          (
            rw (← z) k.entry,
            k.sub a.1,
            a.2,
            k.long,
            rw k.begins (k.links _ a.4),
            dots-via v w cs gs (λ p n u dt. dot-frame v w n p (k.pages p (omega (arith, pt p, ol (p / 2), once (p / 2), us (p / 2), k.fresh (p / 2), k.apart p, parts-le X p, parts-le (Slot.directory t ch) p))).0 dt) a.5,
          ),
          k.uniq,
          slots-held (pred (deep_at l deepest)) (λ c. omega (arith, pl c, us c)) (λ p. omega (arith, pt p, once (p / 2), parts-le X p, parts-le (Slot.directory t ch) p)) r g,
        )
