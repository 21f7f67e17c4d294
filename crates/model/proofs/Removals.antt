-- Deleting a file and removing a directory: each has its plan, which does what the operation says.
use Prim.Native.Nat.{◌%◌, ◌+◌, ◌-◌, ◌/◌, ◌<◌, ◌≤◌, pred, suc, ℕ}
use mathlib.Core.Bool.{false, true}
use mathlib.Core.List.{List, [], ◌++◌, ◌∷◌, append-nil}
use mathlib.Core.Logic.{inr}
use mathlib.Core.Option.{Option, none, some}
use mathlib.Core.Path.{◌∙◌, ◌≡◌, ap, refl, sym}
use native.Mathlib.Omega.{arith}
use lib.ListN.{get_or, length, length-drop, length-take, take}
use Rattle.model.specs.Change.{Change, Rules, delete, path, remove_directory}
use Rattle.model.specs.Claims.{chain_in}
use Rattle.model.specs.Entry.{Entry, is_live}
use Rattle.model.specs.Holds.{HoldsCard, HoldsSlot, HoldsSlots, deepest}
use Rattle.model.specs.Lookup.{Found, absent, found, index_of, look_in, page_at_path, tell}
use Rattle.model.specs.Names.{Name, Path, good_name, good_path, last_name, parent}
use Rattle.model.specs.Plan.{Plan, after, altering, edit_for, killed, made, plan_at, plan_by, removal, returned, with_length}
use Rattle.model.specs.Refusal.{first, lock_refusal, static}
use Rattle.model.specs.Tree.{Root, Slot, Tree, chain_of, cluster_uses, dead_hit, dead_slots, end, entry_pages, name_uses, reached, slot_count}
use Rattle.model.specs.View.{Link, View, pages_of}
use Rattle.model.proofs.AbstractCards.{abstract_of, no_room, room_of_slot}
use Rattle.model.proofs.ChangeOperations.{op, standing_empty, standing_file, standing_way}
use Rattle.model.proofs.Creations.{path-pos, static-path'}
use Rattle.model.proofs.Directories.{Where, all-dead, directory_of, first-0, must-empty, must-file, where-is}
use Rattle.model.proofs.Equality.{Eq-number, and_l}
use Rattle.model.proofs.NewClusters.{p-used}
use Rattle.model.proofs.Operations.{AbstractCard, Accepts, Room, effect, grown, need, taken, worked}
use Rattle.model.proofs.Outcome.{Deed, Outcome, Work, changed}
use Rattle.model.proofs.PlanActs.{fs-low, gs-low, new-free}
use Rattle.model.proofs.PlanFits.{length-pages, rep-length}
use Rattle.model.proofs.PlanHolds.{Fits}
use Rattle.model.proofs.SlotLaws.{get_none}
use Rattle.model.proofs.SlotOfName.{SlotOf, nil_end, slot_of}

module _ (y : Rules) where
  module _ (v : View) (r : Root) (h : HoldsCard v r) (tab : (c : ℕ) → y.alloc_end ≤ c → v.link c ≡ Link.free) where
    abbrev σ : AbstractCard
    σ = abstract_of y v r

    -- An entry without its live bit.
    pub killed-dead : (e₀ : Entry) → is_live e₀ ≡ true → is_live (killed e₀) ≡ false
    killed-dead e₀ l =
        let a : e₀.mode / 0x8000 % 2 ≡ 1 = Eq-number.sound _ 1 l in
        let z : (e₀.mode - 0x8000) / 0x8000 % 2 ≡ 0 = omega arith in
        rw z

    pub removed : (a : Change) (wh : Where y v r a) (pos : 0 < length (path a)) (h₀ : Slot) (s₀ : Tree) (e₀ : Entry) → look_in wh.directory_slots (last_name (path a) ∷ []) ≡ found h₀ s₀ → dead_hit h₀ ≡ 0 → is_live e₀ ≡ true
        → ((c : ℕ) → cluster_uses s₀ c ≡ 0) → ((m : Name) (z : Path) → look_in s₀ (m ∷ z) ≡ absent)
        → none ≡ (op y a).puts σ (path a) → no_room ≡ (op y a).rooms σ (path a)
        → ((R : Room) → worked (op y a) R ≡ record { dead = R.dead + 1; length = R.length; back = R.back }) → 0 ≡ need (op y a) σ → returned y (chain_of h₀) ≡ (op y a).freed σ
        → let p = made y v (directory_of y wh) (altering (directory_of y wh) wh.directory_slots (last_name (path a)) 0 (chain_of h₀) (removal e₀)) in
        ((r' : Root) × HoldsCard (after v p) r' × ((c : ℕ) → y.alloc_end ≤ c → (after v p).link c ≡ Link.free) × (abstract_of y (after v p) r' ≡ effect (op y a) σ)) × Fits v (reached r) p (record { slot_index = index_of (last_name (path a)) wh.directory_slots; directory_slots = wh.directory_slots; new_slot = Slot.dead })
    removed a wh pos h₀ s₀ e₀ g dz lv oz bz fn rn wk nd fd =
        changed y v r h tab a wh pos h₀ s₀ g oz bz dz 0 (removal e₀) Slot.dead absent refl (λ n. omega arith) (inr ((λ n. refl), refl)) refl (omega arith)
        (λ ft. (killed e₀, rw (Eq-number.self (get_or (entry_pages (Slot.directory (with_length wh.directory_entry wh.directory_entry.length) (wh.directory_chain ++ []))) (index_of (last_name (path a)) wh.directory_slots) 0)), killed-dead e₀ lv))
        fn rn wk nd fd

    pub act-delete : (p : Path) → Accepts (op y (delete p)) σ → Outcome y v r (delete p)
    unfolding need grown worked taken
    act-delete p o = make (must-file y (look_in wh.directory_slots (last_name p ∷ [])) (rw wh.at at m₂.1))
      where
        a : Change
        a = delete p

        m : (static a ≡ 0) × (first (standing_way σ.look p) (first (standing_file (σ.look p)) (lock_refusal (σ.look p) (σ.look (parent p)))) ≡ 0)
        m = first-0 (static a) _ o.0

        m₂ : (standing_way σ.look p ≡ 0) × (standing_file (σ.look p) ≡ 0)
        m₂ = let n = first-0 (standing_way σ.look p) _ m.1 in (n.0, (first-0 (standing_file (σ.look p)) _ n.1).0)

        ok : (0 < length p) × (length p ≤ suc deepest) × (good_name (last_name p) ≡ true)
        ok = path-pos y (suc deepest) p (static-path' y (good_path (suc deepest) p) m.0)

        wh : Where y v r a
        wh = where-is y v r h a ok.0 m₂.0

        make : (e₀ : Entry) × (oc : List ℕ) × (ds : List (Option (List ℕ))) × (s₀ : Tree) × (look_in wh.directory_slots (last_name p ∷ []) ≡ found (Slot.file e₀ oc ds) s₀) → Outcome y v r a
        make (e₀, oc, ds, s₀, g) =
            record {
              plan = pl;
              planned = ap (λ (g : Found). plan_at y a v (page_at_path r (parent p)) g) wh.found-so ∙ ap (λ (z : Found). plan_by y v (directory_of y wh) (edit_for a (directory_of y wh) wh.directory_slots z)) g;
              root = out.0.0;
              card = out.0.1;
              table = out.0.2;
              same = out.0.3;
              deed = deed;
              pool = new-free y v 0 0;
              back = sym (ap (tell chain_in []) (wh.at ∙ g));
            }
          where
            pl : Plan
            pl = made y v (directory_of y wh) (altering (directory_of y wh) wh.directory_slots (last_name p) 0 oc (removal e₀))

            sl : SlotOf (last_name p) wh.directory_slots (Slot.file e₀ oc ds) s₀
            sl = slot_of (last_name p) wh.directory_slots (Slot.file e₀ oc ds) s₀ g

            hl : (q : ℕ) × HoldsSlot v (deepest - length (parent p)) q (Slot.file e₀ oc ds) × HoldsSlots v (pred (deepest - length (parent p))) [] s₀
            hl = sl.held v (deepest - length (parent p)) _ wh.st.rep

            nil : s₀ ≡ end
            nil = nil_end v _ s₀ hl.2

            lv : is_live e₀ ≡ true
            lv = and_l _ _ (and_l _ _ (and_l _ _ (and_l _ _ hl.1.1)))

            at-r : σ.room p ≡ room_of_slot y (Slot.file e₀ oc ds) s₀
            at-r = ap (tell (room_of_slot y) no_room) (wh.at ∙ g)

            out : ((r' : Root) × HoldsCard (after v pl) r' × ((c : ℕ) → y.alloc_end ≤ c → (after v pl).link c ≡ Link.free) × (abstract_of y (after v pl) r' ≡ effect (op y a) σ)) × Fits v (reached r) pl (record { slot_index = index_of (last_name p) wh.directory_slots; directory_slots = wh.directory_slots; new_slot = Slot.dead })
            out =
                removed a wh ok.0 (Slot.file e₀ oc ds) s₀ e₀ g refl lv (λ c. ap (λ (s : Tree). cluster_uses s c) nil) (λ n z. ap (λ (s : Tree). look_in s (n ∷ z)) nil)
                refl refl (λ R. refl) refl (sym (ap (λ (R : Room). R.back) at-r))

            slot : v.entry pl.slot_page ≡ some e₀
            slot = rw (append-nil wh.directory_chain) (sl.page v (deepest - length (parent p)) _ wh.st.rep).0

            deed : Deed y v r pl
            deed = record { entered = wh.st.entered; used = p-used y v r (parent p) (page_at_path r (parent p)) wh.directory_entry wh.directory_chain wh.directory_slots (deepest - length (parent p)) wh.st; tree = _; fit = out.1; low = λ c u. omega (arith, fs-low y v 0 0 c u, gs-low y v 0 c u); work = Work.kill e₀ slot refl }

    pub act-rmdir : (p : Path) → Accepts (op y (remove_directory p)) σ → Outcome y v r (remove_directory p)
    unfolding need grown worked taken
    act-rmdir p o = make (must-empty y (look_in wh.directory_slots (last_name p ∷ [])) (rw wh.at at m₂.1))
      where
        a : Change
        a = remove_directory p

        m : (static a ≡ 0) × (first (standing_way σ.look p) (first (standing_empty (σ.room p) (σ.look p)) (lock_refusal (σ.look p) (σ.look (parent p)))) ≡ 0)
        m = first-0 (static a) _ o.0

        m₂ : (standing_way σ.look p ≡ 0) × (standing_empty (σ.room p) (σ.look p) ≡ 0)
        m₂ = let n = first-0 (standing_way σ.look p) _ m.1 in (n.0, (first-0 (standing_empty (σ.room p) (σ.look p)) _ n.1).0)

        ok : (0 < length p) × (length p ≤ suc deepest) × (good_name (last_name p) ≡ true)
        ok = path-pos y (suc deepest) p (static-path' y (good_path (suc deepest) p) m.0)

        wh : Where y v r a
        wh = where-is y v r h a ok.0 m₂.0

        make : (e₀ : Entry) × (oc : List ℕ) × (s₀ : Tree) × (look_in wh.directory_slots (last_name p ∷ []) ≡ found (Slot.directory e₀ oc) s₀) × (e₀.length ≡ 2 + dead_slots s₀) → Outcome y v r a
        make (e₀, oc, s₀, g, el) =
            record {
              plan = pl;
              planned = ap (λ (g : Found). plan_at y a v (page_at_path r (parent p)) g) wh.found-so ∙ ap (λ (z : Found). plan_by y v (directory_of y wh) (edit_for a (directory_of y wh) wh.directory_slots z)) g;
              root = out.0.0;
              card = out.0.1;
              table = out.0.2;
              same = out.0.3;
              deed = deed;
              pool = new-free y v 0 0;
              back = sym (ap (tell chain_in []) (wh.at ∙ g));
            }
          where
            pl : Plan
            pl = made y v (directory_of y wh) (altering (directory_of y wh) wh.directory_slots (last_name p) 0 oc (removal e₀))

            sl : SlotOf (last_name p) wh.directory_slots (Slot.directory e₀ oc) s₀
            sl = slot_of (last_name p) wh.directory_slots (Slot.directory e₀ oc) s₀ g

            hl : (q : ℕ) × HoldsSlot v (deepest - length (parent p)) q (Slot.directory e₀ oc) × HoldsSlots v (pred (deepest - length (parent p))) (entry_pages (Slot.directory e₀ oc)) s₀
            hl = sl.held v (deepest - length (parent p)) _ wh.st.rep

            full : dead_slots s₀ ≡ slot_count s₀
            full =
                omega (arith, rep-length v _ _ s₀ hl.2, length-drop 2 (take e₀.length (pages_of oc)), length-take e₀.length (pages_of oc), length-pages oc, hl.1.3)

            ad : ((n : Name) → name_uses s₀ n ≡ 0) × ((c : ℕ) → cluster_uses s₀ c ≡ 0)
            ad = all-dead y v _ _ s₀ hl.2 full

            lv : is_live e₀ ≡ true
            lv = and_l _ _ (and_l _ _ (and_l _ _ (and_l _ _ hl.1.1)))

            at-r : σ.room p ≡ room_of_slot y (Slot.directory e₀ oc) s₀
            at-r = ap (tell (room_of_slot y) no_room) (wh.at ∙ g)

            out : ((r' : Root) × HoldsCard (after v pl) r' × ((c : ℕ) → y.alloc_end ≤ c → (after v pl).link c ≡ Link.free) × (abstract_of y (after v pl) r' ≡ effect (op y a) σ)) × Fits v (reached r) pl (record { slot_index = index_of (last_name p) wh.directory_slots; directory_slots = wh.directory_slots; new_slot = Slot.dead })
            out =
                removed a wh ok.0 (Slot.directory e₀ oc) s₀ e₀ g refl lv ad.1 (λ n z. get_none s₀ n z (ad.0 n))
                refl refl (λ R. refl) refl (sym (ap (λ (R : Room). R.back) at-r))

            slot : v.entry pl.slot_page ≡ some e₀
            slot = rw (append-nil wh.directory_chain) (sl.page v (deepest - length (parent p)) _ wh.st.rep).0

            deed : Deed y v r pl
            deed = record { entered = wh.st.entered; used = p-used y v r (parent p) (page_at_path r (parent p)) wh.directory_entry wh.directory_chain wh.directory_slots (deepest - length (parent p)) wh.st; tree = _; fit = out.1; low = λ c u. omega (arith, fs-low y v 0 0 c u, gs-low y v 0 c u); work = Work.kill e₀ slot refl }
