-- Replacing a file: it has its plan, which does what the operation says.
use Prim.Native.Nat.{◌*◌, ◌-◌, ◌<◌, ◌≤◌, pred, suc, ℕ}
use mathlib.Core.Bool.{◌&&◌, not, true}
use mathlib.Core.List.{List, [], ◌∷◌, append-nil}
use mathlib.Core.Logic.{inl}
use mathlib.Core.Option.{Option, none, some}
use mathlib.Core.Path.{◌∙◌, ◌≡◌, ap, refl, sym}
use native.Mathlib.Omega.{arith}
use lib.ListN.{length}
use Rattle.model.specs.Change.{Change, Rules, replace, replaced}
use Rattle.model.specs.Claims.{chain_in}
use Rattle.model.specs.Counts.{takeable}
use Rattle.model.specs.Entry.{Entry, clusters_for, has_bit, is_file, is_live}
use Rattle.model.specs.Holds.{HoldsCard, HoldsSlot, HoldsSlots, deepest}
use Rattle.model.specs.Lookup.{Found, found, index_of, look_in, page_at_path, tell}
use Rattle.model.specs.Names.{Path, good_name, good_path, last_name, parent}
use Rattle.model.specs.Plan.{Plan, after, altering, edit_for, free_clusters, made, new_contents, own_clusters, plan_at, plan_by}
use Rattle.model.specs.Pages.{data_pages}
use Rattle.model.specs.Refusal.{first, lock_refusal, static}
use Rattle.model.specs.Standing.{Standing, content, fields_of, standing}
use Rattle.model.specs.Time.{valid_time}
use Rattle.model.specs.Tree.{Root, Slot, Tree, cluster_uses, end, reached}
use Rattle.model.specs.View.{Link, View}
use Rattle.model.proofs.AbstractCards.{abstract_of, no_room, room_of_slot}
use Rattle.model.proofs.Allocation.{length-free}
use Rattle.model.proofs.ChangeOperations.{op, standing_file, standing_way}
use Rattle.model.proofs.Creations.{back-fs, path-pos, static-path, static-time}
use Rattle.model.proofs.Directories.{Where, directory_of, first-0, must-file, where-is}
use Rattle.model.proofs.Equality.{Eq-name, and_l}
use Rattle.model.proofs.NewClusters.{empty-or, held-file, p-used}
use Rattle.model.proofs.Operations.{AbstractCard, Accepts, Room, effect, grown, need, taken, worked}
use Rattle.model.proofs.Outcome.{Deed, Outcome, Work, changed}
use Rattle.model.proofs.PageBytes.{length-data}
use Rattle.model.proofs.PlanActs.{fs-long, fs-low, gs-low, new-free, start_of}
use Rattle.model.proofs.PlanHolds.{Fits}
use Rattle.model.proofs.SlotOfName.{SlotOf, nil_end, slot_of}

module _ (y : Rules) where
  module _ (v : View) (r : Root) (h : HoldsCard v r) (tab : (c : ℕ) → y.alloc_end ≤ c → v.link c ≡ Link.free) where
    abbrev σ : AbstractCard
    σ = abstract_of y v r

    pub act-replace : (p : Path) (t b : List ℕ) → Accepts (op y (replace p t b)) σ → Outcome y v r (replace p t b)
    unfolding need grown worked taken
    act-replace p t b o = make (must-file y (look_in wh.directory_slots (last_name p ∷ [])) (rw wh.at at m₂.1))
      where
        a : Change
        a = replace p t b

        m : (static a ≡ 0) × (first (standing_way σ.look p) (first (standing_file (σ.look p)) (lock_refusal (σ.look p) (σ.look (parent p)))) ≡ 0)
        m = first-0 (static a) _ o.0

        m₂ : (standing_way σ.look p ≡ 0) × (standing_file (σ.look p) ≡ 0)
        m₂ = let n = first-0 (standing_way σ.look p) _ m.1 in (n.0, (first-0 (standing_file (σ.look p)) _ n.1).0)

        ok : (0 < length p) × (length p ≤ suc deepest) × (good_name (last_name p) ≡ true)
        ok = path-pos y (suc deepest) p (static-path y (good_path (suc deepest) p) (valid_time t) m.0)

        wh : Where y v r a
        wh = where-is y v r h a ok.0 m₂.0

        P' : ℕ
        P' = page_at_path r (parent p)

        fs : List ℕ
        fs = own_clusters y v 0 (clusters_for (length b))

        nd : clusters_for (length b) ≡ need (op y a) σ
        nd = omega arith

        room : clusters_for (length b) ≤ length (free_clusters y v)
        room = omega (arith, nd, o.1, length-free (takeable y.may_take v.link) y.alloc_end)

        fl : length fs ≡ clusters_for (length b)
        fl = fs-long y v 0 (clusters_for (length b)) (omega (arith, room))

        make : (e₀ : Entry) × (oc : List ℕ) × (ds : List (Option (List ℕ))) × (s₀ : Tree) × (look_in wh.directory_slots (last_name p ∷ []) ≡ found (Slot.file e₀ oc ds) s₀) → Outcome y v r a
        make (e₀, oc, ds, s₀, g) =
            record {
              plan = pl;
              planned = ap (λ (g : Found). plan_at y a v P' g) wh.found-so ∙ ap (λ (z : Found). plan_by y v (directory_of y wh) (edit_for a (directory_of y wh) wh.directory_slots z)) g;
              root = out.0.0;
              card = out.0.1;
              table = out.0.2;
              same = out.0.3;
              deed = deed;
              pool = new-free y v 0 (clusters_for (length b));
              back = sym (ap (tell chain_in []) (wh.at ∙ g));
            }
          where
            pl : Plan
            pl = made y v (directory_of y wh) (altering (directory_of y wh) wh.directory_slots (last_name p) (clusters_for (length b)) oc (new_contents e₀ t b))

            sl : SlotOf (last_name p) wh.directory_slots (Slot.file e₀ oc ds) s₀
            sl = slot_of (last_name p) wh.directory_slots (Slot.file e₀ oc ds) s₀ g

            hl : (q : ℕ) × HoldsSlot v (deepest - length (parent p)) q (Slot.file e₀ oc ds) × HoldsSlots v (pred (deepest - length (parent p))) [] s₀
            hl = sl.held v (deepest - length (parent p)) _ wh.st.rep

            nil : s₀ ≡ end
            nil = nil_end v _ s₀ hl.2

            nme : e₀.name ≡ last_name p
            nme = Eq-name.sound e₀.name (last_name p) sl.named-so

            at_p : σ.look p ≡ some (Standing.file (fields_of e₀) (content e₀.length ds))
            at_p = ap (tell standing none) (wh.at ∙ g)

            at-r : σ.room p ≡ room_of_slot y (Slot.file e₀ oc ds) s₀
            at-r = ap (tell (room_of_slot y) no_room) (wh.at ∙ g)

            isf : is_file pl.filling.entry ≡ true
            isf = let z : (is_live e₀ && has_bit e₀.mode 0x10 && not (has_bit e₀.mode 0x20) && good_name e₀.name) ≡ true = and_l _ _ hl.1.1 in rw z (empty-or y (length b) fs fl)

            out : ((r' : Root) × HoldsCard (after v pl) r' × ((c : ℕ) → y.alloc_end ≤ c → (after v pl).link c ≡ Link.free) × (abstract_of y (after v pl) r' ≡ effect (op y a) σ)) × Fits v (reached r) pl (record { slot_index = index_of (last_name p) wh.directory_slots; directory_slots = wh.directory_slots; new_slot = Slot.file pl.filling.entry fs (data_pages b) })
            out =
                changed y v r h tab a wh ok.0 (Slot.file e₀ oc ds) s₀ g (λ c. ap (λ (s : Tree). cluster_uses s c) nil) (λ n z. ap (λ (s : Tree). look_in s (n ∷ z)) nil) refl
                (clusters_for (length b)) (new_contents e₀ t b) (Slot.file pl.filling.entry fs (data_pages b)) (found (Slot.file pl.filling.entry fs (data_pages b)) end) refl (λ n. omega arith) (inl ((λ n. rw nme), refl)) refl room
                (λ ft. held-file y v r pl ft (p-used y v r (parent p) P' wh.directory_entry wh.directory_chain wh.directory_slots (deepest - length (parent p)) wh.st) (deepest - length (parent p)) isf fl (start_of y fs (fs-low y v 0 (clusters_for (length b)))) (length-data b ∙ ap (λ n. 2 * n) (sym fl)))
                (sym (ap (replaced t b) at_p)) (ap (λ (n : ℕ). record { dead = 0; length = 0; back = n }) (back-fs y v 0 (clusters_for (length b)) (omega (arith, room))))
                (λ R. refl) nd (sym (ap (λ (R : Room). R.back) at-r))

            slot : v.entry pl.slot_page ≡ some e₀
            slot = rw (append-nil wh.directory_chain) (sl.page v (deepest - length (parent p)) _ wh.st.rep).0

            deed : Deed y v r pl
            deed = record { entered = wh.st.entered; used = p-used y v r (parent p) (page_at_path r (parent p)) wh.directory_entry wh.directory_chain wh.directory_slots (deepest - length (parent p)) wh.st; tree = _; fit = out.1; low = λ c u. omega (arith, fs-low y v 0 (clusters_for (length b)) c u, gs-low y v 0 c u); work = Work.bytes e₀ t b slot (static-time y (good_path (suc deepest) p) (valid_time t) m.0) fl refl }
