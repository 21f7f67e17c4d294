-- Creating a file and making a directory: each has its plan, which does what the operation says.
use Prim.Native.Nat.{◌*◌, ◌+◌, ◌-◌, ◌<◌, ◌≤◌, suc, ℕ}
use mathlib.Core.Bool.{Bool, ◌&&◌, cond, false, true}
use mathlib.Core.List.{List, [], ◌∷◌, map}
use mathlib.Core.Option.{Option, some}
use mathlib.Core.Path.{◌∙◌, ◌≡◌, ap, ap₂, refl, sym}
use native.Mathlib.Omega.{arith}
use lib.Dec.{leb, leb→le, ltb, ltb→lt}
use lib.ListN.{drop, length, length-drop, length-take, take}
use Rattle.model.specs.Change.{Change, Rules, create, make_directory}
use Rattle.model.specs.Counts.{takeable}
use Rattle.model.specs.Entry.{Entry, clusters_for, is_file, is_subdirectory}
use Rattle.model.specs.Holds.{HoldsCard, deepest}
use Rattle.model.specs.Lookup.{Found, first_dead, page_at_path}
use Rattle.model.specs.Names.{Path, dot_dot_name, dot_name, good_name, good_path, last_name, parent}
use Rattle.model.specs.Plan.{Plan, adding, after, dot_dot_entry, dot_entry, first_of, free_clusters, growth_with_one, made, new_directory, new_file, own_clusters, plan_at, returned}
use Rattle.model.specs.Pages.{data_pages, decoded}
use Rattle.model.specs.Refusal.{first, lock_refusal, static}
use Rattle.model.specs.Time.{valid_time}
use Rattle.model.specs.Tree.{Root, Slot, name_uses, reached, times}
use Rattle.model.specs.View.{Link, View, pages_of}
use Rattle.model.proofs.AbstractCards.{abstract_of}
use Rattle.model.proofs.Allocation.{length-free}
use Rattle.model.proofs.ChangeOperations.{op, standing_lack, standing_way}
use Rattle.model.proofs.Directories.{Where, directory_of, first-0, good-last, length-parent, must-lack, where-is}
use Rattle.model.proofs.Equality.{and_l, and_r, to-T}
use Rattle.model.proofs.CountLaws.{card-used}
use Rattle.model.proofs.NewEntries.{decoded-new, few, first_fits, whole}
use Rattle.model.proofs.NewClusters.{empty-or, grow-new, held-dir, held-file, p-used}
use Rattle.model.proofs.Operations.{AbstractCard, Accepts, Room, effect, grown, need, taken, take₁, worked}
use Rattle.model.proofs.Outcome.{Deed, Outcome, Work, created, room_at}
use Rattle.model.proofs.PageBytes.{length-data}
use Rattle.model.proofs.PlanActs.{back-new, fs-long, fs-low, gs-low, new-free, start_of}
use Rattle.model.proofs.PlanFits.{rep-length}
use Rattle.model.proofs.PlanHolds.{Fits, InTree}
use Rattle.model.proofs.SlotOfName.{fd-le}

module _ (y : Rules) where
  pub plus-0 : (R : Room) → ◌≡◌ {A = Room} (record { dead = R.dead + 0; length = R.length; back = R.back }) R
  plus-0 R = ap (λ (n : ℕ). record { dead = n; length = R.length; back = R.back }) (omega arith)

  pub back-fs : (v : View) (γ k : ℕ) → γ + k ≤ length (free_clusters y v) → returned y (own_clusters y v γ k) ≡ k
  back-fs v γ k room = back-new y v (own_clusters y v γ k) (λ c. omega (arith, new-free y v γ k c)) (fs-low y v γ k) ∙ fs-long y v γ k room

  pub static-path : (b c : Bool) → ◌≡◌ {A = ℕ} (first (cond b 0 8) (cond c 0 14)) 0 → b ≡ true
  static-path true c e = refl
  static-path false c e = absurd (omega arith)

  pub static-path' : (b : Bool) → ◌≡◌ {A = ℕ} (cond b 0 8) 0 → b ≡ true
  static-path' true e = refl
  static-path' false e = absurd (omega arith)

  pub static-time : (b c : Bool) → ◌≡◌ {A = ℕ} (first (cond b 0 8) (cond c 0 14)) 0 → c ≡ true
  static-time true true e = refl
  static-time true false e = absurd (omega arith)
  static-time false c e = absurd (omega arith)

  pub drop-two : (l : List ℕ) → drop 2 (take 2 l) ≡ []
  drop-two [] = refl
  drop-two (a ∷ []) = refl
  drop-two (a ∷ b ∷ l) = refl

  pub path-pos : (k : ℕ) (p : Path) → good_path k p ≡ true → (0 < length p) × (length p ≤ k) × (good_name (last_name p) ≡ true)
  path-pos k p e =
      let a : (ltb 0 (length p) && leb (length p) k) ≡ true = and_l _ _ e in
      let c : ltb 0 (length p) ≡ true = and_l (ltb 0 (length p)) (leb (length p) k) a in
      let b = ltb→lt 0 (length p) (to-T c) in
      (b, leb→le (length p) k (to-T (and_r (ltb 0 (length p)) _ a)), good-last p b (and_r (ltb 0 (length p) && leb (length p) k) _ e))

  module _ (v : View) (r : Root) (h : HoldsCard v r) (tab : (c : ℕ) → y.alloc_end ≤ c → v.link c ≡ Link.free) where
    abbrev σ : AbstractCard
    σ = abstract_of y v r

    pub act-create : (p : Path) (t b : List ℕ) → Accepts (op y (create p t b)) σ → Outcome y v r (create p t b)
    unfolding need grown worked taken
    act-create p t b o =
        record { plan = pl; planned = ap (λ (g : Found). plan_at y a v P' g) wh.found-so; root = out.0.0; card = out.0.1; table = out.0.2; same = out.0.3; deed = deed; pool = new-free y v γ (clusters_for (length b)); back = refl }
      where
        a : Change
        a = create p t b

        m : (static a ≡ 0) × (first (standing_way σ.look p) (first (standing_lack (σ.look p)) (lock_refusal (σ.look p) (σ.look (parent p)))) ≡ 0)
        m = first-0 (static a) _ o.0

        m₂ : (standing_way σ.look p ≡ 0) × (standing_lack (σ.look p) ≡ 0)
        m₂ = let n = first-0 (standing_way σ.look p) _ m.1 in (n.0, (first-0 (standing_lack (σ.look p)) _ n.1).0)

        ok : (0 < length p) × (length p ≤ suc deepest) × (good_name (last_name p) ≡ true)
        ok = path-pos (suc deepest) p (static-path (good_path (suc deepest) p) (valid_time t) m.0)

        wh : Where y v r a
        wh = where-is y v r h a ok.0 m₂.0

        P' : ℕ
        P' = page_at_path r (parent p)

        γ : ℕ
        γ = growth_with_one wh.directory_entry wh.directory_slots

        fs : List ℕ
        fs = own_clusters y v γ (clusters_for (length b))

        pl : Plan
        pl = made y v (directory_of y wh) (adding (directory_of y wh) wh.directory_slots (clusters_for (length b)) (new_file (last_name p) t b))

        nd : clusters_for (length b) + γ ≡ need (op y a) σ
        nd = rw (room_at y v r a wh) (omega (arith, grow-new y wh.directory_entry wh.directory_slots))

        room : γ + clusters_for (length b) ≤ length (free_clusters y v)
        room = omega (arith, nd, o.1, length-free (takeable y.may_take v.link) y.alloc_end)

        lack : name_uses wh.directory_slots (last_name p) ≡ 0
        lack = must-lack y wh.directory_slots (last_name p) (rw wh.at at m₂.1)

        fl : length fs ≡ clusters_for (length b)
        fl = fs-long y v γ (clusters_for (length b)) room

        in_tree : InTree
        in_tree = record { slot_index = first_dead wh.directory_slots; directory_slots = wh.directory_slots; new_slot = Slot.file pl.filling.entry fs (data_pages b) }

        isf : is_file pl.filling.entry ≡ true
        isf = rw ok.2 (empty-or y (length b) fs fl)

        out : ((r' : Root) × HoldsCard (after v pl) r' × ((c : ℕ) → y.alloc_end ≤ c → (after v pl).link c ≡ Link.free) × (abstract_of y (after v pl) r' ≡ effect (op y a) σ)) × Fits v (reached r) pl in_tree
        out =
            created y v r h tab a wh ok.0 (clusters_for (length b)) (new_file (last_name p) t b) (Slot.file pl.filling.entry fs (data_pages b)) refl (λ n. refl) refl refl lack room
            (λ ft. held-file y v r pl ft (p-used y v r (parent p) P' wh.directory_entry wh.directory_chain wh.directory_slots (deepest - length (parent p)) wh.st) (deepest - length (parent p)) isf fl (start_of y fs (fs-low y v γ (clusters_for (length b)))) (length-data b ∙ ap (λ n. 2 * n) (sym fl)))
            refl (ap (λ (n : ℕ). record { dead = 0; length = 0; back = n }) (back-fs v γ (clusters_for (length b)) room)) (λ R. plus-0 (take₁ R.dead R.length R.back)) nd refl

        deed : Deed y v r pl
        deed = record { entered = wh.st.entered; used = p-used y v r (parent p) (page_at_path r (parent p)) wh.directory_entry wh.directory_chain wh.directory_slots (deepest - length (parent p)) wh.st; tree = in_tree; fit = out.1; low = λ c u. omega (arith, fs-low y v γ (clusters_for (length b)) c u, gs-low y v γ c u); work = Work.file (last_name p) t b ok.2 (static-time (good_path (suc deepest) p) (valid_time t) m.0) fl refl }

    pub act-mkdir : (p : Path) (t : List ℕ) → Accepts (op y (make_directory p t)) σ → Outcome y v r (make_directory p t)
    unfolding need grown worked taken
    act-mkdir p t o =
        record { plan = pl; planned = ap (λ (g : Found). plan_at y a v P' g) wh.found-so; root = out.0.0; card = out.0.1; table = out.0.2; same = out.0.3; deed = deed; pool = new-free y v γ 1; back = refl }
      where
        a : Change
        a = make_directory p t

        m : (static a ≡ 0) × (first (standing_way σ.look p) (first (standing_lack (σ.look p)) (lock_refusal (σ.look p) (σ.look (parent p)))) ≡ 0)
        m = first-0 (static a) _ o.0

        m₂ : (standing_way σ.look p ≡ 0) × (standing_lack (σ.look p) ≡ 0)
        m₂ = let n = first-0 (standing_way σ.look p) _ m.1 in (n.0, (first-0 (standing_lack (σ.look p)) _ n.1).0)

        ok : (0 < length p) × (length p ≤ deepest) × (good_name (last_name p) ≡ true)
        ok = path-pos deepest p (static-path (good_path deepest p) (valid_time t) m.0)

        wh : Where y v r a
        wh = where-is y v r h a ok.0 m₂.0

        P' : ℕ
        P' = page_at_path r (parent p)

        γ : ℕ
        γ = growth_with_one wh.directory_entry wh.directory_slots

        fs : List ℕ
        fs = own_clusters y v γ 1

        pl : Plan
        pl = made y v (directory_of y wh) (adding (directory_of y wh) wh.directory_slots 1 (new_directory (last_name p) t (first_of wh.directory_chain) (2 + first_dead wh.directory_slots)))

        nd : 1 + γ ≡ need (op y a) σ
        nd = rw (room_at y v r a wh) (omega (arith, grow-new y wh.directory_entry wh.directory_slots))

        room : γ + 1 ≤ length (free_clusters y v)
        room = omega (arith, nd, o.1, length-free (takeable y.may_take v.link) y.alloc_end)

        lack : name_uses wh.directory_slots (last_name p) ≡ 0
        lack = must-lack y wh.directory_slots (last_name p) (rw wh.at at m₂.1)

        fl : length fs ≡ 1
        fl = fs-long y v γ 1 room

        in_tree : InTree
        in_tree = record { slot_index = first_dead wh.directory_slots; directory_slots = wh.directory_slots; new_slot = Slot.directory pl.filling.entry fs }

        isd : is_subdirectory pl.filling.entry ≡ true
        isd = rw ok.2

        tv : valid_time t ≡ true
        tv = static-time (good_path deepest p) (valid_time t) m.0

        -- the new slot is within the directory's length or follows it
        within : 2 + first_dead wh.directory_slots ≤ wh.directory_entry.length
        within = omega (arith, fd-le wh.directory_slots, rep-length v _ _ wh.directory_slots wh.st.rep, length-drop 2 (take wh.directory_entry.length (pages_of wh.directory_chain)), length-take wh.directory_entry.length (pages_of wh.directory_chain), wh.st.two)

        low : (c : ℕ) → y.alloc_end ≤ c → times wh.directory_chain c ≡ 0
        low c u = omega (arith, wh.st.own c, card-used v r h c (tab c u))

        -- `.` and `..` are read back from their pages
        dots : map decoded pl.filling.pages ≡ some (dot_entry t (first_of wh.directory_chain) (2 + first_dead wh.directory_slots)) ∷ some (dot_dot_entry t) ∷ []
        dots =
            let short = few y.alloc_end wh.directory_chain (λ c. omega (arith, wh.st.own c, h.once c)) low in
            ap₂ (λ (d u : Option Entry). d ∷ u ∷ [])
            (decoded-new _ (whole _ _ _ _ t dot_name (omega arith) (omega arith) (first_fits y wh.directory_chain low) (omega (arith, within, short, wh.st.long, y.limited)) tv (omega arith) refl))
            (decoded-new _ (whole _ _ _ _ t dot_dot_name (omega arith) (omega arith) (omega arith) (omega arith) tv (omega arith) refl))

        deep : 0 < deepest - length (parent p)
        deep = omega (arith, length-parent p, ok.0, ok.1)

        out : ((r' : Root) × HoldsCard (after v pl) r' × ((c : ℕ) → y.alloc_end ≤ c → (after v pl).link c ≡ Link.free) × (abstract_of y (after v pl) r' ≡ effect (op y a) σ)) × Fits v (reached r) pl in_tree
        out =
            created y v r h tab a wh ok.0 1 (new_directory (last_name p) t (first_of wh.directory_chain) (2 + first_dead wh.directory_slots)) (Slot.directory pl.filling.entry fs) refl (λ n. refl) refl (drop-two (pages_of fs)) lack room
            (λ ft. held-dir y v r pl ft (p-used y v r (parent p) P' wh.directory_entry wh.directory_chain wh.directory_slots (deepest - length (parent p)) wh.st) (deepest - length (parent p))
            (dot_entry t (first_of wh.directory_chain) (2 + first_dead wh.directory_slots)) (dot_dot_entry t) isd deep fl fl (start_of y fs (fs-low y v γ 1)) dots refl refl)
            refl (ap (λ (n : ℕ). record { dead = 0; length = 2; back = n }) (back-fs v γ 1 room)) (λ R. plus-0 (take₁ R.dead R.length R.back)) nd refl

        deed : Deed y v r pl
        deed = record { entered = wh.st.entered; used = p-used y v r (parent p) (page_at_path r (parent p)) wh.directory_entry wh.directory_chain wh.directory_slots (deepest - length (parent p)) wh.st; tree = in_tree; fit = out.1; low = λ c u. omega (arith, fs-low y v γ 1 c u, gs-low y v γ c u); work = Work.directory (last_name p) t (2 + first_dead wh.directory_slots) ok.2 tv within refl }
