-- What an accepted change does, and the outcome of a plan that adds an entry or changes one.
use Prim.Native.Nat.{◌+◌, ◌-◌, ◌/◌, ◌<◌, ◌≤◌, ℕ}
use mathlib.Core.Bool.{false, true}
use mathlib.Core.List.{List, [], ◌++◌, ◌∷◌, append-nil}
use mathlib.Core.Logic.{◌⊎◌, inl, inr, ⊎_elim}
use mathlib.Core.Option.{none, some}
use mathlib.Core.Path.{◌∙◌, ◌≡◌, ap, refl, sym}
use native.Mathlib.Omega.{arith}
use lib.ListN.{length}
use Rattle.model.specs.Change.{Change, Rules, path}
use Rattle.model.specs.Claims.{chain_back}
use Rattle.model.specs.Entry.{Entry, clusters_for}
use Rattle.model.specs.Holds.{HoldsCard, HoldsSlot, UniqueNames, deepest}
use Rattle.model.specs.Lookup.{Found, absent, first_dead, found, index_of, is_named, look_in, tell}
use Rattle.model.specs.Names.{Name, Path, good_name, last_name, parent, same_name}
use Rattle.model.specs.Plan.{Filling, Plan, adding, after, altering, first_of, free_clusters, growth_clusters, growth_with_one, length_with_one, made, new_contents, new_directory, new_file, own_clusters, plan_of, removal, returned}
use Rattle.model.specs.Standing.{standing}
use Rattle.model.specs.Time.{valid_time}
use Rattle.model.specs.Tree.{Root, Slot, Tree, chain_of, cluster_uses, dead_hit, dead_slots, end, entry_pages, hit, name_hit, name_uses, reached, slot_count, times}
use Rattle.model.specs.View.{Link, View}
use Rattle.model.proofs.AbstractCards.{abstract_of, no_room, room_of_slot}
use Rattle.model.proofs.ChangeOperations.{op}
use Rattle.model.proofs.Directories.{Where, directory_of, snoc-path}
use Rattle.model.proofs.Equality.{Eq-name, bool}
use Rattle.model.proofs.LookupLaws.{is-other}
use Rattle.model.proofs.NewClusters.{room-new, shape-new}
use Rattle.model.proofs.Operations.{Room, effect, need, take₁, worked}
use Rattle.model.proofs.PlanActs.{FromPool, acted, back-append, back-new, gs-long, gs-low, new-free}
use Rattle.model.proofs.PlanFits.{Shape, fits}
use Rattle.model.proofs.PlanHolds.{Fits, InTree}
use Rattle.model.proofs.SlotLaws.{deads-set, get-new, get_none, is-named, named_set, old_name, set_slot}
use Rattle.model.proofs.SlotOfName.{SlotOf, fd-le, fd-name, fd-occ, slot_of}

module _ (y : Rules) where
  -- What a plan puts into its slot and onto its new clusters.
  pub data Work (v : View) (p : Plan) : Type 0 where
    file : (n : Name) (t b : List ℕ) → good_name n ≡ true → valid_time t ≡ true → length p.taken ≡ clusters_for (length b) → p.filling ≡ new_file n t b p.taken → Work v p
    directory : (n : Name) (t : List ℕ) (k : ℕ) → good_name n ≡ true → valid_time t ≡ true → k ≤ p.directory.entry.length → p.filling ≡ new_directory n t (first_of p.directory.chain) k p.taken → Work v p
    bytes : (e₀ : Entry) (t b : List ℕ) → v.entry p.slot_page ≡ some e₀ → valid_time t ≡ true → length p.taken ≡ clusters_for (length b) → p.filling ≡ new_contents e₀ t b p.taken → Work v p
    kill : (e₀ : Entry) → v.entry p.slot_page ≡ some e₀ → p.filling ≡ removal e₀ p.taken → Work v p

  -- What the image's layer has to know of a plan.
  pub record Deed (v : View) (r : Root) (p : Plan) : Type 0 where
    pub entered : v.entry p.directory.page ≡ some p.directory.entry
    pub used : (a : ℕ) → hit p.directory.page a ≤ reached r (a / 2)
    pub tree : InTree
    pub fit : Fits v (reached r) p tree
    pub low : (c : ℕ) → y.alloc_end ≤ c → times p.taken c + times p.growth c ≡ 0
    pub work : Work v p

  -- The outcome of a change.
  pub record Outcome (v : View) (r : Root) (a : Change) : Type 1 where
    pub plan : Plan
    pub planned : plan_of y a v r ≡ some plan
    pub root : Root
    pub card : HoldsCard (after v plan) root
    pub table : (c : ℕ) → y.alloc_end ≤ c → (after v plan).link c ≡ Link.free
    pub same : abstract_of y (after v plan) root ≡ effect (op y a) (abstract_of y v r)
    pub deed : Deed v r plan
    -- which clusters were taken, and which come back
    pub pool : FromPool y v plan
    pub back : plan.given ≡ chain_back a r

  module _ (v : View) (r : Root) (h : HoldsCard v r) (tab : (c : ℕ) → y.alloc_end ≤ c → v.link c ≡ Link.free) (a : Change) (wh : Where y v r a) (pos : 0 < length (path a)) where
    abbrev q : Path
    q = parent (path a)

    abbrev nm : Name
    nm = last_name (path a)

    abbrev D : ℕ
    D = deepest - length q

    abbrev s : Tree
    s = wh.directory_slots

    -- An entry is added.
    pub created : (k : ℕ) (f : List ℕ → Filling) (x : Slot)
        → let γ = growth_with_one wh.directory_entry s in
        let p = made y v (directory_of y wh) (adding (directory_of y wh) s k f) in
        let t : InTree = record { slot_index = first_dead s; directory_slots = s; new_slot = x } in
        chain_of x ≡ own_clusters y v γ k → ((m : Name) → is_named x m ≡ same_name nm m) → dead_hit x ≡ 0 → entry_pages x ≡ [] → name_uses s nm ≡ 0
        → γ + k ≤ length (free_clusters y v)
        → (Fits v (reached r) p t → HoldsSlot (after v p) D p.slot_page x)
        → standing x end ≡ (op y a).puts (abstract_of y v r) (path a) → (room_of_slot y) x end ≡ (op y a).rooms (abstract_of y v r) (path a)
        → ((R : Room) → worked (op y a) R ≡ take₁ R.dead R.length R.back) → k + γ ≡ need (op y a) (abstract_of y v r) → (op y a).freed (abstract_of y v r) ≡ 0
        → ((r' : Root) × HoldsCard (after v p) r' × ((c : ℕ) → y.alloc_end ≤ c → (after v p).link c ≡ Link.free) × (abstract_of y (after v p) r' ≡ effect (op y a) (abstract_of y v r))) × Fits v (reached r) p t
    created k f x ch ix dx nx lack room hd fn rn wk nd fz = (
      acted y v r h tab a q nm (directory_of y wh) s D wh.st (snoc-path (path a) pos) refl (adding (directory_of y wh) s k f) x sh room ft (hd ft) nx
          (inl ix) (λ m e. fd-name s m) (λ k z. get_none s nm (k ∷ z) lack)
          (ap (tell standing none) new ∙ fn) (ap (tell (room_of_slot y) no_room) new ∙ rn)
          (room-new y wh.directory_entry s x (returned y wh.directory_chain) (returned y (wh.directory_chain ++ growth_clusters y v γ)) dx grew ∙ sym (wk ((room_of_slot y) (Slot.directory wh.directory_entry wh.directory_chain) s)))
          nd (back-new y v [] (λ c. omega arith) (λ c u. refl) ∙ sym fz),
      ft,
    )
      where
        γ : ℕ
        γ = growth_with_one wh.directory_entry s

        grew : returned y (wh.directory_chain ++ growth_clusters y v γ) ≡ returned y wh.directory_chain + γ
        grew =
            back-append y wh.directory_chain (growth_clusters y v γ)
            ∙ ap (λ n. returned y wh.directory_chain + n) (back-new y v (growth_clusters y v γ) (λ c. omega (arith, new-free y v γ k c)) (gs-low y v γ) ∙ gs-long y v γ k room)

        sh : Shape wh.directory_entry s (first_dead s) (length_with_one wh.directory_entry s) γ
        sh = shape-new y wh.directory_entry s

        un : UniqueNames (set_slot (first_dead s) x end s)
        un m =
            ⊎_elim
            (λ (i : same_name nm m ≡ true). let z : name_uses s m ≡ 0 = rw (← Eq-name.sound nm m i) lack in let w : name_hit x m ≡ 1 = is-named x m ∙ rw (ix m, i) in
            omega (arith, named_set x end (first_dead s) s m (fd-le s)))
            (λ (i : same_name nm m ≡ false). let w : name_hit x m ≡ 0 = is-named x m ∙ rw (ix m, i) in omega (arith, named_set x end (first_dead s) s m (fd-le s), wh.st.uniq m))
            (bool (same_name nm m))

        ft : Fits v (reached r) (made y v (directory_of y wh) (adding (directory_of y wh) s k f)) (record { slot_index = first_dead s; directory_slots = s; new_slot = x })
        ft = fits y v r h q (directory_of y wh) s D wh.st (adding (directory_of y wh) s k f) x sh room (λ c. ap (λ (l : List ℕ). times l c) ch)
            (λ c. sym (fd-occ v D _ s c wh.st.rep)) un

        new : look_in (set_slot (first_dead s) x end s) (nm ∷ []) ≡ found x end
        new = get-new x end (first_dead s) s nm [] (fd-le s) (ix nm ∙ Eq-name.self nm) (un nm)

    -- An entry is replaced or killed: `seen` is what is then found under its name.
    pub changed : (h₀ : Slot) (s₀ : Tree) → look_in s (nm ∷ []) ≡ found h₀ s₀ → ((c : ℕ) → cluster_uses s₀ c ≡ 0) → ((m : Name) (z : Path) → look_in s₀ (m ∷ z) ≡ absent) → dead_hit h₀ ≡ 0
        → (k : ℕ) (f : List ℕ → Filling) (x : Slot) (seen : Found)
        → let p = made y v (directory_of y wh) (altering (directory_of y wh) s nm k (chain_of h₀) f) in
        let t : InTree = record { slot_index = index_of nm s; directory_slots = s; new_slot = x } in
        chain_of x ≡ own_clusters y v 0 k → ((m : Name) → name_hit x m ≤ name_hit h₀ m)
        → ((((m : Name) → is_named x m ≡ same_name nm m) × (seen ≡ found x end)) ⊎ (((m : Name) → is_named x m ≡ false) × (seen ≡ absent))) → entry_pages x ≡ []
        → k ≤ length (free_clusters y v)
        → (Fits v (reached r) p t → HoldsSlot (after v p) D p.slot_page x)
        → tell standing none seen ≡ (op y a).puts (abstract_of y v r) (path a) → tell (room_of_slot y) no_room seen ≡ (op y a).rooms (abstract_of y v r) (path a)
        → ((R : Room) → worked (op y a) R ≡ record { dead = R.dead + dead_hit x; length = R.length; back = R.back }) → k ≡ need (op y a) (abstract_of y v r)
        → returned y (chain_of h₀) ≡ (op y a).freed (abstract_of y v r)
        → ((r' : Root) × HoldsCard (after v p) r' × ((c : ℕ) → y.alloc_end ≤ c → (after v p).link c ≡ Link.free) × (abstract_of y (after v p) r' ≡ effect (op y a) (abstract_of y v r))) × Fits v (reached r) p t
    changed h₀ s₀ g oz bz dz k f x seen ch nx ix ex room hd fn rn wk nd fd = (
      acted y v r h tab a q nm (directory_of y wh) s D wh.st (snoc-path (path a) pos) refl (altering (directory_of y wh) s nm k (chain_of h₀) f) x sh (omega arith) ft (hd ft) ex
          (both ix) old (λ m z. sl.under m z ∙ bz m z)
          (ap (tell standing none) (now_at ix) ∙ fn) (ap (tell (room_of_slot y) no_room) (now_at ix) ∙ rn)
          (rooms ∙ sym (wk ((room_of_slot y) (Slot.directory wh.directory_entry wh.directory_chain) s)))
          (omega arith) fd,
      ft,
    )
      where
        sl : SlotOf nm s h₀ s₀
        sl = slot_of nm s h₀ s₀ g

        i : ℕ
        i = index_of nm s

        le : i ≤ slot_count s
        le = omega (arith, sl.lt)

        sh : Shape wh.directory_entry s i wh.directory_entry.length 0
        sh = inl (refl, refl, sl.lt)

        un : UniqueNames (set_slot i x end s)
        un m = omega (arith, named_set x end i s m le, sl.names m, nx m, wh.st.uniq m)

        ft : Fits v (reached r) (made y v (directory_of y wh) (altering (directory_of y wh) s nm k (chain_of h₀) f)) (record { slot_index = i; directory_slots = s; new_slot = x })
        ft = fits y v r h q (directory_of y wh) s D wh.st (altering (directory_of y wh) s nm k (chain_of h₀) f) x sh (omega arith) (λ c. ap (λ (l : List ℕ). times l c) ch)
            (λ c. omega (arith, sl.uses c, oz c)) un

        gone : ((m : Name) → is_named x m ≡ false) → name_uses (set_slot i x end s) nm ≡ 0
        gone nn =
            let z : name_hit x nm ≡ 0 = is-named x nm ∙ rw (nn nm) in
            let w : name_hit h₀ nm ≡ 1 = is-named h₀ nm ∙ rw sl.named-so in
            omega (arith, named_set x end i s nm le, sl.names nm, wh.st.uniq nm)

        both : ((((m : Name) → is_named x m ≡ same_name nm m) × (seen ≡ found x end)) ⊎ (((m : Name) → is_named x m ≡ false) × (seen ≡ absent)))
            → ((m : Name) → is_named x m ≡ same_name nm m) ⊎ (((m : Name) → is_named x m ≡ false) × (name_uses (set_slot i x end s) nm ≡ 0))
        both (inl z) = inl z.0
        both (inr z) = inr (z.0, gone z.0)

        now_at : ((((m : Name) → is_named x m ≡ same_name nm m) × (seen ≡ found x end)) ⊎ (((m : Name) → is_named x m ≡ false) × (seen ≡ absent))) → look_in (set_slot i x end s) (nm ∷ []) ≡ seen
        now_at (inl z) = get-new x end i s nm [] le (z.0 nm ∙ Eq-name.self nm) (un nm) ∙ sym z.1
        now_at (inr z) = get_none (set_slot i x end s) nm [] (gone z.0) ∙ sym z.1

        old : (m : Name) → same_name nm m ≡ false → old_name i s m ≡ 0
        old m e = sl.names m ∙ is-named h₀ m ∙ rw (is-other h₀ nm m sl.named-so, e)

        rooms : ◌≡◌ {A = Room} (record { dead = dead_slots (set_slot i x end s); length = wh.directory_entry.length; back = returned y (wh.directory_chain ++ []) })
            (record { dead = dead_slots s + dead_hit x; length = wh.directory_entry.length; back = returned y wh.directory_chain })
        rooms = let d : dead_slots (set_slot i x end s) ≡ dead_slots s + dead_hit x = omega (arith, deads-set x end i s le, sl.is_dead) in
            λ j. record { dead = d j; length = wh.directory_entry.length; back = returned y (append-nil wh.directory_chain j) }

  -- the room of the directory that a change works in
  pub room_at : (v : View) (r : Root) (a : Change) (wh : Where y v r a) → (abstract_of y v r).room (parent (path a)) ≡ (room_of_slot y) (Slot.directory wh.directory_entry wh.directory_chain) wh.directory_slots
  room_at v r a wh = ap (tell (room_of_slot y) no_room) wh.found-so
