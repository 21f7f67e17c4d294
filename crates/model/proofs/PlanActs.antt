-- A plan that fits does on the card what its operation does on the abstract card.
use Prim.Native.Nat.{◌+◌, ◌-◌, ◌≤◌, ℕ}
use mathlib.Core.Bool.{Bool, cond, false, true}
use mathlib.Core.List.{List, [], ◌++◌, ◌∷◌, append-nil}
use mathlib.Core.Logic.{◌⊎◌, ⊎_elim}
use mathlib.Core.Option.{none}
use mathlib.Core.Path.{◌∙◌, ◌≡◌, ap, fun_ext, refl, sym}
use native.Mathlib.Omega.{arith}
use lib.Dec.{eqb}
use lib.ListN.{drop, length, length-drop, length-take}
use Rattle.model.specs.Change.{Change, Rules, path}
use Rattle.model.specs.Counts.{is_free, is_held, takeable, total_below}
use Rattle.model.specs.Entry.{Entry, end_mark}
use Rattle.model.specs.Holds.{HoldsCard, HoldsSlot}
use Rattle.model.specs.Lookup.{absent, is_named, look_from, look_in, tell}
use Rattle.model.specs.Names.{Name, Path, parent, same_name, same_path}
use Rattle.model.specs.Plan.{Directory, Edit, Plan, after, first_of, free_clusters, free_of, growth_clusters, held_of, link_to, made, own_clusters, returned, with_length, withheld}
use Rattle.model.specs.Standing.{standing}
use Rattle.model.specs.Tree.{Root, Slot, Tree, dead_hit, dead_slots, end, entry_pages, name_uses, reached, root_slot, times}
use Rattle.model.specs.View.{Link, View}
use Rattle.model.proofs.AbstractCards.{abstract_of, no_room, room_of_slot}
use Rattle.model.proofs.Allocation.{free-low, free-times, length-free, pool-le, times-append}
use Rattle.model.proofs.ChangeOperations.{op}
use Rattle.model.proofs.CountLaws.{card-used, free-le, total-add, total_ext, used-free}
use Rattle.model.proofs.Equality.{Eq-number, Eq-path, bool}
use Rattle.model.proofs.Frame.{hit-self, times-drop, times-split, times-take}
use Rattle.model.proofs.Operations.{AbstractCard, effect, need, worked}
use Rattle.model.proofs.PathLaws.{level-law, path-law}
use Rattle.model.proofs.PlanFits.{Shape}
use Rattle.model.proofs.PlanHolds.{Fits, InTree, free-after, fresh, step}
use Rattle.model.proofs.Sites.{Moved, Site}
use Rattle.model.proofs.SlotLaws.{old-le, old_name, set_slot}
use Rattle.model.proofs.SlotOfName.{total-times}
use Rattle.model.proofs.StepHolds.{Step}
use Rattle.model.proofs.TreePlaces.{Context, down, next, plug, top}

is_free_lem : (l : Link) → 1 ≤ is_free l → l ≡ Link.free
is_free_lem Link.free h = refl
is_free_lem Link.last h = absurd (omega arith)
is_free_lem (Link.next a) h = absurd (omega arith)

module _ (y : Rules) where
  -- the clusters taken
  module _ (v : View) (γ k : ℕ) (room : γ + k ≤ length (free_clusters y v)) where
    pub gs-long : length (growth_clusters y v γ) ≡ γ
    gs-long = length-take γ (free_clusters y v) ∙ omega arith

    pub fs-long : length (own_clusters y v γ k) ≡ k
    fs-long = length-take k (drop γ (free_clusters y v)) ∙ omega (arith, length-drop γ (free_clusters y v))

  pub fs-low : (v : View) (γ k c : ℕ) → y.alloc_end ≤ c → times (own_clusters y v γ k) c ≡ 0
  fs-low v γ k c h = omega (arith, free-low (takeable y.may_take v.link) y.alloc_end c h, times-drop γ (free_clusters y v) c, times-take k (drop γ (free_clusters y v)) c)

  pub gs-low : (v : View) (γ c : ℕ) → y.alloc_end ≤ c → times (growth_clusters y v γ) c ≡ 0
  gs-low v γ c h = omega (arith, free-low (takeable y.may_take v.link) y.alloc_end c h, times-take γ (free_clusters y v) c)

  pub new-free : (v : View) (γ k c : ℕ) → times (own_clusters y v γ k) c + times (growth_clusters y v γ) c ≤ is_free (takeable y.may_take v.link c)
  new-free v γ k c =
      omega (arith, free-times (takeable y.may_take v.link) y.alloc_end c, times-split γ (free_clusters y v) c, times-take k (drop γ (free_clusters y v)) c)

  -- what was taken from the pool goes back to it
  pub back-new : (v : View) (xs : List ℕ) → ((c : ℕ) → times xs c ≤ is_free (takeable y.may_take v.link c)) → ((c : ℕ) → y.alloc_end ≤ c → times xs c ≡ 0) → returned y xs ≡ length xs
  back-new v xs k low = total_ext _ (times xs) y.alloc_end (λ c u. one c) ∙ total-times xs y.alloc_end low
    where
      one : (c : ℕ) → cond (y.may_take c) (times xs c) 0 ≡ times xs c
      one c = ⊎_elim (λ (a : y.may_take c ≡ true). rw a) (λ (a : y.may_take c ≡ false). let z : is_free (takeable y.may_take v.link c) ≡ 0 = rw a in rw a (omega (arith, k c))) (bool (y.may_take c))

  pub back-append : (xs ys : List ℕ) → returned y (xs ++ ys) ≡ returned y xs + returned y ys
  back-append xs ys = total_ext _ _ y.alloc_end (λ c u. one c) ∙ sym (total-add _ _ y.alloc_end)
    where
      one : (c : ℕ) → cond (y.may_take c) (times (xs ++ ys) c) 0 ≡ cond (y.may_take c) (times xs c) 0 + cond (y.may_take c) (times ys c) 0
      one c = ⊎_elim (λ (a : y.may_take c ≡ true). rw a (times-append xs ys c)) (λ (a : y.may_take c ≡ false). rw a) (bool (y.may_take c))

  -- an entry's first cluster leads to its chain
  pub start_of : (fs : List ℕ) → ((c : ℕ) → y.alloc_end ≤ c → times fs c ≡ 0) → cond (eqb (first_of fs) end_mark) Link.last (Link.next (first_of fs)) ≡ link_to fs
  start_of [] h = refl
  start_of (c ∷ fs) h =
      ⊎_elim (λ (a : eqb c end_mark ≡ true). absurd (let e : c ≡ end_mark = Eq-number.sound c end_mark a in omega (arith, h c (omega (arith, y.limited)), hit-self c))) (λ (a : eqb c end_mark ≡ false). rw a) (bool (eqb c end_mark))

  -- A plan's new clusters are of those that may be taken.
  abbrev pub FromPool : View → Plan → Type 0
  FromPool v p = (c : ℕ) → times p.taken c + times p.growth c ≤ is_free (takeable y.may_take v.link c)

  -- The free and the held back count after a change.
  module _ (v : View) (r : Root) (p : Plan) {t : InTree} (h : HoldsCard v r) (k : Fits v (reached r) p t) (fr : FromPool v p) where
    word-law : (c : ℕ) → is_free ((after v p).link c) + fresh p c ≡ is_free (v.link c) + times p.given c
    word-law c =
        free-after v (reached r) p k (λ d u. omega (arith, used-free v r h d)) (λ d u. omega (arith, fr d, pool-le y.may_take v.link d, free-le (v.link d))) c
        ∙ ap (λ n. is_free (v.link c) + n) (sym (k.old c))

    free_law : ((c : ℕ) → y.alloc_end ≤ c → times p.taken c ≡ 0) → ((c : ℕ) → y.alloc_end ≤ c → times p.growth c ≡ 0)
        → free_of y (after v p) + (length p.taken + length p.growth) ≡ free_of y v + returned y p.given
    free_law lf lg =
        omega (
          arith,
          total-add (λ c. is_free (takeable y.may_take (after v p).link c)) (fresh p) y.alloc_end,
          total-add (times p.taken) (times p.growth) y.alloc_end,
          total-add (λ c. is_free (takeable y.may_take v.link c)) (λ c. cond (y.may_take c) (times p.given c) 0) y.alloc_end,
          total_ext (λ c. is_free (takeable y.may_take (after v p).link c) + fresh p c) (λ c. is_free (takeable y.may_take v.link c) + cond (y.may_take c) (times p.given c) 0) y.alloc_end (λ c u. each c),
          total-times p.taken y.alloc_end lf,
          total-times p.growth y.alloc_end lg,
        )
      where
        each : (c : ℕ) → is_free (takeable y.may_take (after v p).link c) + fresh p c ≡ is_free (takeable y.may_take v.link c) + cond (y.may_take c) (times p.given c) 0
        each c =
            ⊎_elim (λ (a : y.may_take c ≡ true). rw a (word-law c))
            (λ (a : y.may_take c ≡ false). let z : is_free (takeable y.may_take v.link c) ≡ 0 = rw a in rw a (omega (arith, fr c))) (bool (y.may_take c))

    pub untaken-law : (c : ℕ) → y.may_take c ≡ false → v.link c ≡ Link.free → (after v p).link c ≡ Link.free
    untaken-law c a e =
        let z : is_free (takeable y.may_take v.link c) ≡ 0 = rw a in
        let f : is_free (v.link c) ≡ 1 = rw e in
        is_free_lem ((after v p).link c) (omega (arith, fr c, word-law c))

    pub held-law : held_of y (after v p) ≡ held_of y v + withheld y p.given
    held-law =
        total_ext (λ c. is_held (y.may_take c) ((after v p).link c)) (λ c. is_held (y.may_take c) (v.link c) + cond (y.may_take c) 0 (times p.given c)) y.alloc_end (λ c u. each c)
        ∙ sym (total-add (λ c. is_held (y.may_take c) (v.link c)) (λ c. cond (y.may_take c) 0 (times p.given c)) y.alloc_end)
      where
        each : (c : ℕ) → is_held (y.may_take c) ((after v p).link c) ≡ is_held (y.may_take c) (v.link c) + cond (y.may_take c) 0 (times p.given c)
        each c =
            ⊎_elim (λ (a : y.may_take c ≡ true). rw a (omega arith))
            (λ (a : y.may_take c ≡ false). let z : is_free (takeable y.may_take v.link c) ≡ 0 = rw a in rw a (omega (arith, fr c, word-law c))) (bool (y.may_take c))

  stable : (e e' : Entry) (cs cs' : List ℕ) (s s' : Tree) (x : Slot) (l : Context) → (room_of_slot y) x (plug l (Slot.directory e' cs') s') ≡ (room_of_slot y) x (plug l (Slot.directory e cs) s)
  stable e e' cs cs' s s' Slot.dead l = refl
  stable e e' cs cs' s s' (Slot.file f ds es) l = refl
  stable e e' cs cs' s s' (Slot.directory f ds) l = ap (λ (n : ℕ). record { dead = n; length = f.length; back = returned y ds }) (same l)
    where
      same : (l : Context) → dead_slots (plug l (Slot.directory e' cs') s') ≡ dead_slots (plug l (Slot.directory e cs) s)
      same (top b) = refl
      same (next x a l) = ap (λ n. dead_hit x + n) (same l)
      same (down x b l) = refl

  stable-fact : (e e' : Entry) (cs cs' : List ℕ) (s s' : Tree) (x : Slot) (l : Context) → standing x (plug l (Slot.directory e' cs') s') ≡ standing x (plug l (Slot.directory e cs) s)
  stable-fact e e' cs cs' s s' Slot.dead l = refl
  stable-fact e e' cs cs' s s' (Slot.file f ds es) l = refl
  stable-fact e e' cs cs' s s' (Slot.directory f ds) l = refl

  pick-self : {B : Type 0} (g : Path → B) (k : B → B) (z q : Path) → cond (same_path z q) (k (g q)) (g z) ≡ cond (same_path z q) (k (g z)) (g z)
  pick-self g k z q = ⊎_elim (λ (i : same_path z q ≡ true). rw (Eq-path.sound z q i)) (λ (i : same_path z q ≡ false). rw i) (bool (same_path z q))

  pick-both : {B : Type 0} (b : Bool) (x : B) → cond b x x ≡ x
  pick-both true x = refl
  pick-both false x = refl

  abs-law : (v w : View) (r r' : Root) (a : Change) (q : Path) (nm : Name) (P : ℕ) (e : Entry) (cs : List ℕ) (s : Tree) (D : ℕ) (n : ℕ) (cs' : List ℕ) (s' : Tree)
      → Site v r q P e cs s D → path a ≡ q ++ (nm ∷ []) → parent (path a) ≡ q → Moved r r' q (Slot.directory e cs) s (Slot.directory (with_length e n) cs') s'
      → ((m : Name) (z : Path) → tell standing none (look_in s' (m ∷ z)) ≡ cond (same_path (m ∷ z) (nm ∷ [])) ((op y a).puts (abstract_of y v r) (path a)) (tell standing none (look_in s (m ∷ z))))
      → ((m : Name) (z : Path) → tell (room_of_slot y) no_room (look_in s' (m ∷ z)) ≡ cond (same_path (m ∷ z) (nm ∷ [])) ((op y a).rooms (abstract_of y v r) (path a)) (tell (room_of_slot y) no_room (look_in s (m ∷ z))))
      → (room_of_slot y) (Slot.directory (with_length e n) cs') s' ≡ worked (op y a) ((room_of_slot y) (Slot.directory e cs) s)
      → total_below (λ c. is_free (takeable y.may_take w.link c)) y.alloc_end ≡ (abstract_of y v r).free - need (op y a) (abstract_of y v r) + (op y a).freed (abstract_of y v r)
      → abstract_of y w r' ≡ effect (op y a) (abstract_of y v r)
  unfolding effect
  abs-law v w r r' a q nm P e cs s D n cs' s' t pe qe mv lf lr rq fq = λ i. record { look = looks i; room = rooms i; free = fq i }
    where
      σ : AbstractCard
      σ = abstract_of y v r

      at-q : {B : Type 0} (f : Slot → Tree → B) (b : B) → tell f b (look_from (root_slot r) r.slots q) ≡ f (Slot.directory e cs) s
      at-q f b = ap (tell f b) (rw (append-nil q) at (t.here []))

      looks : (abstract_of y w r').look ≡ (effect (op y a) σ).look
      looks = fun_ext (λ z. path-law standing none v r r' q P e cs s D (Slot.directory (with_length e n) cs') s' nm ((op y a).puts σ (path a)) t mv (stable-fact e (with_length e n) cs cs' s s') lf z ∙ one z)
        where
          one : (z : Path) → cond (same_path z (q ++ (nm ∷ []))) ((op y a).puts σ (path a)) (cond (same_path z q) (standing (Slot.directory (with_length e n) cs') s') (σ.look z)) ≡ (effect (op y a) σ).look z
          one z =
              rw (pe, ← at-q standing none, pick-self σ.look (λ x. x) z q, pick-both (same_path z q) (σ.look z))

      rooms : (abstract_of y w r').room ≡ (effect (op y a) σ).room
      rooms = fun_ext (λ z. path-law (room_of_slot y) no_room v r r' q P e cs s D (Slot.directory (with_length e n) cs') s' nm ((op y a).rooms σ (path a)) t mv (stable e (with_length e n) cs cs' s s') lr z ∙ one z)
        where
          one : (z : Path) → cond (same_path z (q ++ (nm ∷ []))) ((op y a).rooms σ (path a)) (cond (same_path z q) ((room_of_slot y) (Slot.directory (with_length e n) cs') s') (σ.room z)) ≡ (effect (op y a) σ).room z
          one z =
              ap (λ x. cond (same_path z (q ++ (nm ∷ []))) ((op y a).rooms σ (path a)) (cond (same_path z q) x (σ.room z))) (rq ∙ ap (worked (op y a)) (sym (at-q (room_of_slot y) no_room)))
              ∙ ap (λ x. cond (same_path z (q ++ (nm ∷ []))) ((op y a).rooms σ (path a)) x) (pick-self σ.room (worked (op y a)) z q)
              ∙ ap (λ x. cond (same_path z x) ((op y a).rooms σ (path a)) (cond (same_path z q) (worked (op y a) (σ.room z)) (σ.room z))) (sym pe)
              ∙ ap (λ x. cond (same_path z (path a)) ((op y a).rooms σ (path a)) (cond (same_path z x) (worked (op y a) (σ.room z)) (σ.room z))) (sym qe)

  -- What a plan makes of the card, said of the abstract card: slot `u.index` becomes x.
  pub acted : (v : View) (r : Root) → HoldsCard v r → ((c : ℕ) → y.alloc_end ≤ c → v.link c ≡ Link.free) → (a : Change) (q : Path) (nm : Name) (d : Directory) (s : Tree) (D : ℕ)
      → Site v r q d.page d.entry d.chain s D → path a ≡ q ++ (nm ∷ []) → parent (path a) ≡ q → (u : Edit) (x : Slot)
      → let p = made y v d u in
      let s' = set_slot u.index x end s in
      (sh : Shape d.entry s u.index u.new_length u.growing) → (room : u.growing + u.own ≤ length (free_clusters y v))
      → Fits v (reached r) p (record { slot_index = u.index; directory_slots = s; new_slot = x })
      → HoldsSlot (after v p) D p.slot_page x → entry_pages x ≡ []
      → ((m : Name) → is_named x m ≡ same_name nm m) ⊎ (((m : Name) → is_named x m ≡ false) × (name_uses s' nm ≡ 0))
      → ((m : Name) → same_name nm m ≡ false → old_name u.index s m ≡ 0) → ((k : Name) (z : Path) → look_in s (nm ∷ k ∷ z) ≡ absent)
      → tell standing none (look_in s' (nm ∷ [])) ≡ (op y a).puts (abstract_of y v r) (path a)
      → tell (room_of_slot y) no_room (look_in s' (nm ∷ [])) ≡ (op y a).rooms (abstract_of y v r) (path a)
      → (room_of_slot y) (Slot.directory (with_length d.entry u.new_length) (d.chain ++ p.growth)) s' ≡ worked (op y a) ((room_of_slot y) (Slot.directory d.entry d.chain) s)
      → u.own + u.growing ≡ need (op y a) (abstract_of y v r) → returned y u.given ≡ (op y a).freed (abstract_of y v r)
      → (r' : Root) × HoldsCard (after v p) r' × ((c : ℕ) → y.alloc_end ≤ c → (after v p).link c ≡ Link.free) × (abstract_of y (after v p) r' ≡ effect (op y a) (abstract_of y v r))
  acted v r h tab a q nm d s D t pe qe u x sh room ft hd nx hx ho hb fn rn rq nd fd =
      (z.0, z.1, table, abs-law v w r z.0 a q nm d.page d.entry d.chain s D u.new_length (d.chain ++ p.growth) (set_slot u.index x end s) t pe qe z.2 lf lr rq fq)
    where
      p : Plan
      p = made y v d u

      w : View
      w = after v p

      st : Step v w (reached r) d.page d.entry d.chain s (with_length d.entry u.new_length) p.growth u.index p.slot_page x end (fresh p)
      st = step v (reached r) p ft

      z : (r' : Root) × HoldsCard w r' × Moved r r' q (Slot.directory d.entry d.chain) s (Slot.directory (with_length d.entry u.new_length) (d.chain ++ p.growth)) (set_slot u.index x end s)
      z = t.finish w (with_length d.entry u.new_length) p.growth u.index p.slot_page x end (fresh p) st (hd, (λ m. omega arith), rw nx tt)

      table : (c : ℕ) → y.alloc_end ≤ c → w.link c ≡ Link.free
      table c l =
          st.words c (omega (arith, t.own c, card-used v r h c (tab c l), old-le x end u.index s c, fs-low v u.growing u.own c l, gs-low v u.growing c l)) ∙ tab c l

      lf : (m : Name) (l : Path) → tell standing none (look_in (set_slot u.index x end s) (m ∷ l)) ≡ cond (same_path (m ∷ l) (nm ∷ [])) ((op y a).puts (abstract_of y v r) (path a)) (tell standing none (look_in s (m ∷ l)))
      lf m l = level-law standing none u.index x s nm ft.low ft.uniq hx ho hb m l ∙ ap (λ b. cond (same_path (m ∷ l) (nm ∷ [])) b (tell standing none (look_in s (m ∷ l)))) fn

      lr : (m : Name) (l : Path) → tell (room_of_slot y) no_room (look_in (set_slot u.index x end s) (m ∷ l)) ≡ cond (same_path (m ∷ l) (nm ∷ [])) ((op y a).rooms (abstract_of y v r) (path a)) (tell (room_of_slot y) no_room (look_in s (m ∷ l)))
      lr m l = level-law (room_of_slot y) no_room u.index x s nm ft.low ft.uniq hx ho hb m l ∙ ap (λ b. cond (same_path (m ∷ l) (nm ∷ [])) b (tell (room_of_slot y) no_room (look_in s (m ∷ l)))) rn

      fq : total_below (λ c. is_free (takeable y.may_take w.link c)) y.alloc_end ≡ (abstract_of y v r).free - need (op y a) (abstract_of y v r) + (op y a).freed (abstract_of y v r)
      fq = omega (arith, free_law v r p h ft (new-free v u.growing u.own) (λ c l. fs-low v u.growing u.own c l) (λ c l. gs-low v u.growing c l), fs-long v u.growing u.own room, gs-long v u.growing u.own room, length-free (takeable y.may_take v.link) y.alloc_end)
