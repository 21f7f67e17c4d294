-- The claims of specs/Claims hold: the check, the counts, one change and demand 3.
use Prim.Native.Nat.{◌+◌, suc, zero, ℕ}
use mathlib.Core.Bool.{Bool, ◌||◌, cond, false, true}
use mathlib.Core.List.{[]}
use mathlib.Core.Logic.{◌⊎◌, inl, inr}
use mathlib.Core.Option.{some}
use mathlib.Core.Path.{◌∙◌, ◌≡◌, ap, fun_ext, refl, sym}
use native.Mathlib.Omega.{arith}
use Rattle.model.specs.Change.{Change, Rules, create, delete, make_directory, path, remove_directory, replace, standing_after}
use Rattle.model.specs.Claims.{Accepted, AcceptedExactly, ViewChangeKeeps, CheckIsHolding, ViewCommute, ViewCountsAddUp, ViewDemand3, ViewKept, ViewOrder, chain_back, chain_in}
use Rattle.model.specs.Counts.{total_below}
use Rattle.model.specs.Lookup.{Found, absent, found, look_up, tell}
use Rattle.model.specs.Names.{Path, beginning, parent, same_path}
use Rattle.model.specs.Perform.{Answer, decide, done, perform, perform_on, refused, write}
use Rattle.model.specs.Plan.{after, free_of, held_of, plan_of, returned, withheld}
use Rattle.model.specs.Refusal.{lock_refusal, locked, needed, refusal, static}
use Rattle.model.specs.Standing.{standings_of, tree_of}
use Rattle.model.specs.Tree.{Slot, reached}
use Rattle.model.specs.View.{Link, View}
use Rattle.model.proofs.AbstractCards.{abstract_of, no_room, room_of_slot}
use Rattle.model.proofs.Allocation.{four-counts}
use Rattle.model.proofs.ChangeActs.{acts}
use Rattle.model.proofs.ChangeOperations.{Both, demand-3, op, standing_own, standing_way}
use Rattle.model.proofs.CheckHolds.{check-holds, holds-check}
use Rattle.model.proofs.Directories.{first-0}
use Rattle.model.proofs.Equality.{Eq-path, bool, tf}
use Rattle.model.proofs.Operations.{AbstractCard, Accepts, effect, need}
use Rattle.model.proofs.Outcome.{Outcome}
use Rattle.model.proofs.PerformLaws.{Sound, abs_is, abs_r, abstract, machine, performs, ran, view_of}
use Rattle.model.proofs.PlanActs.{held-law, untaken-law}
use Rattle.model.proofs.Refusals.{needed-is, refusal-accepts}

pub check-is-holding : CheckIsHolding
check-is-holding =
    record {
      sound = λ v r m e. let h = check-holds v r m e in (h.0, fun_ext h.1);
      complete = λ v r h. holds-check v r h;
    }

pub counts-add-up : ViewCountsAddUp
counts-add-up may_take alloc_end v r m e = four-counts may_take v r (check-holds v r m e).0 alloc_end

module _ (y : Rules) (v : View) (a : Accepted y v) where
  abbrev pub sound-of : Sound y v
  sound-of = (a.root, (check-holds v a.root a.marks a.checked).0, a.no_words)

  pub tree_is : (q : Path) → tree_of v q ≡ (abstract y v).look q
  unfolding tree_of abstract
  tree_is q = ap (λ x. standings_of x q) a.checked ∙ ap (λ x. (abs_r y v x).look q) (sym a.checked)

  pub free-is : (abstract y v).free ≡ free_of y v
  unfolding abstract
  free-is = ap (λ x. (abs_r y v x).free) a.checked

accepted-of : (y : Rules) (v : View) → Sound y v → Accepted y v
accepted-of y v s = record { root = s.0; marks = reached s.0; checked = holds-check v s.0 s.1; no_words = s.2 }

view-done : (x : Answer) (w : View) → x ≡ done w → view_of x ≡ some w
view-done x w e = ap view_of e

done-view : (x : Answer) (w : View) → view_of x ≡ some w → x ≡ done w
done-view (refused n p) w e = absurd (let z : ◌≡◌ {A = ℕ} 0 1 = cc in omega arith)
done-view (done u) w e = let z : u ≡ w = cc in ap done z

-- ---- one change

module _ (y : Rules) (v : View) (a : Accepted y v) (c : Change) (w : View) (e : perform y c v ≡ done w) where
  ran-so : Sound y w × Accepts (op y c) (abstract y v) × (abstract y w ≡ effect (op y c) (abstract y v))
  ran-so = ran y c v w (sound-of y v a) (view-done (perform y c v) w e)

  again : Accepted y w
  again = accepted-of y w ran-so.0

  passed : Accepts (op y c) (abstract_of y v a.root)
  passed = rw (abs_is y v (sound-of y v a)) at ran-so.1

  need-is : need (op y c) (abstract y v) ≡ needed c a.root
  need-is = ap (need (op y c)) (abs_is y v (sound-of y v a)) ∙ sym (needed-is y v a.root (sound-of y v a).1 c passed.0)

  paths : (q : Path) → tree_of w q ≡ cond (same_path q (path c)) (standing_after c (tree_of v q)) (tree_of v q)
  unfolding effect
  paths q =
      tree_is y w again q ∙ ap (λ (s : AbstractCard). s.look q) ran-so.2
      ∙ own-path (bool (same_path q (path c)))
      ∙ ap (λ o. cond (same_path q (path c)) (standing_after c o) o) (sym (tree_is y v a q))
    where
      own-path : (same_path q (path c) ≡ true) ⊎ (same_path q (path c) ≡ false)
          → cond (same_path q (path c)) (standing_after c ((abstract y v).look (path c))) ((abstract y v).look q)
          ≡ cond (same_path q (path c)) (standing_after c ((abstract y v).look q)) ((abstract y v).look q)
      own-path (inl i) = rw i (ap (λ z. standing_after c ((abstract y v).look z)) (sym (Eq-path.sound q (path c) i)))
      own-path (inr i) = rw i

  nothing-back : returned y [] ≡ 0
  nothing-back = go y.alloc_end
    where
      none_of : (b : Bool) → ◌≡◌ {A = ℕ} (cond b 0 0) 0
      none_of true = refl
      none_of false = refl

      go : (k : ℕ) → total_below (λ d. cond (y.may_take d) 0 0) k ≡ 0
      go zero = refl
      go (suc k) = omega (arith, go k, none_of (y.may_take k))

  back_is : (op y c).freed (abstract y v) ≡ returned y (chain_back c a.root)
  back_is = ap (op y c).freed (abs_is y v (sound-of y v a)) ∙ go c
    where
      at : (g : Found) → (tell (room_of_slot y) no_room g).back ≡ returned y (tell chain_in [] g)
      at absent = sym nothing-back
      at (found Slot.dead s) = sym nothing-back
      at (found (Slot.file e cs ds) s) = refl
      at (found (Slot.directory e cs) s) = refl

      go : (c : Change) → (op y c).freed (abstract_of y v a.root) ≡ returned y (chain_back c a.root)
      go (create p t b) = sym nothing-back
      go (make_directory p t) = sym nothing-back
      go (replace p t b) = at (look_up a.root p)
      go (delete p) = at (look_up a.root p)
      go (remove_directory p) = at (look_up a.root p)

  -- the change's plan, and the view that it leaves
  outcome : Outcome y v a.root c
  outcome = let s = sound-of y v a in acts y v s.0 s.1 s.2 c passed

  left : after v outcome.plan ≡ w
  unfolding outcome
  left = let z : done (after v outcome.plan) ≡ done w = sym (performs y c v (sound-of y v a) passed) ∙ e in cc

  held : held_of y w ≡ held_of y v + withheld y (chain_back c a.root)
  held =
      ap (held_of y) (sym left) ∙ held-law y v a.root outcome.plan (sound-of y v a).1 outcome.deed.fit outcome.pool
      ∙ ap (λ cs. held_of y v + withheld y cs) outcome.back

  untaken : (d : ℕ) → y.may_take d ≡ false → v.link d ≡ Link.free → w.link d ≡ Link.free
  untaken d n f =
      ap (λ (u : View). u.link d) (sym left) ∙ untaken-law y v a.root outcome.plan (sound-of y v a).1 outcome.deed.fit outcome.pool d n f

  -- where the change was accepted, neither its path nor its directory is locked
  unlocked : (locked (tree_of v (path c)) || locked (tree_of v (parent (path c)))) ≡ false
  unfolding lock_refusal
  unlocked =
      let passed-static = first-0 (static c) _ ran-so.1.0 in
      let passed-way = first-0 (standing_way (abstract y v).look (path c)) _ passed-static.1 in
      let passed-own = first-0 (standing_own y c ((abstract y v).look (path c)) ((abstract y v).room (path c))) _ passed-way.1 in
      rw (tree_is y v a (path c), tree_is y v a (parent (path c))) (none_of _ passed-own.1)
    where
      none_of : (b : Bool) → ◌≡◌ {A = ℕ} (cond b 16 0) 0 → b ≡ false
      none_of true e = absurd (omega arith)
      none_of false e = refl

  locks : (q : Path) → (locked (tree_of v q) || locked (tree_of v (parent q))) ≡ true → tree_of w q ≡ tree_of v q
  locks q l = paths q ∙ go (bool (same_path q (path c)))
    where
      go : (same_path q (path c) ≡ true) ⊎ (same_path q (path c) ≡ false) → cond (same_path q (path c)) (standing_after c (tree_of v q)) (tree_of v q) ≡ tree_of v q
      go (inl i) = tf l (ap (λ p. locked (tree_of v p) || locked (tree_of v (parent p))) (Eq-path.sound q (path c) i) ∙ unlocked)
      go (inr i) = rw i

  pub kept : ViewKept y c v w a.root
  unfolding effect
  kept =
      record {
        again = again;
        paths = paths;
        room = let n = ran-so.1.1 in omega (arith, need-is, free-is y v a);
        free =
            sym (free-is y w again) ∙ ap (λ (s : AbstractCard). s.free) ran-so.2
            ∙ rw (need-is, free-is y v a, back_is);
        held = held;
        untaken = untaken;
        locks = locks;
      }

pub change-keeps : ViewChangeKeeps
change-keeps y v a c w e = kept y v a c w e

pub accepted-exactly : AcceptedExactly
unfolding perform
accepted-exactly y v a c = (
  (λ z. let s = sound-of y v a in (after v (acts y v s.0 s.1 s.2 c (refusal-accepts y v s.0 s.1 c z)).plan, performs y c v s (refusal-accepts y v s.0 s.1 c z))),
  (λ n z. refuses n z),
)
  where
    refuses : (n : ℕ) → refusal y c v a.root ≡ suc n → perform y c v ≡ refused (suc n) 0
    refuses n z = ap (perform_on y c v) a.checked ∙ ap (λ m. decide m (write v (plan_of y c v a.root))) z

-- ---- demand 3

module _ (y : Rules) (v : View) where
  abbrev to_both : (a b : Change) → ViewOrder y v a b → Both y (machine y) v a b
  to_both a b o = (o.between, o.final, view-done (perform y a v) o.between o.first_done, view-done (perform y b o.between) o.final o.then_done)

  abbrev of-both : (a b : Change) → Both y (machine y) v a b → ViewOrder y v a b
  of-both a b o = record { between = o.0; final = o.1; first_done = done-view (perform y a v) o.0 o.2; then_done = done-view (perform y b o.0) o.1 o.3 }

  module _ (s : Sound y v) (a b : Change) (h : beginning (path a) (path b) ≡ false) (k : beginning (path b) (path a) ≡ false) where
    end-sound : (x z : Change) (o : ViewOrder y v x z) → Accepted y o.final
    end-sound x z o =
        let w = to_both x z o in
        accepted-of y o.final (ran y z o.between o.final (ran y x v o.between s w.2).0 w.3).0

    pub commute : ViewCommute y v a b
    commute =
        let d = demand-3 y (machine y) v s a b h k in
        record {
          tree = λ m n q. tree_is y m.final (end-sound a b m) q ∙ (d.0 (to_both a b m) (to_both b a n)).0 q ∙ sym (tree_is y n.final (end-sound b a n) q);
          free = λ m n x. sym (free-is y m.final (end-sound a b m)) ∙ (d.0 (to_both a b m) (to_both b a n)).1 x ∙ free-is y n.final (end-sound b a n);
          creations = λ p q. let t = d.1 p q in ((λ o. of-both b a (t.0 (to_both a b o))), (λ o. of-both a b (t.1 (to_both b a o))));
        }

pub demand-3-holds : ViewDemand3
demand-3-holds y v a x z h k = commute y v (sound-of y v a) x z h k
