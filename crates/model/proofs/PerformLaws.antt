-- A change on a view, from the check to the view that it leaves, does what its operation does: views are a machine for the operations.
use Prim.Native.Nat.{◌≤◌, suc, zero, ℕ}
use mathlib.Core.Option.{Option, none, some}
use mathlib.Core.Path.{◌∙◌, ◌≡◌, ap, refl, subst, sym}
use native.Mathlib.Omega.{arith}
use Rattle.model.specs.Change.{Change, Rules}
use Rattle.model.specs.Check.{Marks, Result, check_tree, fault, ok}
use Rattle.model.specs.Holds.{HoldsCard}
use Rattle.model.specs.Perform.{Answer, decide, done, perform, perform_on, refused, write}
use Rattle.model.specs.Plan.{after, plan_of}
use Rattle.model.specs.Refusal.{refusal}
use Rattle.model.specs.Tree.{Root}
use Rattle.model.specs.View.{Link, View}
use Rattle.model.proofs.AbstractCards.{abstract_of, no_room}
use Rattle.model.proofs.ChangeActs.{acts}
use Rattle.model.proofs.ChangeOperations.{Machine, op}
use Rattle.model.proofs.CheckHolds.{holds-check}
use Rattle.model.proofs.Operations.{AbstractCard, Accepts, effect}
use Rattle.model.proofs.Refusals.{accepts-refusal, refusal-accepts}

abbrev pub view_of : Answer → Option View
view_of (refused n p) = none
view_of (done w) = some w

module _ (y : Rules) where
  abbrev pub abs_r : View → Result (Root × Marks) → AbstractCard
  abs_r v (fault n p) = record { look = λ q. none; room = λ q. no_room; free = 0 }
  abs_r v (ok x) = abstract_of y v x.0

  -- the tree, the rooms and the free count of a card
  unfoldable pub abstract : View → AbstractCard
  abstract v = abs_r v (check_tree v)

  -- a change on a card: the card after it, or nothing where it is refused
  abbrev pub run : Change → View → Option View
  run c v = view_of (perform y c v)

  -- a card that the check accepts, with no word from alloc_end on
  abbrev pub Sound : View → Type 0
  Sound v = (r : Root) × HoldsCard v r × ((c : ℕ) → y.alloc_end ≤ c → v.link c ≡ Link.free)

  pub abs_is : (v : View) (s : Sound v) → abstract v ≡ abstract_of y v s.0
  unfolding abstract
  abs_is v s = ap (abs_r v) (holds-check v s.0 s.1)

  some-eq : {A : Type 0} (a b : A) → some a ≡ some b → a ≡ b
  some-eq a b e = cc

  -- An accepted change leaves the view that its plan gives.
  pub performs : (c : Change) (v : View) (s : Sound v) (o : Accepts (op y c) (abstract_of y v s.0))
      → perform y c v ≡ done (after v (acts y v s.0 s.1 s.2 c o).plan)
  unfolding perform
  performs c v s o =
      ap (perform_on y c v) (holds-check v s.0 s.1)
      ∙ ap (λ n. decide n (write v (plan_of y c v s.0))) (accepts-refusal y v s.0 s.1 c o)
      ∙ ap (write v) (acts y v s.0 s.1 s.2 c o).planned

  pub runs : (c : Change) (v : View) (s : Sound v) (o : Accepts (op y c) (abstract_of y v s.0)) → run c v ≡ some (after v (acts y v s.0 s.1 s.2 c o).plan)
  runs c v s o = ap view_of (performs c v s o)

  decided : (n : ℕ) (a : Answer) (w : View) → view_of (decide n a) ≡ some w → n ≡ 0
  decided zero a w e = refl
  decided (suc n) a w e = absurd (let z : ◌≡◌ {A = ℕ} 0 1 = cc in omega arith)

  -- What was done met no refusal.
  pub ran-ok : (c : Change) (v w : View) (s : Sound v) → run c v ≡ some w → Accepts (op y c) (abstract_of y v s.0)
  unfolding perform
  ran-ok c v w s e =
      refusal-accepts y v s.0 s.1 c
      (decided (refusal y c v s.0) (write v (plan_of y c v s.0)) w (sym (ap (λ x. view_of (perform_on y c v x)) (holds-check v s.0 s.1)) ∙ e))

  abbrev after-sound : (c : Change) (v : View) (s : Sound v) (o : Accepts (op y c) (abstract_of y v s.0)) → Sound (after v (acts y v s.0 s.1 s.2 c o).plan)
  after-sound c v s o = let t = acts y v s.0 s.1 s.2 c o in (t.root, t.card, t.table)

  pub ran : (c : Change) (v w : View) → Sound v → run c v ≡ some w → Sound w × Accepts (op y c) (abstract v) × (abstract w ≡ effect (op y c) (abstract v))
  ran c v w s e =
      let o = ran-ok c v w s e in
      let q : after v (acts y v s.0 s.1 s.2 c o).plan ≡ w = some-eq _ _ (sym (runs c v s o) ∙ e) in
      let k : Sound w = subst Sound q (after-sound c v s o) in (
        k,
        rw (abs_is v s) o,
        ap abstract (sym q) ∙ abs_is _ (after-sound c v s o) ∙ (acts y v s.0 s.1 s.2 c o).same ∙ ap (effect (op y c)) (sym (abs_is v s)),
      )

  abbrev pub machine : Machine y
  machine =
      record {
        State = View;
        Sound = Sound;
        abstract = abstract;
        run = run;
        ran = λ c v w s e. ran c v w s e;
        runs = λ c v s o. let o' = rw (abs_is v s) at o in (after v (acts y v s.0 s.1 s.2 c o').plan, runs c v s o');
      }
