-- What is claimed of the model.
use Rattle.std.specs.Prelude.{◌+◌, ◌-◌, ◌≤◌, suc, ℕ, Bool, ◌||◌, cond, false, true, List, [], ◌↔◌, ◌≡◌}
use Rattle.std.proofs.Math.Option.{some}
use Rattle.model.specs.Change.{Change, Crossed, Rules, creates, path, standing_after}
use Rattle.model.specs.Check.{Marks, SoundChain, check_tree, follow_chain, ok}
use Rattle.model.specs.Counts.{free_count, held_count, orphan_count, reached_count}
use Rattle.model.specs.Holds.{HoldsCard}
use Rattle.model.specs.Lookup.{look_up, tell}
use Rattle.model.specs.Names.{Path, beginning, parent, same_path}
use Rattle.model.specs.Perform.{done, perform, refused}
use Rattle.model.specs.Plan.{Plan, after, free_of, held_of, plan_of, returned, withheld}
use Rattle.model.specs.Refusal.{locked, needed, refusal}
use Rattle.model.specs.Standing.{tree_of}
use Rattle.model.specs.Tree.{Root, Slot, Tree, chain_of, reached}
use Rattle.model.specs.View.{Link, View}
use Rattle.model.specs.Writes.{links_of, page_writes, pages_after, words_after}

-- A view that the check accepts; from alloc_end on there are no table words.
pub record Accepted (y : Rules) (v : View) : Type 0 where
  pub root : Root
  pub marks : Marks
  pub checked : check_tree v ≡ ok (root, marks)
  pub no_words : (c : ℕ) → y.alloc_end ≤ c → v.link c ≡ Link.free

-- ---- the check

-- The chain that the check follows is the sound one, on a view that has no words from alloc_end on.
abbrev pub ChainsAreSound : Type 0
ChainsAreSound =
    (alloc_end : ℕ) (v : View) → ((c : ℕ) → alloc_end ≤ c → v.link c ≡ Link.free)
    → (reached : Marks) (start : Link) (k : ℕ) (cs : List ℕ) → follow_chain v k start reached ≡ some cs ↔ SoundChain alloc_end v reached start k cs

-- The check answers a tree exactly when the view holds it, and what was reached is what its chains use.
pub record CheckIsHolding : Type 0 where
  pub sound : (v : View) (r : Root) (m : Marks) → check_tree v ≡ ok (r, m) → HoldsCard v r × (m ≡ reached r)
  pub complete : (v : View) (r : Root) → HoldsCard v r → check_tree v ≡ ok (r, reached r)

-- Free, reached, orphaned and held back clusters add up to the allocatable ones, whichever may be taken.
abbrev pub ViewCountsAddUp : Type 0
ViewCountsAddUp =
    (may_take : ℕ → Bool) (alloc_end : ℕ) (v : View) (r : Root) (m : Marks) → check_tree v ≡ ok (r, m)
    → free_count may_take alloc_end v + reached_count alloc_end r + orphan_count alloc_end v r + held_count may_take alloc_end v ≡ alloc_end

-- ---- one change

-- the chain that a change gives back: the one that was at its path, where the change is no creation
abbrev pub chain_in : Slot → Tree → List ℕ
chain_in h s = chain_of h

abbrev pub chain_back : Change → Root → List ℕ
chain_back c r = cond (creates c) [] (tell chain_in [] (look_up r (path c)))

-- After an accepted change the card is accepted again; its own path is what the rules say and every other path stays.
-- The free count is the old one less what was taken, plus what came back and may be taken; the rest of that is held back.
-- A free cluster that may not be taken is still free. What is locked stays, and so does all that stands directly inside a locked directory.
pub record ViewKept (y : Rules) (c : Change) (v w : View) (r : Root) : Type 0 where
  pub again : Accepted y w
  pub paths : (q : Path) → tree_of w q ≡ cond (same_path q (path c)) (standing_after c (tree_of v q)) (tree_of v q)
  pub room : needed c r ≤ free_of y v
  pub free : free_of y w ≡ free_of y v - needed c r + returned y (chain_back c r)
  pub held : held_of y w ≡ held_of y v + withheld y (chain_back c r)
  pub untaken : (d : ℕ) → y.may_take d ≡ false → v.link d ≡ Link.free → w.link d ≡ Link.free
  pub locks : (q : Path) → (locked (tree_of v q) || locked (tree_of v (parent q))) ≡ true → tree_of w q ≡ tree_of v q

abbrev pub ViewChangeKeeps : Type 0
ViewChangeKeeps = (y : Rules) (v : View) (a : Accepted y v) (c : Change) (w : View) → perform y c v ≡ done w → ViewKept y c v w a.root

-- A change is accepted exactly when it meets no refusal.
abbrev pub AcceptedExactly : Type 0
AcceptedExactly =
    (y : Rules) (v : View) (a : Accepted y v) (c : Change)
    → (refusal y c v a.root ≡ 0 → (w : View) × (perform y c v ≡ done w))
    × ((n : ℕ) → refusal y c v a.root ≡ suc n → perform y c v ≡ refused (suc n) 0)

-- ---- demand 3

-- Two changes in this order, accepted to its end.
pub record ViewOrder (y : Rules) (v : View) (a b : Change) : Type 0 where
  pub between : View
  pub final : View
  pub first_done : perform y a v ≡ done between
  pub then_done : perform y b between ≡ done final

pub record ViewCommute (y : Rules) (v : View) (a b : Change) : Type 0 where
  pub tree : (one : ViewOrder y v a b) (other : ViewOrder y v b a) (q : Path) → tree_of one.final q ≡ tree_of other.final q
  pub free : (one : ViewOrder y v a b) (other : ViewOrder y v b a) → ¬ Crossed a b → free_of y one.final ≡ free_of y other.final
  pub creations : creates a ≡ true → creates b ≡ true → ViewOrder y v a b ↔ ViewOrder y v b a

-- Any two changes at different paths, neither a beginning of the other, commute on any accepted card.
abbrev pub ViewDemand3 : Type 0
ViewDemand3 =
    (y : Rules) (v : View) → Accepted y v → (a b : Change)
    → beginning (path a) (path b) ≡ false → beginning (path b) (path a) ≡ false → ViewCommute y v a b

-- ---- what is written

-- Of an accepted change, the page writes give the pages of the changed view, and the new words its links.
pub record Written (y : Rules) (v : View) (p : Plan) : Type 0 where
  pub pages : (a : ℕ) → (after v p).page a ≡ pages_after (page_writes v p) v.page a
  pub links : (words : ℕ → ℕ) → ((c : ℕ) → v.link c ≡ links_of y.alloc_end words c) → (c : ℕ) → (after v p).link c ≡ links_of y.alloc_end (words_after p words) c

abbrev pub WritesGiveView : Type 0
WritesGiveView =
    (y : Rules) (v : View) (a : Accepted y v) (c : Change) → refusal y c v a.root ≡ 0
    → (p : Plan) × (plan_of y c v a.root ≡ some p) × Written y v p
