-- Demand 3 and the queues of anything that is seen through a view: raw images, plain images.
use Prim.Native.Nat.{◌/◌, ◌≤◌, ℕ}
use mathlib.Core.Bool.{false, true}
use mathlib.Core.Logic.{◌↔◌}
use mathlib.Core.Option.{Option, some}
use mathlib.Core.Path.{◌∙◌, ◌≡◌}
use native.Mathlib.Omega.{arith}
use Rattle.model.specs.Change.{Change, Crossed, Rules, creates, path}
use Rattle.model.specs.Holds.{HoldsCard, deepest}
use Rattle.model.specs.Names.{Path, beginning}
use Rattle.model.specs.Tree.{Root, Slot, reached, times}
use Rattle.model.specs.View.{View}
use Rattle.model.proofs.ChangeOperations.{Machine, demand-3}
use Rattle.model.proofs.Frame.{SameP, dots-frame, frame, links-frame, needs, parts-le}
use Rattle.model.proofs.PerformLaws.{Sound, abstract, machine, ran, run}
use Rattle.model.proofs.StepHolds.{root-page}

-- What no chain reaches may change.
pub card-frame : (v w : View) (r : Root) → ((p : ℕ) → 1 ≤ reached r (p / 2) → SameP v w p) → ((c : ℕ) → 1 ≤ reached r c → w.link c ≡ v.link c) → HoldsCard v r → HoldsCard w r
card-frame v w r k m h =
    record {
      root_page = (shown 0 (root-page v r.chain h.links)).0 ∙ h.root_page;
      good = h.good;
      long = h.long;
      links = links-frame v w _ r.chain (λ c u. m c (omega arith)) h.links;
      dots = dots-frame v w r.chain (λ p u. (shown p u).0) h.dots;
      uniq = h.uniq;
      rep = frame v w deepest _ r.slots (λ p u. k p (omega (arith, parts-le (Slot.directory r.root_entry r.chain) p))) (λ c u. m c (omega arith)) h.rep;
      once = h.once;
    }
  where
    shown : (p : ℕ) → 1 ≤ times (needs (Slot.directory r.root_entry r.chain)) p → SameP v w p
    shown p u = k p (omega (arith, parts-le (Slot.directory r.root_entry r.chain) p))

-- A format: what is seen of an image, and changes on images that do to the view what the changes on views do.
module _ (y : Rules) (Img : Type 0) (Good : Img → Type 0) (see : Img → View) (run_i : Change → Img → Option Img)
    (done : (c : Change) (g g' : Img) → Good g → Sound y (see g) → run_i c g ≡ some g' → Good g' × (run y c (see g) ≡ some (see g')))
    (does : (c : Change) (g : Img) (w : View) → Good g → Sound y (see g) → run y c (see g) ≡ some w → (g' : Img) × (run_i c g ≡ some g')) where
  abbrev pub of-images : Machine y
  of-images =
      record {
        State = Img;
        Sound = λ g. Good g × Sound y (see g);
        abstract = λ g. abstract y (see g);
        run = run_i;
        ran = λ c g g' s e. let d = done c g g' s.0 s.1 e in let z = ran y c (see g) (see g') s.1 d.1 in ((d.0, z.0), z.1, z.2);
        runs = λ c g s o. let z = (machine y).runs c (see g) s.1 o in does c g z.0 s.0 s.1 z.1;
      }

  abbrev pub Turn : Img → Change → Change → Type 0
  Turn g a b = (g' : Img) × (g'' : Img) × (run_i a g ≡ some g') × (run_i b g' ≡ some g'')

  pub demand-of-images : (g : Img) → Good g → Sound y (see g) → (a b : Change) → beginning (path a) (path b) ≡ false → beginning (path b) (path a) ≡ false
      → ((m : Turn g a b) (n : Turn g b a)
      → ((p : Path) → (abstract y (see m.1)).look p ≡ (abstract y (see n.1)).look p)
      × (¬ Crossed a b → (abstract y (see m.1)).free ≡ (abstract y (see n.1)).free))
      × (creates a ≡ true → creates b ≡ true → Turn g a b ↔ Turn g b a)
  demand-of-images g l s a b h k = demand-3 y of-images g (l, s) a b h k
