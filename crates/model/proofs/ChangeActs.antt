-- Every accepted change has its plan, and the plan does on the card what the change does on the abstract card.
use Prim.Native.Nat.{◌≤◌, ℕ}
use mathlib.Core.Path.{◌≡◌}
use Rattle.model.specs.Change.{Change, Rules, create, delete, make_directory, remove_directory, replace}
use Rattle.model.specs.Holds.{HoldsCard}
use Rattle.model.specs.Tree.{Root}
use Rattle.model.specs.View.{Link, View}
use Rattle.model.proofs.AbstractCards.{abstract_of}
use Rattle.model.proofs.ChangeOperations.{op}
use Rattle.model.proofs.Creations.{act-create, act-mkdir}
use Rattle.model.proofs.Operations.{AbstractCard, Accepts}
use Rattle.model.proofs.Outcome.{Outcome}
use Rattle.model.proofs.Removals.{act-delete, act-rmdir}
use Rattle.model.proofs.Replacements.{act-replace}

module _ (y : Rules) where
  module _ (v : View) (r : Root) (h : HoldsCard v r) (tab : (c : ℕ) → y.alloc_end ≤ c → v.link c ≡ Link.free) where
    abbrev σ : AbstractCard
    σ = abstract_of y v r

    -- Every accepted change.
    pub acts : (a : Change) → Accepts (op y a) σ → Outcome y v r a
    acts (create p t b) o = act-create y v r h tab p t b o
    acts (make_directory p t) o = act-mkdir y v r h tab p t o
    acts (replace p t b) o = act-replace y v r h tab p t b o
    acts (delete p) o = act-delete y v r h tab p o
    acts (remove_directory p) o = act-rmdir y v r h tab p o
