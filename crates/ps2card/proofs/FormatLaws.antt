-- What the code is told of a format's number decides which answer is meant.
use Rattle.std.specs.Prelude.{None, Option, Some}
use Prim.Native.Nat.{ℕ}
use mathlib.Core.Bool.{Bool, cond, false, true}
use mathlib.Core.Path.{◌∙◌, ◌≡◌, ap, refl, sym}
use native.Mathlib.Omega.{arith}
use lib.Dec.{eqb}
use Rattle.page.specs.declared.Format.{Format}
use Rattle.page.specs.declared.Format.TheVariants.{Plain, Raw}
use Rattle.ps2card.specs.Formats.{by_format}
use Rattle.ps2card.specs.Named.{named_by}

module _ {A : Type 0} (refused : A) (answer : Format → A) (number : ℕ) {told : Option Format} (named : told ≡ named_by number) where
  pub known_so : {format : Format} → told ≡ Some format → by_format number refused answer ≡ answer format
  known_so {format} e = go (eqb number 0) (eqb number 1) (sym named ∙ e)
    where
      go : (a b : Bool) → cond a (Some Raw) (cond b (Some Plain) None) ≡ Some format → cond a (answer Raw) (cond b (answer Plain) refused) ≡ answer format
      go true b h = let z : Raw ≡ format = cc in ap answer z
      go false true h = let z : Plain ≡ format = cc in ap answer z
      go false false h = absurd (let z : ◌≡◌ {A = ℕ} 0 1 = cc in omega arith)

  pub unknown-so : told ≡ None → by_format number refused answer ≡ refused
  unknown-so e = go (eqb number 0) (eqb number 1) (sym named ∙ e)
    where
      go : (a b : Bool) → cond a (Some Raw) (cond b (Some Plain) None) ≡ None → cond a (answer Raw) (cond b (answer Plain) refused) ≡ refused
      go true b h = absurd (let z : ◌≡◌ {A = ℕ} 0 1 = cc in omega arith)
      go false true h = absurd (let z : ◌≡◌ {A = ℕ} 0 1 = cc in omega arith)
      go false false h = refl
