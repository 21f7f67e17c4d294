-- An answer tells of a call's result either its refusal or a value of what it gives.
use Rattle.std.specs.Prelude.{None, Some}
use Rattle.std.proofs.Math.Option as math
use Prim.Native.Nat.{ℕ}
use mathlib.Core.Path.{◌≡◌, refl, sym}
use native.Mathlib.Omega.{arith}
use Rattle.lookup.specs.Answers.{stepped_in}
use Rattle.lookup.specs.declared.stepping.Stepped.{Stepped}
use Rattle.model.proofs.CheckHolds.{ok-inj}
use Rattle.model.specs.Check.{Result, and_then, fault, ok}
use Rattle.model.specs.Entry.{Entry}
use Rattle.fields.specs.Entries.{fields_of_entry}
use Rattle.tree.proofs.SlotSteps.{fault-ok}

module _ {A B : Type 0} (f : A → B) where
  pub told-refused : {x : Result A} {n p : ℕ} → fault n p ≡ and_then x (λ a. ok (f a)) → x ≡ fault n p
  unfolding and_then
  told-refused {x = fault m q} {n} {p} h = let a : ◌≡◌ {A = ℕ} m n = cc in let b : ◌≡◌ {A = ℕ} q p = cc in rw (a, b)
  told-refused {x = ok a} {n} {p} h = fault-ok n p (f a) h

  pub told-value : {x : Result A} {b : B} → ok b ≡ and_then x (λ a. ok (f a)) → (a : A) × (x ≡ ok a) × (b ≡ f a)
  unfolding and_then
  told-value {x = fault m q} {b} h = fault-ok m q b (sym h)
  told-value {x = ok a} {b} h = (a, refl, ok-inj b (f a) h)

-- the end of a step, or the entry in the slot that it tells
pub told-end : {x : Result (math.Option (ℕ × Entry))} → ok None ≡ and_then x (λ o. ok (stepped_in o)) → x ≡ ok math.none
told-end {x} h = let y = told-value stepped_in h in go y.0 y.1 y.2
  where
    go : (o : math.Option (ℕ × Entry)) → x ≡ ok o → None ≡ stepped_in o → x ≡ ok math.none
    go math.none i e = i
    go (math.some a) i e = absurd (let z : ◌≡◌ {A = ℕ} 0 1 = cc in omega arith)

pub told-slot : {x : Result (math.Option (ℕ × Entry))} {s : Stepped} → ok (Some s) ≡ and_then x (λ o. ok (stepped_in o))
    → (y : ℕ × Entry) × (x ≡ ok (math.some y)) × (s ≡ record { slot = y.0; entry = fields_of_entry y.1 })
told-slot {x} {s} h = let y = told-value stepped_in h in go y.0 y.1 y.2
  where
    go : (o : math.Option (ℕ × Entry)) → x ≡ ok o → Some s ≡ stepped_in o → (y : ℕ × Entry) × (x ≡ ok (math.some y)) × (s ≡ record { slot = y.0; entry = fields_of_entry y.1 })
    go math.none i e = absurd (let z : ◌≡◌ {A = ℕ} 0 1 = cc in omega arith)
    go (math.some a) i e = (a, i, cc)
