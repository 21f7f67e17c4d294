-- The loop of `descend`: what is left of the names leads on to where the whole path leads.
use Rattle.std.specs.Prelude.{Ok, Err}
use Rattle.std.specs.Prelude.{Result as Returned}
use Prim.Native.Nat.{◌+◌, ◌-◌, ◌<◌, ◌≤◌, suc, ℕ}
use mathlib.Core.List.{List, [], ◌∷◌}
use mathlib.Core.Option.{none, some}
use mathlib.Core.Path.{◌∙◌, ◌≡◌, refl, sym}
use native.Mathlib.Numerals.{add-one}
use native.Mathlib.Omega.{arith}
use Rattle.fields.specs.PathBytes.{name_at}
use Rattle.layout.specs.declared.Refusal.{Refusal}
use Rattle.layout.specs.declared.Refusal.TheVariants as is
use Rattle.model.specs.Names.{Name, Path}
use Rattle.model.specs.View.{View}
use Rattle.tree.specs.Card.{view_of}
use Rattle.tree.specs.declared.card.Card.{Card}
use Rattle.lookup.specs.declared.way.EntryAt.{EntryAt}
use Rattle.lookup.specs.Descend.{descended, entered, names_from, onward}

module _ (v : View) (t : List ℕ) where
  -- a refusal ends the way
  pub onward-refused : (r : Refusal) (names : Path) → onward v t (Err r) names ≡ Err r
  unfolding onward
  onward-refused r [] = refl
  onward-refused r (n ∷ names) = refl

module _ (card : Card) (path : List ℕ) (count : ℕ) where
  -- where the whole path leads
  abbrev pub led : Returned EntryAt Refusal
  led = descended (view_of card) card.table.now (names_from path 0 count)

  -- the names left from place i on lead there from an entry
  abbrev pub OnWay : ℕ → EntryAt → Type 0
  OnWay i here = onward (view_of card) card.table.now (Ok here) (names_from path i (count - i)) ≡ led

  pub way-start : (page : List ℕ) → (view_of card).page 0 ≡ some page → OnWay 0 (record { at = 0; first = 0; page = page })
  unfolding descended
  way-start page e = let z : count - 0 ≡ count = omega arith in rw (e, z)

  pub way-none : (view_of card).page 0 ≡ none → Err is.Absent ≡ led
  unfolding descended
  way-none e = rw e (sym (onward-refused (view_of card) card.table.now is.Absent (names_from path 0 count)))

  module _ (i : ℕ) (here : EntryAt) (w : OnWay i here) where
    -- at the end of the names
    pub way_end : count ≤ i → Ok here ≡ led
    unfolding onward
    way_end h = let z : count - i ≡ 0 = omega arith in rw z at w

    module _ (h : i < count) (n : Name) (named : n ≡ name_at path i) (a : Returned EntryAt Refusal) (step : a ≡ entered (view_of card) card.table.now here.first here.page n) where
      more : onward (view_of card) card.table.now a (names_from path (i + 1) (count - (i + 1))) ≡ led
      unfolding onward
      more =
          let z : count - i ≡ suc (count - (i + 1)) = omega arith in
          rw (step, named, add-one i) (rw (z, add-one i) at w)

      pub way-refused : (r : Refusal) → a ≡ Err r → Err r ≡ led
      way-refused r e = sym (onward-refused (view_of card) card.table.now r (names_from path (i + 1) (count - (i + 1)))) ∙ rw e at more

      pub way_on : (next : EntryAt) → a ≡ Ok next → OnWay (i + 1) next
      way_on next e = rw e at more
