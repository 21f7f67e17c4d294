-- What a call asks at a path, by what the code learns of the path and where it leads.
use Rattle.std.specs.Prelude.{Some, None, Ok, Err}
use Rattle.std.specs.Prelude.{Option, Result as Returned}
use Prim.Native.Nat.{ℕ}
use mathlib.Core.List.{List}
use mathlib.Core.Option.{Option as Maybe}
use mathlib.Core.Path.{◌∙◌, ◌≡◌, ap, sym}
use Rattle.fields.specs.PathBytes.{parsed_of, path_of}
use Rattle.fields.proofs.PathLaws.{of-malformed, of-names}
use Rattle.layout.specs.Refusal.{number_of, page_of}
use Rattle.layout.specs.declared.Refusal.{Refusal}
use Rattle.model.specs.Check.{Result, and_then, fault, ok}
use Rattle.model.specs.Holds.{HoldsCard}
use Rattle.model.specs.Names.{Path}
use Rattle.model.specs.Tree.{Root, Slot, Tree, root_slot}
use Rattle.model.specs.View.{View}
use Rattle.lookup.specs.Descend.{StandsAt}
use Rattle.lookup.specs.Paths.{at_path, with_path}
use Rattle.lookup.specs.declared.way.EntryAt.{EntryAt}
use Rattle.lookup.proofs.Arrivals.{Arrives, arrive}
use Rattle.lookup.proofs.DescendLaws.{Leads}
use Rattle.lookup.proofs.PathWalk.{at_path_lem}

module _ {A : Type 0} (ask : Slot → Tree → Result A) (root : Root) (path : List ℕ) where
  -- what the call asks, once the card is accepted
  abbrev pub wanted : Result A
  wanted = with_path (path_of path) (λ q. at_path root q ask)

  pub call-malformed : (r : Option ℕ) → r ≡ parsed_of (path_of path) → r ≡ None → wanted ≡ fault 8 0
  call-malformed r e f = rw (of-malformed (path_of path) (sym e ∙ f))

  module _ (v : View) (card : HoldsCard v root) (r : Option ℕ) (count : ℕ) (e : r ≡ parsed_of (path_of path)) (f : r ≡ Some count) where
    led : (a : Returned EntryAt Refusal) → Leads v path count a → (q : Result (Slot × Tree)) × Arrives v q a × (wanted ≡ and_then q (λ x. ask x.0 x.1))
    led a l =
        let n = of-names (path_of path) count (sym e ∙ f) in
        (arrive (root_slot root) root.slots n.0, l root card n.0 n.1 n.2, ap (λ (o : Maybe Path). with_path o (λ q. at_path root q ask)) n.1 ∙ at_path_lem ask root n.0)

    pub call-refused : (k : Refusal) → Leads v path count (Err k) → wanted ≡ fault (number_of k) (page_of k)
    unfolding and_then
    call-refused k l = let y = led (Err k) l in y.2 ∙ go y.0 y.1
      where
        go : (q : Result (Slot × Tree)) → Arrives v q (Err k) → and_then q (λ x. ask x.0 x.1) ≡ fault (number_of k) (page_of k)
        go (fault n p) u = rw (u.0, u.1)
        go (ok x) u = absurd u

    pub call_at : (here : EntryAt) → Leads v path count (Ok here) → (h : Slot) × (s : Tree) × StandsAt v here h s × (wanted ≡ ask h s)
    unfolding and_then
    call_at here l = let y = led (Ok here) l in go y.0 y.1 y.2
      where
        go : (q : Result (Slot × Tree)) → Arrives v q (Ok here) → wanted ≡ and_then q (λ x. ask x.0 x.1) → (h : Slot) × (s : Tree) × StandsAt v here h s × (wanted ≡ ask h s)
        go (fault n p) u z = absurd u
        go (ok x) u z = (x.0, x.1, u, z)
