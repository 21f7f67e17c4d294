-- A turn of the loop over a directory's slots: the line of one slot, what is inside it, then the slots that are left.
use Prim.Native.Nat.{ℕ, suc, zero, ◌+◌, ◌-◌, ◌<◌, ◌≤◌}
use mathlib.Core.Bool.{Bool, false, true}
use mathlib.Core.List.{List, [], ◌++◌, ◌∷◌}
use mathlib.Core.Path.{◌∙◌, ◌≡◌, ap, refl, sym}
use native.Mathlib.Numerals.{add-one, sub-one}
use native.Mathlib.Omega.{arith}
use borrow.Author.Tests.{leb-false, leb-true}
use lib.Dec.{leb}
use lib.IntN.{ℤ}
use Rattle.model.specs.View.{View}
use Rattle.tree.specs.Slots.{slot_page, slot_pages, cluster_after}
use Rattle.std.specs.Prelude.{None, Option}
use Rattle.listing.specs.declared.emit.Text.{Text}
use Rattle.listing.specs.declared.entries.Directory.{Directory}
use Rattle.listing.specs.Emit.{Writes}
use Rattle.listing.specs.Render.{Leads, inside_at, joined, line_at, slots_text, text_in}
use Rattle.listing.proofs.EmitLaws.{writes-append, writes_as, writes_none}

-- Whatever writes the text that is left now has written the whole text from where it began.
abbrev pub Remains : Text → List ℕ → Text → List ℕ → Type 0
Remains first whole now left = (last : Text) → Writes now left last → Writes first whole last

pub remains-as : {first : Text} {whole : List ℕ} {now now' : Text} {left : List ℕ} → now'.out ≡ now.out → now'.at ≡ now.at
    → Remains first whole now left → Remains first whole now' left
remains-as e f remains last w =
    remains last (record { same_reference = rw e at w.same_reference; out = rw (e, f) at w.out; place = rw f at w.place })

module _ (minutes : ℤ) (v : View) (t : List ℕ) where
  pub slots-none : (below : ℕ) (path : List ℕ) → slots_text minutes v t below path [] ≡ []
  unfolding slots_text joined
  slots-none zero path = refl
  slots-none (suc below) path = refl

  slots-flat : (below : ℕ) (path : List ℕ) (p : ℕ) (ps : List ℕ) → below ≡ 0
      → slots_text minutes v t below path (p ∷ ps) ≡ line_at minutes path (v.entry p) ++ slots_text minutes v t below path ps
  unfolding slots_text joined
  slots-flat zero path p ps e = refl
  slots-flat (suc below) path p ps e = absurd (omega arith)

  slots-deep : (below : ℕ) (path : List ℕ) (p : ℕ) (ps : List ℕ) → 0 < below
      → slots_text minutes v t below path (p ∷ ps) ≡ line_at minutes path (v.entry p) ++ inside_at t (slots_text minutes v t (below - 1)) path (v.entry p) ++ slots_text minutes v t below path ps
  unfolding slots_text joined
  slots-deep zero path p ps e = absurd (omega arith)
  slots-deep (suc below) path p ps e = rw (sub-one (suc below))

  module _ (below : ℕ) (path : List ℕ) where
    -- the text of slots k to n - 1, slot k in cluster c
    abbrev pub left : ℕ → ℕ → ℕ → List ℕ
    left c k n = slots_text minutes v t below path (slot_pages t c k (n - k))

    pub left-all : (c n : ℕ) → left c 0 n ≡ slots_text minutes v t below path (slot_pages t c 0 n)
    left-all c n = let z : n - 0 ≡ n = omega arith in rw z

    pub left-none : (c k n : ℕ) → n ≤ k → left c k n ≡ []
    unfolding slot_pages
    left-none c k n h = let z : n - k ≡ 0 = omega arith in rw z (slots-none below path)

    module _ (c k n page x : ℕ) (more : k < n) (here : page ≡ slot_page c k) (step : x ≡ cluster_after t c k) where
      first_slot : slot_pages t c k (n - k) ≡ page ∷ slot_pages t x (k + 1) (n - (k + 1))
      unfolding slot_pages
      first_slot = let z : n - k ≡ suc (n - (k + 1)) = omega arith in rw (z, here, step, add-one k)

      module _ {first : Text} {whole : List ℕ} {now after : Text} (remains : Remains first whole now (left c k n)) (line : Writes now (line_at minutes path (v.entry page)) after) where
        -- where no directory may lie further down
        pub turn-flat : below ≡ 0 → Remains first whole after (left x (k + 1) n)
        turn-flat flat last w =
            remains last (writes_as (sym (ap (slots_text minutes v t below path) first_slot ∙ slots-flat below path page _ flat)) (writes-append line w))

        pub turn-deep : {len : ℕ} {inside : Option Directory} {later : Text} → 0 < below → Leads t path (v.entry page) len inside
            → Writes after (text_in t (slots_text minutes v t (below - 1)) inside) later → Remains first whole later (left x (k + 1) n)
        turn-deep deep leads inside last w =
            remains last
            (writes_as (sym (ap (slots_text minutes v t below path) first_slot ∙ slots-deep below path page _ deep))
            (writes-append (writes-append line (writes_as (leads.text (slots_text minutes v t (below - 1))) inside)) w))

        -- where nothing is inside
        pub turn-none : {len : ℕ} → Leads t path (v.entry page) len None → Remains first whole after (left x (k + 1) n)
        turn-none leads = go (leb 1 below) refl
          where
            go : (b : Bool) → leb 1 below ≡ b → Remains first whole after (left x (k + 1) n)
            go true e = turn-deep (leb-true 1 below e) leads (writes_none after)
            go false e = turn-flat (let f = leb-false 1 below e in omega arith)
