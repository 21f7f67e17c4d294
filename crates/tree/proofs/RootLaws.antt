-- The root, and what the whole walk tells of the check.
use Rattle.layout.specs.declared.Geometry.{Geometry}
use Rattle.std.proofs.Common.{◌≡◌, ℕ, ◌+◌, ◌-◌, ◌≤◌, true, false, ◌&&◌, leb, List, [], ◌∷◌, ◌++◌, length, sym, refl, ap, ◌∙◌, arith, leb→le}
use Rattle.std.specs.Prelude.{Result as Returned, Err}
use mathlib.Core.Option.{Option, none, some}
use mathlib.Core.Path.{fun_ext}
use Rattle.page.specs.Mended.{wrapped}
use Rattle.layout.specs.declared.Refusal.{Refusal}
use Rattle.layout.specs.declared.Refusal.TheVariants as is
use Rattle.layout.specs.See.{image_page, on_image}
use Rattle.model.proofs.Equality.{and_r, to-T}
use Rattle.model.specs.Check.{Marks, Result, and_then, check_tree, fault, follow_chain, judge_dots, ok, sound, walk_directory}
use Rattle.model.specs.Entry.{Entry, directory_clusters, is_directory, is_root}
use Rattle.model.specs.Holds.{deepest}
use Rattle.model.specs.Names.{dot_name, same_name}
use Rattle.model.specs.Needed.{directory_pages, pages_below}
use Rattle.model.proofs.NeededPages.{total-append}
use Rattle.model.specs.Tree.{Slot, Tree, entry_pages, times}
use Rattle.model.specs.View.{Link, View, most_clusters}
use Rattle.reached.proofs.ChainLaws.{broken-none, sound-some}
use Rattle.reached.proofs.MarkLaws.{keeps-none}
use Rattle.reached.specs.Chain.{chain_behind}
use Rattle.reached.specs.Marks.{Sound, marks_of, no_marks}
use Rattle.reached.specs.Table.{table_links}
use Rattle.reached.specs.declared.Chain.{Chain}
use Rattle.reached.specs.declared.Reached.{Reached}
use Rattle.tree.specs.Slots.{next_of, slot_pages}
use Rattle.tree.specs.Walk.{Tells, dot_pages, inside_of, root_tallied, tallied}
use Rattle.tree.proofs.ChainPages.{directory-pages, follow-chain}
use Rattle.tree.proofs.SlotSteps.{entries-all}

root-only : (mend : ℕ → ℕ) (n : ℕ) (e : Entry) (cs : List ℕ) (r : Result (Unit {0})) (w : Result (Tree × Marks))
    → root_tallied mend n (and_then r (λ x. and_then w (λ s. ok (record { root_entry = e; chain = cs; slots = s.0 }, s.1))))
    ≡ tallied mend (directory_pages (Slot.directory e cs)) n (and_then r (λ x. w))
unfolding and_then
root-only mend n e cs (fault k p) w = refl
root-only mend n e cs (ok x) w = go w
  where
    go : (w : Result (Tree × Marks)) → root_tallied mend n (and_then w (λ s. ok (record { root_entry = e; chain = cs; slots = s.0 }, s.1))) ≡ tallied mend (directory_pages (Slot.directory e cs)) n w
    go (fault k p) = refl
    go (ok s) = ap (λ (k : ℕ). ok (s.1, wrapped (n + k))) (total-append mend (directory_pages (Slot.directory e cs)) (pages_below s.0))

chain-step : {B : Type 0} (o : Option (List ℕ)) (cs : List ℕ) (f : List ℕ → Result B) → o ≡ some cs → and_then (sound o (λ xs. xs)) f ≡ f cs
unfolding and_then
chain-step o cs f e = rw e

module _ (v : View) (mend : ℕ → ℕ) (geometry : Geometry) (n : ℕ) where
  pub root-unread : (p : ℕ) (count : ℕ) → v.entry 0 ≡ none → p ≡ image_page geometry 0 → Tells (on_image geometry (root_tallied mend n (check_tree v))) (Err (is.UnreadablePage p)) count
  unfolding check_tree and_then
  root-unread p count e q = rw e (refl, omega arith)

  module _ (e : Entry) (i : v.entry 0 ≡ some e) where
    pub root-bad : (count : ℕ) → is_root e ≡ false → Tells (on_image geometry (root_tallied mend n (check_tree v))) (Err is.BadEntry) count
    unfolding check_tree and_then
    root-bad count b = rw (i, b) (refl, refl)

    module _ (good : is_root e ≡ true) where
      opened : check_tree v
          ≡ and_then (sound (follow_chain v (directory_clusters e) (Link.next 0) (λ c. 0)) (λ cs. cs)) (λ cs.
          and_then (judge_dots v cs) (λ x.
          and_then (walk_directory v deepest (entry_pages (Slot.directory e cs)) (λ n. 0) (times cs)) (λ s. ok (record { root_entry = e; chain = cs; slots = s.0 }, s.1))))
      unfolding check_tree and_then
      opened = rw (i, good)

      two : 2 ≤ e.length
      two = leb→le 2 e.length (to-T (and_r (is_directory e && same_name e.name dot_name) (leb 2 e.length) good))

      module _ (t : List ℕ) (small : length t ≤ most_clusters) (links : (c : ℕ) → v.link c ≡ table_links t c) (k : ℕ) (size : k ≡ directory_clusters e)
          (start : Reached) (fresh : start ≡ no_marks) (x : Chain) (walked : x ≡ chain_behind t start 0 k) where
        walked-so : x ≡ chain_behind t no_marks 0 k
        walked-so = walked ∙ ap (λ r. chain_behind t r 0 k) fresh

        pub root-broken : (count : ℕ) → x.sound ≡ false → Tells (on_image geometry (root_tallied mend n (check_tree v))) (Err is.BadChain) count
        unfolding and_then
        root-broken count b =
            let f : follow_chain v k (Link.next 0) (λ c. 0) ≡ none = broken-none t small v links k 0 no_marks (λ c. 0) keeps-none (rw walked-so at b) in
            rw (opened, ← size, f) (refl, refl)

        pub root-sound : x.sound ≡ true → Sound x.reached
        root-sound b = let g = sound-some t small v links k 0 no_marks (λ c. 0) keeps-none (rw walked-so at b) in rw walked-so g.2.keeps.sound

        pub root-good : x.sound ≡ true → (w : Returned Reached Refusal) (count : ℕ) → Tells (on_image geometry (inside_of v mend deepest t 0 e.length (marks_of x.reached) n)) w count
            → Tells (on_image geometry (root_tallied mend n (check_tree v))) w count
        unfolding inside_of
        root-good b w count h =
            let g = sound-some t small v links k 0 no_marks (λ c. 0) keeps-none (rw walked-so at b) in
            let cs = g.0 in
            let f : follow_chain v (directory_clusters e) (Link.next 0) (λ c. 0) ≡ some cs = rw (← size) g.1 in
            let q = follow-chain v (directory_clusters e) (Link.next 0) (λ c. 0) cs f in
            let d = directory-pages v t links 0 cs q.1 e.length two q.0 in
            let slots = slot_pages t (next_of t 0) 0 (e.length - 2) in
            let m : marks_of x.reached ≡ times cs = ap (λ (y : Chain). marks_of y.reached) walked-so ∙ fun_ext (λ c. g.2.keeps.marks c ∙ omega arith) in
            let same : on_image geometry (root_tallied mend n (check_tree v)) ≡ on_image geometry (tallied mend (dot_pages 0 ++ slots) n (and_then (judge_dots v (0 ∷ [])) (λ y. walk_directory v deepest slots (λ n. 0) (marks_of x.reached)))) =
            ap (λ r. on_image geometry (root_tallied mend n r)) (opened ∙ chain-step (follow_chain v (directory_clusters e) (Link.next 0) (λ c. 0)) cs _ f)
            ∙ ap (on_image geometry) (root-only mend n e cs (judge_dots v cs) (walk_directory v deepest (entry_pages (Slot.directory e cs)) (λ n. 0) (times cs)))
            ∙ ap (λ (ps : List ℕ). on_image geometry (tallied mend ps n (and_then (judge_dots v cs) (λ y. walk_directory v deepest (entry_pages (Slot.directory e cs)) (λ n. 0) (times cs))))) (entries-all e 0 cs slots d.0 two d.1 d.2)
            ∙ ap (λ (ps : List ℕ). on_image geometry (tallied mend (dot_pages 0 ++ slots) n (and_then (judge_dots v cs) (λ y. walk_directory v deepest ps (λ n. 0) (times cs))))) d.2
            ∙ ap (λ (xs : List ℕ). on_image geometry (tallied mend (dot_pages 0 ++ slots) n (and_then (judge_dots v xs) (λ y. walk_directory v deepest slots (λ n. 0) (times cs))))) d.1
            ∙ ap (λ (s : Marks). on_image geometry (tallied mend (dot_pages 0 ++ slots) n (and_then (judge_dots v (0 ∷ [])) (λ y. walk_directory v deepest slots (λ n. 0) s)))) (sym m) in
            rw same h
