-- What a slot's task leaves is what its look leads to, on each way through the walk's turn.
use Rattle.std.proofs.Common.{◌≡◌, ℕ, ◌+◌, ◌-◌, ◌/◌, ◌<◌, ◌≤◌, Bool, true, false, ◌&&◌, cond, eqb, List, length, sym, refl, ap, ◌∙◌, arith, eqb-true}
use Rattle.std.specs.Prelude.{Option, None, Some, Result as Returned, Ok, Err}
use borrow.Author.Tests.{eqb-false}
use Rattle.fields.specs.declared.kinds.Kind.{Kind}
use Rattle.fields.specs.declared.kinds.Kind.TheVariants as kind
use Rattle.layout.specs.declared.Geometry.{Geometry}
use Rattle.layout.specs.declared.Refusal.{Refusal}
use Rattle.layout.specs.declared.Refusal.TheVariants as is
use Rattle.layout.specs.See.{on_image}
use Rattle.model.proofs.Equality.{and_l, and_r}
use Rattle.model.specs.Entry.{clusters_for, end_mark}
use Rattle.model.specs.View.{View, most_clusters}
use Rattle.reached.proofs.ChainSteps.{chain-none}
use Rattle.reached.proofs.MarkLaws.{keeps_self}
use Rattle.reached.specs.Chain.{chain_behind}
use Rattle.reached.specs.Marks.{Sound, marks_of}
use Rattle.reached.specs.Table.{table_links}
use Rattle.reached.specs.declared.Chain.{Chain}
use Rattle.reached.specs.declared.Reached.{Reached}
use Rattle.tree.specs.declared.tasks.Task.{Task}
use Rattle.tree.specs.Walk.{Tells, entered_look, inside_of, task_of}
use Rattle.tree.proofs.TellLaws.{directory-bad, directory-deep, directory-good, directory-sound, file-bad, file-good}

positive : (n : ℕ) → (n ≡ 0 → ⊥) → 0 < n
positive n h = omega arith

-- what a task is, and what it is not
refused : {A E : Type 0} {B : Type 0} (a : A) (e : E) → ◌≡◌ {A = Returned A E} (Ok a) (Err e) → B
refused a e h = absurd (cc)

missing : {A B : Type 0} (a : A) → ◌≡◌ {A = Option A} None (Some a) → B
missing a h = absurd (cc)

-- what a file and a directory lead to
abbrev file_task : ℕ → ℕ → Task
file_task len first = record { first = first; clusters = clusters_for len; inside = None }

abbrev directory_task : ℕ → ℕ → Task
directory_task len first = record { first = first; clusters = (len + 1) / 2; inside = Some len }

-- by whether the file is empty, and by whether no directory may lie there
abbrev of_file : ℕ → ℕ → Bool → Returned (Option Task) Refusal
of_file len first b = Ok (cond b None (Some (file_task len first)))

abbrev of_directory : ℕ → ℕ → Bool → Returned (Option Task) Refusal
of_directory len first b = cond b (Err is.BadEntry) (Ok (Some (directory_task len first)))

module _ (t : List ℕ) (small : length t ≤ most_clusters) (v : View) (mend : ℕ → ℕ) (links : (c : ℕ) → v.link c ≡ table_links t c) (geometry : Geometry) (below : ℕ)
    (r : Reached) (s : Sound r) (n : ℕ) where
  -- what the slot gives
  abbrev given : Kind → Returned Reached Refusal → ℕ → Type 0
  given seen x later = Tells (entered_look v mend geometry below t (marks_of r) n seen) x later

  -- a slot that is refused before any chain
  pub task-refused : (seen : Kind) (f : Refusal) → task_of below seen ≡ Err f → given seen (Err f) n
  task-refused kind.Dead f e = refused _ _ e
  task-refused kind.Bad f e = let same : is.BadEntry ≡ f = cc in rw (← same) (refl, refl)
  task-refused (kind.File len first) f e = refused _ _ e
  task-refused (kind.Directory len first) f e = go (eqb below 0) refl e
    where
      go : (b : Bool) → eqb below 0 ≡ b → of_directory len first b ≡ Err f → given (kind.Directory len first) (Err f) n
      go true g e = let same : is.BadEntry ≡ f = cc in rw (← same) (directory-deep v mend geometry t (marks_of r) n below len first (eqb-true below 0 g))
      go false g e = refused _ _ e

  -- an empty file's chain is sound and leaves the record
  empty-file : (len first : ℕ) → (eqb len 0 && eqb first end_mark) ≡ true → given (kind.File len first) (Ok r) n
  empty-file len first e =
      let none : len ≡ 0 = eqb-true len 0 (and_l (eqb len 0) (eqb first end_mark) e) in
      let over : clusters_for len ≡ 0 = omega arith in
      let chain = chain-none t r first (clusters_for len) over in
      let last = and_r (eqb len 0) (eqb first end_mark) e in
      rw chain at (file-good t small v mend links geometry r s n len first (clusters_for len) (chain_behind t r first (clusters_for len)) refl below refl (ap (λ x. x.sound) chain ∙ last))

  -- a slot that leads to no chain
  pub task-idle : (seen : Kind) → task_of below seen ≡ Ok None → given seen (Ok r) n
  task-idle kind.Dead e = (keeps_self r s, refl)
  task-idle kind.Bad e = refused None is.BadEntry (sym e)
  task-idle (kind.File len first) e = go (eqb len 0 && eqb first end_mark) refl e
    where
      go : (b : Bool) → (eqb len 0 && eqb first end_mark) ≡ b → of_file len first b ≡ Ok None → given (kind.File len first) (Ok r) n
      go true f e = empty-file len first f
      go false f e = missing (file_task len first) (cc)
  task-idle (kind.Directory len first) e = go (eqb below 0) e
    where
      go : (b : Bool) → of_directory len first b ≡ Ok None → given (kind.Directory len first) (Ok r) n
      go true e = refused None is.BadEntry (sym e)
      go false e = missing (directory_task len first) (cc)

  module _ (x : Chain) (task : Task) (walked : x ≡ chain_behind t r task.first task.clusters) where
    -- what a chain leads to: refused where it is not sound, else the record, or what is inside of a directory
    pub record Led (seen : Kind) : Type 0 where
      pub broken : x.sound ≡ false → given seen (Err is.BadChain) n
      pub file : x.sound ≡ true → task.inside ≡ None → given seen (Ok x.reached) n
      pub inside : x.sound ≡ true → (entries : ℕ) → task.inside ≡ Some entries
          → (0 < below) × Sound x.reached
          × ((w : Returned Reached Refusal) (later : ℕ) → Tells (on_image geometry (inside_of v mend (below - 1) t task.first entries (marks_of x.reached) n)) w later → given seen w later)

    led-file : (len first : ℕ) → file_task len first ≡ task → Led (kind.File len first)
    led-file len first e =
        let chain : x ≡ chain_behind t r first (clusters_for len) = rw (← e) at walked in record {
          broken = λ q. file-bad t small v mend links geometry r s n len first (clusters_for len) x chain below refl q;
          file = λ q i. file-good t small v mend links geometry r s n len first (clusters_for len) x chain below refl q;
          inside = λ q entries i. missing _ (ap (λ (z : Task). z.inside) e ∙ i);
        }

    led-directory : (len first : ℕ) → 0 < below → directory_task len first ≡ task → Led (kind.Directory len first)
    led-directory len first l e =
        let chain : x ≡ chain_behind t r first ((len + 1) / 2) = rw (← e) at walked in record {
          broken = λ q. directory-bad t small v mend links geometry r s n len first ((len + 1) / 2) x chain below l refl q;
          file = λ q i. let both : Some len ≡ None = ap (λ (z : Task). z.inside) e ∙ i in absurd (cc);
          inside = λ q entries i.
              let long : len ≡ entries = let both : Some len ≡ Some entries = ap (λ (z : Task). z.inside) e ∙ i in cc in
              let at : first ≡ task.first = ap (λ (z : Task). z.first) e in (
                l,
                directory-sound t small v mend links geometry r s n len first ((len + 1) / 2) x chain q,
                λ w later h. directory-good t small v mend links geometry r s n len first ((len + 1) / 2) x chain below l refl q w later (rw (← long, ← at) at h),
              );
        }

    pub task-led : (seen : Kind) → task_of below seen ≡ Ok (Some task) → Led seen
    task-led kind.Dead e = missing task (cc)
    task-led kind.Bad e = refused (Some task) is.BadEntry (sym e)
    task-led (kind.File len first) e = go (eqb len 0 && eqb first end_mark) e
      where
        go : (b : Bool) → of_file len first b ≡ Ok (Some task) → Led (kind.File len first)
        go true e = missing task (cc)
        go false e = led-file len first (cc)
    task-led (kind.Directory len first) e = go (eqb below 0) refl e
      where
        go : (b : Bool) → eqb below 0 ≡ b → of_directory len first b ≡ Ok (Some task) → Led (kind.Directory len first)
        go true f e = refused (Some task) is.BadEntry (sym e)
        go false f e = led-directory len first (positive below (eqb-false below 0 f)) (cc)
