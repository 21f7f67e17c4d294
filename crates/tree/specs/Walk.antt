-- What the walk's functions answer, in terms of the model's check; the tree is left out: what was reached is told, and how many
-- chunks were corrected, as a count that each page adds to. `mend` says how many of each page.
use Rattle.std.specs.Prelude.{◌≡◌, ℕ, pred, ◌+◌, ◌-◌, ◌*◌, ◌/◌, cond, ◌&&◌, List, [], ◌∷◌, ◌++◌, ◌==◌, nat_lt, Option, None, Some}
use Rattle.std.specs.Prelude.{Result as Returned, Ok, Err}
use Rattle.std.proofs.Math.Option.{Option as Maybe, none, some}
use Rattle.page.specs.Mended.{wrapped}
use Rattle.fields.specs.declared.kinds.Kind.{Kind}
use Rattle.fields.specs.declared.kinds.Kind.TheVariants as kind
use Rattle.layout.specs.declared.Geometry.{Geometry}
use Rattle.layout.specs.declared.Refusal.{Refusal}
use Rattle.layout.specs.declared.Refusal.TheVariants as is
use Rattle.layout.specs.Refusal.{number_of, page_of}
use Rattle.layout.specs.See.{image_page, on_image}
use Rattle.model.specs.Check.{Marks, Result, and_then, fault, follow_chain, judge_dot, judge_dots, marks, ok, walk_directory}
use Rattle.model.specs.Entry.{Entry, clusters_for, end_mark, is_file, is_live, is_subdirectory}
use Rattle.model.specs.Names.{Name}
use Rattle.model.specs.Needed.{entry_pages_of, pages_below, total_over}
use Rattle.model.specs.Tree.{Root, Tree}
use Rattle.model.specs.View.{View}
use Rattle.reached.specs.declared.Reached.{Reached}
use Rattle.reached.specs.Table.{first_link_of}
use Rattle.reached.specs.Marks.{Keeps}
use Rattle.tree.specs.declared.tasks.Task.{Task}
use Rattle.tree.specs.Slots.{live_before, next_of, slot_page, slot_pages}

-- of slots in these pages: what was reached, and the count with the corrected chunks of the pages and of all directories below
abbrev pub tallied : (ℕ → ℕ) → List ℕ → ℕ → Result (Tree × Marks) → Result (Marks × ℕ)
tallied mend pages n (fault k p) = fault k p
tallied mend pages n (ok x) = ok (x.1, wrapped (n + (total_over mend pages + total_over mend (pages_below x.0))))

-- of the whole tree
abbrev pub root_tallied : (ℕ → ℕ) → ℕ → Result (Root × Marks) → Result (Marks × ℕ)
root_tallied mend n (fault k p) = fault k p
root_tallied mend n (ok x) = ok (x.1, wrapped (n + total_over mend (entry_pages_of x.0)))

-- ---- a slot before its chain

-- Page (2), entry rules with the name's (7); what the chain then needs. `seen` counts the live entries before it that bear
-- a name: one that is counted is taken, which makes the entry bad.
abbrev pub looked_at : (Name → ℕ) → ℕ → Maybe Entry → Returned Kind Refusal
looked_at seen page none = Err (is.UnreadablePage page)
looked_at seen page (some e) =
    Ok
    (cond (is_live e)
    (cond (seen e.name == 0)
    (cond (is_file e) (kind.File e.length e.first_cluster)
    (cond (is_subdirectory e) (kind.Directory e.length e.first_cluster) kind.Bad))
    kind.Bad)
    kind.Dead)

-- slot k, in cluster c, of the directory whose slots begin in cluster `start`
abbrev pub looked_in : View → Geometry → List ℕ → ℕ → ℕ → ℕ → Returned Kind Refusal
looked_in v geometry table start c k = looked_at (live_before v table start k) (image_page geometry (slot_page c k)) (v.entry (slot_page c k))

-- ---- what a slot leads to

-- a slot whose page was read added its chunks to the count
abbrev pub LookAdds : Returned Kind Refusal → ℕ → ℕ → ℕ → Type 0
LookAdds (Err r) before chunks after = Unit {0}
LookAdds (Ok seen) before chunks after = wrapped after ≡ wrapped (before + chunks)

-- a chain that is not sound is 6
abbrev pub on_chain : Maybe (List ℕ) → (List ℕ → Result (Marks × ℕ)) → Result (Marks × ℕ)
on_chain none rest = fault 6 0
on_chain (some cs) rest = rest cs

-- the pages of a directory's first two entries, whose chain begins with cluster `first`
abbrev pub dot_pages : ℕ → List ℕ
dot_pages first = (2 * first) ∷ (2 * first + 1) ∷ []

-- The inside of a directory whose sound chain begins with cluster `first`: its first two entries, then its slots.
unfoldable pub inside_of : View → (ℕ → ℕ) → ℕ → List ℕ → ℕ → ℕ → Marks → ℕ → Result (Marks × ℕ)
inside_of v mend below table first length m n =
    tallied mend (dot_pages first ++ slot_pages table (next_of table first) 0 (length - 2)) n
    (and_then (judge_dots v (first ∷ [])) (λ x. walk_directory v below (slot_pages table (next_of table first) 0 (length - 2)) (λ n. 0) m))

-- what was reached before, and the count with the slot's own page
abbrev pub entered_look : View → (ℕ → ℕ) → Geometry → ℕ → List ℕ → Marks → ℕ → Kind → Result (Marks × ℕ)
entered_look v mend geometry below table m n kind.Bad = fault 7 0
entered_look v mend geometry below table m n kind.Dead = ok (m, wrapped n)
entered_look v mend geometry below table m n (kind.File length first) =
    on_chain (follow_chain v (clusters_for length) (first_link_of first) m) (λ cs. ok (marks m cs, wrapped n))
entered_look v mend geometry below table m n (kind.Directory length first) =
    cond (nat_lt 0 below)
    (on_chain (follow_chain v ((length + 1) / 2) (first_link_of first) m) (λ cs. on_image geometry (inside_of v mend (pred below) table first length (marks m cs) n)))
    (fault 7 0)

-- the same of a page that may be unreadable
abbrev pub entered_read : View → (ℕ → ℕ) → Geometry → ℕ → List ℕ → Marks → ℕ → Returned Kind Refusal → Result (Marks × ℕ)
entered_read v mend geometry below table m n (Err r) = fault (number_of r) (page_of r)
entered_read v mend geometry below table m n (Ok seen) = entered_look v mend geometry below table m n seen

-- What a slot leads to, as the walk goes on from it: a chain to follow, then a directory's inside; or no chain.
abbrev pub task_of : ℕ → Kind → Returned (Option Task) Refusal
task_of below kind.Bad = Err is.BadEntry
task_of below kind.Dead = Ok None
task_of below (kind.File length first) =
    Ok (cond (length == 0 && first == end_mark) None (Some (record { first = first; clusters = clusters_for length; inside = None })))
task_of below (kind.Directory length first) =
    cond (below == 0) (Err is.BadEntry) (Ok (Some (record { first = first; clusters = (length + 1) / 2; inside = Some length })))

-- one of a directory's first two entries, in page p
abbrev pub dot_in : View → Name → ℕ → Result (Unit {0})
dot_in v name p = judge_dot v name p (v.entry p)

-- ---- what the code's answer says

-- of the walk: the record with the count, or why it is refused
abbrev pub Tells : Result (Marks × ℕ) → Returned Reached Refusal → ℕ → Type 0
Tells (fault n p) (Ok r) count = ⊥
Tells (fault n p) (Err f) count = (number_of f ≡ n) × (page_of f ≡ p)
Tells (ok x) (Ok r) count = Keeps r x.0 × (wrapped count ≡ x.1)
Tells (ok x) (Err f) count = ⊥
