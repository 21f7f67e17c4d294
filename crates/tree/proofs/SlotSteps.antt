-- One slot of the model's walk is what the code looks at and then enters.
use Rattle.std.proofs.Common.{◌≡◌, ℕ, zero, suc, ◌+◌, ◌-◌, ◌%◌, ◌^◌, ◌≤◌, Bool, true, false, cond, ◌&&◌, eqb, ltb, leb, List, [], ◌∷◌, ◌++◌, map, take, drop, sym, refl, ap, ◌∙◌, arith, lt→ltb, leb→le}
use mathlib.Core.Option.{Option, none, some}
use mathlib.Core.Path.{fun_ext}
use native.Mathlib.Nat.{mod-add-mod}
use Rattle.page.specs.Mended.{wrapped}
use Rattle.layout.specs.declared.Geometry.{Geometry}
use Rattle.layout.specs.See.{image_page, on_image}
use Rattle.fields.specs.declared.kinds.Kind.TheVariants as kind
use Rattle.model.proofs.Equality.{and_r, of_T, to-T}
use Rattle.model.specs.Check.{Deeper, Marks, Result, and_then, dots, fault, follow_chain, judge_dots, judge_entry, marks, ok, sound, walk_directory, walk_slots}
use Rattle.model.specs.Entry.{Entry, directory_clusters, file_clusters, is_directory, is_file, is_live, is_subdirectory}
use Rattle.model.proofs.NeededPages.{total-append}
use Rattle.model.specs.Names.{Name, good_name}
use Rattle.model.specs.Needed.{directory_pages, pages_below, total_over}
use Rattle.model.specs.Tree.{Slot, Tree, chain_of, end, entry_pages, hit_name, name_hit, node}
use Rattle.model.specs.View.{View, first_link, pages_of}
use Rattle.reached.specs.Table.{table_links}
use Rattle.tree.specs.Slots.{live_hit, next_of, slot_pages}
use Rattle.tree.specs.Walk.{dot_pages, entered_look, entered_read, inside_of, looked_at, on_chain, tallied}
use Rattle.tree.proofs.ChainPages.{directory-pages, follow-chain}

pub fault-ok : {A B : Type 0} (n p : ℕ) (a : A) → ◌≡◌ {A = Result A} (fault n p) (ok a) → B
fault-ok n p a e = absurd (let z : ◌≡◌ {A = ℕ} 0 1 = cc in omega arith)

ok_same : {A : Type 0} (a b : A) → ◌≡◌ {A = Result A} (ok a) (ok b) → a ≡ b
ok_same a b e = cc

-- what walks the inside of a directory where directories may still go `below` deep
abbrev pub deeper_of : (v : View) → ℕ → Deeper v
deeper_of v zero = λ qs n. ok (end, n)
deeper_of v (suc b) = λ qs n. walk_directory v b qs (λ x. 0) n

pub walk_is : (v : View) (below : ℕ) (ps : List ℕ) (seen : Name → ℕ) (m : Marks) → walk_directory v below ps seen m ≡ walk_slots v (deeper_of v below) below ps seen m
walk_is v zero ps seen m = refl
walk_is v (suc b) ps seen m = refl

deeper-none : (v : View) (b : ℕ) (m : Marks) → deeper_of v b [] m ≡ ok (end, m)
deeper-none v zero m = refl
deeper-none v (suc zero) m = refl
deeper-none v (suc (suc b)) m = refl

-- ---- the count of corrected chunks

-- counts that wrap to the same one grow alike
pub same_count : (a b k : ℕ) → wrapped a ≡ wrapped b → wrapped (a + k) ≡ wrapped (b + k)
same_count a b k h = sym (mod-add-mod a (2 ^ 64) k) ∙ ap (λ (n : ℕ). (n + k) % 2 ^ 64) h ∙ mod-add-mod b (2 ^ 64) k

pub tallied-same : (mend : ℕ → ℕ) (ps : List ℕ) (a b : ℕ) → wrapped a ≡ wrapped b → (r : Result (Tree × Marks)) → tallied mend ps a r ≡ tallied mend ps b r
tallied-same mend ps a b h (fault n p) = refl
tallied-same mend ps a b h (ok x) = ap (λ (n : ℕ). ok (x.1, n)) (same_count a b (total_over mend ps + total_over mend (pages_below x.0)) h)

-- pages that were counted before the others
pub tallied-on : (mend : ℕ → ℕ) (ps qs : List ℕ) (n count : ℕ) → wrapped count ≡ wrapped (n + total_over mend ps) → (r : Result (Tree × Marks))
    → tallied mend (ps ++ qs) n r ≡ tallied mend qs count r
tallied-on mend ps qs n count h (fault k p) = refl
tallied-on mend ps qs n count h (ok x) =
    let rest = total_over mend qs + total_over mend (pages_below x.0) in
    let split : n + (total_over mend (ps ++ qs) + total_over mend (pages_below x.0)) ≡ n + total_over mend ps + rest = omega (arith, total-append mend ps qs) in
    ap (λ (k : ℕ). ok (x.1, k)) (ap wrapped split ∙ same_count (n + total_over mend ps) count rest (sym h))

-- the first two entries' pages and those of the slots are all of a directory's
pub all-pages : (first : ℕ) (rest : List ℕ) (k : ℕ) → 2 ≤ k → take k (pages_of (first ∷ rest)) ≡ dot_pages first ++ drop 2 (take k (pages_of (first ∷ rest)))
all-pages first rest zero h = absurd (omega arith)
all-pages first rest (suc zero) h = absurd (omega arith)
all-pages first rest (suc (suc k)) h = refl

pub entries-all : (e : Entry) (first : ℕ) (cs slots rest : List ℕ) → 2 ≤ e.length → cs ≡ first ∷ rest → entry_pages (Slot.directory e cs) ≡ slots
    → directory_pages (Slot.directory e cs) ≡ dot_pages first ++ slots
entries-all e first cs slots rest two f g =
    ap (λ (xs : List ℕ). take e.length (pages_of xs)) f ∙ all-pages first rest e.length two
    ∙ ap (λ (xs : List ℕ). dot_pages first ++ drop 2 (take e.length (pages_of xs))) (sym f) ∙ ap (λ (ps : List ℕ). dot_pages first ++ ps) g

-- ---- one slot

-- what one slot gives: its entry, then a directory's first two entries and its inside; the count has the slot's own page
abbrev pub after_entry : View → (ℕ → ℕ) → ℕ → Marks → ℕ → Slot → Result (Marks × ℕ)
after_entry v mend b m n h =
    and_then (dots v h) (λ x. and_then (deeper_of v b (entry_pages h) (marks m (chain_of h))) (λ s.
    ok (s.1, wrapped (n + (total_over mend (directory_pages h) + total_over mend (pages_below s.0))))))

abbrev pub slot_told : View → (ℕ → ℕ) → ℕ → (Name → ℕ) → Marks → ℕ → ℕ → Result (Marks × ℕ)
slot_told v mend b seen m n p = and_then (judge_entry v b seen m p (v.entry p)) (λ h. after_entry v mend b m (n + mend p) h)

-- a slot that was judged bears the name that its live entry has
hit-live : (v : View) (b : ℕ) (seen : Name → ℕ) (m : Marks) (p : ℕ) (o : Option Entry) (h : Slot) → judge_entry v b seen m p o ≡ ok h → (n : Name) → name_hit h n ≡ live_hit o n
hit-live v b seen m p none h e n = fault-ok 2 p h e
hit-live v b seen m p (some e) h j n = go (is_live e) refl j
  where
    named : (f : List ℕ → Slot) → ((cs : List ℕ) → name_hit (f cs) n ≡ hit_name e.name n) → (o : Option (List ℕ)) → sound o f ≡ ok h → name_hit h n ≡ hit_name e.name n
    named f g none y = fault-ok 6 0 h y
    named f g (some cs) y = ap (λ x. name_hit x n) (sym (ok_same (f cs) h y)) ∙ g cs

    live : (x z : Bool) → cond x (sound (follow_chain v (file_clusters e) (first_link e) m) (λ cs. Slot.file e cs (map v.page (pages_of cs))))
        (cond z (sound (follow_chain v (directory_clusters e) (first_link e) m) (λ cs. Slot.directory e cs)) (fault 7 0)) ≡ ok h → name_hit h n ≡ hit_name e.name n
    live true z y = named (λ cs. Slot.file e cs (map v.page (pages_of cs))) (λ cs. refl) (follow_chain v (file_clusters e) (first_link e) m) y
    live false true y = named (λ cs. Slot.directory e cs) (λ cs. refl) (follow_chain v (directory_clusters e) (first_link e) m) y
    live false false y = fault-ok 7 0 h y

    go : (l : Bool) → is_live e ≡ l
        → cond l (cond (is_file e && eqb (seen e.name) 0) (sound (follow_chain v (file_clusters e) (first_link e) m) (λ cs. Slot.file e cs (map v.page (pages_of cs))))
        (cond (is_subdirectory e && ltb 0 b && eqb (seen e.name) 0) (sound (follow_chain v (directory_clusters e) (first_link e) m) (λ cs. Slot.directory e cs)) (fault 7 0))) (ok Slot.dead) ≡ ok h
        → name_hit h n ≡ cond l (hit_name e.name n) 0
    go true i y = live (is_file e && eqb (seen e.name) 0) (is_subdirectory e && ltb 0 b && eqb (seen e.name) 0) y
    go false i y = ap (λ x. name_hit x n) (sym (ok_same Slot.dead h y))

-- the count after a slot, with what is inside it
abbrev after_slot : (ℕ → ℕ) → ℕ → ℕ → Slot → Tree → ℕ
after_slot mend n p h s = wrapped (n + mend p + (total_over mend (directory_pages h) + total_over mend (pages_below s)))

abbrev slot_ends : (ℕ → ℕ) → ℕ → ℕ → Slot → Tree × Marks → Result (Marks × ℕ)
slot_ends mend n p h s = ok (s.1, after_slot mend n p h s.0)

slot-sums : (mend : ℕ → ℕ) (n p : ℕ) (ps : List ℕ) (h : Slot) (s t : Tree)
    → wrapped (n + (total_over mend (p ∷ ps) + total_over mend (pages_below (node h s t)))) ≡ wrapped (after_slot mend n p h s + (total_over mend ps + total_over mend (pages_below t)))
unfolding pages_below
slot-sums mend n p ps h s t =
    let own = n + mend p + (total_over mend (directory_pages h) + total_over mend (pages_below s)) in
    let later = total_over mend ps + total_over mend (pages_below t) in
    let split : n + (total_over mend (p ∷ ps) + total_over mend (directory_pages h ++ (pages_below s ++ pages_below t))) ≡ own + later =
    omega (arith, total-append mend (directory_pages h) (pages_below s ++ pages_below t), total-append mend (pages_below s) (pages_below t)) in
    ap wrapped split ∙ sym (mod-add-mod own (2 ^ 64) later)

-- a slot, then the slots after it
pub walk_step : (v : View) (mend : ℕ → ℕ) (b p : ℕ) (ps : List ℕ) (seen : Name → ℕ) (m : Marks) (n : ℕ)
    → tallied mend (p ∷ ps) n (walk_slots v (deeper_of v b) b (p ∷ ps) seen m)
    ≡ and_then (slot_told v mend b seen m n p) (λ s. tallied mend ps s.1 (walk_slots v (deeper_of v b) b ps (λ x. seen x + live_hit (v.entry p) x) s.0))
unfolding and_then
walk_step v mend b p ps seen m n = go (judge_entry v b seen m p (v.entry p)) refl
  where
    rest : (h : Slot) (s : Tree) (r : Result (Tree × Marks)) → tallied mend (p ∷ ps) n (and_then r (λ t. ok (node h s t.0, t.1))) ≡ tallied mend ps (after_slot mend n p h s) r
    rest h s (fault k q) = refl
    rest h s (ok t) = ap (λ (k : ℕ). ok (t.1, k)) (slot-sums mend n p ps h s t.0)

    inner : (h : Slot) → judge_entry v b seen m p (v.entry p) ≡ ok h → (r : Result (Tree × Marks))
        → tallied mend (p ∷ ps) n (and_then r (λ s. and_then (walk_slots v (deeper_of v b) b ps (λ n. seen n + name_hit h n) s.1) (λ t. ok (node h s.0 t.0, t.1))))
        ≡ and_then (and_then r (slot_ends mend n p h)) (λ s. tallied mend ps s.1 (walk_slots v (deeper_of v b) b ps (λ x. seen x + live_hit (v.entry p) x) s.0))
    inner h e (fault k q) = refl
    inner h e (ok s) =
        rest h s.0 (walk_slots v (deeper_of v b) b ps (λ n. seen n + name_hit h n) s.1)
        ∙ ap (λ (f : Name → ℕ). tallied mend ps (after_slot mend n p h s.0) (walk_slots v (deeper_of v b) b ps f s.1)) (fun_ext (λ n. ap (λ x. seen n + x) (hit-live v b seen m p (v.entry p) h e n)))

    dotted : (h : Slot) → judge_entry v b seen m p (v.entry p) ≡ ok h → (r : Result (Unit {0}))
        → tallied mend (p ∷ ps) n (and_then r (λ x. and_then (deeper_of v b (entry_pages h) (marks m (chain_of h))) (λ s. and_then (walk_slots v (deeper_of v b) b ps (λ n. seen n + name_hit h n) s.1) (λ t. ok (node h s.0 t.0, t.1)))))
        ≡ and_then (and_then r (λ x. and_then (deeper_of v b (entry_pages h) (marks m (chain_of h))) (slot_ends mend n p h))) (λ s. tallied mend ps s.1 (walk_slots v (deeper_of v b) b ps (λ x. seen x + live_hit (v.entry p) x) s.0))
    dotted h e (fault k q) = refl
    dotted h e (ok x) = inner h e (deeper_of v b (entry_pages h) (marks m (chain_of h)))

    go : (r : Result Slot) → judge_entry v b seen m p (v.entry p) ≡ r
        → tallied mend (p ∷ ps) n (and_then r (λ h. and_then (dots v h) (λ x. and_then (deeper_of v b (entry_pages h) (marks m (chain_of h))) (λ s. and_then (walk_slots v (deeper_of v b) b ps (λ n. seen n + name_hit h n) s.1) (λ t. ok (node h s.0 t.0, t.1))))))
        ≡ and_then (and_then r (λ h. after_entry v mend b m (n + mend p) h)) (λ s. tallied mend ps s.1 (walk_slots v (deeper_of v b) b ps (λ x. seen x + live_hit (v.entry p) x) s.0))
    go (fault k q) e = refl
    go (ok h) e = dotted h e (dots v h)

-- ---- the slot as the code looks at it

only_step : {A : Type 0} (mend : ℕ → ℕ) (pages : List ℕ) (n : ℕ) (r : Result A) (f : A → Result (Tree × Marks))
    → and_then r (λ x. and_then (f x) (λ s. ok (s.1, wrapped (n + (total_over mend pages + total_over mend (pages_below s.0)))))) ≡ tallied mend pages n (and_then r f)
unfolding and_then
only_step mend pages n (fault k p) f = refl
only_step mend pages n (ok x) f = go (f x)
  where
    go : (r : Result (Tree × Marks)) → and_then r (λ s. ok (s.1, wrapped (n + (total_over mend pages + total_over mend (pages_below s.0))))) ≡ tallied mend pages n r
    go (fault k p) = refl
    go (ok s) = refl

and-false : (x : Bool) → (x && false) ≡ false
and-false true = refl
and-false false = refl

marks-none : (m : Marks) → marks m [] ≡ m
marks-none m = fun_ext (λ c. omega arith)

-- a slot with nothing inside adds nothing to the count
pub none_more : (n : ℕ) → wrapped (n + (0 + 0)) ≡ wrapped n
none_more n = ap wrapped (omega arith)

module _ (v : View) (mend : ℕ → ℕ) (t : List ℕ) (links : (c : ℕ) → v.link c ≡ table_links t c) (geometry : Geometry) (m : Marks) (n : ℕ) where
  -- a directory with a sound chain: its inside
  into : (b : ℕ) (e : Entry) (cs : List ℕ) → 2 ≤ e.length → follow_chain v (directory_clusters e) (first_link e) m ≡ some cs
      → on_image geometry (and_then (judge_dots v cs) (λ x. and_then (walk_directory v b (entry_pages (Slot.directory e cs)) (λ n. 0) (marks m cs)) (λ s.
      ok (s.1, wrapped (n + (total_over mend (directory_pages (Slot.directory e cs)) + total_over mend (pages_below s.0)))))))
      ≡ on_image geometry (inside_of v mend b t e.first_cluster e.length (marks m cs) n)
  unfolding inside_of
  into b e cs two f =
      let h = follow-chain v (directory_clusters e) (first_link e) m cs f in
      let d = directory-pages v t links e.first_cluster cs h.1 e.length two h.0 in
      let slots = slot_pages t (next_of t e.first_cluster) 0 (e.length - 2) in
      ap (on_image geometry) (only_step mend (directory_pages (Slot.directory e cs)) n (judge_dots v cs) (λ x. walk_directory v b (entry_pages (Slot.directory e cs)) (λ n. 0) (marks m cs)))
      ∙ ap (λ (ps : List ℕ). on_image geometry (tallied mend ps n (and_then (judge_dots v cs) (λ x. walk_directory v b (entry_pages (Slot.directory e cs)) (λ n. 0) (marks m cs))))) (entries-all e e.first_cluster cs slots d.0 two d.1 d.2)
      ∙ ap (λ (ps : List ℕ). on_image geometry (tallied mend (dot_pages e.first_cluster ++ slots) n (and_then (judge_dots v cs) (λ x. walk_directory v b ps (λ n. 0) (marks m cs))))) d.2
      ∙ ap (λ (xs : List ℕ). on_image geometry (tallied mend (dot_pages e.first_cluster ++ slots) n (and_then (judge_dots v xs) (λ x. walk_directory v b slots (λ n. 0) (marks m cs))))) d.1

  file-in : (b : ℕ) (e : Entry) (o : Option (List ℕ))
      → on_image geometry (and_then (sound o (λ cs. Slot.file e cs (map v.page (pages_of cs)))) (λ h. after_entry v mend b m n h)) ≡ on_chain o (λ cs. ok (marks m cs, wrapped n))
  unfolding and_then pages_below
  file-in b e none = refl
  file-in b e (some cs) =
      ap (λ (r : Result (Tree × Marks)). on_image geometry (and_then r (λ s. ok (s.1, wrapped (n + (0 + total_over mend (pages_below s.0))))))) (deeper-none v b (marks m cs))
      ∙ ap (λ (k : ℕ). ok (marks m cs, k)) (none_more n)

  dead-in : (b : ℕ) → on_image geometry (after_entry v mend b m n Slot.dead) ≡ ok (m, wrapped n)
  unfolding and_then pages_below
  dead-in b =
      ap (λ (r : Result (Tree × Marks)). on_image geometry (and_then r (λ s. ok (s.1, wrapped (n + (0 + total_over mend (pages_below s.0))))))) (deeper-none v b (marks m []))
      ∙ ap (λ (k : ℕ). ok (marks m [], k)) (none_more n) ∙ ap (λ (x : Marks). ok (x, wrapped n)) (marks-none m)

  directory-in : (b : ℕ) (e : Entry) → 2 ≤ e.length → (o : Option (List ℕ)) → follow_chain v (directory_clusters e) (first_link e) m ≡ o
      → on_image geometry (and_then (sound o (λ cs. Slot.directory e cs)) (λ h. after_entry v mend (suc b) m n h)) ≡ on_chain o (λ cs. on_image geometry (inside_of v mend b t e.first_cluster e.length (marks m cs) n))
  unfolding and_then
  directory-in b e two none f = refl
  directory-in b e two (some cs) f = into b e cs two f

  -- a live entry, by the tests on it
  live_in : (b : ℕ) (e : Entry) (file sub new : Bool) → is_subdirectory e ≡ sub
      → on_image geometry (and_then (cond (file && new) (sound (follow_chain v (file_clusters e) (first_link e) m) (λ cs. Slot.file e cs (map v.page (pages_of cs))))
      (cond (sub && ltb 0 b && new) (sound (follow_chain v (directory_clusters e) (first_link e) m) (λ cs. Slot.directory e cs)) (fault 7 0))) (λ h. after_entry v mend b m n h))
      ≡ entered_look v mend geometry b t m n (cond new (cond file (kind.File e.length e.first_cluster) (cond sub (kind.Directory e.length e.first_cluster) kind.Bad)) kind.Bad)
  unfolding and_then
  live_in b e true sub true s = file-in b e (follow_chain v (file_clusters e) (first_link e) m)
  live_in zero e false true true s = refl
  live_in (suc b) e false true true s =
      let d : ltb 0 (suc b) ≡ true = of_T (lt→ltb 0 (suc b) (omega arith)) in
      rw d (directory-in b e (two s) (follow_chain v (directory_clusters e) (first_link e) m) refl)
    where
      two : is_subdirectory e ≡ true → 2 ≤ e.length
      two z = leb→le 2 e.length (to-T (and_r (is_directory e && good_name e.name) (leb 2 e.length) z))
  live_in b e false false true s = refl
  live_in b e true true false s = rw (and-false (ltb 0 b))
  live_in b e true false false s = refl
  live_in b e false true false s = rw (and-false (ltb 0 b))
  live_in b e false false false s = refl

  -- The slot in page p gives what its look leads to.
  pub enters : (b : ℕ) (seen : Name → ℕ) (p : ℕ) → on_image geometry (and_then (judge_entry v b seen m p (v.entry p)) (λ h. after_entry v mend b m n h)) ≡ entered_read v mend geometry b t m n (looked_at seen (image_page geometry p) (v.entry p))
  unfolding and_then
  enters b seen p = go (v.entry p)
    where
      live : (e : Entry) (l : Bool) → is_live e ≡ l
          → on_image geometry (and_then (cond l (cond (is_file e && eqb (seen e.name) 0) (sound (follow_chain v (file_clusters e) (first_link e) m) (λ cs. Slot.file e cs (map v.page (pages_of cs))))
          (cond (is_subdirectory e && ltb 0 b && eqb (seen e.name) 0) (sound (follow_chain v (directory_clusters e) (first_link e) m) (λ cs. Slot.directory e cs)) (fault 7 0))) (ok Slot.dead)) (λ h. after_entry v mend b m n h))
          ≡ entered_look v mend geometry b t m n (cond l (cond (eqb (seen e.name) 0) (cond (is_file e) (kind.File e.length e.first_cluster) (cond (is_subdirectory e) (kind.Directory e.length e.first_cluster) kind.Bad)) kind.Bad) kind.Dead)
      live e true i = live_in b e (is_file e) (is_subdirectory e) (eqb (seen e.name) 0) refl
      live e false i = dead-in b

      go : (o : Option Entry) → on_image geometry (and_then (judge_entry v b seen m p o) (λ h. after_entry v mend b m n h)) ≡ entered_read v mend geometry b t m n (looked_at seen (image_page geometry p) o)
      go none = refl
      go (some e) = live e (is_live e) refl
