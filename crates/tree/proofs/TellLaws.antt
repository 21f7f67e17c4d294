-- What the walk's answers say, step by step.
use Rattle.layout.specs.declared.Geometry.{Geometry}
use Rattle.std.proofs.Common.{◌≡◌, ℕ, zero, suc, pred, ◌+◌, ◌-◌, ◌/◌, ◌^◌, ◌<◌, ◌≤◌, Bool, true, false, cond, ◌&&◌, ltb, List, [], ◌∷◌, ◌++◌, length, sym, refl, ap, ◌∙◌, add-one, sub-one, arith, lt-ltb}
use Rattle.std.specs.Prelude.{Result as Returned, Ok, Err}
use Rattle.std.specs.Result.{is_ok}
use mathlib.Core.Option.{Option, none, some}
use mathlib.Core.Path.{fun_ext}
use native.Mathlib.Nat.{mod-mod}
use Rattle.page.specs.Mended.{wrapped}
use Rattle.layout.specs.Mended.{Adds}
use Rattle.fields.specs.declared.kinds.Kind.{Kind}
use Rattle.fields.specs.declared.kinds.Kind.TheVariants as kind
use Rattle.layout.specs.declared.Refusal.{Refusal}
use Rattle.layout.specs.declared.Refusal.TheVariants as is
use Rattle.layout.specs.Refusal.{number_of, page_of, told}
use Rattle.layout.specs.See.{image_page, on_image}
use Rattle.model.specs.Check.{Marks, Result, and_then, fault, follow_chain, judge_dot, judge_dots, marks, ok, walk_directory, walk_slots}
use Rattle.model.specs.Entry.{Entry, clusters_for, is_directory}
use Rattle.model.specs.Names.{Name, same_name}
use Rattle.model.specs.Needed.{pages_below, total_over}
use Rattle.model.specs.Tree.{Tree}
use Rattle.model.specs.View.{View, most_clusters}
use Rattle.reached.proofs.ChainLaws.{broken-none, sound-some}
use Rattle.reached.proofs.MarkLaws.{keeps_self}
use Rattle.reached.specs.Chain.{chain_behind}
use Rattle.reached.specs.Marks.{Sound, marks_of}
use Rattle.reached.specs.Table.{first_link_of, table_links}
use Rattle.reached.specs.declared.Chain.{Chain}
use Rattle.reached.specs.declared.Reached.{Reached}
use Rattle.tree.specs.Slots.{cluster_at, live_before, live_hit, next_of, slot_page, slot_pages, cluster_after}
use Rattle.tree.specs.Walk.{LookAdds, Tells, dot_pages, entered_look, entered_read, inside_of, looked_at, on_chain, tallied}
use Rattle.tree.proofs.SlotSteps.{deeper_of, enters, fault-ok, none_more, same_count, slot_told, tallied-on, tallied-same, walk_is, walk_step}

-- ---- the first two entries

module _ (v : View) (geometry : Geometry) (page : ℕ) (n : Name) where
  pub dot-unread : (p : ℕ) (o : Option Entry) → o ≡ none → p ≡ image_page geometry page → fault 2 p ≡ on_image geometry (judge_dot v n page o)
  dot-unread p o e q = rw (e, q)

  pub dot_good : (o : Option Entry) (e : Entry) → o ≡ some e → (a b : Bool) → a ≡ is_directory e → b ≡ same_name e.name n → (a && b) ≡ true
      → ok tt ≡ on_image geometry (judge_dot v n page o)
  dot_good o e i a b f g h = let z : (is_directory e && same_name e.name n) ≡ true = rw (← f, ← g) h in rw (i, z)

  pub dot-bad : (o : Option Entry) (e : Entry) → o ≡ some e → (a b : Bool) → a ≡ is_directory e → b ≡ same_name e.name n → (a && b) ≡ false
      → fault 7 0 ≡ on_image geometry (judge_dot v n page o)
  dot-bad o e i a b f g h = let z : (is_directory e && same_name e.name n) ≡ false = rw (← f, ← g) h in rw (i, z)

module _ (geometry : Geometry) (f : Unit {0} → Result (Unit {0})) where
  pub dots-stop : (r : Result (Unit {0})) (n p : ℕ) → fault n p ≡ on_image geometry r → fault n p ≡ on_image geometry (and_then r f)
  unfolding and_then
  dots-stop (fault k q) n p h = h
  dots-stop (ok a) n p h = fault-ok n p a h

  pub dots-go : (r x : Result (Unit {0})) → ok tt ≡ on_image geometry r → x ≡ on_image geometry (f tt) → x ≡ on_image geometry (and_then r f)
  unfolding and_then
  dots-go (fault n p) x h g = fault-ok _ _ _ (sym h)
  dots-go (ok a) x h g = g

-- the count of both
pub adds-two : (y : Returned (Unit {0}) Refusal) (n a b middle count : ℕ) → wrapped middle ≡ wrapped (n + a) → Adds y middle b count → Adds y n (a + (b + 0)) count
adds-two (Ok u) n a b middle count f g =
    let sum : n + a + b ≡ n + (a + (b + 0)) = omega arith in
    g ∙ same_count middle (n + a) b f ∙ ap wrapped sum
adds-two (Err f) n a b middle count g h = tt

-- ---- one step and the rest

-- a fault that is told is the refusal's
fault-told : (r : Result (Marks × ℕ)) (f : Refusal) (count : ℕ) → fault (number_of f) (page_of f) ≡ r → Tells r (Err f) count
fault-told (fault n p) f count h = (cc, cc)
fault-told (ok x) f count h = fault-ok _ _ _ h

module _ (s : Result (Marks × ℕ)) (g : Marks → ℕ → Result (Marks × ℕ)) (whole : Result (Marks × ℕ)) where
  pub tells-stop : (f : Refusal) (count later : ℕ) → Tells s (Err f) count → whole ≡ and_then s (λ y. g y.0 y.1) → Tells whole (Err f) later
  unfolding and_then
  tells-stop f count later = go s
    where
      go : (s : Result (Marks × ℕ)) → Tells s (Err f) count → whole ≡ and_then s (λ y. g y.0 y.1) → Tells whole (Err f) later
      go (fault n p) h w = rw w h
      go (ok y) h w = absurd h

  -- what comes after goes by the count as it wraps
  pub tells-go : ((m : Marks) (n : ℕ) → g m (wrapped n) ≡ g m n) → (r : Reached) (count : ℕ) → Tells s (Ok r) count
      → whole ≡ and_then s (λ y. g y.0 y.1) → (whole ≡ g (marks_of r) count) × Sound r
  unfolding and_then
  tells-go stable r count = go s
    where
      go : (s : Result (Marks × ℕ)) → Tells s (Ok r) count → whole ≡ and_then s (λ y. g y.0 y.1) → (whole ≡ g (marks_of r) count) × Sound r
      go (fault n p) h w = absurd h
      go (ok y) h w =
          (w ∙ ap (λ (m : Marks). g m y.1) (sym (fun_ext h.0.marks)) ∙ ap (g (marks_of r)) (sym h.1) ∙ stable (marks_of r) count, h.0.sound)

image-then : (geometry : Geometry) (s : Result (Marks × ℕ)) (g : Marks × ℕ → Result (Marks × ℕ)) → on_image geometry (and_then s g) ≡ and_then (on_image geometry s) (λ m. on_image geometry (g m))
unfolding and_then
image-then geometry (fault n p) g = refl
image-then geometry (ok m) g = refl

-- ---- the slots of a directory

module _ (v : View) (mend : ℕ → ℕ) (geometry : Geometry) (below : ℕ) (t : List ℕ) where
  -- what is left of a directory's slots
  abbrev pub rest : ℕ → ℕ → ℕ → ℕ → Marks → ℕ → Result (Marks × ℕ)
  rest start c k left m n =
      on_image geometry (tallied mend (slot_pages t c k left) n (walk_slots v (deeper_of v below) below (slot_pages t c k left) (live_before v t start k) m))

  pub rest-done : (start c k left : ℕ) (m : Marks) (n : ℕ) → left ≡ 0 → rest start c k left m n ≡ ok (m, wrapped n)
  unfolding slot_pages pages_below
  rest-done start c k left m n e = rw e (ap (λ (x : ℕ). ok (m, x)) (none_more n))

  rest-same : (start c k left : ℕ) (m : Marks) (a b : ℕ) → wrapped a ≡ wrapped b → rest start c k left m a ≡ rest start c k left m b
  rest-same start c k left m a b h = ap (on_image geometry) (tallied-same mend (slot_pages t c k left) a b h (walk_slots v (deeper_of v below) below (slot_pages t c k left) (live_before v t start k) m))

  pub rest-step : ((c : ℕ) → v.link c ≡ table_links t c) → (start c k left : ℕ) (m : Marks) (n : ℕ) → 0 < left → c ≡ cluster_at t start k
      → rest start c k left m n
      ≡ and_then (entered_read v mend geometry below t m (n + mend (slot_page c k)) (looked_at (live_before v t start k) (image_page geometry (slot_page c k)) (v.entry (slot_page c k))))
      (λ s. rest start (cluster_after t c k) (k + 1) (left - 1) s.0 s.1)
  unfolding slot_pages live_before
  rest-step links start c k zero m n l e = absurd (omega arith)
  rest-step links start c k (suc left) m n l e =
      ap (on_image geometry) (walk_step v mend below (slot_page c k) (slot_pages t (cluster_after t c k) (suc k) left) (live_before v t start k) m n)
      ∙ image-then geometry (slot_told v mend below (live_before v t start k) m n (slot_page c k)) _
      ∙ ap (λ (s : Result (Marks × ℕ)). and_then s (λ y. on_image geometry (tallied mend (slot_pages t (cluster_after t c k) (suc k) left) y.1 (walk_slots v (deeper_of v below) below (slot_pages t (cluster_after t c k) (suc k) left)
      (λ x. live_before v t start k x + live_hit (v.entry (slot_page c k)) x) y.0)))) (enters v mend t links geometry m (n + mend (slot_page c k)) below (live_before v t start k) (slot_page c k))
      ∙ rw (add-one k, sub-one (suc left), e)

  -- a slot gives the same whichever way its page was counted
  entered-same : (m : Marks) (n chunks count : ℕ) (seen : Returned Kind Refusal) → LookAdds seen n chunks count
      → entered_read v mend geometry below t m count seen ≡ entered_read v mend geometry below t m (n + chunks) seen
  unfolding inside_of
  entered-same m n chunks count (Err r) h = refl
  entered-same m n chunks count (Ok kind.Bad) h = refl
  entered-same m n chunks count (Ok kind.Dead) h = ap (λ (x : ℕ). ok (m, x)) h
  entered-same m n chunks count (Ok (kind.File len first)) h = ap (λ (x : ℕ). on_chain (follow_chain v (clusters_for len) (first_link_of first) m) (λ cs. ok (marks m cs, x))) h
  entered-same m n chunks count (Ok (kind.Directory len first)) h =
      ap (λ (f : List ℕ → Result (Marks × ℕ)). cond (ltb 0 below) (on_chain (follow_chain v ((len + 1) / 2) (first_link_of first) m) f) (fault 7 0))
      (fun_ext (λ cs. ap (on_image geometry) (tallied-same mend (dot_pages first ++ slot_pages t (next_of t first) 0 (len - 2)) count (n + chunks) h (and_then (judge_dots v (first ∷ [])) (λ x. walk_directory v (pred below) (slot_pages t (next_of t first) 0 (len - 2)) (λ n. 0) (marks m cs))))))

  -- a slot that is refused ends the walk; one that is sound leaves the rest
  module _ (links : (c : ℕ) → v.link c ≡ table_links t c) (start c k left : ℕ) (whole : Result (Marks × ℕ)) (r : Reached) (n : ℕ) (w : whole ≡ rest start c k left (marks_of r) n)
      (l : 0 < left) (here : c ≡ cluster_at t start k) (seen : Returned Kind Refusal) (f : seen ≡ looked_at (live_before v t start k) (image_page geometry (slot_page c k)) (v.entry (slot_page c k)))
      (count : ℕ) (adds : LookAdds seen n (mend (slot_page c k)) count) where
    stepped : whole ≡ and_then (entered_read v mend geometry below t (marks_of r) count seen) (λ s. rest start (cluster_after t c k) (k + 1) (left - 1) s.0 s.1)
    stepped =
        w ∙ rest-step links start c k left (marks_of r) n l here
        ∙ ap (λ (z : Returned Kind Refusal). and_then (entered_read v mend geometry below t (marks_of r) (n + mend (slot_page c k)) z) (λ s. rest start (cluster_after t c k) (k + 1) (left - 1) s.0 s.1)) (sym f)
        ∙ ap (λ (z : Result (Marks × ℕ)). and_then z (λ s. rest start (cluster_after t c k) (k + 1) (left - 1) s.0 s.1)) (sym (entered-same (marks_of r) n (mend (slot_page c k)) count seen adds))

    pub slot-stop : (g : Refusal) (told later : ℕ) → Tells (entered_read v mend geometry below t (marks_of r) count seen) (Err g) told → Tells whole (Err g) later
    slot-stop g told later h = tells-stop (entered_read v mend geometry below t (marks_of r) count seen) (rest start (cluster_after t c k) (k + 1) (left - 1)) whole g told later h stepped

    pub slot-go : (q : Reached) (later : ℕ) → Tells (entered_read v mend geometry below t (marks_of r) count seen) (Ok q) later
        → (whole ≡ rest start (cluster_after t c k) (k + 1) (left - 1) (marks_of q) later) × Sound q
    slot-go q later h =
        tells-go (entered_read v mend geometry below t (marks_of r) count seen) (rest start (cluster_after t c k) (k + 1) (left - 1)) whole
        (λ m a. rest-same start (cluster_after t c k) (k + 1) (left - 1) m (wrapped a) a (mod-mod a (2 ^ 64))) q later h stepped

  -- the end: no slot is left
  pub slots-done : (start c k left : ℕ) (whole : Result (Marks × ℕ)) (r : Reached) (n : ℕ) → whole ≡ rest start c k left (marks_of r) n → left ≡ 0 → Sound r → Tells whole (Ok r) n
  slots-done start c k left whole r n w e s = rw (w ∙ rest-done start c k left (marks_of r) n e) (keeps_self r s, refl)

  -- Where the walk of the slots stands: sound so far, and what is left gives the whole; or refused.
  abbrev pub Stands : ℕ → ℕ → ℕ → ℕ → Result (Marks × ℕ) → Returned Reached Refusal → ℕ → Type 0
  Stands start c k left whole (Ok r) n = (whole ≡ rest start c k left (marks_of r) n) × Sound r
  Stands start c k left whole (Err f) n = Tells whole (Err f) n

  -- the end: no slot is left, or one was refused
  pub stands-end : (start c k left : ℕ) (whole : Result (Marks × ℕ)) (x : Returned Reached Refusal) (n : ℕ) → Stands start c k left whole x n → (is_ok x ≡ true → left ≡ 0) → Tells whole x n
  stands-end start c k left whole (Ok r) n h e = slots-done start c k left whole r n h.0 (e refl) h.1
  stands-end start c k left whole (Err f) n h e = h

  pub stands-sound : (start c k left : ℕ) (whole : Result (Marks × ℕ)) (x : Returned Reached Refusal) (r : Reached) (n : ℕ) → Stands start c k left whole x n → x ≡ Ok r
      → (whole ≡ rest start c k left (marks_of r) n) × Sound r
  stands-sound start c k left whole x r n h e = rw e at h

  -- one slot more
  pub slot-on : (links : (c : ℕ) → v.link c ≡ table_links t c) (start c k left : ℕ) (whole : Result (Marks × ℕ)) (r : Reached) (n : ℕ) → whole ≡ rest start c k left (marks_of r) n
      → 0 < left → c ≡ cluster_at t start k → (seen : Returned Kind Refusal) → seen ≡ looked_at (live_before v t start k) (image_page geometry (slot_page c k)) (v.entry (slot_page c k))
      → (count : ℕ) → LookAdds seen n (mend (slot_page c k)) count
      → (x : Returned Reached Refusal) (later : ℕ) → Tells (entered_read v mend geometry below t (marks_of r) count seen) x later → Stands start (cluster_after t c k) (k + 1) (left - 1) whole x later
  slot-on links start c k left whole r n w l here seen f count adds (Ok q) later h = slot-go links start c k left whole r n w l here seen f count adds q later h
  slot-on links start c k left whole r n w l here seen f count adds (Err g) later h = slot-stop links start c k left whole r n w l here seen f count adds g later later h

  -- ---- the first two entries, before the slots

  dots-only : (pages : List ℕ) (n : ℕ) (r : Result (Unit {0})) (w : Result (Tree × Marks)) → ok tt ≡ on_image geometry r
      → tallied mend pages n (and_then r (λ y. w)) ≡ tallied mend pages n w
  unfolding and_then
  dots-only pages n (fault k p) w h = fault-ok _ _ _ (sym h)
  dots-only pages n (ok a) w h = refl

  dots-not : (pages : List ℕ) (n : ℕ) (r : Result (Unit {0})) (w : Result (Tree × Marks)) (f : Refusal) (count : ℕ) → fault (number_of f) (page_of f) ≡ on_image geometry r
      → Tells (on_image geometry (tallied mend pages n (and_then r (λ y. w)))) (Err f) count
  unfolding and_then
  dots-not pages n (fault k p) w f count h = (cc, cc)
  dots-not pages n (ok a) w f count h = fault-ok _ _ _ h

  module _ (first entries : ℕ) (m : Marks) (n : ℕ) where
    pub inside-stop : (f : Refusal) (count : ℕ) → fault (number_of f) (page_of f) ≡ on_image geometry (judge_dots v (first ∷ []))
        → Tells (on_image geometry (inside_of v mend below t first entries m n)) (Err f) count
    unfolding inside_of
    inside-stop f count h =
        dots-not (dot_pages first ++ slot_pages t (next_of t first) 0 (entries - 2)) n (judge_dots v (first ∷ [])) (walk_directory v below (slot_pages t (next_of t first) 0 (entries - 2)) (λ n. 0) m) f count h

    pub inside-go : ok tt ≡ on_image geometry (judge_dots v (first ∷ [])) → (count : ℕ) → wrapped count ≡ wrapped (n + total_over mend (dot_pages first)) → (start left : ℕ) → start ≡ next_of t first → left ≡ entries - 2
        → on_image geometry (inside_of v mend below t first entries m n) ≡ rest start start 0 left m count
    unfolding inside_of live_before
    inside-go h count adds start left f g =
        ap (on_image geometry)
        (dots-only (dot_pages first ++ slot_pages t (next_of t first) 0 (entries - 2)) n (judge_dots v (first ∷ [])) (walk_directory v below (slot_pages t (next_of t first) 0 (entries - 2)) (λ n. 0) m) h
        ∙ tallied-on mend (dot_pages first) (slot_pages t (next_of t first) 0 (entries - 2)) n count adds (walk_directory v below (slot_pages t (next_of t first) 0 (entries - 2)) (λ n. 0) m))
        ∙ ap (λ (w : Result (Tree × Marks)). on_image geometry (tallied mend (slot_pages t (next_of t first) 0 (entries - 2)) count w)) (walk_is v below (slot_pages t (next_of t first) 0 (entries - 2)) (λ n. 0) m)
        ∙ rw (← f, ← g) (ap (λ (s : Name → ℕ). on_image geometry (tallied mend (slot_pages t start 0 left) count (walk_slots v (deeper_of v below) below (slot_pages t start 0 left) s m))) (fun_ext (λ n. refl)))

-- the record so far, or why the first two entries are refused
abbrev pub begun : Reached → Returned (Unit {0}) Refusal → Returned Reached Refusal
begun r (Ok u) = Ok r
begun r (Err f) = Err f

-- the start of a directory's slots, by the verdict on its first two entries
pub inside-stands : (v : View) (mend : ℕ → ℕ) (geometry : Geometry) (below : ℕ) (t : List ℕ) (first entries : ℕ) (r : Reached) (n : ℕ) → Sound r → (x : Returned (Unit {0}) Refusal) → told x ≡ on_image geometry (judge_dots v (first ∷ []))
    → (count : ℕ) → Adds x n (total_over mend (dot_pages first)) count → (start left : ℕ) → start ≡ next_of t first → left ≡ entries - 2
    → Stands v mend geometry below t start start 0 left (on_image geometry (inside_of v mend below t first entries (marks_of r) n)) (begun r x) count
inside-stands v mend geometry below t first entries r n s (Ok u) h count adds start left f g = (inside-go v mend geometry below t first entries (marks_of r) n h count adds start left f g, s)
inside-stands v mend geometry below t first entries r n s (Err q) h count adds start left f g = inside-stop v mend geometry below t first entries (marks_of r) n q count h

-- ---- an entry and its chain

module _ (t : List ℕ) (small : length t ≤ most_clusters) (v : View) (mend : ℕ → ℕ) (links : (c : ℕ) → v.link c ≡ table_links t c) (geometry : Geometry)
    (r : Reached) (s : Sound r) (n len first k : ℕ) (x : Chain) (e : x ≡ chain_behind t r first k) where
  on_none : (o : Option (List ℕ)) (g : List ℕ → Result (Marks × ℕ)) → o ≡ none → Tells (on_chain o g) (Err is.BadChain) n
  on_none o g f = rw f (refl, refl)

  broken-so : x.sound ≡ false → follow_chain v k (first_link_of first) (marks_of r) ≡ none
  broken-so f = broken-none t small v links k first r (marks_of r) (keeps_self r s) (rw e at f)

  pub file-bad : (below : ℕ) → k ≡ clusters_for len → x.sound ≡ false → Tells (entered_look v mend geometry below t (marks_of r) n (kind.File len first)) (Err is.BadChain) n
  file-bad below q f = rw (← q) (on_none (follow_chain v k (first_link_of first) (marks_of r)) _ (broken-so f))

  pub file-good : (below : ℕ) → k ≡ clusters_for len → x.sound ≡ true → Tells (entered_look v mend geometry below t (marks_of r) n (kind.File len first)) (Ok x.reached) n
  file-good below q f =
      let g = sound-some t small v links k first r (marks_of r) (keeps_self r s) (rw e at f) in
      rw (← q, g.1, e) (g.2.keeps, refl)

  pub directory-bad : (below : ℕ) → 0 < below → k ≡ (len + 1) / 2 → x.sound ≡ false → Tells (entered_look v mend geometry below t (marks_of r) n (kind.Directory len first)) (Err is.BadChain) n
  directory-bad below b q f = rw (lt-ltb 0 below b, ← q) (on_none (follow_chain v k (first_link_of first) (marks_of r)) _ (broken-so f))

  pub directory-sound : x.sound ≡ true → Sound x.reached
  directory-sound f = let g = sound-some t small v links k first r (marks_of r) (keeps_self r s) (rw e at f) in rw e g.2.keeps.sound

  pub directory-good : (below : ℕ) → 0 < below → k ≡ (len + 1) / 2 → x.sound ≡ true → (w : Returned Reached Refusal) (later : ℕ)
      → Tells (on_image geometry (inside_of v mend (below - 1) t first len (marks_of x.reached) n)) w later
      → Tells (entered_look v mend geometry below t (marks_of r) n (kind.Directory len first)) w later
  directory-good below b q f w later h =
      let g = sound-some t small v links k first r (marks_of r) (keeps_self r s) (rw e at f) in
      let m : marks (marks_of r) g.0 ≡ marks_of x.reached = rw e (sym (fun_ext g.2.keeps.marks)) in
      let p : pred below ≡ below - 1 = sym (sub-one below) in
      rw (lt-ltb 0 below b, ← q, g.1, m, p) h

pub directory-deep : (v : View) (mend : ℕ → ℕ) (geometry : Geometry) (t : List ℕ) (m : Marks) (n below len first : ℕ) → below ≡ 0
    → Tells (entered_look v mend geometry below t m n (kind.Directory len first)) (Err is.BadEntry) n
directory-deep v mend geometry t m n below len first e = rw e (refl, refl)
