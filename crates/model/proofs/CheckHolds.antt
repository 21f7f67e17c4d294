-- The walk accepts exactly the cards that hold a tree, and gives that tree.
use Prim.Native.Nat.{◌*◌, ◌+◌, ◌<◌, ◌≤◌, pred, suc, zero, ℕ}
use mathlib.Core.Bool.{Bool, ◌&&◌, ◌||◌, cond, false, not, true}
use mathlib.Core.List.{List, [], ◌∷◌, map}
use mathlib.Core.Option.{Option, none, some}
use mathlib.Core.Path.{◌∙◌, ◌≡◌, ap, fun_ext, refl, sym}
use native.Mathlib.Omega.{arith}
use lib.Dec.{eqb, ltb, ltb→lt, lt→ltb}
use Rattle.model.specs.Check.{Deeper, Marks, Result, and_then, check_tree, dots, fault, follow_chain, judge_dot, judge_dots, judge_entry, judge_root, marks, ok, sound, walk_directory, walk_slots}
use Rattle.model.specs.Entry.{Entry, directory_clusters, file_clusters, has_bit, is_directory, is_file, is_live, is_root, is_subdirectory}
use Rattle.model.specs.Holds.{DotEntries, DotEntry, HoldsCard, HoldsSlot, HoldsSlots, UniqueNames, deepest}
use Rattle.model.specs.Names.{Name, good_name, same_name}
use Rattle.model.specs.Tree.{Root, Slot, Tree, chain_of, cluster_uses, end, entry_pages, hit_name, name_hit, name_uses, node, reached, times}
use Rattle.model.specs.View.{Link, View, first_link, pages_of}
use Rattle.model.proofs.Chains.{follow-of, follow-ok}
use Rattle.model.proofs.Equality.{Eq, Eq-name, Eq-number, and_l, and_r, of_T, to-T}

module _ {A B : Type 0} where
  bind_ok : (r : Result A) (f : A → Result B) (b : B) → and_then r f ≡ ok b → (a : A) × (r ≡ ok a) × (f a ≡ ok b)
  unfolding and_then
  bind_ok (fault n p) f b h = absurd (let z : ◌≡◌ {A = ℕ} 0 1 = cc in omega arith)
  bind_ok (ok a) f b h = (a, refl, h)

  bind-of : (r : Result A) (f : A → Result B) (a : A) → r ≡ ok a → and_then r f ≡ f a
  unfolding and_then
  bind-of r f a h = rw h

  bind-case : {C : Type 0} (r : Result A) (f : A → Result B) (b : B) → and_then r f ≡ ok b → ((a : A) → r ≡ ok a → f a ≡ ok b → C) → C
  bind-case r f b h k = let x = bind_ok r f b h in k x.0 x.1 x.2

  sound-ok : (o : Option A) (f : A → B) (b : B) → sound o f ≡ ok b → (a : A) × (o ≡ some a) × (f a ≡ b)
  sound-ok none f b h = absurd (let z : ◌≡◌ {A = ℕ} 0 1 = cc in omega arith)
  sound-ok (some a) f b h = (a, refl, cc)

abbrev ind : {A : Type 0} → Eq A → A → A → ℕ
ind q a b = cond (q.same a b) 1 0

mark-1 : {A : Type 0} (q : Eq A) (m : A → ℕ) (a : A) → ((c : A) → m c ≤ 1) → m a ≡ 0 → (c : A) → m c + ind q a c ≤ 1
mark-1 q m a u e c = go (q.same a c) refl
  where
    go : (b : Bool) → q.same a c ≡ b → m c + cond b 1 0 ≤ 1
    go true f = rw (← q.sound a c f) (omega arith)
    go false f = omega (arith, u c)

dot-test : (b : Bool) → ◌≡◌ {A = Result (Unit {0})} (cond b (ok tt) (fault 7 0)) (ok tt) → b ≡ true
dot-test true z = refl
dot-test false z = absurd (let z : ◌≡◌ {A = ℕ} 0 1 = cc in omega arith)

and-true : {a b : Bool} → a ≡ true → b ≡ true → (a && b) ≡ true
and-true p q = rw (p, q)

and-false : {a : Bool} (b : Bool) → a ≡ false → (a && b) ≡ false
and-false b p = rw p

pub ok-inj : {A : Type 0} (a b : A) → ok a ≡ ok b → a ≡ b
ok-inj a b e = cc

-- a file is no directory
not-both : (a b c g x : Bool) → c ≡ true → (a && b && not c && g && x) ≡ false
not-both true true c g x e = rw e
not-both true false c g x e = refl
not-both false b c g x e = refl

file-or-dir : (e : Entry) → is_subdirectory e ≡ true → is_file e ≡ false
file-or-dir e h = not-both (is_live e) (has_bit e.mode 0x10) (has_bit e.mode 0x20) (good_name e.name) (ltb 0 e.length || eqb e.first_cluster 0xFFFFFFFF) (and_r (is_live e) _ (and_l (is_live e && _) _ (and_l _ _ (and_l _ _ h))))

module _ (v : View) where
  dot_ok : (n : Name) (p : ℕ) → judge_dot v n p (v.entry p) ≡ ok tt → DotEntry v n p
  dot_ok n p h = go (v.entry p) refl h
    where
      go : (o : Option Entry) → v.entry p ≡ o → judge_dot v n p o ≡ ok tt → DotEntry v n p
      go none x y = absurd (let z : ◌≡◌ {A = ℕ} 0 1 = cc in omega arith)
      go (some e) x y = (e, x, dot-test (is_directory e && same_name e.name n) y)

  dots-ok : (cs : List ℕ) → judge_dots v cs ≡ ok tt → DotEntries v cs
  dots-ok [] h = absurd (let z : ◌≡◌ {A = ℕ} 0 1 = cc in omega arith)
  dots-ok (c ∷ cs) h = let x = bind_ok _ _ tt h in (dot_ok _ (2 * c) x.1, dot_ok _ (2 * c + 1) x.2)

  dot-of : (n : Name) (p : ℕ) → DotEntry v n p → judge_dot v n p (v.entry p) ≡ ok tt
  dot-of n p h = rw (h.1, h.2)

  dots-of : (cs : List ℕ) → DotEntries v cs → judge_dots v cs ≡ ok tt
  dots-of [] h = absurd h
  dots-of (c ∷ cs) h = bind-of _ _ tt (dot-of _ (2 * c) h.0) ∙ (dot-of _ (2 * c + 1) h.1)

  one : (n : Name) → hit_name n n ≡ 1
  one n = rw (Eq-name.self n)

  -- heads
  judge-ok : (d : ℕ) (seen : Name → ℕ) (m : Marks) (p : ℕ) (h : Slot) → ((n : Name) → seen n ≤ 1) → ((c : ℕ) → m c ≤ 1)
      → judge_entry v d seen m p (v.entry p) ≡ ok h → dots v h ≡ ok tt
      → HoldsSlot v d p h × ((n : Name) → seen n + name_hit h n ≤ 1) × ((c : ℕ) → m c + times (chain_of h) c ≤ 1)
  judge-ok d seen m p h us um e f = go (v.entry p) refl e
    where
      Goal : Slot → Type 0
      Goal h = HoldsSlot v d p h × ((n : Name) → seen n + name_hit h n ≤ 1) × ((c : ℕ) → m c + times (chain_of h) c ≤ 1)

      living : (e : Entry) → v.entry p ≡ some e → (b₁ b₂ b₃ : Bool) → is_live e ≡ b₁ → (is_file e && eqb (seen e.name) 0) ≡ b₂ → (is_subdirectory e && ltb 0 d && eqb (seen e.name) 0) ≡ b₃
          → cond b₁ (cond b₂ (sound (follow_chain v (file_clusters e) (first_link e) m) (λ cs. Slot.file e cs (map v.page (pages_of cs))))
          (cond b₃ (sound (follow_chain v (directory_clusters e) (first_link e) m) (λ cs. Slot.directory e cs)) (fault 7 0))) (ok Slot.dead) ≡ ok h
          → Goal h
      living e x false b₂ b₃ p₁ p₂ p₃ y = let z : Slot.dead ≡ h = cc in rw (← z) ((e, x, p₁), (λ n. omega (arith, us n)), (λ c. omega (arith, um c)))
      living e x true true b₃ p₁ p₂ p₃ y =
          let a = sound-ok _ _ h y in
          let k = follow-ok v (file_clusters e) (first_link e) m a.0 um a.1 in
          let g : Goal (Slot.file e a.0 (map v.page (pages_of a.0))) =
          ((x, and_l _ _ p₂, k.0, k.1, refl), mark-1 Eq-name seen e.name us (Eq-number.sound _ 0 (and_r (is_file e) _ p₂)), k.2) in
          rw (← a.2) g
      living e x true false true p₁ p₂ p₃ y =
          let a = sound-ok _ _ h y in
          let k = follow-ok v (directory_clusters e) (first_link e) m a.0 um a.1 in
          let q = and_l (is_subdirectory e && ltb 0 d) _ p₃ in
          let g : Goal (Slot.directory e a.0) = (
            (x, and_l _ _ q, ltb→lt 0 d (to-T (and_r (is_subdirectory e) _ q)), k.0, k.1, dots-ok a.0 (rw (← a.2) at f)),
            mark-1 Eq-name seen e.name us (Eq-number.sound _ 0 (and_r (is_subdirectory e && ltb 0 d) _ p₃)),
            k.2,
          ) in
          rw (← a.2) g
      living e x true false false p₁ p₂ p₃ y = absurd (let z : ◌≡◌ {A = ℕ} 0 1 = cc in omega arith)

      go : (o : Option Entry) → v.entry p ≡ o → judge_entry v d seen m p o ≡ ok h → Goal h
      go none x y = absurd (let z : ◌≡◌ {A = ℕ} 0 1 = cc in omega arith)
      go (some e) x y = living e x (is_live e) (is_file e && eqb (seen e.name) 0) (is_subdirectory e && ltb 0 d && eqb (seen e.name) 0) refl refl refl y

  judge-of : (d : ℕ) (seen : Name → ℕ) (m : Marks) (p : ℕ) (h : Slot) → HoldsSlot v d p h → ((n : Name) → seen n + name_hit h n ≤ 1) → ((c : ℕ) → m c + times (chain_of h) c ≤ 1)
      → judge_entry v d seen m p (v.entry p) ≡ ok h
  judge-of d seen m p Slot.dead x us um = rw (x.1, x.2)
  judge-of d seen m p (Slot.file e cs ds) x us um =
      let z : seen e.name ≡ 0 = omega (arith, us e.name, one e.name) in
      let pf : (is_file e && eqb (seen e.name) 0) ≡ true = and-true x.1 (rw z) in
      let pl : is_live e ≡ true = and_l _ _ (and_l _ _ (and_l _ _ (and_l _ _ x.1))) in
      rw (x.0, pf, pl, ← x.2, follow-of v (first_link e) m cs x.3 (λ c o. um c), x.4)
  judge-of d seen m p (Slot.directory e cs) x us um =
      let z : seen e.name ≡ 0 = omega (arith, us e.name, one e.name) in
      let pf : (is_file e && eqb (seen e.name) 0) ≡ false = and-false _ (file-or-dir e x.1) in
      let pd : (is_subdirectory e && ltb 0 d && eqb (seen e.name) 0) ≡ true = and-true (and-true x.1 (of_T (lt→ltb 0 d x.2))) (rw z) in
      let pl : is_live e ≡ true = and_l _ _ (and_l _ _ (and_l _ _ (and_l _ _ x.1))) in
      rw (x.0, pf, pd, pl, ← x.3, follow-of v (first_link e) m cs x.4 (λ c o. um c))

  dots-head : (d p : ℕ) (h : Slot) → HoldsSlot v d p h → dots v h ≡ ok tt
  dots-head d p Slot.dead x = refl
  dots-head d p (Slot.file e cs ds) x = refl
  dots-head d p (Slot.directory e cs) x = dots-of cs x.5

  abbrev Walked : ℕ → List ℕ → (Name → ℕ) → Marks → Tree → Marks → Type 0
  Walked d ps seen m t n = HoldsSlots v d ps t × ((x : Name) → seen x + name_uses t x ≤ 1) × ((c : ℕ) → m c + cluster_uses t c ≤ 1) × ((c : ℕ) → n c ≡ m c + cluster_uses t c)

  joined : (d p : ℕ) (ps : List ℕ) (seen : Name → ℕ) (m : Marks) (h : Slot) (s : Tree) (n₁ : Marks) (r : Tree) (n₂ : Marks) (t : Tree) (n : Marks)
      → HoldsSlot v d p h × ((n : Name) → seen n + name_hit h n ≤ 1) × ((c : ℕ) → m c + times (chain_of h) c ≤ 1)
      → Walked (pred d) (entry_pages h) (λ x. 0) (marks m (chain_of h)) s n₁ → Walked d ps (λ x. seen x + name_hit h x) n₁ r n₂
      → ◌≡◌ {A = Tree × Marks} (node h s r, n₂) (t, n) → Walked d (p ∷ ps) seen m t n
  joined d p ps seen m h s n₁ r n₂ t n j i g q =
      let a : node h s r ≡ t = ap (λ x. x.0) q in
      let b : n₂ ≡ n = ap (λ x. x.1) q in
      rw (← a, ← b) (
        (j.0, (λ x. omega (arith, i.1 x)), i.0, g.0),
        (λ x. omega (arith, g.1 x)),
        (λ c. omega (arith, i.3 c, g.2 c)),
        (λ c. omega (arith, i.3 c, g.3 c)),
      )

  scan-ok : (deep : Deeper v) (d : ℕ)
      → ((p : ℕ) (h : Slot) → HoldsSlot v d p h → (m : Marks) (s : Tree) (n : Marks) → ((c : ℕ) → m c ≤ 1) → deep (entry_pages h) m ≡ ok (s, n) → Walked (pred d) (entry_pages h) (λ x. 0) m s n)
      → (ps : List ℕ) (seen : Name → ℕ) (m : Marks) (t : Tree) (n : Marks) → ((x : Name) → seen x ≤ 1) → ((c : ℕ) → m c ≤ 1)
      → walk_slots v deep d ps seen m ≡ ok (t, n) → Walked d ps seen m t n
  scan-ok deep d k [] seen m t n us um e = let q : ◌≡◌ {A = Tree × Marks} (end, m) (t, n) = ok-inj _ _ e in let f : end ≡ t = ap (λ r. r.0) q in let g : m ≡ n = ap (λ r. r.1) q in rw (← f) (tt, (λ x. omega (arith, us x)), (λ c. omega (arith, um c)), (λ c. rw (← g) (omega arith)))
  scan-ok deep d k (p ∷ ps) seen m t n us um e =
      bind-case _ _ (t, n) e (λ h e₁ f₁.
      bind-case _ _ (t, n) f₁ (λ x e₂ f₂.
      bind-case _ _ (t, n) f₂ (λ s e₃ f₃.
      bind-case _ _ (t, n) f₃ (λ r e₄ f₄.
      let j = judge-ok d seen m p h us um e₁ e₂ in
      let i = k p h j.0 (marks m (chain_of h)) s.0 s.1 j.2 e₃ in
      let u : (c : ℕ) → s.1 c ≤ 1 = λ c. omega (arith, i.2 c, i.3 c) in
      let g = scan-ok deep d k ps (λ n. seen n + name_hit h n) s.1 r.0 r.1 j.1 u e₄ in
      joined d p ps seen m h s.0 s.1 r.0 r.1 t n j i g (ok-inj _ _ f₄)))))

  nothing : (p : ℕ) (h : Slot) → HoldsSlot v zero p h → entry_pages h ≡ []
  nothing p Slot.dead x = refl
  nothing p (Slot.file e cs ds) x = refl
  nothing p (Slot.directory e cs) x = absurd (let z : 0 < 0 = x.2 in omega arith)

  pub walk-ok : (d : ℕ) (ps : List ℕ) (seen : Name → ℕ) (m : Marks) (t : Tree) (n : Marks) → ((x : Name) → seen x ≤ 1) → ((c : ℕ) → m c ≤ 1)
      → walk_directory v d ps seen m ≡ ok (t, n) → Walked d ps seen m t n
  walk-ok zero ps seen m t n us um e = scan-ok (λ qs n. ok (end, n)) zero leaf ps seen m t n us um e
    where
      leaf : (p : ℕ) (h : Slot) → HoldsSlot v zero p h → (m : Marks) (s : Tree) (n : Marks) → ((c : ℕ) → m c ≤ 1) → ◌≡◌ {A = Result (Tree × Marks)} (ok (end, m)) (ok (s, n)) → Walked (pred zero) (entry_pages h) (λ x. 0) m s n
      leaf p h x m s n um e =
          let a : end ≡ s = ap (λ r. r.0) (ok-inj _ _ e) in
          let b : m ≡ n = ap (λ r. r.1) (ok-inj _ _ e) in
          rw (← a, ← b, nothing p h x) (tt, (λ n. omega arith), (λ c. omega (arith, um c)), (λ c. omega arith))
  walk-ok (suc d) ps seen m t n us um e =
      scan-ok (λ qs n. walk_directory v d qs (λ x. 0) n) (suc d) (λ p h x m s n u e. walk-ok d (entry_pages h) (λ x. 0) m s n (λ y. omega arith) u e) ps seen m t n us um e

  scan-of : (deep : Deeper v) (d : ℕ)
      → ((p : ℕ) (h : Slot) → HoldsSlot v d p h → (m : Marks) (s : Tree) → HoldsSlots v (pred d) (entry_pages h) s → UniqueNames s → ((c : ℕ) → m c + cluster_uses s c ≤ 1) → deep (entry_pages h) m ≡ ok (s, λ c. m c + cluster_uses s c))
      → (ps : List ℕ) (seen : Name → ℕ) (m : Marks) (t : Tree) → HoldsSlots v d ps t → ((x : Name) → seen x + name_uses t x ≤ 1) → ((c : ℕ) → m c + cluster_uses t c ≤ 1)
      → walk_slots v deep d ps seen m ≡ ok (t, λ c. m c + cluster_uses t c)
  scan-of deep d k [] seen m end r us um = ap (λ (f : Marks). ok (end, f)) (fun_ext (λ c. omega arith))
  scan-of deep d k [] seen m (node h s t) r us um = absurd r
  scan-of deep d k (p ∷ ps) seen m end r us um = absurd r
  scan-of deep d k (p ∷ ps) seen m (node h s t) r us um =
      bind-of _ _ h (judge-of d seen m p h r.0 (λ x. omega (arith, us x)) (λ c. omega (arith, um c)))
      ∙ bind-of _ _ tt (dots-head d p h r.0)
      ∙ bind-of _ _ (s, λ c. marks m (chain_of h) c + cluster_uses s c) (k p h r.0 (marks m (chain_of h)) s r.2 r.1 (λ c. omega (arith, um c)))
      ∙ bind-of _ _ (t, λ c. marks m (chain_of h) c + cluster_uses s c + cluster_uses t c) (scan-of deep d k ps (λ x. seen x + name_hit h x) (λ c. marks m (chain_of h) c + cluster_uses s c) t r.3 (λ x. omega (arith, us x)) (λ c. omega (arith, um c)))
      ∙ ap (λ (f : Marks). ok (node h s t, f)) (fun_ext (λ c. omega arith))

  pub walk_of : (d : ℕ) (ps : List ℕ) (seen : Name → ℕ) (m : Marks) (t : Tree) → HoldsSlots v d ps t → ((x : Name) → seen x + name_uses t x ≤ 1) → ((c : ℕ) → m c + cluster_uses t c ≤ 1)
      → walk_directory v d ps seen m ≡ ok (t, λ c. m c + cluster_uses t c)
  walk_of zero ps seen m t r us um = scan-of (λ qs n. ok (end, n)) zero leaf ps seen m t r us um
    where
      none_in : (qs : List ℕ) (s : Tree) → qs ≡ [] → HoldsSlots v zero qs s → s ≡ end
      none_in [] end e r = refl
      none_in [] (node h s t) e r = absurd r
      none_in (q ∷ qs) s e r = absurd (let z : ◌≡◌ {A = ℕ} 0 1 = cc in omega arith)

      leaf : (p : ℕ) (h : Slot) → HoldsSlot v zero p h → (m : Marks) (s : Tree) → HoldsSlots v (pred zero) (entry_pages h) s → UniqueNames s → ((c : ℕ) → m c + cluster_uses s c ≤ 1) → ◌≡◌ {A = Result (Tree × Marks)} (ok (end, m)) (ok (s, λ c. m c + cluster_uses s c))
      leaf p h x m s r u um = rw (none_in (entry_pages h) s (nothing p h x) r) (ap (λ (f : Marks). ok (end, f)) (fun_ext (λ c. omega arith)))
  walk_of (suc d) ps seen m t r us um =
      scan-of (λ qs n. walk_directory v d qs (λ x. 0) n) (suc d) (λ p h x m s r u um. walk_of d (entry_pages h) (λ x. 0) m s r (λ x. omega (arith, u x)) um) ps seen m t r us um

  rooted-ok : (e : Entry) → judge_root v (v.entry 0) ≡ ok e → (v.entry 0 ≡ some e) × (is_root e ≡ true)
  rooted-ok e h = go (v.entry 0) refl h
    where
      test : (x : Entry) (b : Bool) → cond b (ok x) (fault 7 0) ≡ ok e → (b ≡ true) × (x ≡ e)
      test x true z = (refl, cc)
      test x false z = absurd (let z : ◌≡◌ {A = ℕ} 0 1 = cc in omega arith)

      go : (o : Option Entry) → v.entry 0 ≡ o → judge_root v o ≡ ok e → (v.entry 0 ≡ some e) × (is_root e ≡ true)
      go none x y = absurd (let z : ◌≡◌ {A = ℕ} 0 1 = cc in omega arith)
      go (some x) p y = let q = test x (is_root x) y in (p ∙ ap {B = Option Entry} some q.1, ap is_root (sym q.1) ∙ q.0)

  -- An accepted card holds the tree that the check gives.
  pub check-holds : (r : Root) (n : Marks) → check_tree v ≡ ok (r, n) → HoldsCard v r × ((c : ℕ) → n c ≡ reached r c)
  unfolding check_tree
  check-holds r n h =
      bind-case _ _ (r, n) h (λ e h₁ f₁.
      bind-case _ _ (r, n) f₁ (λ cs h₂ f₂.
      bind-case _ _ (r, n) f₂ (λ x h₃ f₃.
      bind-case _ _ (r, n) f₃ (λ t h₄ f₄.
      fin e cs t.0 t.1 h₁ h₂ h₃ h₄ (ok-inj _ _ f₄)))))
    where
      fin : (e : Entry) (cs : List ℕ) (t : Tree) (m : Marks) → judge_root v (v.entry 0) ≡ ok e → sound (follow_chain v (directory_clusters e) (Link.next 0) (λ c. 0)) (λ cs. cs) ≡ ok cs → judge_dots v cs ≡ ok tt
          → walk_directory v deepest (entry_pages (Slot.directory e cs)) (λ n. 0) (times cs) ≡ ok (t, m) → ◌≡◌ {A = Root × Marks} (record { root_entry = e; chain = cs; slots = t }, m) (r, n)
          → HoldsCard v r × ((c : ℕ) → n c ≡ reached r c)
      fin e cs t m h₁ h₂ h₃ h₄ q =
          let a = rooted-ok e h₁ in
          let s = sound-ok _ _ cs h₂ in
          let f = follow-ok v (directory_clusters e) (Link.next 0) (λ c. 0) cs (λ c. omega arith) (s.1 ∙ ap {B = Option (List ℕ)} some s.2) in
          let w = walk-ok deepest (entry_pages (Slot.directory e cs)) (λ n. 0) (times cs) t m (λ n. omega arith) (λ c. omega (arith, f.2 c)) h₄ in
          let c : HoldsCard v (record { root_entry = e; chain = cs; slots = t }) =
          record { root_page = a.0; good = a.1; long = f.0; links = f.1; dots = dots-ok cs h₃; uniq = λ n. omega (arith, w.1 n); rep = w.0; once = λ c. w.2 c } in
          let z : ◌≡◌ {A = Root} (record { root_entry = e; chain = cs; slots = t }) r = ap (λ y. y.0) q in
          let y : m ≡ n = ap (λ y. y.1) q in
          rw (← z, ← y) (c, w.3)

  pub holds-check : (r : Root) → HoldsCard v r → check_tree v ≡ ok (r, reached r)
  unfolding check_tree
  holds-check r h =
      bind-of _ _ r.root_entry (rw h.root_page (rw h.good))
      ∙ bind-of _ _ r.chain (rw (← h.long, follow-of v (Link.next 0) (λ c. 0) r.chain h.links (λ c. omega (arith, h.once c))))
      ∙ bind-of _ _ tt (dots-of r.chain h.dots)
      ∙ bind-of _ _ (r.slots, reached r) (walk_of deepest (entry_pages (Slot.directory r.root_entry r.chain)) (λ n. 0) (times r.chain) r.slots h.rep (λ n. omega (arith, h.uniq n)) h.once)
