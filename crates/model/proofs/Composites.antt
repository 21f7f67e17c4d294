-- A list of creations inside one region of the tree is one operation: an import, a merge.
use Prim.Native.Nat.{◌+◌, ◌-◌, ◌≤◌, suc, zero, ℕ}
use mathlib.Core.Bool.{Bool, cond, false, true}
use mathlib.Core.List.{List, [], ◌∷◌}
use mathlib.Core.Logic.{◌↔◌, ◌⊎◌, ⊎_elim}
use mathlib.Core.Option.{none}
use mathlib.Core.Path.{◌∙◌, ◌≡◌, ap, ap₂, fun_ext, refl, sym}
use native.Mathlib.Nat.{suc-add, zero-add}
use native.Mathlib.Omega.{arith}
use Rattle.model.specs.Names.{Path, same_path}
use Rattle.model.specs.Refusal.{first}
use Rattle.model.proofs.Equality.{Eq-path, bool, tf}
use Rattle.model.proofs.OperationQueues.{Oks, runs}
use Rattle.model.proofs.Operations.{AbstractCard, Accepts, Agree, Creation, Local, Operation, Room, effect, grown, need, taken, take₁, worked, worked-adds}

taken-sum : (a b : ℕ) (r : Room) → taken (a + b) r ≡ taken b (taken a r)
unfolding taken
taken-sum zero b r = ap (λ n. taken n r) (zero-add b)
taken-sum (suc a) b r = ap (λ n. taken n r) (suc-add a b) ∙ taken-sum a b (take₁ r.dead r.length r.back)

grown-sum : (a b : ℕ) (r : Room) → grown (a + b) r ≡ grown a r + grown b (taken a r)
unfolding taken grown
grown-sum zero b r = ap (λ n. grown n r) (zero-add b) ∙ omega arith
grown-sum (suc a) b r = ap (λ n. grown n r) (suc-add a b) ∙ omega (arith, grown-sum a b (take₁ r.dead r.length r.back))

first-zero : (a b : ℕ) → first a b ≡ 0 → (a ≡ 0) × (b ≡ 0)
first-zero zero b e = (refl, e)
first-zero (suc a) b e = absurd (omega arith)

module _ (W R : Path → Bool) (directory : Path) where
  pub record Inside (o : Operation) : Type 0 where
    pub loc : Local o
    pub cre : Creation o
    pub w-in : (r : Path) → o.writes r ≡ true → W r ≡ true
    pub r-in : (r : Path) → o.reads r ≡ true → R r ≡ true
    pub place : (W o.directory ≡ true) ⊎ (o.directory ≡ directory)

  abbrev pub Insides : List Operation → Type 0
  Insides [] = Unit {0}
  Insides (o ∷ os) = Inside o × Insides os

  -- the clusters for what is made inside, and the entries added to the directory outside
  abbrev pub costs : List Operation → AbstractCard → ℕ
  costs [] σ = 0
  costs (o ∷ os) σ = (o.size σ + cond (W o.directory) (grown o.adds (σ.room o.directory)) 0) + costs os (effect o σ)

  abbrev pub outs : List Operation → ℕ
  outs [] = 0
  outs (o ∷ os) = cond (W o.directory) 0 o.adds + outs os

  abbrev pub tests : List Operation → AbstractCard → ℕ
  tests [] σ = 0
  tests (o ∷ os) σ = first (o.test σ) (tests os (effect o σ))

  abbrev pub comp : List Operation → Operation
  comp ops =
      record {
        writes = W;
        reads = R;
        directory = directory;
        adds = outs ops;
        kills = 0;
        size = costs ops;
        test = tests ops;
        freed = λ σ. 0;
        puts = λ σ r. cond (W r) ((runs ops σ).look r) none;
        rooms = λ σ r. cond (W r) ((runs ops σ).room r) (record { dead = 0; length = 0; back = 0 });
      }

  module _ (WR : (r : Path) → W r ≡ true → R r ≡ true) (d_r : R directory ≡ true) (d_w : W directory ≡ false) where
    narrow : (o : Operation) (σ τ : AbstractCard) → Inside o → Agree R W σ τ → Agree o.reads o.writes σ τ
    narrow o σ τ i a = ((λ r h. a.0 r (i.r-in r h)), (λ r h. a.1 r (i.w-in r h)))

    step-agree : (o : Operation) (σ τ : AbstractCard) → Inside o → Agree R W σ τ → Agree R W (effect o σ) (effect o τ)
    unfolding effect
    step-agree o σ τ i a = (
      (λ r h. ap₂ (λ x y. cond (o.writes r) x y) (i.loc.puts-local σ τ (narrow o σ τ i a) r) (a.0 r h)),
      (λ r h. ap₂ (λ x y. cond (o.writes r) x (cond (same_path r o.directory) (worked o y) y)) (i.loc.rooms-local σ τ (narrow o σ τ i a) r) (a.1 r h)),
    )

    runs-agree : (ops : List Operation) (σ τ : AbstractCard) → Insides ops → Agree R W σ τ → Agree R W (runs ops σ) (runs ops τ)
    runs-agree [] σ τ i a = a
    runs-agree (o ∷ os) σ τ i a = runs-agree os (effect o σ) (effect o τ) i.1 (step-agree o σ τ i.0 a)

    costs-local : (ops : List Operation) (σ τ : AbstractCard) → Insides ops → Agree R W σ τ → costs ops σ ≡ costs ops τ
    costs-local [] σ τ i a = refl
    costs-local (o ∷ os) σ τ i a =
        ap₂ (λ x y. x + y) (ap₂ (λ x y. x + y) (i.0.loc.size-local σ τ (narrow o σ τ i.0 a)) growth_clusters) (costs-local os (effect o σ) (effect o τ) i.1 (step-agree o σ τ i.0 a))
      where
        growth_clusters : cond (W o.directory) (grown o.adds (σ.room o.directory)) 0 ≡ cond (W o.directory) (grown o.adds (τ.room o.directory)) 0
        growth_clusters = ⊎_elim (λ (h : W o.directory ≡ true). rw (h, a.1 o.directory h)) (λ (h : W o.directory ≡ false). rw h) (bool (W o.directory))

    tests-local : (ops : List Operation) (σ τ : AbstractCard) → Insides ops → Agree R W σ τ → tests ops σ ≡ tests ops τ
    tests-local [] σ τ i a = refl
    tests-local (o ∷ os) σ τ i a =
        ap₂ first (i.0.loc.test-local σ τ (narrow o σ τ i.0 a)) (tests-local os (effect o σ) (effect o τ) i.1 (step-agree o σ τ i.0 a))

    -- It is an operation of its region.
    pub comp-local : (ops : List Operation) → Insides ops → Local (comp ops)
    comp-local ops i =
        record {
          sub = WR;
          dir-R = d_r;
          test-local = λ σ τ a. tests-local ops σ τ i a;
          size-local = λ σ τ a. costs-local ops σ τ i a;
          freed-local = λ σ τ a. refl;
          puts-local = λ σ τ a r. ⊎_elim (λ (h : W r ≡ true). rw h ((runs-agree ops σ τ i a).0 r (WR r h))) (λ (h : W r ≡ false). rw h) (bool (W r));
          rooms-local = λ σ τ a r. ⊎_elim (λ (h : W r ≡ true). rw h ((runs-agree ops σ τ i a).1 r h)) (λ (h : W r ≡ false). rw h) (bool (W r));
        }

    pub comp-creation : (ops : List Operation) → Creation (comp ops)
    comp-creation ops = (refl, λ σ. refl)

    -- outside the region
    off : (o : Operation) (r : Path) → Inside o → W r ≡ false → o.writes r ≡ false
    off o r i h = ⊎_elim (λ (e : o.writes r ≡ true). tf (i.w-in r e) h) (λ e. e) (bool (o.writes r))

    out-look : (ops : List Operation) (σ : AbstractCard) (r : Path) → Insides ops → W r ≡ false → (runs ops σ).look r ≡ σ.look r
    unfolding effect
    out-look [] σ r i h = refl
    out-look (o ∷ os) σ r i h = out-look os (effect o σ) r i.1 h ∙ rw (off o r i.0 h)

    not-dir : (o : Operation) (r : Path) → Inside o → W r ≡ false → same_path r directory ≡ false → same_path r o.directory ≡ false
    not-dir o r i h n =
        ⊎_elim
        (λ (e : same_path r o.directory ≡ true). let z = Eq-path.sound r o.directory e in ⊎_elim (λ (p : W o.directory ≡ true). tf p (rw z at h)) (λ (p : o.directory ≡ directory). tf (rw p at e) n) i.place)
        (λ e. e) (bool (same_path r o.directory))

    out-room : (ops : List Operation) (σ : AbstractCard) (r : Path) → Insides ops → W r ≡ false → same_path r directory ≡ false → (runs ops σ).room r ≡ σ.room r
    unfolding effect
    out-room [] σ r i h n = refl
    out-room (o ∷ os) σ r i h n = out-room os (effect o σ) r i.1 h n ∙ rw (off o r i.0 h, not-dir o r i.0 h n)

    -- the directory outside, after one
    step-dir : (o : Operation) (σ : AbstractCard) → Inside o → (effect o σ).room directory ≡ taken (cond (W o.directory) 0 o.adds) (σ.room directory)
    unfolding effect taken
    step-dir o σ i =
        rw (off o directory i d_w)
        (⊎_elim
        (λ (p : W o.directory ≡ true). let n : same_path directory o.directory ≡ false = other p in rw (p, n))
        (λ (p : o.directory ≡ directory). let n : same_path directory o.directory ≡ true = rw p (Eq-path.self directory) in let w : W o.directory ≡ false = rw p d_w in rw (n, w) (worked-adds o (σ.room directory) i.cre.0))
        i.place)
      where
        other : W o.directory ≡ true → same_path directory o.directory ≡ false
        other p = ⊎_elim (λ (e : same_path directory o.directory ≡ true). tf p (rw (Eq-path.sound directory o.directory e) at d_w)) (λ e. e) (bool (same_path directory o.directory))

    at-dir : (ops : List Operation) (σ : AbstractCard) → Insides ops → (runs ops σ).room directory ≡ taken (outs ops) (σ.room directory)
    unfolding taken
    at-dir [] σ i = refl
    at-dir (o ∷ os) σ i = at-dir os (effect o σ) i.1 ∙ ap (taken (outs os)) (step-dir o σ i.0) ∙ sym (taken-sum (cond (W o.directory) 0 o.adds) (outs os) (σ.room directory))

    -- The clusters needed are those of its parts.
    parts : List Operation → AbstractCard → ℕ
    parts [] σ = 0
    parts (o ∷ os) σ = need o σ + parts os (effect o σ)

    need-comp : (ops : List Operation) (σ : AbstractCard) → Insides ops → need (comp ops) σ ≡ parts ops σ
    unfolding need parts grown
    need-comp [] σ i = refl
    need-comp (o ∷ os) σ i =
        let ih : costs os (effect o σ) + grown (outs os) ((effect o σ).room directory) ≡ parts os (effect o σ) = need-comp os (effect o σ) i.1 in
        let sd = ap (grown (outs os)) (step-dir o σ i.0) in
        let gs = grown-sum (cond (W o.directory) 0 o.adds) (outs os) (σ.room directory) in
        let one : cond (W o.directory) (grown o.adds (σ.room o.directory)) 0 + grown (cond (W o.directory) 0 o.adds) (σ.room directory) ≡ grown o.adds (σ.room o.directory) = data_pages o σ i.0 in
        omega arith
      where
        data_pages : (o : Operation) (σ : AbstractCard) → Inside o
            → cond (W o.directory) (grown o.adds (σ.room o.directory)) 0 + grown (cond (W o.directory) 0 o.adds) (σ.room directory) ≡ grown o.adds (σ.room o.directory)
        data_pages o σ i =
            ⊎_elim (λ (p : W o.directory ≡ true). rw p (omega arith)) (λ (p : o.directory ≡ directory). let w : W o.directory ≡ false = rw p d_w in rw (w, p) (omega arith)) i.place

    free-runs : (ops : List Operation) (σ : AbstractCard) → Insides ops → Oks ops σ → (parts ops σ ≤ σ.free) × ((runs ops σ).free ≡ σ.free - parts ops σ)
    unfolding effect parts
    free-runs [] σ i o = (omega arith, omega arith)
    free-runs (x ∷ os) σ i o =
        let ih = free-runs os (effect x σ) i.1 o.1 in
        let z : (effect x σ).free ≡ σ.free - need x σ = ap (λ n. σ.free - need x σ + n) (i.0.cre.1 σ) ∙ omega arith in
        (omega (arith, ih.0, z, o.0.1), ih.1 ∙ omega (arith, z))

    -- It does what its parts do, one after another.
    pub eff-comp : (ops : List Operation) (σ : AbstractCard) → Insides ops → Oks ops σ → effect (comp ops) σ ≡ runs ops σ
    unfolding effect
    eff-comp ops σ i o = λ j. record { look = looks j; room = rooms j; free = free_below j }
      where
        looks : (effect (comp ops) σ).look ≡ (runs ops σ).look
        looks = fun_ext (λ r. ⊎_elim (λ (h : W r ≡ true). rw h) (λ (h : W r ≡ false). rw h (sym (out-look ops σ r i h))) (bool (W r)))

        rooms : (effect (comp ops) σ).room ≡ (runs ops σ).room
        rooms =
            fun_ext (λ r. ⊎_elim (λ (h : W r ≡ true). rw h) (λ (h : W r ≡ false). rw h
            (⊎_elim (λ (e : same_path r directory ≡ true). let z = Eq-path.sound r directory e in rw (e, z) (worked-adds (comp ops) (σ.room directory) refl ∙ sym (at-dir ops σ i)))
            (λ (e : same_path r directory ≡ false). rw e (sym (out-room ops σ r i h e))) (bool (same_path r directory)))) (bool (W r)))

        free_below : (effect (comp ops) σ).free ≡ (runs ops σ).free
        free_below = let f = free-runs ops σ i o in omega (arith, f.1, need-comp ops σ i)

    -- It is accepted exactly when each part is in its turn.
    pub ok-comp : (ops : List Operation) (σ : AbstractCard) → Insides ops → Accepts (comp ops) σ ↔ Oks ops σ
    unfolding effect parts
    ok-comp ops σ i = ((λ o. into ops σ i o.0 (rw (need-comp ops σ i) at o.1)), λ o. (tested ops σ o, rw (need-comp ops σ i) (free-runs ops σ i o).0))
      where
        into : (ops : List Operation) (σ : AbstractCard) → Insides ops → tests ops σ ≡ 0 → parts ops σ ≤ σ.free → Oks ops σ
        into [] σ i t f = tt
        into (o ∷ os) σ i t f =
            let z = first-zero (o.test σ) _ t in
            let y : (effect o σ).free ≡ σ.free - need o σ = ap (λ n. σ.free - need o σ + n) (i.0.cre.1 σ) ∙ omega arith in
            ((z.0, omega arith), into os (effect o σ) i.1 z.1 (omega (arith, y)))

        tested : (ops : List Operation) (σ : AbstractCard) → Oks ops σ → tests ops σ ≡ 0
        tested [] σ o = refl
        tested (x ∷ os) σ o = rw o.0.0 (tested os (effect x σ) o.1)
