-- The five changes as operations on the abstract card; demand 3 as one claim about them and any machine that they describe.
use Prim.Native.Nat.{◌+◌, ℕ}
use mathlib.Core.Bool.{Bool, cond, false, true}
use mathlib.Core.List.{[], ◌∷◌}
use mathlib.Core.Logic.{◌↔◌, ◌⊎◌, inl, inr}
use mathlib.Core.Option.{Option, none, some}
use mathlib.Core.Path.{◌∙◌, ◌≡◌, ap, ap₂, refl, sym}
use lib.Dec.{eqb}
use Rattle.model.specs.Change.{Change, Crossed, Rules, create, creates, delete, make_directory, path, remove_directory, removes, replace, size, standing_after}
use Rattle.model.specs.Names.{Path, beginning, parent, same_path}
use Rattle.model.specs.Refusal.{first, lock_refusal, static}
use Rattle.model.specs.Standing.{Standing}
use Rattle.model.proofs.Equality.{Eq-name, Eq-path, beginning-parent, beginning-self, tf}
use Rattle.model.proofs.Operations.{AbstractCard, Accepts, Agree, Apart, Creation, Local, NoClash, Operation, Room, effect, free-comm, look-comm, ok-comm}

-- what stands on the way must be a directory
abbrev pub standing_on_way : Option Standing → ℕ
standing_on_way none = 9
standing_on_way (some (Standing.file m c)) = 10
standing_on_way (some (Standing.directory m)) = 0

abbrev pub standing_way : (Path → Option Standing) → Path → ℕ
standing_way f [] = 0
standing_way f (n ∷ []) = 0
standing_way f (n ∷ m ∷ p) = first (standing_on_way (f (n ∷ []))) (standing_way (λ r. f (n ∷ r)) (m ∷ p))

abbrev pub standing_file : Option Standing → ℕ
standing_file none = 9
standing_file (some (Standing.file m c)) = 0
standing_file (some (Standing.directory m)) = 10

abbrev pub standing_empty : Room → Option Standing → ℕ
standing_empty r none = 9
standing_empty r (some (Standing.file m c)) = 10
standing_empty r (some (Standing.directory m)) = cond (eqb r.length (2 + r.dead)) 0 13

abbrev pub standing_lack : Option Standing → ℕ
standing_lack none = 0
standing_lack (some f) = 11

not-both : (c : Change) → creates c ≡ true → removes c ≡ false
not-both (create p t b) e = refl
not-both (make_directory p t) e = refl
not-both (replace p t b) e = refl
not-both (delete p) e = tf e refl
not-both (remove_directory p) e = tf e refl

module _ (y : Rules) where
  abbrev pub standing_own : Change → Option Standing → Room → ℕ
  standing_own (create p t b) f r = standing_lack f
  standing_own (make_directory p t) f r = standing_lack f
  standing_own (replace p t b) f r = standing_file f
  standing_own (delete p) f r = standing_file f
  standing_own (remove_directory p) f r = standing_empty r f

  abbrev pub freed : Change → Option Standing → Room → ℕ
  freed (create p t b) f r = 0
  freed (make_directory p t) f r = 0
  freed (replace p t b) f r = r.back
  freed (delete p) f r = r.back
  freed (remove_directory p) f r = r.back

  abbrev pub adds : Change → ℕ
  adds c = cond (creates c) 1 0

  abbrev pub kills : Change → ℕ
  kills c = cond (removes c) 1 0

  abbrev pub room_of : Change → Room
  room_of (create p t b) = record { dead = 0; length = 0; back = size (create p t b) }
  room_of (make_directory p t) = record { dead = 0; length = 2; back = 1 }
  room_of (replace p t b) = record { dead = 0; length = 0; back = size (replace p t b) }
  room_of (delete p) = record { dead = 0; length = 0; back = 0 }
  room_of (remove_directory p) = record { dead = 0; length = 0; back = 0 }

  -- A change writes its own path, reads the beginnings of it, and works in its directory.
  abbrev pub op : Change → Operation
  op c =
      record {
        writes = λ r. same_path r (path c);
        reads = λ r. beginning r (path c);
        directory = parent (path c);
        adds = adds c;
        kills = kills c;
        size = λ σ. size c;
        test = λ σ. first (static c) (first (standing_way σ.look (path c)) (first (standing_own c (σ.look (path c)) (σ.room (path c))) (lock_refusal (σ.look (path c)) (σ.look (parent (path c))))));
        freed = λ σ. freed c (σ.look (path c)) (σ.room (path c));
        puts = λ σ r. standing_after c (σ.look (path c));
        rooms = λ σ r. room_of c;
      }

  way-local : (p : Path) (f g : Path → Option Standing) → ((r : Path) → beginning r p ≡ true → f r ≡ g r) → standing_way f p ≡ standing_way g p
  way-local [] f g h = refl
  way-local (n ∷ []) f g h = refl
  way-local (n ∷ m ∷ p) f g h =
      let ih : standing_way (λ r. f (n ∷ r)) (m ∷ p) ≡ standing_way (λ r. g (n ∷ r)) (m ∷ p) = way-local (m ∷ p) (λ r. f (n ∷ r)) (λ r. g (n ∷ r)) (λ r k. h (n ∷ r) (rw (Eq-name.self n) k)) in
      let e : f (n ∷ []) ≡ g (n ∷ []) = h (n ∷ []) (rw (Eq-name.self n)) in
      ap₂ (λ x y. first (standing_on_way x) y) e ih

  pub op-local : (c : Change) → Local (op c)
  op-local c =
      record {
        sub = λ r e. rw (Eq-path.sound r (path c) e) (beginning-self (path c));
        dir-R = beginning-parent (path c);
        test-local = λ σ τ a. cc (way-local (path c) σ.look τ.look a.0, at σ τ a, rm σ τ a, a.0 (parent (path c)) (beginning-parent (path c)));
        size-local = λ σ τ a. refl;
        freed-local = λ σ τ a. cc (at σ τ a, rm σ τ a);
        puts-local = λ σ τ a r. cc (at σ τ a);
        rooms-local = λ σ τ a r. refl;
      }
    where
      at : (σ τ : AbstractCard) → Agree (op c).reads (op c).writes σ τ → σ.look (path c) ≡ τ.look (path c)
      at σ τ a = a.0 (path c) (beginning-self (path c))

      rm : (σ τ : AbstractCard) → Agree (op c).reads (op c).writes σ τ → σ.room (path c) ≡ τ.room (path c)
      rm σ τ a = a.1 (path c) (Eq-path.self (path c))

  pub op-apart : (a b : Change) → beginning (path a) (path b) ≡ false → beginning (path b) (path a) ≡ false → Apart (op a) (op b)
  op-apart a b h k = (λ r e. rw (Eq-path.sound r (path a) e) h, λ r e. rw (Eq-path.sound r (path b) e) k)

  no-clash : (a b : Change) → ¬ Crossed a b → NoClash (op a) (op b)
  no-clash a b n e = go (removes a) (removes b) refl refl
    where
      d : parent (path a) ≡ parent (path b)
      d = sym (Eq-path.sound (parent (path b)) (parent (path a)) e)

      Two : Type 0
      Two = ((kills a ≡ 0) × (kills b ≡ 0)) ⊎ ((adds a ≡ 0) × (adds b ≡ 0))

      none_of : (c : Change) → ¬ (creates c ≡ true) → creates c ≡ false
      none_of c h = g (creates c) refl
        where
          g : (x : Bool) → creates c ≡ x → x ≡ false
          g true e = absurd (h e)
          g false e = refl

      zeros : creates a ≡ false → creates b ≡ false → Two
      zeros p q = inr (rw p, rw q)

      go : (x y : Bool) → removes a ≡ x → removes b ≡ y → Two
      go false false p q = inl (rw p, rw q)
      go true y p q = zeros (none_of a (λ h. tf p (not-both a h))) (none_of b (λ h. n (d, inr (p, h))))
      go false true p q = zeros (none_of a (λ h. n (d, inl (h, q)))) (none_of b (λ h. tf q (not-both b h)))

  pub creation : (c : Change) → creates c ≡ true → Creation (op c)
  creation (create p t b) e = (refl, λ σ. refl)
  creation (make_directory p t) e = (refl, λ σ. refl)
  creation (replace p t b) e = tf e refl
  creation (delete p) e = tf e refl
  creation (remove_directory p) e = tf e refl

  -- Any machine that the operations describe.
  pub record Machine : Type 1 where
    pub State : Type 0
    pub Sound : State → Type 0
    pub abstract : State → AbstractCard
    pub run : Change → State → Option State
    pub ran : (c : Change) (x y : State) → Sound x → run c x ≡ some y → Sound y × Accepts (op c) (abstract x) × (abstract y ≡ effect (op c) (abstract x))
    pub runs : (c : Change) (x : State) → Sound x → Accepts (op c) (abstract x) → (y : State) × (run c x ≡ some y)

  module _ (M : Machine) where
    abbrev pub Both : M.State → Change → Change → Type 0
    Both x a b = (y : M.State) × (z : M.State) × (M.run a x ≡ some y) × (M.run b y ≡ some z)

    abbrev pub last : {x : M.State} {a b : Change} → Both x a b → M.State
    last w = w.1

    both_ok : (x : M.State) (a b : Change) → M.Sound x → Both x a b → Accepts (op a) (M.abstract x) × Accepts (op b) (effect (op a) (M.abstract x))
    both_ok x a b s w =
        let r₁ = M.ran a x w.0 s w.2 in
        let r₂ = M.ran b w.0 w.1 r₁.0 w.3 in
        (r₁.1, rw r₁.2 at r₂.1)

    both-abs : (x : M.State) (a b : Change) → M.Sound x → (w : Both x a b) → M.abstract w.1 ≡ effect (op b) (effect (op a) (M.abstract x))
    both-abs x a b s w =
        let r₁ = M.ran a x w.0 s w.2 in
        let r₂ = M.ran b w.0 w.1 r₁.0 w.3 in
        r₂.2 ∙ ap (effect (op b)) r₁.2

    ok-both : (x : M.State) (a b : Change) → M.Sound x → Accepts (op a) (M.abstract x) → Accepts (op b) (effect (op a) (M.abstract x)) → Both x a b
    ok-both x a b s oa ob =
        let (y, e) = M.runs a x s oa in
        let r₁ = M.ran a x y s e in
        let (z, f) = M.runs b y r₁.0 (rw r₁.2 ob) in
        (y, z, e, f)

    -- Demand 3.
    pub demand-3 : (x : M.State) → M.Sound x → (a b : Change) → beginning (path a) (path b) ≡ false → beginning (path b) (path a) ≡ false
        → ((v : Both x a b) (w : Both x b a)
        → ((r : Path) → (M.abstract v.1).look r ≡ (M.abstract w.1).look r)
        × (¬ Crossed a b → (M.abstract v.1).free ≡ (M.abstract w.1).free))
        × (creates a ≡ true → creates b ≡ true → Both x a b ↔ Both x b a)
    demand-3 x s a b h k = (λ v w. (tree v w, count v w), λ p q. (turn a b h k p q, turn b a k h q p))
      where
        σ : AbstractCard
        σ = M.abstract x

        tree : (v : Both x a b) (w : Both x b a) (r : Path) → (M.abstract v.1).look r ≡ (M.abstract w.1).look r
        tree v w r = rw (both-abs x a b s v, both-abs x b a s w) (look-comm (op a) (op b) σ (op-local a) (op-local b) (op-apart a b h k) r)

        count : (v : Both x a b) (w : Both x b a) → ¬ Crossed a b → (M.abstract v.1).free ≡ (M.abstract w.1).free
        count v w n =
            let ov = both_ok x a b s v in
            let ow = both_ok x b a s w in
            rw (both-abs x a b s v, both-abs x b a s w)
            (free-comm (op a) (op b) σ (op-local a) (op-local b) (op-apart a b h k) (no-clash a b n) ov.0 ov.1 ow.0 ow.1)

        turn : (a b : Change) → beginning (path a) (path b) ≡ false → beginning (path b) (path a) ≡ false → creates a ≡ true → creates b ≡ true → Both x a b → Both x b a
        turn a b h k p q v =
            let ov = both_ok x a b s v in
            let o = ok-comm (op a) (op b) σ (op-local a) (op-local b) (op-apart a b h k) (creation a p) (creation b q) ov.0 ov.1 in
            ok-both x b a s o.0 o.1
