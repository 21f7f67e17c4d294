-- The refusal of the model is what the operation tests: none exactly where the operation accepts.
use Prim.Native.Nat.{◌+◌, ◌-◌, ◌<◌, suc, zero, ℕ}
use mathlib.Core.Bool.{Bool, cond, false, true}
use mathlib.Core.List.{List, [], ◌∷◌}
use mathlib.Core.Logic.{◌⊎◌, inl, inr, ⊎_elim}
use mathlib.Core.Option.{none}
use mathlib.Core.Path.{◌∙◌, ◌≡◌, ap, ap₂, refl, sym}
use native.Mathlib.Omega.{arith}
use lib.Dec.{eqb, leb, leb→le, le→leb}
use lib.ListN.{length, length-drop, length-take, take}
use Rattle.model.specs.Change.{Change, Rules, create, creates, delete, make_directory, path, remove_directory, replace, size}
use Rattle.model.specs.Entry.{Entry}
use Rattle.model.specs.Holds.{HoldsCard, deepest}
use Rattle.model.specs.Lookup.{Found, absent, found, look_up, tell}
use Rattle.model.specs.Names.{Path, good_path, parent}
use Rattle.model.specs.Plan.{growth_with_one}
use Rattle.model.specs.Refusal.{first, growth_in, lock_refusal, must_empty, must_file, must_lack, needed, on_way, own, refusal, room_refusal, static, way}
use Rattle.model.specs.Standing.{standing, stands_at}
use Rattle.model.specs.Time.{valid_time}
use Rattle.model.specs.Tree.{Root, Slot, Tree, dead_slots, entry_pages, slot_count}
use Rattle.model.specs.View.{View, pages_of}
use Rattle.model.proofs.AbstractCards.{abstract_of, no_room, room_of_slot}
use Rattle.model.proofs.ChangeOperations.{op, standing_empty, standing_file, standing_lack, standing_on_way, standing_own, standing_way}
use Rattle.model.proofs.Creations.{path-pos, static-path, static-path'}
use Rattle.model.proofs.Directories.{first-0, where-is}
use Rattle.model.proofs.Equality.{Eq-number, bool, of_T, to-T}
use Rattle.model.proofs.Frame.{ne}
use Rattle.model.proofs.NewClusters.{grow-new}
use Rattle.model.proofs.Operations.{AbstractCard, Accepts, grown, need}
use Rattle.model.proofs.PlanFits.{length-pages, rep-length}
use Rattle.model.proofs.Sites.{site}

eq-off : (a b : ℕ) → (a ≡ b → ⊥) → eqb a b ≡ false
eq-off a b h = ⊎_elim (λ (e : eqb a b ≡ true). absurd (h (Eq-number.sound a b e))) (λ e. e) (bool (eqb a b))

first-assoc : (a b c : ℕ) → first (first a b) c ≡ first a (first b c)
first-assoc zero b c = refl
first-assoc (suc a) b c = refl

first-when : (a x z : ℕ) → (a ≡ 0 → x ≡ z) → first a x ≡ first a z
first-when zero x z h = h refl
first-when (suc a) x z h = refl

on-way : (g : Found) → on_way g ≡ standing_on_way (tell standing none g)
on-way absent = refl
on-way (found Slot.dead s) = refl
on-way (found (Slot.file e cs ds) s) = refl
on-way (found (Slot.directory e cs) s) = refl

way_same : (look : Path → Found) (p : Path) → way look p ≡ standing_way (λ q. tell standing none (look q)) p
way_same look [] = refl
way_same look (n ∷ []) = refl
way_same look (n ∷ m ∷ p) = ap₂ first (on-way (look (n ∷ []))) (way_same (λ r. look (n ∷ r)) (m ∷ p))

lack-same : (g : Found) → must_lack g ≡ standing_lack (tell standing none g)
lack-same absent = refl
lack-same (found Slot.dead s) = refl
lack-same (found (Slot.file e cs ds) s) = refl
lack-same (found (Slot.directory e cs) s) = refl

file-same : (g : Found) → must_file g ≡ standing_file (tell standing none g)
file-same absent = refl
file-same (found Slot.dead s) = refl
file-same (found (Slot.file e cs ds) s) = refl
file-same (found (Slot.directory e cs) s) = refl

-- the path of a change that meets neither 8 nor 14 has a name
path-long : (y : Rules) (c : Change) → static c ≡ 0 → 0 < length (path c)
path-long y (create p t b) e = (path-pos y (suc deepest) p (static-path y (good_path (suc deepest) p) (valid_time t) e)).0
path-long y (make_directory p t) e = (path-pos y deepest p (static-path y (good_path deepest p) (valid_time t) e)).0
path-long y (replace p t b) e = (path-pos y (suc deepest) p (static-path y (good_path (suc deepest) p) (valid_time t) e)).0
path-long y (delete p) e = (path-pos y (suc deepest) p (static-path' y (good_path (suc deepest) p) e)).0
path-long y (remove_directory p) e = (path-pos y (suc deepest) p (static-path' y (good_path (suc deepest) p) e)).0

-- a directory's length counts its slots and the first two entries
slots_length : (v : View) (r : Root) → HoldsCard v r → (q : Path) (e : Entry) (cs : List ℕ) (s : Tree)
    → look_up r q ≡ found (Slot.directory e cs) s → e.length ≡ 2 + slot_count s
slots_length v r h q e cs s f =
    let t = site v r h q e cs s f in
    let n : length (entry_pages (Slot.directory e cs)) ≡ slot_count s = rep-length v (deepest - length q) _ s t.rep in
    omega (arith, length-drop 2 (take e.length (pages_of cs)), length-take e.length (pages_of cs), length-pages cs, t.long, t.two)

module _ (y : Rules) (v : View) (r : Root) (h : HoldsCard v r) where
  abbrev σ : AbstractCard
  σ = abstract_of y v r

  empty-same : (q : Path) (g : Found) → look_up r q ≡ g → must_empty g ≡ standing_empty (tell (room_of_slot y) no_room g) (tell standing none g)
  empty-same q absent f = refl
  empty-same q (found Slot.dead s) f = refl
  empty-same q (found (Slot.file e cs ds) s) f = refl
  empty-same q (found (Slot.directory e cs) s) f = ap (λ b. cond b 0 13) (go (bool (eqb (slot_count s) (dead_slots s))))
    where
      l : e.length ≡ 2 + slot_count s
      l = slots_length v r h q e cs s f

      go : (eqb (slot_count s) (dead_slots s) ≡ true) ⊎ (eqb (slot_count s) (dead_slots s) ≡ false) → eqb (slot_count s) (dead_slots s) ≡ eqb e.length (2 + dead_slots s)
      go (inl z) = let d : slot_count s ≡ dead_slots s = Eq-number.sound _ _ z in z ∙ sym (rw (l, d) (Eq-number.self (2 + dead_slots s)))
      go (inr z) = z ∙ sym (eq-off e.length (2 + dead_slots s) (λ w. ne (slot_count s) (dead_slots s) z (omega (arith, l))))

  own_same : (c : Change) → own c (look_up r (path c)) ≡ standing_own y c (σ.look (path c)) (σ.room (path c))
  own_same (create p t b) = lack-same (look_up r p)
  own_same (make_directory p t) = lack-same (look_up r p)
  own_same (replace p t b) = file-same (look_up r p)
  own_same (delete p) = file-same (look_up r p)
  own_same (remove_directory p) = empty-same p (look_up r p) refl

  test-is : (c : Change)
      → first (static c) (first (way (look_up r) (path c)) (first (own c (look_up r (path c))) (lock_refusal (stands_at r (path c)) (stands_at r (parent (path c)))))) ≡ (op y c).test σ
  test-is c = ap₂ (λ a b. first (static c) (first a (first b (lock_refusal (stands_at r (path c)) (stands_at r (parent (path c))))))) (way_same (look_up r) (path c)) (own_same c)

  -- where the operation's test passes, what it needs is what the change needs
  pub needed-is : (c : Change) → (op y c).test σ ≡ 0 → needed c r ≡ need (op y c) σ
  unfolding need grown
  needed-is c t =
      let w = where-is y v r h c (path-long y c (first-0 (static c) _ t).0) (first-0 _ _ (first-0 (static c) _ t).1).0 in
      ap (λ (g : Found). size c + growth_in c g) w.found-so ∙ sym (ap (λ (g : Found). size c + grown (op y c).adds (tell (room_of_slot y) no_room g)) w.found-so ∙ go (creates c) w.directory_entry w.directory_slots _)
    where
      go : (b : Bool) (e : Entry) (s : Tree) (back : ℕ) → size c + grown (cond b 1 0) (record { dead = dead_slots s; length = e.length; back = back }) ≡ size c + cond b (growth_with_one e s) 0
      go true e s back = omega (arith, grow-new y e s)
      go false e s back = refl

  -- the refusal is the operation's test, and then 12
  pub refusal_is : (c : Change) → refusal y c v r ≡ first ((op y c).test σ) (cond (leb (need (op y c) σ) σ.free) 0 12)
  unfolding refusal
  refusal_is c =
      sym
      (ap (λ n. first n (cond (leb (need (op y c) σ) σ.free) 0 12)) (sym (test-is c))
      ∙ first-when _ _ (room_refusal y c v r) (λ z. ap (λ n. cond (leb n σ.free) 0 12) (sym (needed-is c (sym (test-is c) ∙ z))))
      ∙ first-assoc (static c) _ _
      ∙ ap (first (static c)) (first-assoc (way (look_up r) (path c)) _ _ ∙ ap (first (way (look_up r) (path c))) (first-assoc (own c (look_up r (path c))) _ _)))

  room_0 : (b : Bool) → ◌≡◌ {A = ℕ} (cond b 0 12) 0 → b ≡ true
  room_0 true e = refl
  room_0 false e = absurd (omega arith)

  pub accepts-refusal : (c : Change) → Accepts (op y c) σ → refusal y c v r ≡ 0
  accepts-refusal c o =
      let b : leb (need (op y c) σ) σ.free ≡ true = of_T (le→leb _ _ o.1) in
      refusal_is c ∙ rw (o.0, b)

  pub refusal-accepts : (c : Change) → refusal y c v r ≡ 0 → Accepts (op y c) σ
  refusal-accepts c e =
      let z = first-0 ((op y c).test σ) _ (sym (refusal_is c) ∙ e) in
      (z.0, leb→le _ _ (to-T (room_0 (leb (need (op y c) σ) σ.free) z.1)))
