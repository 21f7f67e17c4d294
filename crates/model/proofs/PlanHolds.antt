-- What a change writes: one slot's entry, the directory's length, the pages and words of new clusters, the words of freed ones.
use Prim.Native.Nat.{◌+◌, ◌/◌, ◌≤◌, ℕ}
use mathlib.Core.Bool.{◌&&◌, false, true}
use mathlib.Core.List.{List, [], ◌++◌, ◌∷◌, map}
use mathlib.Core.Logic.{⊎_elim}
use mathlib.Core.Path.{◌∙◌, ◌≡◌, ap, ap₂, refl}
use native.Mathlib.Omega.{arith}
use lib.Dec.{eqb, le→leb}
use lib.ListN.{length}
use Rattle.model.specs.Counts.{is_free}
use Rattle.model.specs.Entry.{directory_clusters, is_directory}
use Rattle.model.specs.Holds.{Chain, UniqueNames}
use Rattle.model.specs.Names.{good_name, same_name}
use Rattle.model.specs.Pages.{decoded}
use Rattle.model.specs.Plan.{Plan, after, directory_after, free_chain, link_to, set_all, write_chain}
use Rattle.model.specs.Tree.{Slot, Tree, chain_of, end, entry_pages, hit, slot_count, times}
use Rattle.model.specs.View.{Link, View, pages_of}
use Rattle.model.proofs.Allocation.{free_in, free-out, set-in, set-links, set_out, times-append}
use Rattle.model.proofs.Equality.{Eq-number, and_l, bool, of_T, zero?}
use Rattle.model.proofs.Frame.{SameP, hit-self, needs, times-pages}
use Rattle.model.proofs.SlotLaws.{old_uses, set_page, set_slot}
use Rattle.model.proofs.StepHolds.{Step}

module _ {B : Type 0} where
  pub all-out : (ps : List ℕ) (ds : List B) (f : ℕ → B) (x : ℕ) → times ps x ≡ 0 → set_all ps ds f x ≡ f x
  all-out [] ds f x h = refl
  all-out (p ∷ ps) [] f x h = refl
  all-out (p ∷ ps) (d ∷ ds) f x h =
      ⊎_elim (λ a. absurd (let b : hit p x ≡ 1 = rw a in omega arith)) (λ a. rw a (all-out ps ds f x (omega arith))) (bool (eqb p x))

  pub all_map : (g : ℕ → B) (ps : List ℕ) (ds : List B) (f : ℕ → B) → length ds ≡ length ps → ((x : ℕ) → times ps x ≤ 1) → ((x : ℕ) → 1 ≤ times ps x → g x ≡ set_all ps ds f x)
      → map g ps ≡ ds
  all_map g [] [] f e u h = refl
  all_map g [] (d ∷ ds) f e u h = absurd (omega arith)
  all_map g (p ∷ ps) [] f e u h = absurd (omega arith)
  all_map g (p ∷ ps) (d ∷ ds) f e u h =
      ap₂ (λ x y. x ∷ y) (h p (omega (arith, hit-self p)) ∙ rw (Eq-number.self p)) (all_map g ps ds f (omega arith) (λ x. omega (arith, u x)) (λ x k. h x (omega arith) ∙ skip x k))
    where
      skip : (x : ℕ) → 1 ≤ times ps x → set_all (p ∷ ps) (d ∷ ds) f x ≡ set_all ps ds f x
      skip x k = ⊎_elim (λ a. absurd (let b : hit p x ≡ 1 = rw a in omega (arith, u x))) (λ a. rw a) (bool (eqb p x))

-- The tree's side of a plan, which determines no byte: the directory's slots, which of them changes, and what it becomes. Slots are counted from slot 2.
pub record InTree : Type 0 where
  pub slot_index : ℕ
  pub directory_slots : Tree
  pub new_slot : Slot

abbrev pub fresh : Plan → ℕ → ℕ
fresh p c = times p.taken c + times p.growth c

pub record Fits (v : View) (used : ℕ → ℕ) (p : Plan) (t : InTree) : Type 0 where
  pub low : t.slot_index ≤ slot_count t.directory_slots
  pub lists : entry_pages (Slot.directory (directory_after p) (p.directory.chain ++ p.growth)) ≡ set_page t.slot_index p.slot_page (entry_pages (Slot.directory p.directory.entry p.directory.chain))
  pub clear : (c : ℕ) → used c + fresh p c ≤ 1
  pub own : (c : ℕ) → times p.directory.chain c + old_uses t.slot_index t.directory_slots c ≤ used c
  pub chain : (c : ℕ) → times (chain_of t.new_slot) c ≡ times p.taken c
  pub old : (c : ℕ) → times p.given c ≡ old_uses t.slot_index t.directory_slots c
  pub slot : (a : ℕ) → hit p.slot_page a ≤ times p.directory.chain (a / 2) + times p.growth (a / 2)
  pub apart : (a : ℕ) → hit p.slot_page a + times (needs (Slot.directory p.directory.entry p.directory.chain)) a ≤ 1
  pub diff : eqb p.slot_page p.directory.page ≡ false
  pub long : length (p.directory.chain ++ p.growth) ≡ directory_clusters (directory_after p)
  pub some-cs : (l : Link) → Chain v l p.directory.chain → l ≡ link_to (p.directory.chain ++ p.growth)
  pub two : 2 ≤ p.new_length
  pub uniq : UniqueNames (set_slot t.slot_index t.new_slot end t.directory_slots)

module _ (v : View) (used : ℕ → ℕ) (p : Plan) {t : InTree} (k : Fits v used p t) where
  w : View
  w = after v p

  eq_of : (a b : ℕ) → hit a b ≡ 0 → eqb a b ≡ false
  eq_of a b h = ⊎_elim (λ c. absurd (let d : hit a b ≡ 1 = rw c in omega arith)) (λ c. c) (bool (eqb a b))

  same : (a : ℕ) → hit p.directory.page a + (hit p.slot_page a + (old_uses t.slot_index t.directory_slots (a / 2) + fresh p (a / 2))) ≡ 0 → SameP v (after v p) a
  same a h =
      let b₁ : eqb p.slot_page a ≡ false = eq_of p.slot_page a (omega arith) in
      let b₂ : eqb p.directory.page a ≡ false = eq_of p.directory.page a (omega arith) in
      let c₁ : times (pages_of p.taken) a ≡ 0 = times-pages p.taken a ∙ omega arith in
      let c₂ : times (pages_of p.growth) a ≡ 0 = times-pages p.growth a ∙ omega arith in (
        rw (b₁, b₂) (all-out (pages_of p.taken) (map decoded p.filling.pages) _ a c₁ ∙ all-out (pages_of p.growth) _ v.entry a c₂),
        rw (b₁, b₂) (all-out (pages_of p.taken) p.filling.pages _ a c₁ ∙ all-out (pages_of p.growth) _ v.page a c₂),
      )

  words : (c : ℕ) → times p.directory.chain c + (old_uses t.slot_index t.directory_slots c + fresh p c) ≡ 0 → (after v p).link c ≡ v.link c
  words c h =
      set_out (p.directory.chain ++ p.growth) _ c (times-append p.directory.chain p.growth c ∙ omega arith)
      ∙ set_out p.taken _ c (omega arith)
      ∙ free-out p.given _ c (k.old c ∙ omega arith)

  links-cs : Chain (after v p) (link_to (p.directory.chain ++ p.growth)) (p.directory.chain ++ p.growth)
  links-cs = set-links (after v p) (p.directory.chain ++ p.growth) _ (λ c. omega (arith, times-append p.directory.chain p.growth c, k.own c, k.clear c)) (λ c h. refl)

  pub links-fs : Chain (after v p) (link_to p.taken) p.taken
  links-fs =
      set-links (after v p) p.taken _ (λ c. omega (arith, k.clear c))
      (λ c h. set_out (p.directory.chain ++ p.growth) _ c (times-append p.directory.chain p.growth c ∙ omega (arith, k.own c, k.clear c)))

  pub step : Step v (after v p) used p.directory.page p.directory.entry p.directory.chain t.directory_slots (directory_after p) p.growth t.slot_index p.slot_page t.new_slot end (fresh p)
  step =
      record {
        low = k.low;
        lists = k.lists;
        fresh = k.clear;
        takes = λ c. omega (arith, times-append p.directory.chain p.growth c, k.chain c);
        slot = λ a. omega (arith, k.slot a);
        apart = k.apart;
        pages = same;
        words = words;
        entry = rw (k.diff, Eq-number.self p.directory.page);
        long = k.long;
        links = λ l h. rw (k.some-cs l h) links-cs;
        begins = refl;
        alike = refl;
        name = refl;
        sub = λ h. let a : (is_directory p.directory.entry && good_name p.directory.entry.name) ≡ true = and_l _ _ h in rw a (of_T (le→leb 2 p.new_length k.two));
        root = λ h. let a : (is_directory p.directory.entry && same_name p.directory.entry.name (0x2E ∷ [])) ≡ true = and_l _ _ h in rw a (of_T (le→leb 2 p.new_length k.two));
        uniq = k.uniq;
      }

  -- the free words
  pub free-after : (used-not-free : (c : ℕ) → 1 ≤ used c → is_free (v.link c) ≡ 0) → ((c : ℕ) → 1 ≤ fresh p c → is_free (v.link c) ≡ 1)
      → (c : ℕ) → is_free ((after v p).link c) + fresh p c ≡ is_free (v.link c) + old_uses t.slot_index t.directory_slots c
  free-after uf ff c = ⊎_elim (λ a. ⊎_elim (λ b. ⊎_elim (rest a b) (freed a b) (zero? (times p.given c))) (new a) (zero? (times p.taken c))) chained (zero? (times (p.directory.chain ++ p.growth) c))
    where
      Goal : Type 0
      Goal = is_free ((after v p).link c) + fresh p c ≡ is_free (v.link c) + old_uses t.slot_index t.directory_slots c

      ca : times (p.directory.chain ++ p.growth) c ≡ times p.directory.chain c + times p.growth c
      ca = times-append p.directory.chain p.growth c

      chained : 1 ≤ times (p.directory.chain ++ p.growth) c → Goal
      chained a =
          let z = set-in (p.directory.chain ++ p.growth) (write_chain p.taken (free_chain p.given v.link)) c a in
          ⊎_elim (λ b. omega (arith, z, ca, k.own c, k.clear c, uf c (omega (arith, ca, k.own c)))) (λ b. omega (arith, z, k.own c, k.clear c, ff c (omega arith))) (zero? (times p.growth c))

      new : times (p.directory.chain ++ p.growth) c ≡ 0 → 1 ≤ times p.taken c → Goal
      new a b =
          let z : is_free ((after v p).link c) ≡ 0 = ap is_free (set_out (p.directory.chain ++ p.growth) _ c a) ∙ set-in p.taken (free_chain p.given v.link) c b in
          omega (arith, k.own c, k.clear c, ff c (omega arith))

      freed : times (p.directory.chain ++ p.growth) c ≡ 0 → times p.taken c ≡ 0 → 1 ≤ times p.given c → Goal
      freed a b d =
          let z : (after v p).link c ≡ Link.free = set_out (p.directory.chain ++ p.growth) _ c a ∙ set_out p.taken _ c b ∙ free_in p.given v.link c d in
          let y : is_free ((after v p).link c) ≡ 1 = ap is_free z in
          omega (arith, k.own c, k.clear c, k.old c, uf c (omega (arith, k.own c, k.old c)), ca)

      rest : times (p.directory.chain ++ p.growth) c ≡ 0 → times p.taken c ≡ 0 → times p.given c ≡ 0 → Goal
      rest a b d =
          let z : (after v p).link c ≡ v.link c = set_out (p.directory.chain ++ p.growth) _ c a ∙ set_out p.taken _ c b ∙ free-out p.given v.link c d in
          let y : is_free ((after v p).link c) ≡ is_free (v.link c) = ap is_free z in
          omega (arith, k.old c, ca)
