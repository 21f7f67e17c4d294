-- The table in memory after a chain is linked or freed has the words that the model's definitions give.
use Prim.Native.Nat.{ℕ, zero, suc, ◌+◌, ◌-◌, ◌/◌, ◌%◌, ◌<◌, ◌≤◌}
use mathlib.Core.Bool.{cond, false, true}
use mathlib.Core.List.{List, [], ◌++◌, ◌∷◌}
use mathlib.Core.Logic.{◌⊎◌, inl, inr, ⊎_elim}
use mathlib.Core.Path.{◌∙◌, ◌≡◌, ap, ap₂, refl, sym}
use native.Mathlib.Omega.{arith}
use borrow.Author.Tests.{eqb-false, eqb-true, ltb-false, ne_eqb}
use lib.Dec.{eqb, ltb}
use lib.ListN.{get_or, length, length-set, set}
use lib.Seq.{get_or-set_other, get_or-set_same}
use Rattle.model.specs.Entry.{end_mark}
use Rattle.model.specs.Holds.{Chain}
use Rattle.model.specs.Tree.{hit, times}
use Rattle.model.specs.View.{Link, View, link_of, top_bit}
use Rattle.model.specs.Writes.{chain_words, cleared_words, word_to}
use Rattle.model.proofs.Equality.{bool}
use Rattle.model.proofs.Frame.{hit-self}
use Rattle.reached.specs.Table.{table_links}
use Rattle.tree.specs.Slots.{cluster_at, next_of}
use Rattle.tree.proofs.ChainPages.{step-next}
use Rattle.change.specs.Words.{chained, cleared_from}

-- ---- a chain linked
pub length-chained : (cs t : List ℕ) → length (chained cs t) ≡ length t
unfolding chained
length-chained [] t = refl
length-chained (c ∷ cs) t = length-set (chained cs t) c (word_to cs) ∙ length-chained cs t

pub word-chained : (cs t : List ℕ) (x : ℕ) → x < length t → get_or (chained cs t) x 0 ≡ chain_words cs (λ c. get_or t c 0) x
unfolding chained
word-chained [] t x h = refl
word-chained (c ∷ cs) t x h =
    ⊎_elim
    (λ (e : eqb c x ≡ true). let z = eqb-true c x e in rw (e, z) (get_or-set_same (chained cs t) x (word_to cs) 0 (omega (arith, length-chained cs t))))
    (λ (e : eqb c x ≡ false). rw e (get_or-set_other (chained cs t) c x (word_to cs) 0 (λ z. eqb-false c x e (sym z)) ∙ word-chained cs t x h))
    (bool (eqb c x))

-- ---- a chain freed: words count only at the place asked for
pub cleared_at : (cs : List ℕ) (f g : ℕ → ℕ) (x : ℕ) → f x ≡ g x → cleared_words cs f x ≡ cleared_words cs g x
cleared_at [] f g x e = e
cleared_at (c ∷ cs) f g x e = ap₂ (λ a b. cond (eqb c x) (a % top_bit) b) e (cleared_at cs f g x e)

pub chain-at : (cs : List ℕ) (f g : ℕ → ℕ) (x : ℕ) → f x ≡ g x → chain_words cs f x ≡ chain_words cs g x
chain-at [] f g x e = e
chain-at (c ∷ cs) f g x e = ap (cond (eqb c x) (word_to cs)) (chain-at cs f g x e)

miss : (c x : ℕ) → hit c x ≡ 0 → eqb c x ≡ false
miss c x h = ⊎_elim (λ (e : eqb c x ≡ true). absurd (let z : hit c x ≡ 1 = rw e in omega arith)) (λ e. e) (bool (eqb c x))

pub cleared-out : (cs : List ℕ) (f : ℕ → ℕ) (x : ℕ) → times cs x ≡ 0 → cleared_words cs f x ≡ f x
cleared-out [] f x h = refl
cleared-out (c ∷ cs) f x h = rw (miss c x (omega arith)) (cleared-out cs f x (omega arith))

pub chain-out : (cs : List ℕ) (f : ℕ → ℕ) (x : ℕ) → times cs x ≡ 0 → chain_words cs f x ≡ f x
chain-out [] f x h = refl
chain-out (c ∷ cs) f x h = rw (miss c x (omega arith)) (chain-out cs f x (omega arith))

pub length-cleared : (n c : ℕ) (t : List ℕ) → length (cleared_from c n t) ≡ length t
unfolding cleared_from
length-cleared zero c t = refl
length-cleared (suc n) c t = length-cleared n (next_of t c) (set t c (get_or t c 0 % top_bit)) ∙ length-set t c (get_or t c 0 % top_bit)

-- the clusters that the code steps through from c on
abbrev pub Follows : List ℕ → ℕ → List ℕ → Type 0
Follows t c [] = Unit {0}
Follows t c (d ∷ ds) = (c ≡ d) × Follows t (next_of t d) ds

pub chain-follows : (v : View) (t : List ℕ) → ((c : ℕ) → v.link c ≡ table_links t c) → (c : ℕ) (cs : List ℕ) → Chain v (Link.next c) cs → Follows t c cs
chain-follows v t links c [] h = tt
chain-follows v t links c (d ∷ []) h = (same h.0, tt)
  where
    same : Link.next c ≡ Link.next d → c ≡ d
    same e = cc
chain-follows v t links c (d ∷ a ∷ cs) h =
    let n : next_of t d ≡ a = step-next t d a (sym (links d) ∙ h.1.0) in
    (same h.0, rw n (chain-follows v t links a (a ∷ cs) (refl, h.1.1)))
  where
    same : Link.next c ≡ Link.next d → c ≡ d
    same e = cc

next-set : (t : List ℕ) (c w d : ℕ) → (c ≡ d → ⊥) → next_of (set t c w) d ≡ next_of t d
next-set t c w d n = ap (λ x. x - top_bit) (get_or-set_other t c d w 0 (λ z. n (sym z)))

follows-set : (t : List ℕ) (c w a : ℕ) (ds : List ℕ) → times ds c ≡ 0 → Follows t a ds → Follows (set t c w) a ds
follows-set t c w a [] h f = tt
follows-set t c w a (d ∷ ds) h f = (f.0, rw (next-set t c w d (λ z. let y : hit d c ≡ 1 = rw z (hit-self d) in omega arith)) (follows-set t c w (next_of t d) ds (omega arith) f.1))

pub word-cleared : (cs t : List ℕ) (c x : ℕ) → Follows t c cs → ((d : ℕ) → times cs d ≤ 1) → x < length t
    → get_or (cleared_from c (length cs) t) x 0 ≡ cleared_words cs (λ d. get_or t d 0) x
unfolding cleared_from
word-cleared [] t c x f u h = refl
word-cleared (d ∷ ds) t c x f u h =
    rw f.0
    (word-cleared ds (set t d (get_or t d 0 % top_bit)) (next_of t d) x (follows-set t d (get_or t d 0 % top_bit) (next_of t d) ds (omega (arith, u d, hit-self d)) f.1) (λ a. omega (arith, u a)) (omega (arith, length-set t d (get_or t d 0 % top_bit)))
    ∙ pick (bool (eqb d x)))
  where
    pick : (eqb d x ≡ true) ⊎ (eqb d x ≡ false) → cleared_words ds (λ a. get_or (set t d (get_or t d 0 % top_bit)) a 0) x ≡ cond (eqb d x) (get_or t x 0 % top_bit) (cleared_words ds (λ a. get_or t a 0) x)
    pick (inl e) =
        let z = eqb-true d x e in
        cleared-out ds (λ a. get_or (set t d (get_or t d 0 % top_bit)) a 0) x (let y : hit d x ≡ 1 = rw e in omega (arith, u x))
        ∙ rw (e, z) (get_or-set_same t x (get_or t x 0 % top_bit) 0 h)
    pick (inr e) = rw e (cleared_at ds _ (λ a. get_or t a 0) x (get_or-set_other t d x (get_or t d 0 % top_bit) 0 (λ z. eqb-false d x e (sym z))))

-- ---- a chain that stands: its words are those that it would be given
abbrev pub Worded : (ℕ → ℕ) → List ℕ → Type 0
Worded f [] = Unit {0}
Worded f (c ∷ cs) = (f c ≡ word_to cs) × Worded f cs

link-last : (w : ℕ) → link_of w ≡ Link.last → w ≡ end_mark
link-last w e = go (bool (ltb w top_bit)) (bool (eqb w end_mark))
  where
    go : (ltb w top_bit ≡ true) ⊎ (ltb w top_bit ≡ false) → (eqb w end_mark ≡ true) ⊎ (eqb w end_mark ≡ false) → w ≡ end_mark
    go (inl i) j = absurd (let f : Link.free ≡ Link.last = rw i at e in let z : ◌≡◌ {A = ℕ} 0 1 = cc in omega arith)
    go (inr i) (inl j) = eqb-true w end_mark j
    go (inr i) (inr j) = absurd (let f : Link.next (w - top_bit) ≡ Link.last = rw (i, j) at e in let z : ◌≡◌ {A = ℕ} 0 1 = cc in omega arith)

link-next : (w c : ℕ) → link_of w ≡ Link.next c → w ≡ top_bit + c
link-next w c e = go (bool (ltb w top_bit)) (bool (eqb w end_mark))
  where
    go : (ltb w top_bit ≡ true) ⊎ (ltb w top_bit ≡ false) → (eqb w end_mark ≡ true) ⊎ (eqb w end_mark ≡ false) → w ≡ top_bit + c
    go (inl i) j = absurd (let f : Link.free ≡ Link.next c = rw i at e in let z : ◌≡◌ {A = ℕ} 0 1 = cc in omega arith)
    go (inr i) (inl j) = absurd (let f : Link.last ≡ Link.next c = rw (i, j) at e in let z : ◌≡◌ {A = ℕ} 0 1 = cc in omega arith)
    go (inr i) (inr j) =
        let f : Link.next (w - top_bit) ≡ Link.next c = rw (i, j) at e in
        let k : w - top_bit ≡ c = cc in
        omega (arith, ltb-false w top_bit i)

table-link : (t : List ℕ) (c : ℕ) (l : Link) → table_links t c ≡ l → (l ≡ Link.free → ⊥) → link_of (get_or t c 0) ≡ l
table-link t c l e n = ⊎_elim (λ (i : ltb c (length t) ≡ true). (rw i at e)) (λ (i : ltb c (length t) ≡ false). absurd (n (sym (rw i at e)))) (bool (ltb c (length t)))

pub chain-worded : (v : View) (t : List ℕ) → ((c : ℕ) → v.link c ≡ table_links t c) → (l : Link) (cs : List ℕ) → Chain v l cs → Worded (λ c. get_or t c 0) cs
chain-worded v t links l [] h = tt
chain-worded v t links l (c ∷ []) h =
    (link-last (get_or t c 0) (table-link t c Link.last (sym (links c) ∙ h.1) (λ e. let z : ◌≡◌ {A = ℕ} 0 1 = cc in omega arith)), tt)
chain-worded v t links l (c ∷ d ∷ cs) h =
    (link-next (get_or t c 0) d (table-link t c (Link.next d) (sym (links c) ∙ h.1.0) (λ e. let z : ◌≡◌ {A = ℕ} 0 1 = cc in omega arith)), chain-worded v t links (v.link c) (d ∷ cs) h.1)

pub worded-as : (f g : ℕ → ℕ) (cs : List ℕ) → ((x : ℕ) → 1 ≤ times cs x → g x ≡ f x) → Worded f cs → Worded g cs
worded-as f g [] h w = tt
worded-as f g (c ∷ cs) h w = (h c (omega (arith, hit-self c)) ∙ w.0, worded-as f g cs (λ x u. h x (omega arith)) w.1)

pub chain-self : (cs : List ℕ) (f : ℕ → ℕ) → Worded f cs → (x : ℕ) → chain_words cs f x ≡ f x
chain-self [] f w x = refl
chain-self (c ∷ cs) f w x =
    ⊎_elim (λ (e : eqb c x ≡ true). rw e (sym w.0 ∙ ap f (eqb-true c x e))) (λ (e : eqb c x ≡ false). rw e (chain-self cs f w.1 x)) (bool (eqb c x))

-- ---- a chain that grows by one cluster behind its last
pub last_in : ℕ → List ℕ → ℕ
last_in c [] = c
last_in c (d ∷ ds) = last_in d ds

pub last-at : (c : ℕ) (cs : List ℕ) → get_or (c ∷ cs) (length cs) 0 ≡ last_in c cs
unfolding last_in
last-at c [] = refl
last-at c (d ∷ ds) = last-at d ds

pub last-times : (c : ℕ) (cs : List ℕ) → 1 ≤ times (c ∷ cs) (last_in c cs)
unfolding last_in
last-times c [] = omega (arith, hit-self c)
last-times c (d ∷ ds) = omega (arith, last-times d ds)

last_off : (c : ℕ) (cs : List ℕ) (x : ℕ) → times (c ∷ cs) x ≡ 0 → eqb (last_in c cs) x ≡ false
unfolding last_in
last_off c [] x h = miss c x (omega arith)
last_off c (d ∷ ds) x h = last_off d ds x (omega arith)

pub chain-grown : (c : ℕ) (cs : List ℕ) (n : ℕ) (f : ℕ → ℕ) → Worded f (c ∷ cs) → ((x : ℕ) → times (c ∷ cs) x ≤ 1) → times (c ∷ cs) n ≡ 0
    → (x : ℕ) → chain_words ((c ∷ cs) ++ (n ∷ [])) f x ≡ chain_words (last_in c cs ∷ n ∷ []) f x
unfolding last_in
chain-grown c [] n f w u o x = refl
chain-grown c (d ∷ ds) n f w u o x =
    ⊎_elim
    (λ (e : eqb c x ≡ true).
    let q : c ≡ x = eqb-true c x e in
    let i : hit c x ≡ 1 = rw e in
    let a : eqb (last_in d ds) x ≡ false = last_off d ds x (omega (arith, u x)) in
    let b : eqb n x ≡ false = ne_eqb n x (λ z. let j : times (c ∷ d ∷ ds) x ≡ 0 = rw z at o in omega arith) in
    rw (e, a, b) (sym w.0 ∙ ap f q))
    (λ (e : eqb c x ≡ false). rw e (chain-grown d ds n f w.1 (λ z. omega (arith, u z)) (omega arith) x))
    (bool (eqb c x))

-- ---- the cluster of slot k, two slots to a cluster
next-in : (v : View) (t : List ℕ) → ((c : ℕ) → v.link c ≡ table_links t c) → (l : Link) (cs : List ℕ) → Chain v l cs → (i : ℕ) → suc i < length cs → next_of t (get_or cs i 0) ≡ get_or cs (suc i) 0
next-in v t links l [] h i k = absurd (omega arith)
next-in v t links l (c ∷ []) h i k = absurd (omega arith)
next-in v t links l (c ∷ d ∷ cs) h zero k = step-next t c d (sym (links c) ∙ h.1.0)
next-in v t links l (c ∷ d ∷ cs) h (suc i) k = next-in v t links (v.link c) (d ∷ cs) h.1 i (omega arith)

pub cluster-in : (v : View) (t : List ℕ) → ((c : ℕ) → v.link c ≡ table_links t c) → (l : Link) (c : ℕ) (cs : List ℕ) → Chain v l (c ∷ cs)
    → (k : ℕ) → k / 2 < length (c ∷ cs) → cluster_at t c k ≡ get_or (c ∷ cs) (k / 2) 0
unfolding cluster_at
cluster-in v t links l c cs h zero k = refl
cluster-in v t links l c cs h (suc j) k = step (cluster-in v t links l c cs h j (omega arith)) (bool (eqb (j % 2) 1))
  where
    step : cluster_at t c j ≡ get_or (c ∷ cs) (j / 2) 0 → (eqb (j % 2) 1 ≡ true) ⊎ (eqb (j % 2) 1 ≡ false)
        → cond (eqb (j % 2) 1) (next_of t (cluster_at t c j)) (cluster_at t c j) ≡ get_or (c ∷ cs) (suc j / 2) 0
    step ih (inl e) =
        let o : j % 2 ≡ 1 = eqb-true (j % 2) 1 e in
        let q : suc j / 2 ≡ suc (j / 2) = omega arith in
        rw (e, ih, q) (next-in v t links l (c ∷ cs) h (j / 2) (omega arith))
    step ih (inr e) =
        let o : j % 2 ≡ 1 → ⊥ = eqb-false (j % 2) 1 e in
        let q : suc j / 2 ≡ j / 2 = even o in
        rw (e, q) ih
      where
        even : (j % 2 ≡ 1 → ⊥) → suc j / 2 ≡ j / 2
        even o = omega arith
