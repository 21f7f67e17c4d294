-- Each way out of a scan's loop: what is left of the slots gives the answer of the whole scan.
use Rattle.std.proofs.Common.{◌≡◌, ℕ, zero, suc, ◌+◌, ◌-◌, ◌<◌, ◌≤◌, Bool, true, false, cond, ◌&&◌, ltb, ◌⊎◌, List, [], ◌∷◌, sym, refl, ap, ◌∙◌, inl, inr, ⊎_elim, add-one, arith, lt-ltb}
use Rattle.std.specs.Prelude.{Option, None, Some}
use mathlib.Core.Option.{Option as Maybe, none, some}
use Rattle.model.specs.Bytes.{page_limit}
use Rattle.model.specs.Entry.{Entry, is_live}
use Rattle.model.specs.Names.{Name, same_name}
use Rattle.model.specs.View.{View}
use Rattle.tree.specs.Scan.{FirstOf, Within, bearing, bears, scan}
use Rattle.tree.specs.Slots.{cluster_after, cluster_at, live_before, live_hit, next_of, slot_page, slot_pages}
use Rattle.tree.specs.declared.along.Place.{Place}

-- the clusters one after the other
pub cluster-start : (t : List ℕ) (start : ℕ) → start ≡ cluster_at t start 0
unfolding cluster_at
cluster-start t start = refl

pub cluster-step : (t : List ℕ) (start c j x : ℕ) → c ≡ cluster_at t start j → x ≡ cluster_after t c j → x ≡ cluster_at t start (j + 1)
unfolding cluster_at
cluster-step t start c j x e f = rw (add-one j, ← e) f

-- what slots k to n - 1 give, slot k in cluster c
abbrev pub rest : (ℕ → ℕ → Bool) → List ℕ → ℕ → ℕ → ℕ → Option Place
rest test t c k n = scan test (slot_pages t c k (n - k)) k

pub scan-all : (test : ℕ → ℕ → Bool) (t : List ℕ) (c n : ℕ) → rest test t c 0 n ≡ scan test (slot_pages t c 0 n) 0
scan-all test t c n = let z : n - 0 ≡ n = omega arith in rw z

pub scan-end : (test : ℕ → ℕ → Bool) (t : List ℕ) (c k n : ℕ) → n ≤ k → rest test t c k n ≡ None
unfolding scan slot_pages
scan-end test t c k n h = let z : n - k ≡ 0 = omega arith in rw z

module _ (test : ℕ → ℕ → Bool) (t : List ℕ) (c k n : ℕ) (h : k < n) where
  one : rest test t c k n ≡ cond (test k (slot_page c k)) (Some (record { slot = k; page = slot_page c k })) (scan test (slot_pages t (cluster_after t c k) (suc k) (n - suc k)) (suc k))
  unfolding scan slot_pages
  one = let z : n - k ≡ suc (n - suc k) = omega arith in rw z

  pub scan-here : (page : ℕ) → page ≡ slot_page c k → test k page ≡ true → Some (record { slot = k; page = page }) ≡ rest test t c k n
  scan-here page at e = let f : test k (slot_page c k) ≡ true = ap (test k) (sym at) ∙ e in rw (at) (sym (one ∙ rw f))

  pub scan-later : (page x : ℕ) → page ≡ slot_page c k → x ≡ cluster_after t c k → test k page ≡ false → rest test t x (k + 1) n ≡ rest test t c k n
  scan-later page x at s e = let f : test k (slot_page c k) ≡ false = ap (test k) (sym at) ∙ e in rw (add-one k, s) (sym (one ∙ rw f))

pub within : (count : ℕ) (r : Option Place) (p : Place) → Within count r → r ≡ Some p → (p.page < page_limit) × (p.slot < count)
within count r p w e = rw e at w

-- the code's scan of a directory's slots, by the numbers that it computed, is the one asked for
pub scan-as : (test : ℕ → ℕ → Bool) (t : List ℕ) (first length start count len : ℕ) (r : Option Place) → start ≡ next_of t first → count ≡ len - 2 → len ≡ length
    → r ≡ scan test (slot_pages t start 0 count) 0 → scan test (slot_pages t (next_of t first) 0 (length - 2)) 0 ≡ r
scan-as test t first length start count len r a b c d = sym (rw (a, b, c) at d)

-- ---- a name that is taken

-- how often a live entry bears the name in some pages
live_in : View → Name → List ℕ → ℕ
live_in v n [] = 0
live_in v n (p ∷ ps) = live_hit (v.entry p) n + live_in v n ps

abbrev counts : Bool → Bool → ℕ
counts live same = cond live (cond same 1 0) 0

hit-of : (n : Name) (o : Maybe Entry) → ((bears n o ≡ true) × (live_hit o n ≡ 1)) ⊎ ((bears n o ≡ false) × (live_hit o n ≡ 0))
hit-of n none = inr (refl, refl)
hit-of n (some e) = go (is_live e) (same_name e.name n)
  where
    go : (b d : Bool) → (((b && d) ≡ true) × (counts b d ≡ 1)) ⊎ (((b && d) ≡ false) × (counts b d ≡ 0))
    go true true = inl (refl, refl)
    go true false = inr (refl, refl)
    go false true = inr (refl, refl)
    go false false = inr (refl, refl)

abbrev pub is_found : Option Place → Bool
is_found None = false
is_found (Some p) = true

-- the scan for a name finds it where a live entry bears it
scan-finds : (v : View) (n : Name) (ps : List ℕ) (k : ℕ) → is_found (scan (bearing v n) ps k) ≡ ltb 0 (live_in v n ps)
unfolding scan live_in
scan-finds v n [] k = refl
scan-finds v n (p ∷ ps) k =
    ⊎_elim (λ h. rw (h.0, h.1) (sym (lt-ltb 0 (1 + live_in v n ps) (omega arith)))) (λ h. let z : 0 + live_in v n ps ≡ live_in v n ps = omega arith in rw (h.0, h.1, z) (scan-finds v n ps (suc k))) (hit-of n (v.entry p))

-- those of slots k to j - 1, with those before slot k, are those before slot j
live-slots : (v : View) (t : List ℕ) (start : ℕ) (n : Name) (m k j : ℕ) → j ≡ k + m
    → live_in v n (slot_pages t (cluster_at t start k) k m) + live_before v t start k n ≡ live_before v t start j n
unfolding slot_pages live_in live_before cluster_at
live-slots v t start n zero k j e = let z : j ≡ k = omega arith in rw z (omega arith)
live-slots v t start n (suc m) k j e = omega (arith, live-slots v t start n m (suc k) j (omega arith))

taken-scan : (v : View) (t : List ℕ) (start k : ℕ) (n : Name) → is_found (scan (bearing v n) (slot_pages t start 0 k) 0) ≡ ltb 0 (live_before v t start k n)
unfolding cluster_at live_before
taken-scan v t start k n =
    let z : live_in v n (slot_pages t start 0 k) ≡ live_before v t start k n = omega (arith, live-slots v t start n k 0 k (omega arith)) in
    scan-finds v n (slot_pages t start 0 k) 0 ∙ ap (ltb 0) z

-- the code's scan for a name, by the name that it computed, tells whether it is taken
pub taken_as : (v : View) (t : List ℕ) (start k : ℕ) (m n : Name) (r : Option Place) → FirstOf (bearing v m) t start k r → m ≡ n
    → is_found r ≡ ltb 0 (live_before v t start k n)
taken_as v t start k m n r f e = ap is_found f.0 ∙ rw e (taken-scan v t start k n)
