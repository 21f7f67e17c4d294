-- What the code reads of a slot, and the names before it, are the view's.
use Rattle.layout.specs.See.{image_page, page_in}
use Rattle.layout.specs.declared.Geometry.{Geometry}
use Rattle.std.proofs.Common.{◌≡◌, ℕ, ◌+◌, ◌*◌, ◌%◌, ◌^◌, ◌<◌, ◌≤◌, Bool, true, false, cond, eqb, ltb, List, sym, refl, ap, ◌∙◌, add-one, arith, ltb-false, ltb-true, eq-eqb, ne_eqb}
use Rattle.std.specs.Prelude.{Result as Returned, Ok, Err}
use mathlib.Core.Option.{Option, none, some}
use native.Mathlib.Nat.{mod-mod}
use Rattle.fields.specs.Kinds.{kind_of}
use Rattle.fields.specs.declared.kinds.Kind.{Kind}
use Rattle.fields.specs.declared.kinds.Kind.TheVariants as kind
use Rattle.layout.specs.declared.Refusal.{Refusal}
use Rattle.layout.specs.declared.Refusal.TheVariants as is
use Rattle.model.proofs.Equality.{tf}
use Rattle.model.specs.Entry.{Entry, entry_of, is_file, is_live, is_subdirectory}
use Rattle.model.specs.Names.{Name}
use Rattle.model.specs.Pages.{decoded}
use Rattle.model.specs.View.{View}
use Rattle.page.specs.Mended.{wrapped}
use Rattle.page.specs.Page.{Read, is_some, or_kept, page_at}
use Rattle.tree.specs.Mended.{count_after}
use Rattle.tree.specs.Met.{Grows, Knows, hash_of, is_met, mark_of, most_pages, with_name}
use Rattle.tree.specs.Slots.{cluster_at, live_before, live_hit, next_of, slot_page, cluster_after}
use Rattle.tree.specs.Walk.{looked_at}
use Rattle.tree.proofs.MetLaws.{grows_self, knows-learnt, knows-new, knows-skip, learnt-grows}

-- ---- a page that was read

pub unread : {o : Option (List ℕ)} {before after : List ℕ} {r : Bool} → Read o before r after → r ≡ false → decoded o ≡ none
unread {o} k e = go o (sym k.readable ∙ e)
  where
    go : (o : Option (List ℕ)) → is_some o ≡ false → decoded o ≡ none
    go none h = refl
    go (some d) h = tf refl h

pub was_read : {o : Option (List ℕ)} {before after : List ℕ} {r : Bool} → Read o before r after → r ≡ true → decoded o ≡ some (entry_of after)
was_read {o} {before} {after} k e = go o (sym k.readable ∙ e) k.buffer
  where
    go : (o : Option (List ℕ)) → is_some o ≡ true → after ≡ or_kept o before → decoded o ≡ some (entry_of after)
    go none h b = tf h refl
    go (some d) h b = ap {B = Option Entry} (λ x. some (entry_of x)) (sym b)

-- it added its chunks to the count
pub read-adds : {o : Option (List ℕ)} {before after : List ℕ} {r : Bool} (chunks n : ℕ) {count : ℕ} → Read o before r after → r ≡ true
    → count ≡ count_after o chunks n → wrapped count ≡ wrapped (n + chunks)
read-adds {o} chunks n {count} k e = go o (sym k.readable ∙ e)
  where
    go : (o : Option (List ℕ)) → is_some o ≡ true → count ≡ count_after o chunks n → wrapped count ≡ wrapped (n + chunks)
    go none h c = tf h refl
    go (some d) h c = rw c (mod-mod (n + chunks) (2 ^ 64))

-- a page that was read is one of the allocatable clusters
pub read_low : (geometry : Geometry) (count : ℕ) (image : List ℕ) (page : ℕ) {before after : List ℕ} {r : Bool} → Read (page_in geometry count image page) before r after → r ≡ true → page < 2 * count
unfolding page_in
read_low geometry count image page k e = go (ltb page (2 * count)) refl (sym k.readable ∙ e)
  where
    go : (b : Bool) → ltb page (2 * count) ≡ b → is_some (cond b (page_at geometry.format image (image_page geometry page)) none) ≡ true → page < 2 * count
    go true f h = ltb-true page (2 * count) f
    go false f h = tf h refl

-- the cluster of the next slot
pub step-odd : (t : List ℕ) (c k x : ℕ) → k % 2 ≡ 1 → x ≡ next_of t c → x ≡ cluster_after t c k
step-odd t c k x o e = rw (eq-eqb (k % 2) 1 o) e

pub step-even : (t : List ℕ) (c k x : ℕ) → (k % 2 ≡ 1 → ⊥) → x ≡ c → x ≡ cluster_after t c k
step-even t c k x o e = rw (ne_eqb (k % 2) 1 o) e

-- ---- the look

-- a live entry's kind is what the look tells of a new name
look-kind : (e : Entry) → is_live e ≡ true
    → cond (is_file e) (kind.File e.length e.first_cluster) (cond (is_subdirectory e) (kind.Directory e.length e.first_cluster) kind.Bad) ≡ kind_of e
unfolding kind_of
look-kind e l = rw l

module _ (v : View) (t : List ℕ) (first start k : ℕ) (cells : List ℕ) (kn : Knows v t first start k cells) (c page : ℕ) (here : c ≡ cluster_at t start k) (at : page ≡ slot_page c k)
    (geometry : Geometry) where
  -- what a look answers, and what the cells then know
  abbrev pub Looked : Returned Kind Refusal → List ℕ → Type 0
  Looked x after =
      (x ≡ looked_at (live_before v t start k) (image_page geometry (slot_page c k)) (v.entry (slot_page c k))) × (Knows v t first start (k + 1) after × Grows cells after)

  own-page : (o : Option Entry) → v.entry page ≡ o → v.entry (slot_page (cluster_at t start k) k) ≡ o
  own-page o e = rw (at, here) at e

  skip : ((n : Name) → live_hit (v.entry page) n ≡ 0) → Knows v t first start (k + 1) cells × Grows cells cells
  skip z = (rw (add-one k) (knows-skip v t first start k cells kn (λ n. rw (at, here) at (z n))), grows_self cells)

  pub look-unread : (p : ℕ) → v.entry page ≡ none → p ≡ image_page geometry page → Looked (Err (is.UnreadablePage p)) cells
  look-unread p e q = (rw (← at, e, q), skip (λ n. rw e))

  module _ (e : Entry) (i : v.entry page ≡ some e) where
    pub look-dead : is_live e ≡ false → Looked (Ok kind.Dead) cells
    look-dead l = (rw (← at, i, l), skip (λ n. rw (i, l)))

    module _ (l : is_live e ≡ true) (low : page < most_pages) (after : List ℕ)
        (h : after ≡ with_name v t first start k e.name page cells) where
      met : Knows v t first start (k + 1) after × Grows cells after
      met =
          let own : page ≡ slot_page (cluster_at t start k) k = rw (← here) at in (
            rw (add-one k, h, own) (knows-learnt v t first start k cells kn e (own-page (some e) i) l (rw own at low)),
            rw h (learnt-grows v t start k e.name (mark_of (hash_of first e.name)) page cells most_pages (hash_of first e.name)),
          )

      -- the look at a live entry, by whether its name is taken
      abbrev by_name : Bool → Kind
      by_name new =
          cond new (cond (is_file e) (kind.File e.length e.first_cluster) (cond (is_subdirectory e) (kind.Directory e.length e.first_cluster) kind.Bad)) kind.Bad

      shown_by : (new : Bool) → eqb (live_before v t start k e.name) 0 ≡ new
          → looked_at (live_before v t start k) (image_page geometry (slot_page c k)) (v.entry (slot_page c k)) ≡ Ok (by_name new)
      shown_by new f =
          ap (looked_at (live_before v t start k) (image_page geometry (slot_page c k))) (ap v.entry (sym at) ∙ i)
          ∙ ap (λ (b : Bool). Ok (cond b (by_name (eqb (live_before v t start k e.name) 0)) kind.Dead)) l
          ∙ ap (λ (b : Bool). Ok (by_name b)) f

      pub look-new : (x : Kind) → x ≡ kind_of e → live_before v t start k e.name ≡ 0 → Looked (Ok x) after
      look-new x q z = (ap Ok (q ∙ sym (look-kind e l)) ∙ sym (shown_by true (eq-eqb _ 0 z)), met)

      pub look-met : (x : Kind) → x ≡ kind_of e → (b : Bool) → b ≡ is_met v t first start k e.name cells → b ≡ false
          → Looked (Ok x) after
      look-met x q b f g = look-new x q (knows-new v t first start k cells kn e.name (sym f ∙ g))

      pub look-taken : (b : Bool) → b ≡ ltb 0 (live_before v t start k e.name) → b ≡ true → Looked (Ok kind.Bad) after
      look-taken b f g =
          let z : 0 < live_before v t start k e.name = ltb-true _ _ (sym f ∙ g) in
          (sym (shown_by false (ne_eqb (live_before v t start k e.name) 0 (λ w. omega arith))), met)

      pub look-free : (x : Kind) → x ≡ kind_of e → (b : Bool) → b ≡ ltb 0 (live_before v t start k e.name) → b ≡ false → Looked (Ok x) after
      look-free x q b f g = let z : live_before v t start k e.name ≤ 0 = ltb-false _ _ (sym f ∙ g) in look-new x q (omega arith)
