-- The page writes and the table words of an accepted change give the view after it.
use Prim.Native.Nat.{◌+◌, ◌/◌, ◌<◌, ◌≤◌, ℕ}
use mathlib.Core.Bool.{cond, false, true}
use mathlib.Core.List.{List, [], ◌++◌, ◌∷◌}
use mathlib.Core.Logic.{◌⊎◌, inl, inr}
use mathlib.Core.Option.{Option, none, some}
use mathlib.Core.Path.{◌∙◌, ◌≡◌, ap, refl, subst, sym}
use native.Mathlib.Omega.{arith}
use lib.Dec.{eqb}
use Rattle.model.specs.Change.{Rules}
use Rattle.model.specs.Claims.{WritesGiveView}
use Rattle.model.specs.Holds.{HoldsCard}
use Rattle.model.specs.Pages.{zero_cluster}
use Rattle.model.specs.Plan.{Filling, Plan, after, free_chain, link_to, set_all, write_chain}
use Rattle.model.specs.Tree.{Root, hit, times}
use Rattle.model.specs.View.{Link, View, pages_of}
use Rattle.model.specs.Writes.{PageWrite, cluster_writes, directory_write, links_of, page_writes, pages_after, slot_write, words_after}
use Rattle.model.proofs.Allocation.{times-append}
use Rattle.model.proofs.ChangeActs.{acts}
use Rattle.model.proofs.ClaimsHold.{sound-of}
use Rattle.model.proofs.CountLaws.{card-used}
use Rattle.model.proofs.Equality.{bool}
use Rattle.model.proofs.Frame.{times-pages}
use Rattle.model.proofs.Outcome.{Deed, Work}
use Rattle.model.proofs.PageBytes.{Full, full-data, length-new, length-zero}
use Rattle.model.proofs.PlanHolds.{all-out}
use Rattle.model.proofs.Refusals.{refusal-accepts}
use Rattle.model.proofs.TableWords.{clear-words, set_words}

after-append : (xs zs : List PageWrite) (f : ℕ → Option (List ℕ)) (a : ℕ) → pages_after (xs ++ zs) f a ≡ pages_after zs (λ x. pages_after xs f x) a
after-append [] zs f a = refl
after-append (w ∷ xs) zs f a = after-append xs zs (λ x. cond (eqb w.page x) (some w.bytes) (f x)) a

after-ext : (ws : List PageWrite) (f g : ℕ → Option (List ℕ)) → ((x : ℕ) → f x ≡ g x) → (a : ℕ) → pages_after ws f a ≡ pages_after ws g a
after-ext [] f g h a = h a
after-ext (w ∷ ws) f g h a = after-ext ws _ _ (λ x. ap (cond (eqb w.page x) (some w.bytes)) (h x)) a

all-ext : {B : Type 0} (ps : List ℕ) (ds : List B) (f g : ℕ → B) (x : ℕ) → f x ≡ g x → set_all ps ds f x ≡ set_all ps ds g x
all-ext [] ds f g x e = e
all-ext (p ∷ ps) [] f g x e = e
all-ext (p ∷ ps) (d ∷ ds) f g x e = ap (cond (eqb p x) d) (all-ext ps ds f g x e)

-- Pages of clusters, each once and none unreadable, may be written in turn.
clusters-after : (ps : List ℕ) (ds : List (Option (List ℕ))) → Full ds → ((x : ℕ) → times ps x ≤ 1) → (f : ℕ → Option (List ℕ)) (a : ℕ)
    → pages_after (cluster_writes ps ds) f a ≡ set_all ps ds f a
clusters-after [] ds h u f a = refl
clusters-after (p ∷ ps) [] h u f a = refl
clusters-after (p ∷ ps) (none ∷ ds) h u f a = absurd h
clusters-after (p ∷ ps) (some d ∷ ds) h u f a =
    clusters-after ps ds h.1 (λ x. omega (arith, u x)) (λ x. cond (eqb p x) (some d) (f x)) a ∙ go (bool (eqb p a))
  where
    go : (eqb p a ≡ true) ⊎ (eqb p a ≡ false) → set_all ps ds (λ x. cond (eqb p x) (some d) (f x)) a ≡ cond (eqb p a) (some d) (set_all ps ds f a)
    go (inl e) =
        let n : hit p a ≡ 1 = rw e in
        all-out ps ds _ a (omega (arith, u a)) ∙ rw e
    go (inr e) = all-ext ps ds _ f a (rw e) ∙ rw e

-- no page of an accepted change's new clusters stands as unreadable
module _ (y : Rules) where
  pages-full : (v : View) (p : Plan) → Work y v p → Full p.filling.pages
  pages-full v p (Work.file n t b g h l e) = subst Full (sym (ap (λ (x : Filling). x.pages) e)) (full-data b)
  pages-full v p (Work.directory n t k g h l e) = subst Full (sym (ap (λ (x : Filling). x.pages) e)) (length-new _, (length-new _, tt))
  pages-full v p (Work.bytes e₀ t b g h l e) = subst Full (sym (ap (λ (x : Filling). x.pages) e)) (full-data b)
  pages-full v p (Work.kill e₀ g e) = subst Full (sym (ap (λ (x : Filling). x.pages) e)) tt

  module _ (v : View) (r : Root) (h : HoldsCard v r) (p : Plan) (d : Deed y v r p) where
    new-once : (a : ℕ) → times (pages_of p.taken) a + times (pages_of p.growth) a ≤ 1
    new-once a = omega (arith, times-pages p.taken a, times-pages p.growth a, d.fit.clear (a / 2))

    pub pages-written : (a : ℕ) → (after v p).page a ≡ pages_after (page_writes v p) v.page a
    pages-written a = sym
        (after-append (cluster_writes (pages_of p.growth) zero_cluster) _ v.page a
        ∙ after-append (cluster_writes (pages_of p.taken) p.filling.pages) _ _ a
        ∙ after-ext (directory_write v p ∷ slot_write v p ∷ []) _ _
        (λ x. clusters-after (pages_of p.taken) p.filling.pages (pages-full v p d.work) (λ z. omega (arith, new-once z)) _ x
        ∙ all-ext (pages_of p.taken) p.filling.pages _ _ x
        (clusters-after (pages_of p.growth) zero_cluster (length-zero, (length-zero, tt)) (λ z. omega (arith, new-once z)) v.page x)) a)

    write-ext : (cs : List ℕ) (f g : ℕ → Link) (x : ℕ) → f x ≡ g x → write_chain cs f x ≡ write_chain cs g x
    write-ext [] f g x e = e
    write-ext (c ∷ cs) f g x e = ap (cond (eqb c x) (link_to cs)) (write-ext cs f g x e)

    free_ext : (cs : List ℕ) (f g : ℕ → Link) (x : ℕ) → f x ≡ g x → free_chain cs f x ≡ free_chain cs g x
    free_ext [] f g x e = e
    free_ext (c ∷ cs) f g x e = ap (cond (eqb c x) Link.free) (free_ext cs f g x e)

    pub links-written : ((c : ℕ) → y.alloc_end ≤ c → v.link c ≡ Link.free) → (words : ℕ → ℕ) → ((c : ℕ) → v.link c ≡ links_of y.alloc_end words c)
        → (c : ℕ) → (after v p).link c ≡ links_of y.alloc_end (words_after p words) c
    links-written high words same c =
        write-ext (p.directory.chain ++ p.growth) _ _ c
        (write-ext p.taken _ _ c (free_ext p.given _ _ c (same c) ∙ sym (clear-words y.alloc_end small p.given words c))
        ∙ sym (set_words y.alloc_end small p.taken _ (λ x k. omega (arith, d.low x k)) c))
        ∙ sym (set_words y.alloc_end small (p.directory.chain ++ p.growth) _ (λ x k. times-append p.directory.chain p.growth x ∙ omega (arith, d.low x k, d.fit.own x, card-used v r h x (high x k))) c)
      where
        small : y.alloc_end < 0x7FFFFFFF
        small = omega (arith, y.limited)

pub writes-give-view : WritesGiveView
writes-give-view y v a c z =
    let s = sound-of y v a in
    let o = acts y v s.0 s.1 s.2 c (refusal-accepts y v s.0 s.1 c z) in
    (o.plan, o.planned, record { pages = pages-written y v s.0 s.1 o.plan o.deed; links = links-written y v s.0 s.1 o.plan o.deed s.2 })
