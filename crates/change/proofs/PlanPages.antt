-- The pages that an accepted change writes: each lies in the allocatable clusters, has 512 bytes and reads back as its entry.
use Prim.Native.Nat.{ℕ, ◌*◌, ◌/◌, ◌^◌, ◌<◌, ◌≤◌}
use mathlib.Core.Bool.{Bool, ◌&&◌, cond, false, true}
use mathlib.Core.List.{List, [], ◌++◌, ◌∷◌, map}
use mathlib.Core.Option.{Option, none, some}
use mathlib.Core.Path.{◌∙◌, ◌≡◌, ap, ap₂, fun_ext, refl, subst, sym}
use native.Mathlib.Decide.{dec_lt}
use native.Mathlib.Omega.{arith}
use borrow.Author.Tests.{ltb-true}
use lib.Dec.{eqb, ltb}
use lib.ListN.{drop, length, length-drop, take}
use lib.Seq.{length-take-le}
use Rattle.lookup.proofs.EnterLaws.{some_same}
use Rattle.model.specs.Bytes.{little}
use Rattle.model.specs.Change.{Rules}
use Rattle.model.specs.Entry.{Entry, entry_of}
use Rattle.model.specs.Holds.{HoldsCard}
use Rattle.model.specs.Names.{Name, good_name, legal_bytes}
use Rattle.model.specs.Pages.{decoded, entry_page, zero_cluster}
use Rattle.model.specs.Plan.{Filling, Plan, after, directory_after, first_of, killed, new_contents, new_directory, new_file, set_all}
use Rattle.model.specs.Tree.{Root, reached, times}
use Rattle.model.specs.View.{Link, View, most_clusters, pages_of}
use Rattle.model.specs.Writes.{cluster_writes, directory_write, page_writes, slot_write}
use Rattle.model.proofs.Allocation.{times-append}
use Rattle.model.proofs.CountLaws.{card-used}
use Rattle.model.proofs.Equality.{and_l, and_r}
use Rattle.model.proofs.Frame.{hit-self, times-pages}
use Rattle.model.proofs.Outcome.{Deed, Work}
use Rattle.model.proofs.NewEntries.{eight-bytes, few, first_fits, whole}
use Rattle.model.proofs.PageBytes.{Alters, Fit, Full, Whole, entry-altered, entry_new, full-data, length-altered, length-new, length-zero}
use Rattle.change.specs.Image.{Lands}
use Rattle.change.proofs.PageWrites.{lands-append}

-- ---- what stands in an entry's page fits its fields
little-2 : (l : List ℕ) → little (take 2 l) < 256 ^ 2
little-2 [] = omega arith
little-2 (a ∷ []) = omega arith
little-2 (a ∷ b ∷ l) = omega arith

pub little-4 : (l : List ℕ) → little (take 4 l) < 256 ^ 4
little-4 [] = omega arith
little-4 (a ∷ []) = omega arith
little-4 (a ∷ b ∷ []) = omega arith
little-4 (a ∷ b ∷ c ∷ []) = omega arith
little-4 (a ∷ b ∷ c ∷ d ∷ l) = omega arith

fit_of : (page : List ℕ) → length page ≡ 512 → Fit (entry_of page)
fit_of page h =
    record {
      mode_fits = little-2 (drop 0 page);
      length_fits = little-4 (drop 4 page);
      first_fits = little-4 (drop 0x10 page);
      eight = length-take-le 8 (drop 0x18 page) (omega (arith, length-drop 0x18 page));
    }

abbrev pub Sized : Option (List ℕ) → Type 0
Sized o = (page : List ℕ) → o ≡ some page → length page ≡ 512

stands : (o : Option (List ℕ)) (e : Entry) → decoded o ≡ some e → Sized o → Fit e
stands none e q h = absurd (let z : ◌≡◌ {A = ℕ} 0 1 = cc in omega arith)
stands (some page) e q h = subst Fit (some_same (entry_of page) e q) (fit_of page (h page refl))

-- an entry altered in its page
altered : (o : Option (List ℕ)) (old e : Entry) → decoded o ≡ some old → Sized o → Alters old e
    → (length (entry_page false o e) ≡ 512) × (decoded (some (entry_page false o e)) ≡ some e)
unfolding entry_page
altered none old e q h m = absurd (let z : ◌≡◌ {A = ℕ} 0 1 = cc in omega arith)
altered (some page) old e q h m = (
  length-altered page e (h page refl),
  ap {B = Option Entry} some (entry-altered page e (h page refl) (subst (λ (f : Entry). Alters f e) (sym (some_same (entry_of page) old q)) m)),
)

-- a new entry's page
fresh : (o : Option (List ℕ)) (e : Entry) → Whole e → (length (entry_page true o e) ≡ 512) × (decoded (some (entry_page true o e)) ≡ some e)
unfolding entry_page
fresh o e w = (length-new e, ap {B = Option Entry} some (entry_new e w))

good-parts : (n : Name) → good_name n ≡ true → (length n < 32) × (legal_bytes n ≡ true)
good-parts n e =
    let a : (ltb 0 (length n) && ltb (length n) 32 && legal_bytes n) ≡ true = and_l _ _ (and_l _ _ e) in
    let b : (ltb 0 (length n) && ltb (length n) 32) ≡ true = and_l _ _ a in
    (ltb-true (length n) 32 (and_r (ltb 0 (length n)) _ b), and_r (ltb 0 (length n) && ltb (length n) 32) _ a)

cond-ap : {A B : Type 0} (f : A → B) (b : Bool) (x y : A) → f (cond b x y) ≡ cond b (f x) (f y)
cond-ap f true x y = refl
cond-ap f false x y = refl

all-decoded : (ps : List ℕ) (ds : List (Option (List ℕ))) (f : ℕ → Option (List ℕ)) (x : ℕ) → decoded (set_all ps ds f x) ≡ set_all ps (map decoded ds) (λ a. decoded (f a)) x
all-decoded [] ds f x = refl
all-decoded (p ∷ ps) [] f x = refl
all-decoded (p ∷ ps) (d ∷ ds) f x = cond-ap decoded (eqb p x) d (set_all ps ds f x) ∙ ap (cond (eqb p x) (decoded d)) (all-decoded ps ds f x)

-- ---- the plan of an accepted change on a view of pages of 512 bytes
module _ (y : Rules) (v : View) (sized : (a : ℕ) → Sized (v.page a)) (reads : (a : ℕ) → v.entry a ≡ decoded (v.page a))
    (r : Root) (h : HoldsCard v r) (high : (c : ℕ) → y.alloc_end ≤ c → v.link c ≡ Link.free) (p : Plan) (d : Deed y v r p) where
  unused : (c : ℕ) → y.alloc_end ≤ c → reached r c ≡ 0
  unused c u = card-used v r h c (high c u)

  pub chain-low : (c : ℕ) → y.alloc_end ≤ c → times p.directory.chain c ≡ 0
  chain-low c u = omega (arith, d.fit.own c, unused c u)

  pub growth-low : (c : ℕ) → y.alloc_end ≤ c → times p.growth c ≡ 0
  growth-low c u = omega (arith, d.low c u)

  pub taken-low : (c : ℕ) → y.alloc_end ≤ c → times p.taken c ≡ 0
  taken-low c u = omega (arith, d.low c u)

  taken-few : length p.taken ≤ most_clusters
  taken-few = omega (arith, y.limited, few y.alloc_end p.taken (λ c. omega (arith, d.fit.clear c)) taken-low)

  length-few : p.new_length ≤ 2 * most_clusters
  length-few =
      omega (
        arith,
        y.limited,
        d.fit.long,
        few y.alloc_end (p.directory.chain ++ p.growth) (λ c. omega (arith, times-append p.directory.chain p.growth c, d.fit.own c, d.fit.clear c))
            (λ c u. omega (arith, times-append p.directory.chain p.growth c, chain-low c u, growth-low c u)),
      )

  page-low : (a : ℕ) → (y.alloc_end ≤ a / 2 → ⊥) → a < 2 * y.alloc_end
  page-low a n = go (dec_lt a (2 * y.alloc_end))
    where
      go : Dec (a < 2 * y.alloc_end) → a < 2 * y.alloc_end
      go (yes z) = z
      go (no z) = absurd (n (omega arith))

  directory-fit : Fit p.directory.entry
  directory-fit = stands (v.page p.directory.page) p.directory.entry (sym (reads p.directory.page) ∙ d.entered) (sized p.directory.page)

  directory-alters : Alters p.directory.entry (directory_after p)
  directory-alters =
      record {
        fit = record { mode_fits = directory-fit.mode_fits; length_fits = omega (arith, length-few); first_fits = directory-fit.first_fits; eight = directory-fit.eight };
        created = refl;
        dir_entry = refl;
        attribute = refl;
        name_field = refl;
        name = refl;
      }

  directory-page : (length (entry_page false (v.page p.directory.page) (directory_after p)) ≡ 512)
      × (decoded (some (entry_page false (v.page p.directory.page) (directory_after p))) ≡ some (directory_after p))
  directory-page = altered (v.page p.directory.page) p.directory.entry (directory_after p) (sym (reads p.directory.page) ∙ d.entered) (sized p.directory.page) directory-alters

  -- what comes into the slot: full pages that read as their entries
  abbrev Fine : Filling → Type 0
  Fine f =
      Full f.pages × (length (entry_page f.is_new (v.page p.slot_page) f.entry) ≡ 512)
      × (decoded (some (entry_page f.is_new (v.page p.slot_page) f.entry)) ≡ some f.entry)

  fine : Work y v p → Fine p.filling
  fine (Work.file n t b good ok long e) =
      let g = good-parts n good in
      let z = fresh (v.page p.slot_page) (new_file n t b p.taken).entry (whole _ _ _ _ t n (omega arith) (omega (arith, taken-few)) (first_fits y p.taken taken-low) (omega arith) ok g.0 g.1) in
      subst Fine (sym e) (full-data b, z.0, z.1)
  fine (Work.directory n t k good ok inside e) =
      let g = good-parts n good in
      let z = fresh (v.page p.slot_page) (new_directory n t (first_of p.directory.chain) k p.taken).entry (whole _ _ _ _ t n (omega arith) (omega arith) (first_fits y p.taken taken-low) (omega arith) ok g.0 g.1) in
      subst Fine (sym e) ((length-new _, (length-new _, tt)), z.0, z.1)
  fine (Work.bytes old t b there ok long e) =
      let seen = sym (reads p.slot_page) ∙ there in
      let f = stands (v.page p.slot_page) old seen (sized p.slot_page) in
      let z = altered (v.page p.slot_page) old (new_contents old t b p.taken).entry seen (sized p.slot_page)
      (record { fit = record { mode_fits = f.mode_fits; length_fits = omega (arith, taken-few); first_fits = first_fits y p.taken taken-low; eight = eight-bytes t ok }; created = refl; dir_entry = refl; attribute = refl; name_field = refl; name = refl }) in
      subst Fine (sym e) (full-data b, z.0, z.1)
  fine (Work.kill old there e) =
      let seen = sym (reads p.slot_page) ∙ there in
      let f = stands (v.page p.slot_page) old seen (sized p.slot_page) in
      let z = altered (v.page p.slot_page) old (killed old) seen (sized p.slot_page)
      (record { fit = record { mode_fits = omega (arith, f.mode_fits); length_fits = f.length_fits; first_fits = f.first_fits; eight = f.eight }; created = refl; dir_entry = refl; attribute = refl; name_field = refl; name = refl }) in
      subst Fine (sym e) (tt, z.0, z.1)

  -- every page that is written lies in the allocatable clusters and has 512 bytes
  clusters-land : (ps : List ℕ) (ds : List (Option (List ℕ))) → Full ds → ((a : ℕ) → 2 * y.alloc_end ≤ a → times ps a ≡ 0) → Lands y.alloc_end (cluster_writes ps ds)
  clusters-land [] ds f low = tt
  clusters-land (a ∷ ps) [] f low = tt
  clusters-land (a ∷ ps) (none ∷ ds) f low = absurd f
  clusters-land (a ∷ ps) (some page ∷ ds) f low = (below (dec_lt a (2 * y.alloc_end)), f.0, clusters-land ps ds f.1 (λ x u. omega (arith, low x u)))
    where
      below : Dec (a < 2 * y.alloc_end) → a < 2 * y.alloc_end
      below (yes z) = z
      below (no z) = absurd (omega (arith, low a (omega arith), hit-self a))

  pages-low : (cs : List ℕ) → ((c : ℕ) → y.alloc_end ≤ c → times cs c ≡ 0) → (a : ℕ) → 2 * y.alloc_end ≤ a → times (pages_of cs) a ≡ 0
  pages-low cs k a u = times-pages cs a ∙ k (a / 2) (omega arith)

  pub lands : Lands y.alloc_end (page_writes v p)
  lands =
      let f = fine d.work in
      lands-append y.alloc_end (cluster_writes (pages_of p.growth) zero_cluster) _
      (clusters-land (pages_of p.growth) zero_cluster (length-zero, (length-zero, tt)) (pages-low p.growth growth-low))
      (lands-append y.alloc_end (cluster_writes (pages_of p.taken) p.filling.pages) (directory_write v p ∷ slot_write v p ∷ [])
      (clusters-land (pages_of p.taken) p.filling.pages f.0 (pages-low p.taken taken-low)) (
        page-low p.directory.page (λ u. omega (arith, d.used p.directory.page, hit-self p.directory.page, unused (p.directory.page / 2) u)),
        directory-page.0,
        (page-low p.slot_page (λ u. omega (arith, d.fit.slot p.slot_page, hit-self p.slot_page, chain-low (p.slot_page / 2) u, growth-low (p.slot_page / 2) u)), f.1, tt),
      ))

  -- the entries of the view after the plan are what its pages say
  pub entries-read : (a : ℕ) → decoded ((after v p).page a) ≡ (after v p).entry a
  entries-read a =
      let f = fine d.work in
      cond-ap decoded (eqb p.slot_page a) _ _
      ∙ ap₂ (λ x z. cond (eqb p.slot_page a) x z) f.2
      (cond-ap decoded (eqb p.directory.page a) _ _
      ∙ ap₂ (λ x z. cond (eqb p.directory.page a) x z) directory-page.1
      (all-decoded (pages_of p.taken) p.filling.pages _ a
      ∙ ap (λ z. set_all (pages_of p.taken) (map decoded p.filling.pages) z a)
      (fun_ext (λ b. all-decoded (pages_of p.growth) zero_cluster v.page b
      ∙ ap (λ z. set_all (pages_of p.growth) (map decoded zero_cluster) z b) (fun_ext (λ x. sym (reads x)))))))
