-- Two images with the same data take a change alike: the same answer, and the same pages written into both.
use Prim.Native.Nat.{ℕ, zero, suc, ◌*◌}
use mathlib.Core.Bool.{Bool, false}
use mathlib.Core.List.{List, [], ◌∷◌}
use mathlib.Core.Option.{Option, none, some}
use mathlib.Core.Path.{◌∙◌, ◌≡◌, ap, refl, subst, sym}
use lib.ListN.{get_or, length}
use Rattle.page.specs.declared.Format.{Format}
use Rattle.page.specs.Page.{page_at, put}
use Rattle.page.specs.Twins.{SameData}
use Rattle.page.proofs.Laws.{page-length}
use Rattle.page.proofs.Twins.{same-page}
use Rattle.layout.specs.declared.Superblock.{Superblock}
use Rattle.layout.specs.See.{check_image, image_page, see}
use Rattle.layout.specs.Table.{names_of, table_clusters, table_of, table_page}
use Rattle.model.specs.Change.{Change}
use Rattle.model.specs.Check.{Marks, ok}
use Rattle.model.specs.Plan.{Plan, plan_of}
use Rattle.model.specs.Refusal.{refusal}
use Rattle.model.specs.Tree.{Root}
use Rattle.model.specs.View.{View}
use Rattle.model.specs.Writes.{PageWrite, page_writes, words_after}
use Rattle.model.proofs.ChangeActs.{acts}
use Rattle.model.proofs.CheckHolds.{check-holds}
use Rattle.model.proofs.Outcome as model
use Rattle.model.proofs.Refusals.{refusal-accepts}
use Rattle.change.specs.Changed.{Outcome, changed, rules_of}
use Rattle.change.specs.Image.{Lands, alter_page, altered_by, image_after, store_table, with_words, words_in, write_pages}
use Rattle.change.proofs.ChangedLaws.{changed-is, checked-parts, refuses}
use Rattle.change.proofs.ChangedView.{land, no_words}
use Rattle.change.proofs.TableStore.{length-with-words}
use Rattle.claims.proofs.OpenAlike.{Checks, card_in, checks, names-alike, see-alike, words-alike}

-- what two images share, at least the same data, where a page that is put into both keeps it
pub record Common (one other : Format) (Shared : List ℕ → List ℕ → Type 0) : Type 0 where
  pub same : (image twin : List ℕ) → Shared image twin → SameData one other image twin
  pub puts : (always : Bool) (p : ℕ) (bytes image twin : List ℕ) → length bytes ≡ 512 → Shared image twin
      → Shared (put one always p bytes image) (put other always p bytes twin)

-- a plan's pages and words written by the names, the table and the view of either image
abbrev written_by : Format → Superblock → List ℕ → List ℕ → View → Plan → List ℕ → List ℕ
written_by format s names table v plan image =
    store_table format names s.end (words_after plan (λ c. get_or table c 0)) (2 * table_clusters s.end)
    (write_pages (card_in format s).geometry (page_writes v plan) image)

module _ (one other : Format) (Shared : List ℕ → List ℕ → Type 0) (common : Common one other Shared) where
  -- ---- pages written into both
  writes-alike : (s : Superblock) (ws : List PageWrite) (image twin : List ℕ) → Lands s.end ws → Shared image twin
      → Shared (write_pages (card_in one s).geometry ws image) (write_pages (card_in other s).geometry ws twin)
  writes-alike s [] image twin l r = r
  writes-alike s (w ∷ ws) image twin l r =
      writes-alike s ws _ _ l.2 (common.puts w.always (image_page s.geometry w.page) w.bytes image twin l.1 r)

  alter-alike : (p : ℕ) (f : List ℕ → List ℕ) → ((page : List ℕ) → length (f page) ≡ length page) → (image twin : List ℕ) → Shared image twin
      → Shared (alter_page one p f image) (alter_page other p f twin)
  unfolding alter_page
  alter-alike p f long image twin r = go (page_at one image p) refl (sym (same-page (common.same image twin r) p))
    where
      go : (o : Option (List ℕ)) → page_at one image p ≡ o → page_at other twin p ≡ page_at one image p
          → Shared (altered_by one p f image (page_at one image p)) (altered_by other p f twin (page_at other twin p))
      go none e t = rw (t, e) r
      go (some page) e t = rw (t, e) (common.puts false p (f page) image twin (long page ∙ page-length one image p page e) r)

  store-alike : (names : List ℕ) (end : ℕ) (words : ℕ → ℕ) (k : ℕ) (image twin : List ℕ) → Shared image twin
      → Shared (store_table one names end words k image) (store_table other names end words k twin)
  unfolding store_table
  store-alike names end words zero image twin r = r
  store-alike names end words (suc t) image twin r =
      alter-alike (table_page names t) (with_words words (128 * t) (words_in end t)) (λ page. length-with-words words (128 * t) page (words_in end t))
      (store_table one names end words t image) (store_table other names end words t twin) (store-alike names end words t image twin r)

  -- the same answer, and images that share it still
  abbrev pub Together : Outcome → Outcome → Type 0
  Together a b = (a.answer ≡ b.answer) × Shared a.image b.image

  module _ (image twin : List ℕ) (shared : Shared image twin) where
    after-alike : (s : Superblock) (plan : Plan) → Lands s.end (page_writes (see (card_in one s) image) plan)
        → Shared (image_after (card_in one s) image plan) (image_after (card_in other s) twin plan)
    unfolding image_after
    after-alike s plan l =
        let same = common.same image twin shared in
        let put_both : Shared (image_after (card_in one s) image plan) (written_by other s (names_of image (card_in one s)) (table_of image (card_in one s)) (see (card_in one s) image) plan twin) =
        store-alike (names_of image (card_in one s)) s.end (words_after plan (λ c. get_or (table_of image (card_in one s)) c 0)) (2 * table_clusters s.end) _ _
        (writes-alike s (page_writes (see (card_in one s) image) plan) image twin l shared) in
        let its_own : written_by other s (names_of image (card_in one s)) (table_of image (card_in one s)) (see (card_in one s) image) plan twin ≡ image_after (card_in other s) twin plan =
        λ j. written_by other s (names-alike one other image twin same s j) (words-alike one other image twin same s j) (see-alike one other image twin same s j) plan twin in
        subst (λ (after : List ℕ). Shared (image_after (card_in one s) image plan) after) its_own put_both

    -- ---- the outcome
    module _ (s : Superblock) (root : Root) (m : Marks) (checked : check_image one image ≡ ok (card_in one s, root, m))
        (also : check_image other twin ≡ ok (card_in other s, root, m)) (c : Change) where
      abbrev rule : ℕ
      rule = refusal (rules_of (card_in one s)) c (see (card_in one s) image) root

      rule-alike : refusal (rules_of (card_in other s)) c (see (card_in other s) twin) root ≡ rule
      rule-alike = ap (λ (v : View). refusal (rules_of (card_in other s)) c v root) (sym (see-alike one other image twin (common.same image twin shared) s))

      done-alike : rule ≡ 0 → Together (changed one c image) (changed other c twin)
      done-alike allowed =
          let parts = checked-parts one image (card_in one s) root m checked in
          let v = see (card_in one s) image in
          let holds = (check-holds v root m parts.1).0 in
          let free = no_words one image (card_in one s) parts.0 in
          let o : model.Outcome (rules_of (card_in one s)) v root c =
          acts (rules_of (card_in one s)) v root holds free c (refusal-accepts (rules_of (card_in one s)) v root holds c allowed) in
          let planned : plan_of (rules_of (card_in other s)) c (see (card_in other s) twin) root ≡ some o.plan =
          ap (λ (v : View). plan_of (rules_of (card_in other s)) c v root) (sym (see-alike one other image twin (common.same image twin shared) s)) ∙ o.planned in
          let mine : changed one c image ≡ record { answer = ok tt; image = image_after (card_in one s) image o.plan } =
          changed-is one image (card_in one s) root m checked c ∙ rw (allowed, o.planned) in
          let its : changed other c twin ≡ record { answer = ok tt; image = image_after (card_in other s) twin o.plan } =
          changed-is other twin (card_in other s) root m also c ∙ rw (rule-alike ∙ allowed, planned) in
          rw (mine, its) (refl, after-alike s o.plan (land one image (card_in one s) parts.0 root holds o.plan o.deed))

      refused-alike : (n : ℕ) → rule ≡ suc n → Together (changed one c image) (changed other c twin)
      refused-alike n e =
          rw ((refuses one image (card_in one s) root m checked c n e).0, (refuses other twin (card_in other s) root m also c n (rule-alike ∙ e)).0) (refl, shared)

      accepted-alike : Together (changed one c image) (changed other c twin)
      accepted-alike = go rule refl
        where
          go : (n : ℕ) → rule ≡ n → Together (changed one c image) (changed other c twin)
          go zero e = done-alike e
          go (suc n) e = refused-alike n e

    pub change-alike : (c : Change) → Together (changed one c image) (changed other c twin)
    unfolding changed
    change-alike c = go (checks one other image twin (common.same image twin shared))
      where
        go : Checks one other image twin (common.same image twin shared) → Together (changed one c image) (changed other c twin)
        go (Checks.refused n p a b) = rw (a, b) (refl, shared)
        go (Checks.accepted s root m a b) = accepted-alike s root m a b c
