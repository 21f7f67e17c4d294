-- An accepted change leaves what the code writes, where its pages are the plan's and its table has the plan's words.
use Prim.Native.Nat.{ℕ, zero, suc, ◌+◌, ◌*◌, ◌<◌}
use mathlib.Core.List.{List}
use mathlib.Core.Option.{Option, some}
use mathlib.Core.Path.{◌∙◌, ◌≡◌, ap, ap₂, fun_ext, refl, subst, sym}
use native.Mathlib.Omega.{arith}
use lib.ListN.{get_or}
use lib.Seq.{sets}
use Rattle.page.specs.declared.Format.{Format}
use Rattle.layout.specs.declared.Superblock.{Superblock}
use Rattle.layout.specs.See.{check_image, see}
use Rattle.layout.specs.Table.{names_of, table_clusters, table_of, table_page}
use Rattle.model.specs.Bytes.{little_bytes}
use Rattle.model.specs.Change.{Change}
use Rattle.model.specs.Check.{Marks, ok}
use Rattle.model.specs.Plan.{Plan, plan_of}
use Rattle.model.specs.Refusal.{refusal}
use Rattle.model.specs.Tree.{Root}
use Rattle.model.specs.Writes.{PageWrite, page_writes, words_after}
use Rattle.model.proofs.ChangeActs.{acts}
use Rattle.model.proofs.CheckHolds.{check-holds}
use Rattle.model.proofs.Outcome.{Outcome}
use Rattle.model.proofs.Refusals.{refusal-accepts}
use Rattle.change.specs.Changed.{changed, rules_of}
use Rattle.change.specs.Deeds.{image_by}
use Rattle.change.specs.Image.{alter_page, image_after, store_table, with_words, words_in, write_pages}
use Rattle.change.proofs.ChangedLaws.{changed-is, checked-parts}
use Rattle.change.proofs.ChangedView.{land, no_words}
use Rattle.change.specs.Image.{Lands}

-- the table that is stored counts only below alloc_end
words-ext : (f g : ℕ → ℕ) (first : ℕ) (page : List ℕ) (n : ℕ) → ((i : ℕ) → i < n → f (first + i) ≡ g (first + i)) → with_words f first n page ≡ with_words g first n page
unfolding with_words
words-ext f g first page zero h = refl
words-ext f g first page (suc n) h = ap₂ (λ l w. sets l (4 * n) (little_bytes 4 w)) (words-ext f g first page n (λ i u. h i (omega arith))) (h n (omega arith))

pub store-ext : (format : Format) (names : List ℕ) (end : ℕ) (f g : ℕ → ℕ) (k : ℕ) (image : List ℕ) → ((c : ℕ) → c < end → f c ≡ g c) → store_table format names end f k image ≡ store_table format names end g k image
unfolding store_table
store-ext format names end f g zero image h = refl
store-ext format names end f g (suc k) image h =
    ap₂ (λ x l. alter_page format (table_page names k) x l) (fun_ext (λ page. words-ext f g (128 * k) page (words_in end k) (λ i u. h (128 * k + i) (omega arith)))) (store-ext format names end f g k image h)

pub some_same : (a b : Plan) → ◌≡◌ {A = Option Plan} (some a) (some b) → a ≡ b
some_same a b e = cc

module _ (format : Format) (image : List ℕ) (s : Superblock) (root : Root) (m : Marks) (checked : check_image format image ≡ ok (s, root, m)) (c : Change)
    (none : refusal (rules_of s) c (see s image) root ≡ 0) (plan : Plan) (planned : plan_of (rules_of s) c (see s image) root ≡ some plan)
    (writes : List PageWrite) (same_writes : page_writes (see s image) plan ≡ writes) where
  pub lands_as : Lands s.end writes
  lands_as =
      let parts = checked-parts format image s root m checked in
      let holds = (check-holds (see s image) root m parts.1).0 in
      let o : Outcome (rules_of s) (see s image) root c =
      acts (rules_of s) (see s image) root holds (no_words format image s parts.0) c (refusal-accepts (rules_of s) (see s image) root holds c none) in
      let z : o.plan ≡ plan = some_same _ _ (sym o.planned ∙ planned) in
      subst (Lands s.end) (ap (page_writes (see s image)) z ∙ same_writes) (land format image s parts.0 root holds o.plan o.deed)

  pub done-as : (table : List ℕ) → ((x : ℕ) → x < s.end → words_after plan (λ c. get_or (table_of image s) c 0) x ≡ get_or table x 0)
      → changed format c image ≡ record { answer = ok tt; image = image_by s image writes table }
  unfolding image_after
  done-as table words =
      changed-is format image s root m checked c
      ∙ rw (none, planned)
      (ap (λ i. record { answer = ok tt; image = i })
      (ap (λ w. store_table s.geometry.format (names_of image s) s.end (words_after plan (λ c. get_or (table_of image s) c 0)) (2 * table_clusters s.end) (write_pages s.geometry w image)) same_writes
      ∙ store-ext s.geometry.format (names_of image s) s.end _ (λ c. get_or table c 0) (2 * table_clusters s.end) (write_pages s.geometry writes image) words))
