-- A call from its path on: what the code answers at each step is what the model says of the change.
use Rattle.std.specs.Prelude.{Err, Ok}
use Rattle.std.specs.Prelude.{Result as Returned}
use Prim.Native.Nat.{ℕ, zero, suc, ◌<◌}
use mathlib.Core.Bool.{Bool, ◌&&◌, cond, false, true}
use mathlib.Core.List.{List, [], ◌∷◌}
use mathlib.Core.Logic.{◌⊎◌, inl, inr}
use mathlib.Core.Option.{none, some}
use mathlib.Core.Path.{◌∙◌, ◌≡◌, ap, refl, subst, sym}
use native.Mathlib.Omega.{arith}
use borrow.Author.Tests.{le-leb, lt-leb, lt-ltb, ltb-true}
use lib.Dec.{eqb, leb, ltb}
use lib.ListN.{length}
use Rattle.page.specs.declared.Format.{Format}
use Rattle.fields.specs.PathBytes.{name_at, path_of, split_names}
use Rattle.layout.specs.declared.Superblock.{Superblock}
use Rattle.layout.specs.See.{check_image, see}
use Rattle.layout.specs.Refusal.{number_of, page_of}
use Rattle.layout.specs.declared.Refusal.{Refusal}
use Rattle.layout.specs.declared.Refusal.TheVariants as is
use Rattle.layout.specs.Table.{table_of}
use Rattle.lookup.specs.declared.way.EntryAt.{EntryAt}
use Rattle.lookup.specs.Descend.{descended, entered, names_from}
use Rattle.lookup.proofs.SiteLaws as lookup
use Rattle.model.specs.Change.{Change, Rules, path}
use Rattle.model.specs.Check.{Marks, fault, ok}
use Rattle.model.specs.Entry.{entry_of, is_directory}
use Rattle.model.specs.Holds.{HoldsCard, deepest, most_names}
use Rattle.model.specs.Lookup.{look_up}
use Rattle.model.specs.Names.{Path, good_names, good_path, last_name}
use Rattle.model.specs.Refusal.{refusal, static, way}
use Rattle.model.specs.Tree.{Root}
use Rattle.model.specs.View.{View}
use Rattle.model.proofs.CheckHolds.{check-holds}
use Rattle.model.proofs.Equality.{and_l, and_r, bool, tf}
use Rattle.change.specs.declared.calls.Change.{Change as Asked}
use Rattle.change.specs.declared.calls.Change.TheVariants as asked
use Rattle.change.specs.Calls.{CanEditIn, added_in, edited_in, entry_of_name, refused_by}
use Rattle.change.specs.Changed.{changed, rules_of}
use Rattle.change.specs.Kinds.{CanChange, change_of, changed_in, takes_names, takes_time}
use Rattle.change.specs.Deeds.{Open}
use Rattle.change.proofs.AddAnswers.{vacant-parts}
use Rattle.change.proofs.AddOutcomes.{can-create, can-make, created-here, made-here}
use Rattle.change.proofs.CallLaws.{numbered}
use Rattle.change.proofs.ChangedLaws.{checked-parts, refuses}
use Rattle.change.proofs.EditOutcomes.{can-delete, can-remove, can-replace, deleted-here, removed-here, replaced-here}
use Rattle.change.proofs.Sites.{Site}

-- ---- the path and the time

pub path-good : (l : List ℕ) (p : Path) → path_of l ≡ some p → 0 < length p → good_path (suc deepest) p ≡ true
path-good [] p e h = absurd (let z : ◌≡◌ {A = ℕ} 0 1 = cc in omega arith)
path-good (b ∷ []) p e h = go (eqb b 0x2F) e
  where
    go : (x : Bool) → cond x (some []) none ≡ some p → good_path (suc deepest) p ≡ true
    go true e = absurd (let z : [] ≡ p = cc in let y : length p ≡ 0 = ap length (sym z) in omega arith)
    go false e = absurd (let z : ◌≡◌ {A = ℕ} 0 1 = cc in omega arith)
path-good (b ∷ c ∷ bs) p e h = go (eqb b 0x2F) (good_path (suc deepest) (split_names (c ∷ bs))) refl e
  where
    go : (x y : Bool) → good_path (suc deepest) (split_names (c ∷ bs)) ≡ y → cond (x && y) (some (split_names (c ∷ bs))) none ≡ some p → good_path (suc deepest) p ≡ true
    go true true i e = let z : split_names (c ∷ bs) ≡ p = cc in rw (← z) i
    go true false i e = absurd (let z : ◌≡◌ {A = ℕ} 0 1 = cc in omega arith)
    go false y i e = absurd (let z : ◌≡◌ {A = ℕ} 0 1 = cc in omega arith)

-- bytes that are no path, and the root's
pub no-path : (K : Asked) → static (change_of K []) ≡ 8
no-path (asked.Create time bytes) = refl
no-path (asked.Make time) = refl
no-path (asked.Replace time bytes) = refl
no-path asked.Delete = refl
no-path asked.Remove = refl

module _ (p : Path) (good : good_path (suc deepest) p ≡ true) where
  -- of a good path only a new directory's length is still to be judged
  short : length p < most_names → good_path deepest p ≡ true
  short h =
      let names : good_names p ≡ true = and_r (ltb 0 (length p) && leb (length p) most_names) _ good in
      let some-names : ltb 0 (length p) ≡ true = and_l _ _ (and_l (ltb 0 (length p) && leb (length p) most_names) _ good) in
      rw (some-names, le-leb (length p) deepest (omega arith), names)

  long : (length p < most_names → ⊥) → good_path deepest p ≡ false
  long h =
      let some-names : ltb 0 (length p) ≡ true = and_l _ _ (and_l (ltb 0 (length p) && leb (length p) most_names) _ good) in
      rw (some-names, lt-leb (length p) deepest (omega arith))

  -- 0, 8 or 14, by what the call takes
  pub static-fine : (K : Asked) → takes_names K (length p) ≡ true → takes_time K ≡ true → static (change_of K p) ≡ 0
  static-fine (asked.Create time bytes) n t = rw (good, t)
  static-fine (asked.Make time) n t = rw (short (ltb-true (length p) most_names (and_r (ltb 0 (length p)) _ n)), t)
  static-fine (asked.Replace time bytes) n t = rw (good, t)
  static-fine asked.Delete n t = rw good
  static-fine asked.Remove n t = rw good

  pub static-late : (K : Asked) → takes_names K (length p) ≡ true → takes_time K ≡ false → static (change_of K p) ≡ 14
  static-late (asked.Create time bytes) n t = rw (good, t)
  static-late (asked.Make time) n t = rw (short (ltb-true (length p) most_names (and_r (ltb 0 (length p)) _ n)), t)
  static-late (asked.Replace time bytes) n t = rw (good, t)
  static-late asked.Delete n t = tf refl t
  static-late asked.Remove n t = tf refl t

pub static-deep : (p : Path) → (0 < length p → good_path (suc deepest) p ≡ true) → (K : Asked) → takes_names K (length p) ≡ false → static (change_of K p) ≡ 8
static-deep [] good K n = no-path K
static-deep (a ∷ p) good (asked.Create time bytes) n = tf (lt-ltb 0 (length (a ∷ p)) (omega arith)) n
static-deep (a ∷ p) good (asked.Make time) n = rw (long (a ∷ p) (good (omega arith)) (λ h. tf (lt-ltb (length (a ∷ p)) most_names h) (rw (lt-ltb 0 (length (a ∷ p)) (omega arith)) at n)))
static-deep (a ∷ p) good (asked.Replace time bytes) n = tf (lt-ltb 0 (length (a ∷ p)) (omega arith)) n
static-deep (a ∷ p) good asked.Delete n = tf (lt-ltb 0 (length (a ∷ p)) (omega arith)) n
static-deep (a ∷ p) good asked.Remove n = tf (lt-ltb 0 (length (a ∷ p)) (omega arith)) n

static-first : (y : Rules) (c : Change) (v : View) (root : Root) (n : ℕ) → static c ≡ suc n → refusal y c v root ≡ suc n
unfolding refusal
static-first y c v root n e = rw e

way-second : (y : Rules) (c : Change) (v : View) (root : Root) (n : ℕ) → static c ≡ 0 → way (look_up root) (path c) ≡ suc n → refusal y c v root ≡ suc n
unfolding refusal
way-second y c v root n fine e = rw (fine, e)

module _ (format : Format) (image : List ℕ) (s : Superblock) (root : Root) (m : Marks) (checked : check_image format image ≡ ok (s, root, m)) where
  holds : HoldsCard (see s image) root
  holds = (check-holds (see s image) root m (checked-parts format image s root m checked).1).0

  -- refused by path or time, and by a name on the way
  pub static-refused : (c : Change) (n : ℕ) → static c ≡ suc n → changed format c image ≡ refused_by (suc n) image
  static-refused c n e = (refuses format image s root m checked c n met).0
    where
      met : refusal (rules_of s) c (see s image) root ≡ suc n
      met = static-first (rules_of s) c (see s image) root n e

  pub way-refused : (c : Change) (n : ℕ) → static c ≡ 0 → way (look_up root) (path c) ≡ suc n → changed format c image ≡ refused_by (suc n) image
  way-refused c n fine e = (refuses format image s root m checked c n (way-second (rules_of s) c (see s image) root n fine e)).0

  -- ---- in the directory that the names before the last lead to
  module _ (path' : List ℕ) (names : Path) (k : ℕ) (parsed : path_of path' ≡ some names) (count : length names ≡ suc k) (a : Returned EntryAt Refusal)
      (led : a ≡ descended (see s image) (table_of image s) (names_from path' 0 k)) where
    path-same : (K : Asked) → path (change_of K names) ≡ names
    path-same (asked.Create time bytes) = refl
    path-same (asked.Make time) = refl
    path-same (asked.Replace time bytes) = refl
    path-same asked.Delete = refl
    path-same asked.Remove = refl

    refused-way : (K : Asked) (n : ℕ) → 0 < n → static (change_of K names) ≡ 0 → way (look_up root) names ≡ n → changed format (change_of K names) image ≡ refused_by n image
    refused-way K zero h fine w = absurd (omega arith)
    refused-way K (suc n) h fine w = way-refused (change_of K names) n fine (ap (way (look_up root)) (path-same K) ∙ w)

    pub call-refused : (K : Asked) → static (change_of K names) ≡ 0 → (f : Refusal) → a ≡ Err f → changed format (change_of K names) image ≡ record { answer = fault (number_of f) (page_of f); image = image }
    call-refused K fine f e =
        let met = lookup.site-refused (see s image) (table_of image s) (λ c. refl) (λ q. refl) root holds path' names k parsed count a led f e in
        refused-way K (number_of f) (numbered f) fine met.0 ∙ ap (λ n. record { answer = fault (number_of f) n; image = image }) (sym met.1)

    last-so : name_at path' k ≡ last_name names
    last-so = sym (lookup.site-last (see s image) (table_of image s) (λ c. refl) (λ q. refl) root holds path' names k parsed count a led)

    module _ (here : EntryAt) (e : a ≡ Ok here) where
      site-here : is_directory (entry_of here.page) ≡ true → Site (see s image) (table_of image s) root names here
      site-here d = lookup.site-at (see s image) (table_of image s) (λ c. refl) (λ q. refl) root holds path' names k parsed count a led here e d

      -- a file in the directory's place
      no-directory : (K : Asked) → is_directory (entry_of here.page) ≡ false → changed_in s image (table_of image s) here (name_at path' k) K ≡ refused_by 10 image
      unfolding added_in edited_in entered
      no-directory (asked.Create time bytes) f = rw f
      no-directory (asked.Make time) f = rw f
      no-directory (asked.Replace time bytes) f = rw f
      no-directory asked.Delete f = rw f
      no-directory asked.Remove f = rw f

      in-directory : (K : Asked) → static (change_of K names) ≡ 0 → is_directory (entry_of here.page) ≡ true
          → changed_in s image (table_of image s) here (last_name names) K ≡ changed format (change_of K names) image
      in-directory (asked.Create time bytes) fine d = created-here format image s root m checked names here (site-here d) time.now bytes.now d fine
      in-directory (asked.Make time) fine d = made-here format image s root m checked names here (site-here d) time.now d fine
      in-directory (asked.Replace time bytes) fine d = replaced-here format image s root m checked names here (site-here d) d time.now bytes.now fine
      in-directory asked.Delete fine d = deleted-here format image s root m checked names here (site-here d) d fine
      in-directory asked.Remove fine d = removed-here format image s root m checked names here (site-here d) d fine

      pub call-in : (K : Asked) → static (change_of K names) ≡ 0 → changed_in s image (table_of image s) here (name_at path' k) K ≡ changed format (change_of K names) image
      call-in K fine = go (bool (is_directory (entry_of here.page)))
        where
          go : (is_directory (entry_of here.page) ≡ true) ⊎ (is_directory (entry_of here.page) ≡ false)
              → changed_in s image (table_of image s) here (name_at path' k) K ≡ changed format (change_of K names) image
          go (inl d) = ap (λ n. changed_in s image (table_of image s) here n K) last-so ∙ in-directory K fine d
          go (inr f) =
              no-directory K f
              ∙ sym (refused-way K 10 (omega arith) fine (lookup.site-file (see s image) (table_of image s) (λ c. refl) (λ q. refl) root holds path' names k parsed count a led here e f))

      -- no entry is entered from a file
      not_entered : (lands : EntryAt → Type 0) → is_directory (entry_of here.page) ≡ false → CanEditIn s image (table_of image s) here (last_name names) lands
      unfolding entered
      not_entered lands f entry there = let z = sym no-way ∙ there in cc
        where
          no-way : entry_of_name s image (table_of image s) here (last_name names) ≡ Err is.WrongKind
          no-way = rw f

      edits : (lands : EntryAt → Type 0) → (is_directory (entry_of here.page) ≡ true → CanEditIn s image (table_of image s) here (last_name names) lands)
          → CanEditIn s image (table_of image s) here (last_name names) lands
      edits lands can entry there = go (bool (is_directory (entry_of here.page)))
        where
          go : (is_directory (entry_of here.page) ≡ true) ⊎ (is_directory (entry_of here.page) ≡ false) → Open s image (table_of image s) × lands entry
          go (inl d) = can d entry there
          go (inr f) = not_entered lands f entry there

      can-here : (K : Asked) → static (change_of K names) ≡ 0 → CanChange s image (table_of image s) here (last_name names) K
      can-here (asked.Create time bytes) fine =
          λ d found. can-create format image s root m checked names here (site-here (vacant-parts s image (table_of image s) here (last_name names) d found).0) time.now bytes.now fine d found
      can-here (asked.Make time) fine =
          λ d found. can-make format image s root m checked names here (site-here (vacant-parts s image (table_of image s) here (last_name names) d found).0) time.now fine d found
      can-here (asked.Replace time bytes) fine = edits _ (λ d. can-replace format image s root m checked names here (site-here d) d time.now bytes.now fine)
      can-here asked.Delete fine = edits _ (λ d. can-delete format image s root m checked names here (site-here d) d fine)
      can-here asked.Remove fine = edits _ (λ d. can-remove format image s root m checked names here (site-here d) d fine)

      pub call-can : (K : Asked) → static (change_of K names) ≡ 0 → CanChange s image (table_of image s) here (name_at path' k) K
      call-can K fine = subst (λ n. CanChange s image (table_of image s) here n K) (sym last-so) (can-here K fine)
