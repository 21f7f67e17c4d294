-- The steps of a call as the code takes them: what is refused, and what the next step has to know.
use Rattle.std.specs.Prelude.{Err, Ok}
use Rattle.std.specs.Prelude.{Result as Returned}
use Prim.Native.Nat.{ℕ, suc, ◌-◌, ◌<◌}
use mathlib.Core.Bool.{false, true}
use mathlib.Core.List.{List, []}
use mathlib.Core.Option.{none, some}
use mathlib.Core.Path.{◌∙◌, ◌≡◌, ap, ap₂, refl, subst, sym}
use native.Mathlib.Omega.{arith}
use borrow.Author.Tests.{ltb-true}
use lib.ListN.{length, take}
use Rattle.page.specs.declared.Format.{Format}
use Rattle.fields.specs.PathBytes.{name_at, path_of}
use Rattle.layout.specs.declared.Superblock.{Superblock}
use Rattle.layout.specs.See.{check_image, view_by}
use Rattle.layout.specs.Refusal.{number_of, page_of}
use Rattle.layout.specs.declared.Refusal.{Refusal}
use Rattle.layout.specs.Table.{open_card, table_after, table_of}
use Rattle.layout.proofs.OpenFacts.{open-format}
use Rattle.layout.proofs.TableLaws.{length-table}
use Rattle.lookup.specs.declared.way.EntryAt.{EntryAt}
use Rattle.lookup.specs.Descend.{descended, names_from}
use Rattle.lookup.proofs.CardLaws as card
use Rattle.model.specs.Change.{Change}
use Rattle.model.specs.Check.{Marks, Result, fault, ok}
use Rattle.model.specs.Names.{Path}
use Rattle.model.specs.Tree.{Root}
use Rattle.model.proofs.Equality.{and_l}
use Rattle.tree.specs.Counted.{superblock_in}
use Rattle.tree.proofs.CheckLaws.{table-loaded}
use Rattle.tree.proofs.SlotSteps.{fault-ok}
use Rattle.change.specs.declared.calls.Change.{Change as Asked}
use Rattle.change.specs.declared.calls.Change.TheVariants as asked
use Rattle.change.specs.Calls.{refused_by}
use Rattle.change.specs.Changed.{changed, changed_by, or_root, path_in}
use Rattle.change.specs.Kinds.{CanChange, Loaded, Ready, change_of, changed_in, takes_names, takes_time}
use Rattle.change.proofs.CallOutcomes.{call-can, call-in, call-refused, no-path, path-good, static-deep, static-fine, static-late, static-refused}
use Rattle.change.proofs.ChangedLaws.{checked-parts, own-checked}

-- a call takes no path without a name
pub takes-some : (K : Asked) (n : ℕ) → takes_names K n ≡ true → 0 < n
takes-some (asked.Create time bytes) n e = ltb-true 0 n e
takes-some (asked.Make time) n e = ltb-true 0 n (and_l _ _ e)
takes-some (asked.Replace time bytes) n e = ltb-true 0 n e
takes-some asked.Delete n e = ltb-true 0 n e
takes-some asked.Remove n e = ltb-true 0 n e

-- ---- of a card that is loaded
module _ (image : List ℕ) (s : Superblock) (table : List ℕ) (l : Loaded image s table) where
  pub loaded-open : open_card s.geometry.format image ≡ ok s
  loaded-open = (checked-parts s.geometry.format image s l.root l.marks l.checked).0

  pub loaded-long : length table ≡ s.end
  loaded-long = ap length l.words ∙ length-table image s

  module _ (K : Asked) (path : List ℕ) where
    pub malformed : path_of path ≡ none → changed s.geometry.format (change_of K (path_in path)) image ≡ refused_by 8 image
    malformed e = rw e (static-refused s.geometry.format image s l.root l.marks l.checked (change_of K []) 7 (no-path K))

    module _ (names : Path) (parsed : path_of path ≡ some names) where
      named : changed s.geometry.format (change_of K (path_in path)) image ≡ changed s.geometry.format (change_of K names) image
      named = rw parsed

      pub bad-path : takes_names K (length names) ≡ false → changed s.geometry.format (change_of K (path_in path)) image ≡ refused_by 8 image
      bad-path f = named ∙ static-refused s.geometry.format image s l.root l.marks l.checked (change_of K names) 7 (static-deep names (path-good path names parsed) K f)

      pub bad-time : takes_names K (length names) ≡ true → takes_time K ≡ false → changed s.geometry.format (change_of K (path_in path)) image ≡ refused_by 14 image
      bad-time n f = named ∙ static-refused s.geometry.format image s l.root l.marks l.checked (change_of K names) 13 (static-late names (path-good path names parsed (takes-some K _ n)) K n f)

      pub ready : takes_names K (length names) ≡ true → takes_time K ≡ true → Ready image s table K path (length names)
      ready n t =
          record { card = l; names = names; parsed = parsed; many = refl; some-names = takes-some K _ n; fine = static-fine names (path-good path names parsed (takes-some K _ n)) K n t }

-- ---- at the directory
module _ (image : List ℕ) (s : Superblock) (table : List ℕ) (K : Asked) (path : List ℕ) (count : ℕ) (r : Ready image s table K path count)
    (a : Returned EntryAt Refusal) (led : a ≡ descended (view_by s.geometry table image) table (names_from path 0 (count - 1))) where
  led-so : a ≡ descended (view_by s.geometry (table_of image s) image) (table_of image s) (names_from path 0 (count - 1))
  led-so = led ∙ ap (λ t. descended (view_by s.geometry t image) t (names_from path 0 (count - 1))) r.card.words

  many : length r.names ≡ suc (count - 1)
  many = omega (arith, r.many, r.some-names)

  own : changed s.geometry.format (change_of K (path_in path)) image ≡ changed s.geometry.format (change_of K r.names) image
  own = ap (λ o. changed s.geometry.format (change_of K (or_root o)) image) r.parsed

  pub at-refused : (f : Refusal) → a ≡ Err f → changed s.geometry.format (change_of K (path_in path)) image ≡ record { answer = fault (number_of f) (page_of f); image = image }
  at-refused f e = own ∙ call-refused s.geometry.format image s r.card.root r.card.marks r.card.checked path r.names (count - 1) r.parsed many a led-so K r.fine f e

  module _ (here : EntryAt) (e : a ≡ Ok here) (name : List ℕ) (last : name ≡ name_at path (count - 1)) where
    pub at_in : changed s.geometry.format (change_of K (path_in path)) image ≡ changed_in s image table here name K
    at_in =
        own ∙ sym (ap₂ (λ t n. changed_in s image t here n K) r.card.words last
        ∙ call-in s.geometry.format image s r.card.root r.card.marks r.card.checked path r.names (count - 1) r.parsed many a led-so here e K r.fine)

    pub at-can : CanChange s image table here name K
    at-can =
        subst (λ n. CanChange s image table here n K) (sym last)
        (subst (λ t. CanChange s image t here (name_at path (count - 1)) K) (sym r.card.words)
        (call-can s.geometry.format image s r.card.root r.card.marks r.card.checked path r.names (count - 1) r.parsed many a led-so here e K r.fine))

-- ---- of any image
module _ (format : Format) (image : List ℕ) where
  pub check-refused : (n p : ℕ) → fault n p ≡ superblock_in (check_image format image) → (K : Asked) (path : List ℕ)
      → changed format (change_of K (path_in path)) image ≡ record { answer = fault n p; image = image }
  unfolding changed
  check-refused n p e K path = go (check_image format image) e
    where
      go : (x : Result (Superblock × Root × Marks)) → fault n p ≡ superblock_in x → changed_by (change_of K (path_in path)) image x ≡ record { answer = fault n p; image = image }
      go (fault k q) h = let a : ◌≡◌ {A = ℕ} n k = cc in let b : ◌≡◌ {A = ℕ} p q = cc in rw (a, b)
      go (ok x) h = fault-ok n p x.0 h

  -- the format that the caller chose is the one that the card's numbers carry on
  pub in-own-format : (s : Superblock) → ok s ≡ superblock_in (check_image format image) → (c : Change) → changed format c image ≡ changed s.geometry.format c image
  in-own-format s h c = ap (λ (f : Format). changed f c image) (open-format format image s (sym (card.accepted format image s h).opened))

  module _ (s : Superblock) (h : ok s ≡ superblock_in (check_image format image)) (before after : List ℕ) (l : after ≡ table_after image (open_card format image) before) where
    pub words-loaded : Loaded image s (take s.end after)
    words-loaded =
        let a = card.accepted format image s h in
        record { root = a.root; marks = a.marks; checked = own-checked format image s a.root a.marks a.checked; words = table-loaded format image s a.opened before after l }
