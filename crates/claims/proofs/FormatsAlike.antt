-- Every call answers alike on a raw image and on a plain one with the same data.
use Prim.Native.Nat.{ℕ}
use mathlib.Core.Bool.{cond}
use mathlib.Core.List.{List}
use mathlib.Core.Option.{Option, none, some}
use mathlib.Core.Path.{◌∙◌, ◌≡◌, ap, ap₂, refl, sym}
use lib.IntN.{ℤ}
use Rattle.page.specs.declared.Format.{Format}
use Rattle.page.specs.declared.Format.TheVariants.{Plain, Raw}
use Rattle.page.specs.Mended.{mended_chunks}
use Rattle.page.specs.Twins.{CodesMatch, SameData}
use Rattle.page.proofs.Mending.{codes-mended, plain-mended}
use Rattle.page.proofs.Twins.{put_both, put-codes}
use Rattle.fields.specs.PathBytes.{path_of}
use Rattle.layout.specs.declared.Superblock.{Superblock}
use Rattle.layout.specs.See.{check_image, on_image, see}
use Rattle.listing.specs.Text.{card_text, listing_of, refusal_text, text_of}
use Rattle.lookup.specs.Find.{find_in}
use Rattle.lookup.specs.Paths.{on_card, with_path}
use Rattle.lookup.specs.Read.{read_in}
use Rattle.lookup.specs.Step.{step_in}
use Rattle.model.specs.Calendar.{is_shift}
use Rattle.model.specs.Check.{Marks, Result, and_then, fault, ok}
use Rattle.model.specs.Names.{Path}
use Rattle.model.specs.Tree.{Root}
use Rattle.model.specs.View.{View}
use Rattle.tree.specs.Counted.{check_of, counts_in, counts_with}
use Rattle.claims.proofs.ChangeAlike.{Common, change-alike}
use Rattle.claims.proofs.OpenAlike.{Checks, card_in, checks, see-alike}
use Rattle.claims.proofs.NoneMended.{none_in, none-mended}
use Rattle.claims.specs.Formats.{FormatsAlike, unmended}

module _ (one other : Format) (image twin : List ℕ) (same : SameData one other image twin) where
  count-alike : unmended (check_of one image) ≡ unmended (check_of other twin)
  unfolding check_of and_then
  count-alike = go (checks one other image twin same)
    where
      go : Checks one other image twin same → unmended (check_of one image) ≡ unmended (check_of other twin)
      go (Checks.refused n p a b) = rw (a, b)
      go (Checks.accepted s root m a b) =
          rw (a, b) (ap (λ (v : View). ok (counts_with s v root 0)) (see-alike one other image twin same s))

  -- the texts where no chunk of either was corrected
  list-alike : ((p : ℕ) → mended_chunks one image p ≡ 0) → ((p : ℕ) → mended_chunks other twin p ≡ 0) → (minutes : ℤ) → listing_of one image minutes ≡ listing_of other twin minutes
  unfolding listing_of
  list-alike here there minutes = ap (λ text. cond (is_shift minutes) text (refusal_text 17 0)) (go (checks one other image twin same))
    where
      go : Checks one other image twin same → text_of minutes image (check_image one image) ≡ text_of minutes twin (check_image other twin)
      go (Checks.refused n p a b) = rw (a, b)
      go (Checks.accepted s root m a b) =
          rw (a, b)
          (ap₂ (λ (v : View) (n : ℕ). card_text minutes (counts_with s v root n) root) (see-alike one other image twin same s)
          (none_in one image here (card_in one s) root m a ∙ sym (none_in other twin there (card_in other s) root m b)))

  -- what is asked of a card goes by its tree, and by its numbers but for the format
  module _ {A : Type 0} (path : List ℕ) (ask : Superblock → Root → Path → Result A)
      (alike : (s : Superblock) (root : Root) (names : Path) → ask (card_in one s) root names ≡ ask (card_in other s) root names) where
    call-alike : on_card one image path ask ≡ on_card other twin path ask
    unfolding on_card and_then
    call-alike = go (checks one other image twin same)
      where
        asked : (s : Superblock) (root : Root) (o : Option Path) → with_path o (ask (card_in one s) root) ≡ with_path o (ask (card_in other s) root)
        asked s root none = refl
        asked s root (some names) = alike s root names

        go : Checks one other image twin same → on_card one image path ask ≡ on_card other twin path ask
        go (Checks.refused n p a b) = rw (a, b)
        go (Checks.accepted s root m a b) = rw (a, b) (asked s root (path_of path))

-- an answer of the check that counts no chunk
unmended-none : (format : Format) (image : List ℕ) → ((p : ℕ) → mended_chunks format image p ≡ 0) → unmended (check_of format image) ≡ check_of format image
unfolding check_of and_then
unmended-none format image nowhere = go (check_image format image) refl
  where
    go : (r : Result (Superblock × Root × Marks)) → check_image format image ≡ r
        → unmended (and_then r (λ x. ok (counts_in image x.0 x.1))) ≡ and_then r (λ x. ok (counts_in image x.0 x.1))
    go (fault n p) e = refl
    go (ok x) e = ap (λ (n : ℕ). ok (counts_with x.0 (see x.0 image) x.1 n)) (sym (none_in format image nowhere x.0 x.1 x.2 e))

-- the page that goes with refusal 2 goes by where the clusters begin
placed_alike : {A : Type 0} (one other : Format) (s : Superblock) (r : Result A) → on_image (card_in one s).geometry r ≡ on_image (card_in other s).geometry r
placed_alike one other s (fault n p) = refl
placed_alike one other s (ok a) = refl

-- what a change keeps: the same data; and with it that all codes match
data-common : Common Raw Plain (SameData Raw Plain)
data-common = record { same = λ image twin r. r; puts = λ always p bytes image twin long r. put_both always p bytes long r }

codes-common : Common Raw Plain (λ image twin. SameData Raw Plain image twin × CodesMatch image)
codes-common =
    record {
      same = λ image twin r. r.0;
      puts = λ always p bytes image twin long r. (put_both always p bytes long r.0, put-codes always p bytes image long r.1);
    }

pub formats-alike : FormatsAlike
formats-alike raw plain same =
    let plain-none = plain-mended plain in
    let codes-none : CodesMatch raw → (p : ℕ) → mended_chunks Raw raw p ≡ 0 = λ match p. codes-mended raw p match in
    let alike : unmended (check_of Raw raw) ≡ check_of Plain plain = count-alike Raw Plain raw plain same ∙ unmended-none Plain plain plain-none in
    let data-kept = change-alike Raw Plain (SameData Raw Plain) data-common raw plain same in
    record {
      check = alike;
      find = λ path. call-alike Raw Plain raw plain same path (λ s. find_in) (λ s root names. refl);
      step = λ path slot. call-alike Raw Plain raw plain same path (λ s root names. step_in root names slot) (λ s root names. refl);
      read = λ path offset count.
          call-alike Raw Plain raw plain same path (λ s root names. on_image s.geometry (read_in root names offset count))
          (λ s root names. placed_alike Raw Plain s (read_in root names offset count));
      plain-mended = none-mended Plain plain plain-none;
      codes-mended = λ match. none-mended Raw raw (codes-none match);
      counts = λ match. sym (unmended-none Raw raw (codes-none match)) ∙ alike;
      list = λ match. list-alike Raw Plain raw plain same (codes-none match) plain-none;
      answer = λ c. (data-kept c).0;
      left = λ c. (data-kept c).1;
      codes = λ match c. (change-alike Raw Plain (λ image twin. SameData Raw Plain image twin × CodesMatch image) codes-common raw plain (same, match) c).1.1;
    }
