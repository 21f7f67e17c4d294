-- The stages of the check: what passing each one says, and that a card with all of that passes.
use Rattle.std.proofs.Common.{◌≡◌, ℕ, zero, suc, ◌<◌, Bool, true, false, List, [], ◌∷◌, length, get_or, refl, arith}
use Rattle.std.specs.Prelude.{Result as Returned}
use mathlib.Core.Option.{Option, none, some}
use Rattle.page.specs.declared.Format.{Format}
use Rattle.page.specs.Page.{page_at, is_some, or_kept}
use Rattle.model.specs.Check.{Result, fault, ok}
use Rattle.layout.specs.declared.Refusal.{Refusal}
use Rattle.layout.specs.declared.Superblock.{Superblock}
use Rattle.layout.specs.Refusal.{told_by}
use Rattle.layout.specs.Table.{unless, with_page, need_pages, data_of}

-- a page that is there
abbrev pub Readable : Format → List ℕ → ℕ → Type 0
Readable format image p = page_at format image p ≡ some (data_of (page_at format image p))

pub there : (o : Option (List ℕ)) → is_some o ≡ true → o ≡ some (data_of o)
there none e = let z : ◌≡◌ {A = ℕ} 0 1 = cc in absurd (omega arith)
there (some page) e = refl

-- what a read page leaves in a buffer
pub read-data : (o : Option (List ℕ)) (before : List ℕ) → o ≡ some (data_of o) → or_kept o before ≡ data_of o
read-data none before e = let z : ◌≡◌ {A = ℕ} 0 1 = cc in absurd (omega arith)
read-data (some page) before e = refl

pub not-ok : {A B : Type 0} (n p : ℕ) (a : A) → ◌≡◌ {A = Result A} (fault n p) (ok a) → B
not-ok n p a e = absurd (let z : ◌≡◌ {A = ℕ} 0 1 = cc in omega arith)

pub same_ok : {A : Type 0} (a b : A) → ◌≡◌ {A = Result A} (ok a) (ok b) → a ≡ b
same_ok a b e = cc

-- what an answer says, where it is known
pub as-told : (s : Superblock) {v w : Returned (Unit {0}) Refusal} {card : Result Superblock} → v ≡ w → told_by (λ u. s) v ≡ card → told_by (λ u. s) w ≡ card
as-told s known e = rw (← known) e

module _ {A : Type 0} where
  pub unless-ok : (b : Bool) (n : ℕ) (rest : Result A) (a : A) → unless b n rest ≡ ok a → (b ≡ true) × (rest ≡ ok a)
  unfolding unless
  unless-ok true n rest a e = (refl, e)
  unless-ok false n rest a e = not-ok n 0 a e

  pub page-ok : (p : ℕ) (o : Option (List ℕ)) (rest : List ℕ → Result A) (a : A) → with_page p o rest ≡ ok a
      → (o ≡ some (data_of o)) × (rest (data_of o) ≡ ok a)
  unfolding with_page
  page-ok p none rest a e = not-ok 2 p a e
  page-ok p (some page) rest a e = (refl, e)

  pub pages-ok : (format : Format) (image ps : List ℕ) (rest : Result A) (a : A) → need_pages format image ps rest ≡ ok a
      → (rest ≡ ok a) × ((i : ℕ) → i < length ps → Readable format image (get_or ps i 0))
  unfolding need_pages
  pages-ok format image [] rest a e = (e, λ i h. absurd (omega arith))
  pages-ok format image (p ∷ ps) rest a e =
      let first = page-ok p (page_at format image p) (λ page. need_pages format image ps rest) a e in
      let later = pages-ok format image ps rest a first.1 in
      (later.0, each first.0 later.1)
    where
      each : Readable format image p → ((i : ℕ) → i < length ps → Readable format image (get_or ps i 0)) → (i : ℕ) → i < length (p ∷ ps) → Readable format image (get_or (p ∷ ps) i 0)
      each f g zero h = f
      each f g (suc i) h = g i (omega arith)

  pub pages-pass : (format : Format) (image ps : List ℕ) (rest : Result A) → ((i : ℕ) → i < length ps → Readable format image (get_or ps i 0)) → need_pages format image ps rest ≡ rest
  unfolding need_pages with_page
  pages-pass format image [] rest h = refl
  pages-pass format image (p ∷ ps) rest h = rw (h 0 (omega arith)) (pages-pass format image ps rest (λ i l. h (suc i) (omega arith)))
