-- The pages that a change writes: their lengths, and the entries that are then read from them.
use Prim.Native.Nat.{◌*◌, ◌-◌, ◌<◌, ◌^◌, ◌≤◌, suc, zero, ℕ}
use mathlib.Core.Bool.{◌&&◌, ◌||◌, false, not, true}
use mathlib.Core.List.{List, [], ◌++◌, ◌∷◌}
use mathlib.Core.Logic.{◌⊎◌, inl, inr}
use mathlib.Core.Option.{Option, none, some}
use mathlib.Core.Path.{◌∙◌, ◌≡◌, ap, refl}
use native.Mathlib.Omega.{arith}
use lib.Dec.{eqb, leb, leb→le}
use lib.ListN.{drop, length, length-append, length-replicate, replicate}
use lib.Seq.{length-take-le}
use Rattle.model.specs.Bytes.{before_zero, little, slice}
use Rattle.model.specs.Entry.{Entry, clusters_for, entry_of}
use Rattle.model.specs.Names.{Name, legal_bytes}
use Rattle.model.specs.Pages.{all_fields, altered_fields, altered_page, data_pages, data_pages_to, fill, new_page, padded_name, zero_page}
use Rattle.model.proofs.Equality.{Eq-number, and_l, and_r, bool, to-T}
use Rattle.model.proofs.Fields.{Sized, clean, length-fill, read, read-fill}
use Rattle.model.proofs.Slices.{little-bytes}

pub length-zero : length zero_page ≡ 512
unfolding zero_page
length-zero = length-replicate {A = ℕ} 512 0

-- the altered fields fit: numbers below their width, a time of eight bytes
pub record Fit (e : Entry) : Type 0 where
  pub mode_fits : e.mode < 256 ^ 2
  pub length_fits : e.length < 256 ^ 4
  pub first_fits : e.first_cluster < 256 ^ 4
  pub eight : length e.modified ≡ 8

-- e is f but for mode, length, first cluster and modified
pub record Alters (f e : Entry) : Type 0 where
  pub fit : Fit e
  pub created : f.created ≡ e.created
  pub dir_entry : f.dir_entry ≡ e.dir_entry
  pub attribute : f.attribute ≡ e.attribute
  pub name_field : f.name_field ≡ e.name_field
  pub name : f.name ≡ e.name

-- every field of a new entry fits
pub record Whole (e : Entry) : Type 0 where
  pub fit : Fit e
  pub created_eight : length e.created ≡ 8
  pub dir_entry_fits : e.dir_entry < 256 ^ 4
  pub attribute_fits : e.attribute < 256 ^ 4
  pub field : length e.name_field ≡ 32
  pub name : before_zero e.name_field ≡ e.name

pub length-altered : (b : List ℕ) (e : Entry) → length b ≡ 512 → length (altered_page b e) ≡ 512
unfolding altered_page
length-altered b e h = length-fill b (altered_fields e) ∙ h

pub length-new : (e : Entry) → length (new_page e) ≡ 512
unfolding new_page
length-new e = length-fill zero_page (all_fields e) ∙ length-zero

pub entry-altered : (b : List ℕ) (e : Entry) → length b ≡ 512 → Alters (entry_of b) e → entry_of (altered_page b e) ≡ e
unfolding altered_page
entry-altered b e h k =
    λ j. record {
      mode = (ap little (at 0 2 refl) ∙ little-bytes 2 e.mode k.fit.mode_fits) j;
      length = (ap little (at 4 4 refl) ∙ little-bytes 4 e.length k.fit.length_fits) j;
      first_cluster = (ap little (at 0x10 4 refl) ∙ little-bytes 4 e.first_cluster k.fit.first_fits) j;
      dir_entry = (ap little (at 0x14 4 refl) ∙ k.dir_entry) j;
      attribute = (ap little (at 0x20 4 refl) ∙ k.attribute) j;
      created = (at 8 8 refl ∙ k.created) j;
      modified = at 0x18 8 refl j;
      name_field = (at 0x40 32 refl ∙ k.name_field) j;
      name = (ap before_zero (at 0x40 32 refl) ∙ k.name) j;
    }
  where
    z : Sized (altered_fields e)
    z = (refl, (refl, (refl, (k.fit.eight, tt))))

    at : (a n : ℕ) → clean a n (altered_fields e) ≡ true → slice (fill b (altered_fields e)) a n ≡ read a n (altered_fields e) (slice b a n)
    at a n c = read-fill b a n (altered_fields e) h z c

to-zero : (n : Name) (k : ℕ) → legal_bytes n ≡ true → 0 < k → before_zero (n ++ replicate k 0) ≡ n
to-zero [] zero l h = absurd (omega arith)
to-zero [] (suc k) l h = refl
to-zero (x ∷ xs) k l h = rw (nz (bool (eqb x 0))) (ap (λ r. x ∷ r) (to-zero xs k (and_r (leb 0x20 x && leb x 0x7E && not (eqb x 0x2A || eqb x 0x2F || eqb x 0x3F)) (legal_bytes xs) l) h))
  where
    nz : (eqb x 0 ≡ true) ⊎ (eqb x 0 ≡ false) → eqb x 0 ≡ false
    nz (inl e) = absurd (let a : x ≡ 0 = Eq-number.sound x 0 e in let b : 0x20 ≤ x = leb→le 0x20 x (to-T {b = leb 0x20 x} (and_l (leb 0x20 x) (leb x 0x7E) (and_l (leb 0x20 x && leb x 0x7E) (not (eqb x 0x2A || eqb x 0x2F || eqb x 0x3F)) (and_l _ (legal_bytes xs) l)))) in omega arith)
    nz (inr e) = e

pub entry_new : (e : Entry) → Whole e → entry_of (new_page e) ≡ e
unfolding new_page
entry_new e k =
    λ j. record {
      mode = (ap little (at 0 2 refl) ∙ little-bytes 2 e.mode k.fit.mode_fits) j;
      length = (ap little (at 4 4 refl) ∙ little-bytes 4 e.length k.fit.length_fits) j;
      first_cluster = (ap little (at 0x10 4 refl) ∙ little-bytes 4 e.first_cluster k.fit.first_fits) j;
      dir_entry = (ap little (at 0x14 4 refl) ∙ little-bytes 4 e.dir_entry k.dir_entry_fits) j;
      attribute = (ap little (at 0x20 4 refl) ∙ little-bytes 4 e.attribute k.attribute_fits) j;
      created = at 8 8 refl j;
      modified = at 0x18 8 refl j;
      name_field = at 0x40 32 refl j;
      name = (ap before_zero (at 0x40 32 refl) ∙ k.name) j;
    }
  where
    z : Sized (all_fields e)
    z = (refl, (refl, (k.created_eight, (refl, (refl, (k.fit.eight, (refl, (k.field, tt))))))))

    at : (a n : ℕ) → clean a n (all_fields e) ≡ true → slice (fill zero_page (all_fields e)) a n ≡ read a n (all_fields e) (slice zero_page a n)
    at a n c = read-fill zero_page a n (all_fields e) length-zero z c

-- a good name fills its field and is read back from it
pub length-padded : (n : Name) → length n < 32 → length (padded_name n) ≡ 32
length-padded n h = length-append n _ ∙ omega (arith, length-replicate {A = ℕ} (32 - length n) 0)

pub name-padded : (n : Name) → length n < 32 → legal_bytes n ≡ true → before_zero (padded_name n) ≡ n
name-padded n h l = to-zero n (32 - length n) l (omega arith)

-- pages that are there, each of 512 bytes
abbrev pub Full : List (Option (List ℕ)) → Type 0
Full [] = Unit {0}
Full (none ∷ ds) = ⊥
Full (some d ∷ ds) = (length d ≡ 512) × Full ds

length_to : (k : ℕ) (b : List ℕ) → length (data_pages_to k b) ≡ k
length_to zero b = refl
length_to (suc k) b = ap suc (length_to k (drop 512 b))

pub length-data : (b : List ℕ) → length (data_pages b) ≡ 2 * clusters_for (length b)
unfolding data_pages
length-data b = length_to (2 * clusters_for (length b)) b

full-to : (k : ℕ) (b : List ℕ) → Full (data_pages_to k b)
full-to zero b = tt
full-to (suc k) b = (length-take-le 512 (b ++ zero_page) (omega (arith, length-append b zero_page, length-zero)), full-to k (drop 512 b))

pub full-data : (b : List ℕ) → Full (data_pages b)
unfolding data_pages
full-data b = full-to (2 * clusters_for (length b)) b
