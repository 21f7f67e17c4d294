-- The kind of an entry by numbers that are its mode, length and first cluster, and what each answer says of the entry.
use Prim.Native.Nat.{◌%◌, ◌/◌, ℕ}
use mathlib.Core.Bool.{Bool, ◌&&◌, ◌||◌, cond, false, not, true}
use mathlib.Core.Path.{◌≡◌, refl}
use borrow.Author.Tests.{eq-eqb}
use lib.Dec.{eqb, leb, ltb}
use Rattle.fields.specs.Kinds.{kind_of}
use Rattle.fields.specs.declared.kinds.Kind.{Kind}
use Rattle.fields.specs.declared.kinds.Kind.TheVariants.{Bad, Dead, Directory, File}
use Rattle.model.specs.Entry.{Entry, end_mark, has_bit, is_file, is_live, is_subdirectory}
use Rattle.model.specs.Names.{good_name}

module _ (e : Entry) (mode size cluster : ℕ) (good : Bool) (is-mode : mode ≡ e.mode) (is-size : size ≡ e.length)
    (is-cluster : cluster ≡ e.first_cluster) (is-good : good ≡ good_name e.name) (live : mode / 0x8000 % 2 ≡ 1) where
  pub kind-file : (has_bit mode 0x10 && not (has_bit mode 0x20) && good && (ltb 0 size || eqb cluster end_mark)) ≡ true → File size cluster ≡ kind_of e
  unfolding kind_of
  kind-file test = rw (← is-mode, ← is-size, ← is-cluster, ← is-good, eq-eqb (mode / 0x8000 % 2) 1 live, test)

  module _ (no-file : (has_bit mode 0x10 && not (has_bit mode 0x20) && good && (ltb 0 size || eqb cluster end_mark)) ≡ false) where
    pub kind-directory : (has_bit mode 0x20 && not (has_bit mode 0x10) && good && leb 2 size) ≡ true → Directory size cluster ≡ kind_of e
    unfolding kind_of
    kind-directory test = rw (← is-mode, ← is-size, ← is-cluster, ← is-good, eq-eqb (mode / 0x8000 % 2) 1 live, no-file, test)

    pub kind-bad : (has_bit mode 0x20 && not (has_bit mode 0x10) && good && leb 2 size) ≡ false → Bad ≡ kind_of e
    unfolding kind_of
    kind-bad test = rw (← is-mode, ← is-size, ← is-cluster, ← is-good, eq-eqb (mode / 0x8000 % 2) 1 live, no-file, test)

-- What an answer says of the entry, for callers that go by its cases.
module _ (e : Entry) where
  -- the cases of kind_of, over its three tests
  abbrev cases : Bool → Bool → Bool → Kind
  cases live file subdirectory = cond live (cond file (File e.length e.first_cluster) (cond subdirectory (Directory e.length e.first_cluster) Bad)) Dead

  pub of-dead : kind_of e ≡ Dead → is_live e ≡ false
  unfolding kind_of
  of-dead = go (is_live e) (is_file e) (is_subdirectory e)
    where
      go : (a b d : Bool) → cases a b d ≡ Dead → a ≡ false
      go false b d h = refl
      go true true d h = cc
      go true false true h = cc
      go true false false h = cc

  pub of-file : (size cluster : ℕ) → kind_of e ≡ File size cluster → (is_live e ≡ true) × (is_file e ≡ true) × (size ≡ e.length) × (cluster ≡ e.first_cluster)
  unfolding kind_of
  of-file size cluster = go (is_live e) (is_file e) (is_subdirectory e)
    where
      go : (a b d : Bool) → cases a b d ≡ File size cluster → (a ≡ true) × (b ≡ true) × (size ≡ e.length) × (cluster ≡ e.first_cluster)
      go false b d h = (cc, cc, cc, cc)
      go true true d h = (refl, refl, cc, cc)
      go true false true h = (cc, cc, cc, cc)
      go true false false h = (cc, cc, cc, cc)

  pub of-directory : (size cluster : ℕ) → kind_of e ≡ Directory size cluster → (is_live e ≡ true) × (is_file e ≡ false) × (is_subdirectory e ≡ true) × (size ≡ e.length) × (cluster ≡ e.first_cluster)
  unfolding kind_of
  of-directory size cluster = go (is_live e) (is_file e) (is_subdirectory e)
    where
      go : (a b d : Bool) → cases a b d ≡ Directory size cluster → (a ≡ true) × (b ≡ false) × (d ≡ true) × (size ≡ e.length) × (cluster ≡ e.first_cluster)
      go false b d h = (cc, cc, cc, cc, cc)
      go true true d h = (cc, cc, cc, cc, cc)
      go true false true h = (refl, refl, refl, cc, cc)
      go true false false h = (cc, cc, cc, cc, cc)

  pub of-bad : kind_of e ≡ Bad → (is_live e ≡ true) × (is_file e ≡ false) × (is_subdirectory e ≡ false)
  unfolding kind_of
  of-bad = go (is_live e) (is_file e) (is_subdirectory e)
    where
      go : (a b d : Bool) → cases a b d ≡ Bad → (a ≡ true) × (b ≡ false) × (d ≡ false)
      go false b d h = (cc, cc, cc)
      go true true d h = (cc, cc, cc)
      go true false true h = (cc, cc, cc)
      go true false false h = (refl, refl, refl)
