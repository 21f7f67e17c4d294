-- What the verdicts of a raw page's chunks tell of the page.
use Rattle.std.proofs.Common.{◌≡◌, Bool, true, false, cond, List, ℕ, sym, refl, ◌∙◌, subst}
use mathlib.Core.Option.{none, some}
use Rattle.ecc.specs.declared.Four.{Four}
use Rattle.ecc.specs.declared.Verdict.{Verdict}
use Rattle.page.specs.Mended.{mended_by, mended_raw, none_mended}
use Rattle.page.specs.Page.{verdicts_of, all_readable, is_some, AllPlaced, corrected_data, data_by, read_raw}
use Rattle.page.proofs.Chunks.{placed}

-- it has data just where all four are readable
pub told-readable : (page : List ℕ) {v : Four Verdict} {b : Bool} → v ≡ verdicts_of page
    → b ≡ all_readable v.chunk0 v.chunk1 v.chunk2 v.chunk3 → b ≡ is_some (read_raw page)
unfolding read_raw
told-readable page e f = f ∙ rw e (given _ _)
  where
    given : (b : Bool) (x : List ℕ) → b ≡ is_some (cond b (some x) none)
    given true x = refl
    given false x = refl

-- and then the chunks that were corrected are those of the verdicts
pub told-mended : (page : List ℕ) {v : Four Verdict} {m : Four Bool} {b : Bool} → v ≡ verdicts_of page → b ≡ is_some (read_raw page)
    → m ≡ cond b (mended_by v.chunk0 v.chunk1 v.chunk2 v.chunk3) none_mended → m ≡ mended_raw page
unfolding mended_raw
told-mended page e f g = rw (← f) (rw e at g)

-- what its data is
pub told-data : (page : List ℕ) {v : Four Verdict} → v ≡ verdicts_of page → is_some (read_raw page) ≡ true
    → read_raw page ≡ some (corrected_data page v.chunk0 v.chunk1 v.chunk2 v.chunk3)
unfolding read_raw
told-data page e f = rw e (go (verdicts_of page) f)
  where
    given : (b : Bool) {x : List ℕ} → is_some (cond b (some x) none) ≡ true → cond b (some x) none ≡ some x
    given true q = refl
    given false q = cc

    go : (v : Four Verdict) → is_some (data_by page v.chunk0 v.chunk1 v.chunk2 v.chunk3) ≡ true
        → data_by page v.chunk0 v.chunk1 v.chunk2 v.chunk3 ≡ some (corrected_data page v.chunk0 v.chunk1 v.chunk2 v.chunk3)
    go v = given (all_readable v.chunk0 v.chunk1 v.chunk2 v.chunk3)

-- each names a place in its chunk
pub told-placed : (page : List ℕ) {v : Four Verdict} → v ≡ verdicts_of page → AllPlaced v
told-placed page e = subst AllPlaced (sym e) (placed page 0, placed page 1, placed page 2, placed page 3)
