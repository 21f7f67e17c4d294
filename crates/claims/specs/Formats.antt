-- Both formats answer alike (request 2 of document 02): a raw image and a plain one that hold the same data, page by page.
use Rattle.std.specs.Prelude.{ℕ, List, ◌≡◌, ℤ}
use Rattle.page.specs.declared.Format.{Format}
use Rattle.page.specs.declared.Format.TheVariants.{Plain, Raw}
use Rattle.page.specs.Twins.{CodesMatch, SameData}
use Rattle.change.specs.Changed.{changed}
use Rattle.layout.specs.Mended.{mended_of}
use Rattle.listing.specs.Text.{listing_of}
use Rattle.lookup.specs.Find.{find_of}
use Rattle.lookup.specs.Mended.{read_mended}
use Rattle.lookup.specs.Read.{read_of}
use Rattle.lookup.specs.Step.{step_of}
use Rattle.model.specs.Change.{Change}
use Rattle.model.specs.Check.{Result, fault, ok}
use Rattle.tree.specs.Counted.{check_of}
use Rattle.tree.specs.declared.Counts.{Counts}

-- the check's answer with no chunk counted as corrected
abbrev pub unmended : Result Counts → Result Counts
unmended (fault n p) = fault n p
unmended (ok c) =
    ok (record { clusters = c.clusters; free = c.free; reached = c.reached; orphaned = c.orphaned; held = c.held; mended = 0 })

-- no call reports a corrected chunk
pub record NoneMended (format : Format) (image : List ℕ) : Type 0 where
  pub checked : mended_of format image ≡ 0
  pub read : (path : List ℕ) (offset count : ℕ) → read_mended format image path offset count ≡ 0

-- Every call answers the same but for the chunks that were corrected: on a plain image none is, nor on a raw one whose codes
-- all match. A change leaves the same data; where all codes of the raw image match, they match again.
pub record Alike (raw plain : List ℕ) : Type 0 where
  pub check : unmended (check_of Raw raw) ≡ check_of Plain plain
  pub find : (path : List ℕ) → find_of Raw raw path ≡ find_of Plain plain path
  pub step : (path : List ℕ) (slot : ℕ) → step_of Raw raw path slot ≡ step_of Plain plain path slot
  pub read : (path : List ℕ) (offset count : ℕ) → read_of Raw raw path offset count ≡ read_of Plain plain path offset count
  pub plain-mended : NoneMended Plain plain
  pub codes-mended : CodesMatch raw → NoneMended Raw raw
  pub counts : CodesMatch raw → check_of Raw raw ≡ check_of Plain plain
  pub list : CodesMatch raw → (minutes : ℤ) → listing_of Raw raw minutes ≡ listing_of Plain plain minutes
  pub answer : (c : Change) → (changed Raw c raw).answer ≡ (changed Plain c plain).answer
  pub left : (c : Change) → SameData Raw Plain (changed Raw c raw).image (changed Plain c plain).image
  pub codes : CodesMatch raw → (c : Change) → CodesMatch (changed Raw c raw).image

-- Request 2 asks this where all codes of the raw image match. All but what is said of corrected chunks holds of every raw image with
-- the same data: all its pages are then readable.
abbrev pub FormatsAlike : Type 0
FormatsAlike = (raw plain : List ℕ) → SameData Raw Plain raw plain → Alike raw plain
