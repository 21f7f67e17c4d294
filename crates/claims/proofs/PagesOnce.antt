-- No page is counted twice.
use Prim.Native.Nat.{ℕ, ◌+◌, ◌/◌, ◌≤◌}
use mathlib.Core.Bool.{Bool, cond, false, true}
use mathlib.Core.List.{List, []}
use native.Mathlib.Omega.{arith}
use lib.Dec.{eqb}
use lib.ListN.{drop, take}
use Rattle.layout.proofs.NeededOnce.{needed-once, read-apart}
use Rattle.layout.specs.See.{see}
use Rattle.change.proofs.ChangedLaws.{checked-parts}
use Rattle.lookup.specs.Read.{bytes_to_copy, pages_with}
use Rattle.model.proofs.CheckHolds.{check-holds}
use Rattle.model.proofs.Frame.{times-drop, times-take}
use Rattle.model.proofs.NeededPages.{file-pages-once}
use Rattle.model.specs.Tree.{times}
use Rattle.model.specs.View.{pages_of}
use Rattle.claims.specs.Pages.{CountedOnce}

-- those with a byte to copy are some of a file's pages
times-with : (offset count : ℕ) (ps : List ℕ) (p : ℕ) → times (pages_with offset count ps) p ≤ times ps p
unfolding pages_with
times-with offset count ps p = go (eqb count 0)
  where
    go : (b : Bool) → times (cond b [] (drop (offset / 512) (take ((offset + count + 511) / 512) ps))) p ≤ times ps p
    go true = omega arith
    go false = omega (arith, times-drop (offset / 512) (take ((offset + count + 511) / 512) ps) p, times-take ((offset + count + 511) / 512) ps p)

pub counted-once : CountedOnce
counted-once format image s root m checked =
    let parts = checked-parts format image s root m checked in
    let holds = (check-holds (see s image) root m parts.1).0 in
    record {
      needed = needed-once format image s parts.0 (see s image) root holds;
      read = λ path e chain pages inside stands offset count.
          read-apart format image s parts.0 root (pages_with offset (bytes_to_copy e.length offset count) (pages_of chain))
          (λ p. omega (arith, times-with offset (bytes_to_copy e.length offset count) (pages_of chain) p, file-pages-once (see s image) root holds path stands p));
    }
