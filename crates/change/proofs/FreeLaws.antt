-- How many clusters a change can take: a directory grows by at most one, and a card's free clusters are few and low.
use Rattle.std.specs.Prelude.{Option, None, Some}
use Prim.Native.Nat.{ℕ, zero, suc, ◌+◌, ◌≤◌}
use mathlib.Core.List.{List}
use mathlib.Core.Path.{◌≡◌, ap}
use native.Mathlib.Omega.{arith}
use lib.ListN.{drop, get_or, length, length-append, length-take, take}
use Rattle.page.specs.declared.Format.{Format}
use Rattle.layout.specs.declared.Superblock.{Superblock}
use Rattle.layout.specs.Table.{open_card}
use Rattle.layout.proofs.OpenFacts.{open-facts}
use Rattle.tree.specs.declared.along.Place.{Place}
use Rattle.model.specs.Check.{ok}
use Rattle.model.specs.Counts.{takeable}
use Rattle.model.specs.Plan.{free_below, if_free}
use Rattle.model.specs.Tree.{times}
use Rattle.model.specs.View.{Link, link_of, most_clusters, top_bit}
use Rattle.model.proofs.Allocation.{free-low}
use Rattle.model.proofs.Frame.{times-drop, times-take}
use Rattle.change.specs.Changed.{rules_of}
use Rattle.change.specs.Deeds.{growth_by}
use Rattle.change.specs.Words.{free_list}

pub growth-small : (dead : Option Place) (n : ℕ) → growth_by dead n ≤ 1
growth-small None n = omega arith
growth-small (Some place) n = omega arith

few-below : (link : ℕ → Link) (k : ℕ) → length (free_below link k) ≤ k
unfolding free_below
few-below link zero = omega arith
few-below link (suc k) = rw (length-append (free_below link k) (if_free (link k) k)) (omega (arith, few-below link k, one (link k)))
  where
    one : (l : Link) → length (if_free l k) ≤ 1
    one Link.free = omega arith
    one Link.last = omega arith
    one (Link.next a) = omega arith

-- a list whose first elements are the free clusters is at least as long
pub collected-inside : (list : List ℕ) {count : ℕ} {free : List ℕ} → count ≡ length free → take count list ≡ free → count ≤ length list
collected-inside list {count} n t = omega (arith, ap length t, length-take count list)

module _ (format : Format) (image table : List ℕ) (s : Superblock) (opened : open_card format image ≡ ok s) (long : length table ≡ s.end) where
  pub table-small : length table ≤ most_clusters
  table-small = omega (arith, (open-facts format image s opened).room, (open-facts format image s opened).most)

  -- the links of which the free ones are taken
  pool : ℕ → Link
  pool = takeable (rules_of s).may_take (λ c. link_of (get_or table c 0))

  pub free-few : length (free_list s table) ≤ most_clusters
  unfolding pool
  free-few = omega (arith, few-below pool (length table), table-small)

  -- clusters taken from the free ones, and those before them, are below 2^31
  pub taken-low : (growing own : ℕ) (list : List ℕ) → list ≡ free_list s table → (x : ℕ) → top_bit ≤ x → times (take own (drop growing list)) x + times (take growing list) x ≡ 0
  unfolding pool
  taken-low growing own list e x h =
      rw e (omega (arith, free-low pool (length table) x (omega (arith, table-small)), times-take own (drop growing (free_list s table)) x, times-drop growing (free_list s table) x, times-take growing (free_list s table) x))
