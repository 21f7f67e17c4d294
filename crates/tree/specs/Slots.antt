-- The slots of a directory from 2 on, as the code steps through them: k counts them, two to a cluster.
use Rattle.std.specs.Prelude.{ℕ, zero, suc, ◌+◌, ◌-◌, ◌*◌, ◌%◌, Bool, false, cond, ◌||◌, List, [], ◌∷◌, ◌==◌, slice_index}
use Rattle.std.proofs.Math.Option.{Option, none, some}
use Rattle.model.specs.Entry.{Entry, is_live}
use Rattle.model.specs.Names.{Name}
use Rattle.model.specs.Tree.{hit_name}
use Rattle.model.specs.View.{View, top_bit}

-- the cluster after c in its chain
abbrev pub next_of : List ℕ → ℕ → ℕ
next_of table c = slice_index table c - top_bit

-- the cluster of the slot after slot k, which lies in cluster c
abbrev pub cluster_after : List ℕ → ℕ → ℕ → ℕ
cluster_after table c k = cond (k % 2 == 1) (next_of table c) c

-- the cluster of slot k of a directory whose slots begin in cluster c, and the slot's page in the view
unfoldable pub cluster_at : List ℕ → ℕ → ℕ → ℕ
cluster_at table c zero = c
cluster_at table c (suc k) = cluster_after table (cluster_at table c k) k

abbrev pub slot_page : ℕ → ℕ → ℕ
slot_page c k = 2 * c + k % 2

-- the pages of n slots from slot k on, which lies in cluster c
unfoldable pub slot_pages : List ℕ → ℕ → ℕ → ℕ → List ℕ
slot_pages table c k zero = []
slot_pages table c k (suc n) = slot_page c k ∷ slot_pages table (cluster_after table c k) (suc k) n

-- whether the page is that of a slot before slot k of the directory whose slots begin in cluster `start`
unfoldable pub is_slot : List ℕ → ℕ → ℕ → ℕ → Bool
is_slot table start zero page = false
is_slot table start (suc k) page = is_slot table start k page || page == slot_page (cluster_at table start k) k

-- how often a live entry bears the name: in one page, and in the slots before slot k
abbrev pub live_hit : Option Entry → Name → ℕ
live_hit none n = 0
live_hit (some e) n = cond (is_live e) (hit_name e.name n) 0

unfoldable pub live_before : View → List ℕ → ℕ → ℕ → Name → ℕ
live_before v table c zero n = 0
live_before v table c (suc k) n = live_before v table c k n + live_hit (v.entry (slot_page (cluster_at table c k) k)) n
