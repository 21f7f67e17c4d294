-- The tree of a card.
use Rattle.std.specs.Prelude.{◌+◌, suc, ℕ, cond, List, [], ◌∷◌, eqb, drop, take}
use Rattle.std.proofs.Math.Option.{Option}
use Rattle.model.specs.Entry.{Entry}
use Rattle.model.specs.Names.{Name, same_name}
use Rattle.model.specs.View.{pages_of}

-- A directory slot from 2 on: dead; a file with its chain and data pages; a directory with its chain.
pub data Slot : Type 0 where
  dead : Slot
  file : Entry → List ℕ → List (Option (List ℕ)) → Slot
  directory : Entry → List ℕ → Slot

-- A directory's slots from 2 on: the slot, what is inside it (nothing unless it is a directory), and the slots after it.
pub data Tree : Type 0 where
  end : Tree
  node : Slot → Tree → Tree → Tree

-- A whole card: the root's own first entry, the root's chain and its slots.
pub record Root : Type 0 where
  pub root_entry : Entry
  pub chain : List ℕ
  pub slots : Tree

abbrev pub root_slot : Root → Slot
root_slot r = Slot.directory r.root_entry r.chain

abbrev pub chain_of : Slot → List ℕ
chain_of dead = []
chain_of (file e cs ds) = cs
chain_of (directory e cs) = cs

-- the pages of a directory's slots from 2 on, as many as its length counts
abbrev pub entry_pages : Slot → List ℕ
entry_pages dead = []
entry_pages (file e cs ds) = []
entry_pages (directory e cs) = drop 2 (take e.length (pages_of cs))

-- how many slots a directory has from 2 on, and how many of them are dead
abbrev pub slot_count : Tree → ℕ
slot_count end = 0
slot_count (node h s t) = suc (slot_count t)

abbrev pub dead_hit : Slot → ℕ
dead_hit dead = 1
dead_hit (file e cs ds) = 0
dead_hit (directory e cs) = 0

abbrev pub dead_slots : Tree → ℕ
dead_slots end = 0
dead_slots (node h s t) = dead_hit h + dead_slots t

-- 1 where two numbers, or two names, are the same, else 0
abbrev pub hit : ℕ → ℕ → ℕ
hit a b = cond (eqb a b) 1 0

abbrev pub hit_name : Name → Name → ℕ
hit_name a b = cond (same_name a b) 1 0

-- how often a number stands in a list
abbrev pub times : List ℕ → ℕ → ℕ
times [] x = 0
times (y ∷ ys) x = hit y x + times ys x

-- how often a cluster is used by the chains of a tree, and of a whole card
abbrev pub cluster_uses : Tree → ℕ → ℕ
cluster_uses end c = 0
cluster_uses (node h s t) c = times (chain_of h) c + (cluster_uses s c + cluster_uses t c)

abbrev pub reached : Root → ℕ → ℕ
reached r c = times r.chain c + cluster_uses r.slots c

-- how often a live slot of one directory bears a name
abbrev pub name_hit : Slot → Name → ℕ
name_hit dead n = 0
name_hit (file e cs ds) n = hit_name e.name n
name_hit (directory e cs) n = hit_name e.name n

abbrev pub name_uses : Tree → Name → ℕ
name_uses end n = 0
name_uses (node h s t) n = name_hit h n + name_uses t n
