-- The check of the tree (RULES, "Refusal numbers, in order"): depth first, the first fault met decides, the clusters reached so far are handed on.
use Rattle.std.specs.Prelude.{◌*◌, ◌+◌, ◌<◌, ◌≤◌, suc, zero, ℕ, ◌&&◌, cond, List, [], ◌∷◌, map, ◌≡◌, eqb, ltb, length}
use Rattle.std.proofs.Math.Option.{Option, none, some}
use Rattle.model.specs.Entry.{Entry, directory_clusters, file_clusters, is_directory, is_file, is_live, is_root, is_subdirectory}
use Rattle.model.specs.Holds.{Chain, deepest}
use Rattle.model.specs.Names.{Name, dot_dot_name, dot_name, same_name}
use Rattle.model.specs.Tree.{Root, Slot, Tree, chain_of, end, entry_pages, hit, name_hit, node, times}
use Rattle.model.specs.View.{Link, View, first_link, pages_of}

-- A refusal's number, with the page for 2 and 0 for the others; or the value.
pub data Result (A : Type 0) : Type 0 where
  fault : ℕ → ℕ → Result A
  ok : A → Result A

module _ {A B : Type 0} where
  unfoldable pub and_then : Result A → (A → Result B) → Result B
  and_then (fault n p) f = fault n p
  and_then (ok a) f = f a

  -- a chain that is not sound is 6
  abbrev pub sound : Option A → (A → B) → Result B
  sound none f = fault 6 0
  sound (some a) f = ok (f a)

-- The record of the clusters reached: how often each, which the walk keeps at 0 or 1.
abbrev pub Marks : Type 0
Marks = ℕ → ℕ

abbrev pub mark : ℕ → Marks → Marks
mark a m c = m c + hit a c

abbrev pub marks : Marks → List ℕ → Marks
marks m cs c = m c + times cs c

abbrev pub prepend : ℕ → Option (List ℕ) → Option (List ℕ)
prepend a none = none
prepend a (some cs) = some (a ∷ cs)

-- A chain of k clusters behind a link is sound if every cluster is below alloc_end, is not free, has not been reached before,
-- and the end mark stands at exactly the k-th (RULES, "Superblock and table").
pub record SoundChain (alloc_end : ℕ) (v : View) (reached : Marks) (start : Link) (k : ℕ) (cs : List ℕ) : Type 0 where
  pub below : (c : ℕ) → 1 ≤ times cs c → c < alloc_end
  pub not_free : (c : ℕ) → 1 ≤ times cs c → ¬ (v.link c ≡ Link.free)
  -- neither by an earlier chain nor by this one
  pub not_reached : (c : ℕ) → 1 ≤ times cs c → (reached c ≡ 0) × (times cs c ≡ 1)
  -- each word leads to the next cluster, and the end mark stands at the last, which is the k-th
  pub links : Chain v start cs
  pub long : length cs ≡ k

-- The chain of k clusters as the check follows it; words from alloc_end on count as free, so that it ends there.
-- It is the sound chain where there is one, and there is none otherwise (`chains_are_sound`).
abbrev pub follow_chain : View → ℕ → Link → Marks → Option (List ℕ)
follow_chain v zero Link.free m = none
follow_chain v zero Link.last m = some []
follow_chain v zero (Link.next a) m = none
follow_chain v (suc k) Link.free m = none
follow_chain v (suc k) Link.last m = none
follow_chain v (suc k) (Link.next a) m = cond (eqb (m a) 0) (prepend a (follow_chain v k (v.link a) (mark a m))) none

module _ (v : View) where
  -- One entry from slot 2 on, in page p: its page (2), its rules with those of its name and depth (7), its chain (6).
  abbrev pub judge_entry : ℕ → (Name → ℕ) → Marks → ℕ → Option Entry → Result Slot
  judge_entry below seen m p none = fault 2 p
  judge_entry below seen m p (some e) =
      cond (is_live e)
      (cond (is_file e && eqb (seen e.name) 0)
      (sound (follow_chain v (file_clusters e) (first_link e) m) (λ cs. Slot.file e cs (map v.page (pages_of cs))))
      (cond (is_subdirectory e && ltb 0 below && eqb (seen e.name) 0)
      (sound (follow_chain v (directory_clusters e) (first_link e) m) (λ cs. Slot.directory e cs)) (fault 7 0)))
      (ok Slot.dead)

  -- entries 0 and 1, on the first two pages of a directory's chain
  abbrev pub judge_dot : Name → ℕ → Option Entry → Result (Unit {0})
  judge_dot n p none = fault 2 p
  judge_dot n p (some e) = cond (is_directory e && same_name e.name n) (ok tt) (fault 7 0)

  abbrev pub judge_dots : List ℕ → Result (Unit {0})
  judge_dots [] = fault 6 0
  judge_dots (c ∷ cs) = and_then (judge_dot dot_name (2 * c) (v.entry (2 * c))) (λ x. judge_dot dot_dot_name (2 * c + 1) (v.entry (2 * c + 1)))

  abbrev pub dots : Slot → Result (Unit {0})
  dots Slot.dead = ok tt
  dots (Slot.file e cs ds) = ok tt
  dots (Slot.directory e cs) = judge_dots cs

  -- what walks the inside of a directory: the pages of its entries, and what was reached
  abbrev pub Deeper : Type 0
  Deeper = List ℕ → Marks → Result (Tree × Marks)

  -- Each entry in order: itself, a directory's inside at once, then the entries after it.
  abbrev pub walk_slots : Deeper → ℕ → List ℕ → (Name → ℕ) → Marks → Result (Tree × Marks)
  walk_slots deeper below [] seen m = ok (end, m)
  walk_slots deeper below (p ∷ ps) seen m =
      and_then (judge_entry below seen m p (v.entry p)) (λ h.
      and_then (dots h) (λ x.
      and_then (deeper (entry_pages h) (marks m (chain_of h))) (λ s.
      and_then (walk_slots deeper below ps (λ n. seen n + name_hit h n) s.1) (λ t.
      ok (node h s.0 t.0, t.1)))))

  abbrev pub walk_directory : ℕ → List ℕ → (Name → ℕ) → Marks → Result (Tree × Marks)
  walk_directory zero ps seen m = walk_slots (λ qs n. ok (end, n)) zero ps seen m
  walk_directory (suc below) ps seen m = walk_slots (λ qs n. walk_directory below qs (λ x. 0) n) (suc below) ps seen m

  abbrev pub judge_root : Option Entry → Result Entry
  judge_root none = fault 2 0
  judge_root (some e) = cond (is_root e) (ok e) (fault 7 0)

  -- For the root its first page is read and judged, then its chain, then its entries. The answer is the tree, with what was reached.
  unfoldable pub check_tree : Result (Root × Marks)
  check_tree =
      and_then (judge_root (v.entry 0)) (λ e.
      and_then (sound (follow_chain v (directory_clusters e) (Link.next 0) (λ c. 0)) (λ cs. cs)) (λ cs.
      and_then (judge_dots cs) (λ x.
      and_then (walk_directory deepest (entry_pages (Slot.directory e cs)) (λ n. 0) (times cs)) (λ t.
      ok (record { root_entry = e; chain = cs; slots = t.0 }, t.1)))))
