-- Which refusal a change meets whose directory was found: what stands at its last name, then locks, then room.
use Prim.Native.Nat.{ℕ, ◌+◌}
use mathlib.Core.Bool.{Bool, ◌||◌, cond}
use mathlib.Core.List.{List, [], ◌∷◌}
use mathlib.Core.Option.{none}
use mathlib.Core.Path.{◌∙◌, ◌≡◌, ap, ap₂, sym}
use lib.Dec.{leb}
use lib.ListN.{length}
use Rattle.layout.specs.declared.Superblock.{Superblock}
use Rattle.layout.specs.See.{see}
use Rattle.layout.specs.Table.{table_of}
use Rattle.model.specs.Change.{Change, creates, path, size}
use Rattle.model.specs.Entry.{entry_of}
use Rattle.model.specs.Lookup.{Found, look_in, tell}
use Rattle.model.specs.Names.{last_name}
use Rattle.model.specs.Plan.{free_clusters, growth_with_one}
use Rattle.model.specs.Refusal.{first, growth_in, lock_refusal, locked, own, refusal, static}
use Rattle.model.specs.Standing.{standing}
use Rattle.model.specs.Tree.{Root}
use Rattle.model.proofs.Allocation.{length-free}
use Rattle.lookup.specs.declared.way.EntryAt.{EntryAt}
use Rattle.change.specs.Calls.{locked_at}
use Rattle.change.specs.Changed.{rules_of}
use Rattle.change.specs.Words.{free_list}
use Rattle.change.proofs.Sites.{Site}

-- 16, by what was found at the last name and by the directory's own entry
abbrev pub locks_at : EntryAt → Found → Bool
locks_at here g = locked (tell standing none g) || locked_at here

module _ (image : List ℕ) (s : Superblock) (root : Root) (c : Change) (here : EntryAt)
    (site : Site (see s image) (table_of image s) root (path c) here) (fine : static c ≡ 0)
    (free-is : free_clusters (rules_of s) (see s image) ≡ free_list s (table_of image s)) where
  pub refusal-here : refusal (rules_of s) c (see s image) root
      ≡ first (own c (look_in site.slots (last_name (path c) ∷ [])))
      (first (cond (locks_at here (look_in site.slots (last_name (path c) ∷ []))) 16 0)
      (cond (leb (size c + cond (creates c) (growth_with_one (entry_of here.page) site.slots) 0) (length (free_list s (table_of image s)))) 0 12))
  unfolding refusal lock_refusal
  refusal-here =
      rw (fine, site.open-way)
      (ap₂ (λ g n. first (own c g) n) site.named
      (ap₂ first (ap₂ (λ g d. cond (locked (tell standing none g) || locked (tell standing none d)) 16 0) site.named site.found-so)
      (ap₂ (λ n m. cond (leb (size c + n) m) 0 12) (ap (growth_in c) site.found-so) (sym (length-free _ _) ∙ ap length free-is))))
