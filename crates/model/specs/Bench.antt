-- The bench card (RULES, "Numbers to meet") as a view: 56 clusters, 30 of them allocatable, only a root of length 2, no bad block. Its numbers to meet,
-- and the refusals of the same card with a locked root.
use Rattle.std.specs.Prelude.{ℕ, cond, List, [], ◌∷◌, ◌≡◌, eqb, length, replicate}
use Rattle.std.proofs.Math.Option.{some}
use Rattle.std.proofs.Common.{lit≤}
use Rattle.model.specs.Change.{Change, Rules, create, delete, directory_mode, make_directory, size}
use Rattle.model.specs.Check.{Marks, Result, check_tree, fault, ok}
use Rattle.model.specs.Counts.{list_words, may_take_on, no_block, orphan_count, reached_count}
use Rattle.model.specs.Entry.{Entry, entry_of}
use Rattle.model.specs.Names.{Name, Path, dot_dot_name, dot_name}
use Rattle.model.specs.Pages.{new_page, zero_page}
use Rattle.model.specs.Perform.{done, perform, refused}
use Rattle.model.specs.Plan.{free_of, held_of, new_entry}
use Rattle.model.specs.Tree.{Root}
use Rattle.model.specs.View.{Link, View}

abbrev pub bench_rules : Rules
bench_rules = record { alloc_end = 30; limited = lit≤ tt; may_take = may_take_on 56 30 10 (replicate list_words no_block) }

abbrev pub bench_entry : ℕ → ℕ → Name → Entry
bench_entry mode length n = new_entry mode length 0 0 (replicate 8 0) n

-- by the mode of the root's own first entry
abbrev pub bench_with : ℕ → View
bench_with mode =
    record {
      page = λ p. cond (eqb p 0) (some (new_page (bench_entry mode 2 dot_name))) (cond (eqb p 1) (some (new_page (bench_entry directory_mode 0 dot_dot_name))) (some zero_page));
      entry = λ p. cond (eqb p 0) (some (bench_entry mode 2 dot_name)) (cond (eqb p 1) (some (bench_entry directory_mode 0 dot_dot_name)) (some (entry_of zero_page)));
      link = λ c. cond (eqb c 0) Link.last Link.free;
    }

unfoldable pub bench : View
bench = bench_with directory_mode

unfoldable pub locked_bench : View
locked_bench = bench_with 0x8425

-- 12:34:56 on 29 February 2000
abbrev pub bench_time : List ℕ
bench_time = 0 ∷ 56 ∷ 34 ∷ 12 ∷ 29 ∷ 2 ∷ 0xD0 ∷ 0x07 ∷ []

-- `/A`, `/B`, `/C`, `/SAVE` and `/SAVE/A`
abbrev pub path_a : Path
path_a = (0x41 ∷ []) ∷ []

abbrev pub path_b : Path
path_b = (0x42 ∷ []) ∷ []

abbrev pub path_c : Path
path_c = (0x43 ∷ []) ∷ []

abbrev pub path_save : Path
path_save = (0x53 ∷ 0x41 ∷ 0x56 ∷ 0x45 ∷ []) ∷ []

abbrev pub path_save_a : Path
path_save_a = (0x53 ∷ 0x41 ∷ 0x56 ∷ 0x45 ∷ []) ∷ (0x41 ∷ []) ∷ []

abbrev pub bytes : ℕ → List ℕ
bytes size = replicate size 7

-- free, reached, orphaned and held back; or the refusal's number alone
abbrev pub counts_of : View → Result (Root × Marks) → List ℕ
counts_of v (fault n p) = n ∷ []
counts_of v (ok x) = free_of bench_rules v ∷ reached_count 30 x.0 ∷ orphan_count 30 v x.0 ∷ held_of bench_rules v ∷ []

-- the counts after changes in turn, each accepted; or the number of the first that is refused
abbrev pub counts_after : List Change → View → List ℕ
counts_after [] v = counts_of v (check_tree v)
counts_after (c ∷ cs) v = elim (perform bench_rules c v) [ refused n p ↦ n ∷ [] | done w ↦ counts_after cs w ]

pub record BenchNumbers : Type 0 where
  pub fresh : counts_after [] bench ≡ 29 ∷ 1 ∷ 0 ∷ 0 ∷ []
  pub full : counts_after (create path_a bench_time (bytes 28672) ∷ []) bench ≡ 0 ∷ 30 ∷ 0 ∷ 0 ∷ []
  pub too_much : counts_after (create path_a bench_time (bytes 28673) ∷ []) bench ≡ 12 ∷ []
  pub full_again : counts_after (create path_a bench_time (bytes 28672) ∷ delete path_a ∷ create path_a bench_time (bytes 28672) ∷ []) bench ≡ 0 ∷ 30 ∷ 0 ∷ 0 ∷ []
  pub too_much_again : counts_after (create path_a bench_time (bytes 28672) ∷ delete path_a ∷ create path_a bench_time (bytes 28673) ∷ []) bench ≡ 12 ∷ []
  pub removed_first : counts_after (create path_a bench_time [] ∷ create path_c bench_time [] ∷ delete path_a ∷ create path_b bench_time [] ∷ []) bench ≡ 28 ∷ 2 ∷ 0 ∷ 0 ∷ []
  pub created_first : counts_after (create path_a bench_time [] ∷ create path_c bench_time [] ∷ create path_b bench_time [] ∷ delete path_a ∷ []) bench ≡ 27 ∷ 3 ∷ 0 ∷ 0 ∷ []
  pub saved : counts_after (make_directory path_save bench_time ∷ create path_save_a bench_time (bytes 1500) ∷ []) bench ≡ 24 ∷ 6 ∷ 0 ∷ 0 ∷ []
  -- a locked root: 16 before 12 and after 9; the check does not mind
  pub locked_counts : counts_after [] locked_bench ≡ 29 ∷ 1 ∷ 0 ∷ 0 ∷ []
  pub locked_create : counts_after (create path_a bench_time (bytes 28673) ∷ []) locked_bench ≡ 16 ∷ []
  pub locked_make : counts_after (make_directory path_save bench_time ∷ []) locked_bench ≡ 16 ∷ []
  pub locked_absent : counts_after (delete path_a ∷ []) locked_bench ≡ 9 ∷ []
