-- The superblock in page 0 (RULES, "Superblock and table"): refusals 1 to 4.
use Rattle.std.specs.Prelude.{ℕ, zero, suc, ◌+◌, ◌*◌, ◌/◌, ◌%◌, Bool, true, not, ◌&&◌, ◌||◌, List, [], ◌∷◌, ◌++◌, ◌==◌, nat_le, nat_lt}
use Rattle.page.specs.declared.Format.{Format}
use Rattle.page.specs.Page.{cluster_bytes}
use Rattle.model.specs.Bytes.{slice, half, word}
use Rattle.model.specs.Counts.{list_words, may_take_on, no_block}
use Rattle.model.specs.Names.{same_name}
use Rattle.model.specs.View.{most_clusters}
use Rattle.layout.specs.declared.Superblock.{Superblock}

-- the values at 0, 1, .., n - 1
unfoldable pub up_to : (ℕ → ℕ) → ℕ → List ℕ
up_to f zero = []
up_to f (suc n) = up_to f n ++ (f n ∷ [])

-- The image has N clusters, as many bytes each as its format has; N is a multiple of 8 from least_clusters to most_clusters.
abbrev pub least_clusters : ℕ
least_clusters = 32

abbrev pub clusters_in : Format → ℕ → ℕ
clusters_in format bytes = bytes / cluster_bytes format

abbrev pub good_length : Format → ℕ → Bool
good_length format bytes =
    (bytes % cluster_bytes format == 0)
    && (clusters_in format bytes % 8 == 0 && (nat_le least_clusters (clusters_in format bytes) && nat_le (clusters_in format bytes) most_clusters))

-- `Sony PS2 Memory Card Format `, with its last space
abbrev pub format_text : List ℕ
format_text =
    0x53 ∷ 0x6F ∷ 0x6E ∷ 0x79 ∷ 0x20 ∷ 0x50 ∷ 0x53 ∷ 0x32 ∷ 0x20 ∷ 0x4D ∷ 0x65 ∷ 0x6D ∷ 0x6F ∷ 0x72 ∷ 0x79 ∷ 0x20
    ∷ 0x43 ∷ 0x61 ∷ 0x72 ∷ 0x64 ∷ 0x20 ∷ 0x46 ∷ 0x6F ∷ 0x72 ∷ 0x6D ∷ 0x61 ∷ 0x74 ∷ 0x20 ∷ []

-- `1.1.0.0` and `1.2.0.0`, padded with zeros
abbrev pub version_text : ℕ → List ℕ
version_text digit = 0x31 ∷ 0x2E ∷ digit ∷ 0x2E ∷ 0x30 ∷ 0x2E ∷ 0x30 ∷ 0 ∷ 0 ∷ 0 ∷ 0 ∷ 0 ∷ []

abbrev pub good_text : List ℕ → Bool
good_text page = same_name (slice page 0 28) format_text

abbrev pub good_version : List ℕ → Bool
good_version page = same_name (slice page 0x1C 12) (version_text 0x31) || same_name (slice page 0x1C 12) (version_text 0x32)

-- 0x28 half 512, 0x2A half 2, 0x2C half 16, 0x3C word 0
abbrev pub fixed_numbers : List ℕ → Bool
fixed_numbers page = half page 0x28 == 512 && (half page 0x2A == 2 && (half page 0x2C == 16 && word page 0x3C == 0))

-- 0xD0 the bad block list, on cards of either version
abbrev pub bad_blocks_of : List ℕ → List ℕ
bad_blocks_of page = up_to (λ i. word page (0xD0 + 4 * i)) list_words

-- 0x30 N, 0x34 alloc_offset, 0x38 alloc_end, 0x40 and 0x44 the backup blocks, 0x50 the indirect cluster, and the list
abbrev pub superblock_of : Format → List ℕ → Superblock
superblock_of format page =
    record {
      clusters = word page 0x30;
      geometry = record { format = format; offset = word page 0x34 };
      end = word page 0x38;
      backup1 = word page 0x40;
      backup2 = word page 0x44;
      indirect = word page 0x50;
      bad = bad_blocks_of page;
    }

-- Alloc_end is at least 1; alloc_offset plus alloc_end, as a whole number, is at most N. The backup blocks differ,
-- are below N/8, and start at or after cluster alloc_offset + alloc_end.
abbrev pub good_numbers : ℕ → Superblock → Bool
good_numbers n s =
    (s.clusters == n)
    && (nat_le 1 s.end
    && (nat_le (s.geometry.offset + s.end) n
    && (not (s.backup1 == s.backup2)
    && (nat_lt s.backup1 (n / 8)
    && (nat_lt s.backup2 (n / 8)
    && (nat_le (s.geometry.offset + s.end) (8 * s.backup1)
    && nat_le (s.geometry.offset + s.end) (8 * s.backup2)))))))

-- A word of the list names none, or a block below N/8 that is not block 0, which holds the superblock. The same block twice
-- is allowed, and so is a backup block.
abbrev pub good_bad_block : ℕ → ℕ → Bool
good_bad_block n block = block == no_block || (nat_le 1 block && nat_lt block (n / 8))

abbrev pub good_bad_blocks : ℕ → List ℕ → Bool
good_bad_blocks n [] = true
good_bad_blocks n (b ∷ bad) = good_bad_block n b && good_bad_blocks n bad

-- every rule of number 4
abbrev pub good_superblock : Format → ℕ → List ℕ → Bool
good_superblock format n page =
    good_version page && (fixed_numbers page && (good_numbers n (superblock_of format page) && good_bad_blocks n (bad_blocks_of page)))

-- which allocatable clusters a change of the card may take
abbrev pub may_take_by : Superblock → ℕ → Bool
may_take_by s = may_take_on s.clusters s.end s.geometry.offset s.bad
