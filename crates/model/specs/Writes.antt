-- What an accepted change rewrites (RULES, "Changes"): all pages of newly taken clusters and a new entry's page always,
-- the page of the directory's entry, an entry that stands and the table's pages only where their data, as read, changes.
use Rattle.std.specs.Prelude.{◌%◌, ◌+◌, ℕ, Bool, cond, false, true, List, [], ◌++◌, ◌∷◌, eqb, ltb}
use Rattle.std.proofs.Math.Option.{Option, none, some}
use Rattle.model.specs.Entry.{end_mark}
use Rattle.model.specs.Pages.{zero_cluster}
use Rattle.model.specs.Plan.{Plan, directory_bytes, slot_bytes}
use Rattle.model.specs.View.{Link, View, link_of, pages_of, top_bit}

pub record PageWrite : Type 0 where
  pub always : Bool
  pub page : ℕ
  pub bytes : List ℕ

abbrev pub cluster_writes : List ℕ → List (Option (List ℕ)) → List PageWrite
cluster_writes [] ds = []
cluster_writes (p ∷ ps) [] = []
cluster_writes (p ∷ ps) (none ∷ ds) = cluster_writes ps ds
cluster_writes (p ∷ ps) (some d ∷ ds) = record { always = true; page = p; bytes = d } ∷ cluster_writes ps ds

abbrev pub directory_write : View → Plan → PageWrite
directory_write v p = record { always = false; page = p.directory.page; bytes = directory_bytes v p }

abbrev pub slot_write : View → Plan → PageWrite
slot_write v p = record { always = p.filling.is_new; page = p.slot_page; bytes = slot_bytes v p }

-- the pages of the allocatable clusters that are written, in this order
abbrev pub page_writes : View → Plan → List PageWrite
page_writes v p =
    cluster_writes (pages_of p.growth) zero_cluster
    ++ (cluster_writes (pages_of p.taken) p.filling.pages ++ (directory_write v p ∷ slot_write v p ∷ []))

-- the pages after writes in turn
abbrev pub pages_after : List PageWrite → (ℕ → Option (List ℕ)) → ℕ → Option (List ℕ)
pages_after [] pages a = pages a
pages_after (w ∷ ws) pages a = pages_after ws (λ x. cond (eqb w.page x) (some w.bytes) (pages x)) a

-- ---- table words

-- the links of a table of words, free from alloc_end on
abbrev pub links_of : ℕ → (ℕ → ℕ) → ℕ → Link
links_of alloc_end words c = cond (ltb c alloc_end) (link_of (words c)) Link.free

-- A new chain's words are 0x80000000 plus the next cluster, and 0xFFFFFFFF at the end.
abbrev pub word_to : List ℕ → ℕ
word_to [] = end_mark
word_to (c ∷ cs) = top_bit + c

abbrev pub chain_words : List ℕ → (ℕ → ℕ) → ℕ → ℕ
chain_words [] words x = words x
chain_words (c ∷ cs) words x = cond (eqb c x) (word_to cs) (chain_words cs words x)

-- Freeing clears the top bit and keeps the low 31 bits.
abbrev pub cleared_words : List ℕ → (ℕ → ℕ) → ℕ → ℕ
cleared_words [] words x = words x
cleared_words (c ∷ cs) words x = cond (eqb c x) (words x % top_bit) (cleared_words cs words x)

abbrev pub words_after : Plan → (ℕ → ℕ) → ℕ → ℕ
words_after p words = chain_words (p.directory.chain ++ p.growth) (chain_words p.taken (cleared_words p.given words))
