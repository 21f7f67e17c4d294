-- The tree's lines as the code writes them: along the pages of a directory's slots, each directory at once by its own slots.
use Rattle.std.specs.Prelude.{ℕ, suc, zero, ◌-◌, ◌+◌, ◌≤◌, cond, Err, List, [], ◌++◌, ◌∷◌, ◌≡◌, None, Ok, Option, Result, Some, ℤ}
use Rattle.std.proofs.Math.Option as math
use Rattle.layout.specs.Refusal.{number_of, page_of}
use Rattle.layout.specs.declared.Refusal.{Refusal}
use Rattle.model.specs.Entry.{Entry, is_directory, is_live}
use Rattle.model.specs.Holds.{HoldsCard}
use Rattle.model.specs.Tree.{Root}
use Rattle.model.specs.View.{View}
use Rattle.tree.specs.Slots.{next_of, slot_pages}
use Rattle.listing.specs.declared.emit.Text.{Text}
use Rattle.listing.specs.declared.entries.Directory.{Directory}
use Rattle.listing.specs.Emit.{Writes}
use Rattle.listing.specs.Paths.{path_bytes}
use Rattle.listing.specs.Sizes.{name_room}
use Rattle.listing.specs.Text.{directory_letter, file_letter, line_of, refusal_text, tree_text, within}

-- the line of the entry in a page; an unreadable page and a dead entry have none
abbrev pub line_at : ℤ → List ℕ → math.Option Entry → List ℕ
line_at minutes path math.none = []
line_at minutes path (math.some e) = cond (is_live e) (line_of minutes (cond (is_directory e) directory_letter file_letter) path e) []

-- the text of pages by the path of their directory
abbrev pub Texts : Type 0
Texts = List ℕ → List ℕ → List ℕ

-- what stands inside an entry: of a directory the text of its slots' pages
abbrev pub inside_at : List ℕ → Texts → List ℕ → math.Option Entry → List ℕ
inside_at table deeper path math.none = []
inside_at table deeper path (math.some e) =
    cond (is_directory e) (deeper (within path e.name) (slot_pages table (next_of table e.first_cluster) 0 (e.length - 2))) []

-- texts one after the other
unfoldable pub joined : (ℕ → List ℕ) → List ℕ → List ℕ
joined text [] = []
joined text (p ∷ ps) = text p ++ joined text ps

-- a directory's slots, with directories at most `below` further down
unfoldable pub slots_text : ℤ → View → List ℕ → ℕ → Texts
slots_text minutes v table zero path pages = joined (λ p. line_at minutes path (v.entry p)) pages
slots_text minutes v table (suc below) path pages =
    joined (λ p. line_at minutes path (v.entry p) ++ inside_at table (slots_text minutes v table below) path (v.entry p)) pages

-- what stands inside a directory that the code hands on; without one nothing
abbrev pub text_in : List ℕ → Texts → Option Directory → List ℕ
text_in table deeper None = []
text_in table deeper (Some d) = deeper (path_bytes d.path) (slot_pages table d.start 0 d.count)

-- its path is at most a name longer
abbrev pub Grows : ℕ → Option Directory → Type 0
Grows len None = Unit {0}
Grows len (Some d) = d.path.len ≤ len + name_room

-- An entry that was listed leads to the directory that it is, whose text is what stands inside it.
pub record Leads (table path : List ℕ) (o : math.Option Entry) (len : ℕ) (inside : Option Directory) : Type 0 where
  pub grows : Grows len inside
  pub text : (deeper : Texts) → text_in table deeper inside ≡ inside_at table deeper path o

-- all entries of a card, whatever tree the view holds
abbrev pub WritesTree : ℤ → View → Text → Text → Type 0
WritesTree minutes v before after = (root : Root) → HoldsCard v root → Writes before (tree_text minutes [] root.slots) after

-- A card's listing is written, or it is the one line of the refusal that is answered, of which nothing is written yet.
abbrev pub Lists : List ℕ → Result (Unit {0}) Refusal → Text → Text → Type 0
Lists listing (Ok u) before after = Writes before listing after
Lists listing (Err r) before after = (after ≡ before) × (refusal_text (number_of r) (page_of r) ≡ listing)
