-- The listing (RULES, "Listing"): the counts, then every entry in tree order, a line each, with its last change in the shop's own
-- time; on a refusal one line only.
use Rattle.std.specs.Prelude.{ℕ, suc, zero, ◌%◌, ◌+◌, ◌/◌, cond, List, [], ◌++◌, ◌∷◌, eqb, ltb, ℤ, drop, length, take}
use Rattle.std.proofs.Math.Option.{Option, none, some}
use Rattle.page.specs.declared.Format.{Format}
use Rattle.layout.specs.See.{check_image}
use Rattle.layout.specs.declared.Superblock.{Superblock}
use Rattle.model.specs.declared.Date.{Date}
use Rattle.model.specs.declared.Moment.{Moment}
use Rattle.model.specs.Calendar.{is_shift, shown}
use Rattle.model.specs.Check.{Marks, Result, fault, ok}
use Rattle.model.specs.Entry.{Entry}
use Rattle.model.specs.Names.{Name}
use Rattle.model.specs.Tree.{Root, Slot, Tree, end, node}
use Rattle.tree.specs.Counted.{counts_in}
use Rattle.tree.specs.declared.Counts.{Counts}

-- ---- numbers and lines

-- the last k digits of n, without zeros in front
unfoldable pub digits_of : ℕ → ℕ → List ℕ
digits_of zero n = []
digits_of (suc k) n = cond (ltb n 10) ((0x30 + n) ∷ []) (digits_of k (n / 10) ++ ((0x30 + n % 10) ∷ []))

-- a number in decimal: 20 digits hold every number of 64 bits
abbrev pub decimal_of : ℕ → List ℕ
decimal_of n = digits_of 20 n

abbrev pub space : List ℕ
space = 0x20 ∷ []

-- every line ends with a newline
abbrev pub newline : List ℕ
newline = 0x0A ∷ []

-- `card `, `free `, `reached `, `orphaned `, `held `, `mended `, `refused `
abbrev pub card_word : List ℕ
card_word = 0x63 ∷ 0x61 ∷ 0x72 ∷ 0x64 ∷ 0x20 ∷ []

abbrev pub free_word : List ℕ
free_word = 0x66 ∷ 0x72 ∷ 0x65 ∷ 0x65 ∷ 0x20 ∷ []

abbrev pub reached_word : List ℕ
reached_word = 0x72 ∷ 0x65 ∷ 0x61 ∷ 0x63 ∷ 0x68 ∷ 0x65 ∷ 0x64 ∷ 0x20 ∷ []

abbrev pub orphaned_word : List ℕ
orphaned_word = 0x6F ∷ 0x72 ∷ 0x70 ∷ 0x68 ∷ 0x61 ∷ 0x6E ∷ 0x65 ∷ 0x64 ∷ 0x20 ∷ []

abbrev pub held_word : List ℕ
held_word = 0x68 ∷ 0x65 ∷ 0x6C ∷ 0x64 ∷ 0x20 ∷ []

abbrev pub mended_word : List ℕ
mended_word = 0x6D ∷ 0x65 ∷ 0x6E ∷ 0x64 ∷ 0x65 ∷ 0x64 ∷ 0x20 ∷ []

abbrev pub refused_word : List ℕ
refused_word = 0x72 ∷ 0x65 ∷ 0x66 ∷ 0x75 ∷ 0x73 ∷ 0x65 ∷ 0x64 ∷ 0x20 ∷ []

unfoldable pub count_line : List ℕ → ℕ → List ℕ
count_line word n = word ++ decimal_of n ++ newline

-- ---- times

-- the last two and the last four digits of a number
abbrev pub two_digits : ℕ → List ℕ
two_digits n = (0x30 + n / 10 % 10) ∷ (0x30 + n % 10) ∷ []

abbrev pub four_digits : ℕ → List ℕ
four_digits n = two_digits (n / 100) ++ two_digits n

abbrev pub dash : List ℕ
dash = 0x2D ∷ []

abbrev pub colon : List ℕ
colon = 0x3A ∷ []

-- `YYYY-MM-DD`
unfoldable pub date_text : Date → List ℕ
date_text d = four_digits d.year ++ dash ++ two_digits d.month ++ dash ++ two_digits d.day

-- `YYYY-MM-DD hh:mm:ss`
unfoldable pub time_text : Moment → List ℕ
time_text m = date_text m.date ++ space ++ two_digits m.hour ++ colon ++ two_digits m.minute ++ colon ++ two_digits m.second

-- `unknown`
abbrev pub unknown_word : List ℕ
unknown_word = 0x75 ∷ 0x6E ∷ 0x6B ∷ 0x6E ∷ 0x6F ∷ 0x77 ∷ 0x6E ∷ []

abbrev pub stamp_text : Option Moment → List ℕ
stamp_text none = unknown_word
stamp_text (some m) = time_text m

-- ---- entries

-- `d LENGTH PATH STAMP` or `f LENGTH PATH STAMP`
abbrev pub directory_letter : ℕ
directory_letter = 0x64

abbrev pub file_letter : ℕ
file_letter = 0x66

unfoldable pub entry_line : ℕ → ℕ → List ℕ → List ℕ → List ℕ
entry_line letter n path stamp = (letter ∷ []) ++ space ++ decimal_of n ++ space ++ path ++ space ++ stamp ++ newline

-- the path of an entry: its directory's, `/` and its name
abbrev pub within : List ℕ → Name → List ℕ
within path name = path ++ (0x2F ∷ name)

-- the line of a live entry: its length is a file's bytes, or a directory's slots with the first two and the dead ones
abbrev pub line_of : ℤ → ℕ → List ℕ → Entry → List ℕ
line_of minutes letter path e = entry_line letter e.length (within path e.name) (stamp_text (shown minutes e.modified))

-- ---- the card

-- The entries of a directory with this path: slot order, a directory before its inside. A dead slot has no line.
unfoldable pub tree_text : ℤ → List ℕ → Tree → List ℕ
tree_text minutes path end = []
tree_text minutes path (node Slot.dead inside later) = tree_text minutes path later
tree_text minutes path (node (Slot.file e chain pages) inside later) =
    line_of minutes file_letter path e ++ tree_text minutes path later
tree_text minutes path (node (Slot.directory e chain) inside later) =
    line_of minutes directory_letter path e ++ tree_text minutes (within path e.name) inside ++ tree_text minutes path later

unfoldable pub counts_text : Counts → List ℕ
counts_text c =
    count_line card_word c.clusters
    ++ count_line free_word c.free
    ++ count_line reached_word c.reached
    ++ count_line orphaned_word c.orphaned
    ++ count_line held_word c.held
    ++ count_line mended_word c.mended

-- the root has no line of its own
abbrev pub card_text : ℤ → Counts → Root → List ℕ
card_text minutes counts root = counts_text counts ++ tree_text minutes [] root.slots

-- `refused N`, and for 2 `refused 2 PAGE`
abbrev pub page_text : ℕ → ℕ → List ℕ
page_text number page = cond (eqb number 2) (space ++ decimal_of page) []

unfoldable pub refusal_text : ℕ → ℕ → List ℕ
refusal_text number page = refused_word ++ decimal_of number ++ page_text number page ++ newline

-- ---- the listing of an image

abbrev pub text_of : ℤ → List ℕ → Result (Superblock × Root × Marks) → List ℕ
text_of minutes image (fault number page) = refusal_text number page
text_of minutes image (ok x) = card_text minutes (counts_in image x.0 x.1) x.1

-- Another number of minutes is refused before anything else.
unfoldable pub listing_of : Format → List ℕ → ℤ → List ℕ
listing_of format image minutes = cond (is_shift minutes) (text_of minutes image (check_image format image)) (refusal_text 17 0)

-- what a lent buffer holds afterwards: as much of the text as fits, and behind a shorter text what it held
abbrev pub fitted : List ℕ → List ℕ → List ℕ
fitted before text = take (length before) text ++ drop (length text) before
