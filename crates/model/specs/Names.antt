-- Names and paths (RULES, "Directories" and "Changes"): byte strings, compared whole.
use Rattle.std.specs.Prelude.{ℕ, Bool, ◌&&◌, ◌||◌, false, not, true, List, [], ◌∷◌, eqb, leb, ltb, length}

abbrev pub Name : Type 0
Name = List ℕ

-- the names of a path from the root on; `/` has none
abbrev pub Path : Type 0
Path = List Name

module _ {A : Type 0} (same : A → A → Bool) where
  -- two lists are the same, element by element
  abbrev pub same_list : List A → List A → Bool
  same_list [] [] = true
  same_list [] (b ∷ bs) = false
  same_list (a ∷ u) [] = false
  same_list (a ∷ u) (b ∷ bs) = same a b && same_list u bs

abbrev pub same_name : Name → Name → Bool
same_name = same_list eqb

abbrev pub same_path : Path → Path → Bool
same_path = same_list same_name

-- A path is a beginning of another if its names are, in order, the other's first ones.
abbrev pub beginning : Path → Path → Bool
beginning [] r = true
beginning (a ∷ p) [] = false
beginning (a ∷ p) (b ∷ r) = same_name a b && beginning p r

-- the directory that a change is in: its path without the last name
abbrev pub parent : Path → Path
parent [] = []
parent (a ∷ []) = []
parent (a ∷ b ∷ p) = a ∷ parent (b ∷ p)

abbrev pub last_name : Path → Name
last_name [] = []
last_name (n ∷ []) = n
last_name (n ∷ m ∷ p) = last_name (m ∷ p)

-- `.` and `..`
abbrev pub dot_name : Name
dot_name = 0x2E ∷ []

abbrev pub dot_dot_name : Name
dot_dot_name = 0x2E ∷ 0x2E ∷ []

-- bytes 0x20 to 0x7E without `*`, `/`, `?`
abbrev pub legal_bytes : List ℕ → Bool
legal_bytes [] = true
legal_bytes (b ∷ s) = leb 0x20 b && leb b 0x7E && not (eqb b 0x2A || eqb b 0x2F || eqb b 0x3F) && legal_bytes s

-- 1 to 31 legal bytes, neither `.` nor `..`
abbrev pub good_name : Name → Bool
good_name n = ltb 0 (length n) && ltb (length n) 32 && legal_bytes n && not (same_name n dot_name) && not (same_name n dot_dot_name)

abbrev pub good_names : Path → Bool
good_names [] = true
good_names (n ∷ p) = good_name n && good_names p

-- one to `most` names, each by the name rule
abbrev pub good_path : ℕ → Path → Bool
good_path most p = ltb 0 (length p) && leb (length p) most && good_names p
