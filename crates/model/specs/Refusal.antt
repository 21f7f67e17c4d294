-- Which refusal a change on an accepted card meets, in the order of the rows; 0 where it meets none.
use Rattle.std.specs.Prelude.{◌+◌, suc, zero, ℕ, Bool, ◌||◌, cond, false, List, [], ◌∷◌, eqb, leb}
use Rattle.std.proofs.Math.Option.{Option, none, some}
use Rattle.model.specs.Change.{Change, Rules, create, creates, delete, make_directory, path, remove_directory, replace, size}
use Rattle.model.specs.Entry.{is_locked}
use Rattle.model.specs.Holds.{deepest, most_names}
use Rattle.model.specs.Lookup.{Found, absent, found, look_up}
use Rattle.model.specs.Names.{Path, good_path, parent}
use Rattle.model.specs.Plan.{free_of, growth_with_one}
use Rattle.model.specs.Standing.{Standing, stands_at}
use Rattle.model.specs.Time.{valid_time}
use Rattle.model.specs.Tree.{Root, Slot, dead_slots, slot_count}
use Rattle.model.specs.View.{View}

-- the first of two, 0 being none
abbrev pub first : ℕ → ℕ → ℕ
first zero n = n
first (suc m) n = suc m

-- 8: the path is malformed, names the root, or is a new directory's with most_names names. 14: the time is invalid. Removing takes no time.
abbrev pub path_refusal : ℕ → Path → ℕ
path_refusal most p = cond (good_path most p) 0 8

abbrev pub time_refusal : List ℕ → ℕ
time_refusal time = cond (valid_time time) 0 14

abbrev pub static : Change → ℕ
static (create p time bytes) = first (path_refusal most_names p) (time_refusal time)
static (make_directory p time) = first (path_refusal deepest p) (time_refusal time)
static (replace p time bytes) = first (path_refusal most_names p) (time_refusal time)
static (delete p) = path_refusal most_names p
static (remove_directory p) = path_refusal most_names p

-- 9: a name on the way is absent. 10: a file stands where a directory is needed. Names are looked up from the left.
abbrev pub on_way : Found → ℕ
on_way absent = 9
on_way (found Slot.dead s) = 9
on_way (found (Slot.file e cs ds) s) = 10
on_way (found (Slot.directory e cs) s) = 0

abbrev pub way : (Path → Found) → Path → ℕ
way look [] = 0
way look (n ∷ []) = 0
way look (n ∷ m ∷ p) = first (on_way (look (n ∷ []))) (way (λ r. look (n ∷ r)) (m ∷ p))

-- The last name: 11 where the path to create exists; 9 and 10 where it must exist as a file or a directory;
-- 13 where a directory to remove has a live entry after the first two.
abbrev pub must_lack : Found → ℕ
must_lack absent = 0
must_lack (found Slot.dead s) = 0
must_lack (found (Slot.file e cs ds) s) = 11
must_lack (found (Slot.directory e cs) s) = 11

abbrev pub must_file : Found → ℕ
must_file absent = 9
must_file (found Slot.dead s) = 9
must_file (found (Slot.file e cs ds) s) = 0
must_file (found (Slot.directory e cs) s) = 10

abbrev pub must_empty : Found → ℕ
must_empty absent = 9
must_empty (found Slot.dead s) = 9
must_empty (found (Slot.file e cs ds) s) = 10
must_empty (found (Slot.directory e cs) s) = cond (eqb (slot_count s) (dead_slots s)) 0 13

abbrev pub own : Change → Found → ℕ
own (create p time bytes) g = must_lack g
own (make_directory p time) g = must_lack g
own (replace p time bytes) g = must_file g
own (delete p) g = must_file g
own (remove_directory p) g = must_empty g

-- 16: what stands at the path is locked, a file to replace or delete or a directory to remove, or the directory directly around it is.
-- Where a path is created nothing stands. Of a directory below the root the entry in its parent is looked at, of the root its
-- own first entry. Nothing farther up or down counts.
abbrev pub locked : Option Standing → Bool
locked none = false
locked (some (Standing.file f c)) = is_locked f.mode
locked (some (Standing.directory f)) = is_locked f.mode

unfoldable pub lock_refusal : Option Standing → Option Standing → ℕ
lock_refusal self directory = cond (locked self || locked directory) 16 0

-- the clusters that a change needs, its directory's growth counted
abbrev pub growth_in : Change → Found → ℕ
growth_in c absent = 0
growth_in c (found Slot.dead s) = 0
growth_in c (found (Slot.file e cs ds) s) = 0
growth_in c (found (Slot.directory e cs) s) = cond (creates c) (growth_with_one e s) 0

abbrev pub needed : Change → Root → ℕ
needed c r = size c + growth_in c (look_up r (parent (path c)))

-- 12: fewer free clusters than needed, of those free before the change
abbrev pub room_refusal : Rules → Change → View → Root → ℕ
room_refusal y c v r = cond (leb (needed c r) (free_of y v)) 0 12

unfoldable pub refusal : Rules → Change → View → Root → ℕ
refusal y c v r =
    first (static c)
    (first (way (look_up r) (path c))
    (first (own c (look_up r (path c)))
    (first (lock_refusal (stands_at r (path c)) (stands_at r (parent (path c)))) (room_refusal y c v r))))
