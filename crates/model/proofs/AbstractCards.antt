-- The abstract card of a view: what stands at each path, the room of each directory, and the free count.
use mathlib.Core.Option.{none}
use Rattle.model.specs.Change.{Rules}
use Rattle.model.specs.Counts.{is_free, takeable, total_below}
use Rattle.model.specs.Lookup.{look_from, tell}
use Rattle.model.specs.Plan.{returned}
use Rattle.model.specs.Standing.{standing}
use Rattle.model.specs.Tree.{Root, Slot, Tree, dead_slots, root_slot}
use Rattle.model.specs.View.{View}
use Rattle.model.proofs.Operations.{AbstractCard, Room}

abbrev pub no_room : Room
no_room = record { dead = 0; length = 0; back = 0 }

module _ (y : Rules) where
  abbrev pub room_of_slot : Slot → Tree → Room
  room_of_slot Slot.dead s = no_room
  room_of_slot (Slot.file e cs ds) s = record { dead = 0; length = 0; back = returned y cs }
  room_of_slot (Slot.directory e cs) s = record { dead = dead_slots s; length = e.length; back = returned y cs }

  -- The tree, the rooms and the free count of a card.
  abbrev pub abstract_of : View → Root → AbstractCard
  abstract_of v r =
      record {
        look = λ q. tell standing none (look_from (root_slot r) r.slots q);
        room = λ q. tell room_of_slot no_room (look_from (root_slot r) r.slots q);
        free = total_below (λ c. is_free (takeable y.may_take v.link c)) y.alloc_end;
      }
