-- Which events name a file, and the event of a number.
use Rattle.std.specs.Prelude.{ℕ, ◌==◌, ◌||◌, Bool, List, Option, map, filter}
use Rattle.std.specs.List.{list_any}
use Rattle.flowfile_record.specs.NumberedItems.{item_of}
use Rattle.flowfile_record.specs.declared.event.Event.{Event}

abbrev pub event_number : Event → ℕ
event_number event = event.number

-- whether an event names a file: as that which it is of, as a parent or as a child
abbrev pub names_file : ℕ → Event → Bool
names_file file event =
    event.file == file || list_any (λ parent. parent == file) event.parents
    || list_any (λ child. child == file) event.children

-- the numbers of the events that name a file, in the order of the events
abbrev pub numbers_naming : List Event → ℕ → List ℕ
numbers_naming events file = map event_number (filter (names_file file) events)

-- the event of a number
abbrev pub event_of : List Event → ℕ → Option Event
event_of events number = item_of event_number number events
