-- The events of files, and a lineage as it is told.
use Rattle.std.specs.Prelude.{ℕ, ◌==◌, List, map, filter}
use Rattle.std.specs.List.{flat_map}
use Rattle.flowfile_record.specs.declared.event.Event.{Event}
use Rattle.machine_model.specs.Lineage.{Lineage as Told}
use Rattle.prov_index.specs.Index.{event_number}
use Rattle.lineage_query.specs.declared.answer.Lineage.{Lineage}

-- the numbers of a file's own events
abbrev pub own_event_numbers : List Event → ℕ → List ℕ
own_event_numbers events file = map event_number (filter (λ event. event.file == file) events)

abbrev pub numbers_of_all : List Event → List ℕ → List ℕ
numbers_of_all events files = flat_map (own_event_numbers events) files

-- what a lineage tells
abbrev pub lineage_seen : Lineage → Told
lineage_seen lineage =
    record { ancestors = lineage.ancestors; descendants = lineage.descendants; events = lineage.events }
