-- What a queue holds, and how it is seen.
use Rattle.std.specs.Prelude.{◌≡◌, ◌≢◌, ℕ, ◌==◌, nat_lt, min, Bool, true, false, List, [], map, filter, All, Option, Some, if◌then◌else◌}
use Rattle.std.specs.List.{reduce}
use Rattle.std.specs.Option.{option_map, option_map_or}
use Rattle.flowfile_record.specs.NumberedItems.{item_of, with_item, without_item, AscendsByNumber}
use Rattle.flowfile_record.specs.declared.flow_file.FlowFile.{FlowFile}
use Rattle.prioritizer.specs.declared.prioritizer.Prioritizer.{Prioritizer}
use Rattle.machine_model.specs.declared.flow.QueueLimits.{QueueLimits}
use Rattle.machine_model.specs.declared.kind.TakeRule.{TakeRule}
use Rattle.machine_model.specs.declared.kind.TakeRule.TheVariants.{Source, One, Bin, Defragment}
use Rattle.machine_model.specs.Due.{numbers_of}
use Rattle.machine_model.specs.Laws.{ArrivalsDiffer}
use Rattle.machine_model.specs.Order.{eligible_files}
use Rattle.machine_model.specs.Taking.{picks}
use Rattle.machine_model.specs.View.{FileView, BatchView, QueueView}
use Rattle.flow_queue.specs.declared.batch.Batch.{Batch}
use Rattle.flow_queue.specs.declared.held.Held.{Held}

-- The order and the limits of its connection, its active files in the order of their numbers and for how many more there
-- is room, its swapped batches in the order of theirs and whether there is room for one more.
pub record QueueState : Type 0 where
  pub order : List Prioritizer
  pub limits : QueueLimits
  pub files : List Held
  pub spare : ℕ
  pub batches : List Batch
  pub batch_room : Bool

-- ---- how it is seen

abbrev pub held_number : Held → ℕ
held_number held = held.file.number

-- how many bytes its content has
abbrev pub held_bytes : Held → ℕ
held_bytes held = held.file.content.size

abbrev pub held_view : Held → FileView
held_view held = record {
  number = held.file.number;
  attributes = held.file.attributes;
  size = held.file.content.size;
  entered = held.file.entered;
  penalty_end = held.file.penalty_end;
  arrival = held.file.arrival;
  in_flight = held.in_flight;
}

abbrev pub views_of : List Held → List FileView
views_of files = map held_view files

abbrev pub seen_batch : Batch → BatchView
seen_batch batch = record { number = batch.number; files = batch.files; size = batch.bytes }

abbrev pub queue_as_seen : QueueState → QueueView
queue_as_seen queue = record { active = views_of queue.files; batches = map seen_batch queue.batches }

-- what holds of the files of every queue: no two have one number or one arrival
pub record AreApart (files : List Held) : Type 0 where
  pub numbers : AscendsByNumber held_number files
  pub arrivals : ArrivalsDiffer (views_of files)

-- ---- how it changes

-- the file has neither the number nor the arrival of any of these
abbrev pub IsApart : FlowFile → List Held → Type 0
IsApart file files = All (λ held. (held.file.number ≢ file.number) × (held.file.arrival ≢ file.arrival)) files

-- these and one more, which no session works on
abbrev pub queue_with_file : FlowFile → List Held → List Held
queue_with_file file files = with_item held_number (record { file = file; in_flight = false }) files

abbrev pub held_file : ℕ → List Held → Option FlowFile
held_file number files = option_map (λ held. held.file) (item_of held_number number files)

abbrev pub without_file : ℕ → List Held → List Held
without_file number files = without_item held_number number files

-- whether a session works on the file of a number, where there is such a file
abbrev pub flight_of : ℕ → List Held → Option Bool
flight_of number files = option_map (λ held. held.in_flight) (item_of held_number number files)

-- a file of the queue that no session works on, and one that a session works on
abbrev pub IsAtRest : QueueState → ℕ → Type 0
IsAtRest queue number = flight_of number queue.files ≡ Some false

abbrev pub IsInFlight : QueueState → ℕ → Type 0
IsInFlight queue number = flight_of number queue.files ≡ Some true

abbrev pub with_flight : ℕ → Bool → List Held → List Held
with_flight number in_flight files =
    map (λ held. if held_number held == number then record held { in_flight = in_flight } else held) files

-- ---- what is taken of it

-- the files that a session may take at a moment, in their order
abbrev pub eligible_in : ℕ → QueueState → List FileView
eligible_in moment queue = eligible_files queue.order queue.limits moment (queue_as_seen queue).active

-- those that a rule picks from
abbrev pub offered_by : TakeRule → List FileView → List FileView
offered_by Source files = []
offered_by One files = files
offered_by (Bin min max) files = files
offered_by Defragment files = files

abbrev pub offered : TakeRule → ℕ → QueueState → List FileView
offered rule moment queue = offered_by rule (eligible_in moment queue)

-- the files that a session by a rule takes
abbrev pub picked : TakeRule → ℕ → QueueState → Option (List FileView)
picked rule moment queue = picks rule (eligible_in moment queue)

abbrev pub picked_numbers : Option (List FileView) → List ℕ
picked_numbers files = option_map_or numbers_of files []

-- ---- what is due

-- when the first penalty of some files ends that hasn't ended by a moment
abbrev pub next_penalty_end : ℕ → List FileView → Option ℕ
next_penalty_end moment files = reduce min (filter (nat_lt moment) (map (λ file. file.penalty_end) files))
