-- A step of the machine, and the replay of a journal.
use Rattle.std.specs.Prelude.{ℕ, ◌+◌, ◌%◌, ◌==◌, ◌&&◌, not, nat_lt, nat_le, Bool, true, false, List, [], ◌∷◌, ◌++◌, length, map, filter, find, Option, Some, None, is_none, is_some, option_map, option_and_then, slice_get, slice_index, slice_set, bytes_eq, if◌then◌else◌}
use Rattle.std.specs.FinSet.{retain}
use Rattle.std.specs.Option.{option_map_or}
use Rattle.std.specs.List.{list_all, enumerate_from, filter_map}
use Rattle.sha2.specs.Sha256.{sha256}
use Rattle.flowfile_record.specs.declared.TheConstants.{CONTENT_MAX}
use Rattle.flowfile_record.specs.declared.event.Event.{Event}
use Rattle.flowfile_record.specs.declared.limits.TheConstants.{EVENTS_PER_FILE, TAKEN_MAX}
use Rattle.flowfile_record.specs.declared.event.EventKind.TheVariants as kind
use Rattle.prioritizer.specs.declared.prioritizer.Prioritizer.{Prioritizer}
use Rattle.machine_model.specs.declared.pattern.Pattern.{Pattern}
use Rattle.flowfile_record.specs.declared.worked.Outcome.{Outcome}
use Rattle.flowfile_record.specs.declared.worked.Sent.{Sent}
use Rattle.machine_model.specs.declared.flow.Connection.{Connection}
use Rattle.machine_model.specs.declared.flow.Flow.{Flow}
use Rattle.machine_model.specs.declared.flow.Processor.{Processor}
use Rattle.machine_model.specs.declared.given.Given.{Given}
use Rattle.machine_model.specs.declared.journal.Step.{Step}
use Rattle.machine_model.specs.declared.journal.Step.TheVariants.{Expire, SwapOut, SwapIn, Age}
use Rattle.machine_model.specs.declared.journal.Step.TheVariants as entry
use Rattle.machine_model.specs.declared.kind.Kind.{Kind}
use Rattle.machine_model.specs.declared.kind.Kind.TheVariants.{GetFile, GenerateFlowFile, PutFile}
use Rattle.machine_model.specs.declared.kind.TakeRule.{TakeRule}
use Rattle.machine_model.specs.declared.kind.TakeRule.TheVariants.{Source, One, Bin, Defragment}
use Rattle.machine_model.specs.State.{QueuedFile, State, World, Machine}
use Rattle.flowfile_record.specs.NamedFile.{bytes_of, with_file}
use Rattle.machine_model.specs.Acting.{act, passes, name_in}
use Rattle.machine_model.specs.Making.{TakenFile}
use Rattle.machine_model.specs.Due.{batch_size, lowest_batch}
use Rattle.machine_model.specs.Events.{Draft, ascending, numbered_from}
use Rattle.machine_model.specs.Files.{active_files, file_numbered, queue_at, are_active, are_distinct, is_number_among, is_in_batch, view_of, queue_view}
use Rattle.machine_model.specs.Kinds.{take_rule_of}
use Rattle.machine_model.specs.Order.{goes_before}
use Rattle.machine_model.specs.Placing.{EndedSession, settled_files, uuid_text}
use Rattle.machine_model.specs.Settling.{settle}
use Rattle.machine_model.specs.View.{FileView, is_penalised, is_expired}

-- ---- the world

abbrev pub without_name : List (List ℕ) → List ℕ → List (List ℕ)
without_name names name = filter (λ other. not (bytes_eq other name)) names

-- ---- a session

-- the first connection that ends at a processor and has these numbers active
abbrev pub has_all : State → ℕ → List ℕ → ℕ × Connection → Bool
has_all state processor numbers (place, connection) =
    (connection.target == processor) && are_active (queue_at state place) numbers

abbrev pub source_of : Flow → State → ℕ → List ℕ → Option (ℕ × Connection)
source_of flow state processor numbers = find (has_all state processor numbers) (enumerate_from 0 flow.connections)

-- neither penalised nor expired
abbrev pub may_be_taken : Connection → ℕ → FileView → Bool
may_be_taken connection moment file =
    not (is_penalised moment file) && not (is_expired connection.limits.expiration moment file)

-- each of these files goes before the next
abbrev pub is_in_turn : List Prioritizer → List FileView → Bool
is_in_turn order [] = true
is_in_turn order (file ∷ []) = true
is_in_turn order (file ∷ next ∷ files) = goes_before order file next && is_in_turn order (next ∷ files)

-- a rule admits so many files, and a bin them in their connection's order
abbrev pub admits : TakeRule → List Prioritizer → List FileView → Bool
admits Source order files = length files == 0
admits One order files = length files == 1
admits (Bin min max) order files = nat_le 1 (length files) && nat_le (length files) max && is_in_turn order files
admits Defragment order files = nat_le 1 (length files) && nat_le (length files) TAKEN_MAX

-- the taken files, by place
abbrev pub files_of : List QueuedFile → List ℕ → List QueuedFile
files_of queue numbers = filter_map (file_numbered queue) numbers

abbrev pub taken_from : State → TakeRule → List ℕ → ℕ → ℕ × Connection → Option (List QueuedFile)
taken_from state rule numbers moment (place, connection) =
    let files = files_of (queue_at state place) numbers in
    let views = map view_of files in
    if are_distinct numbers && list_all (may_be_taken connection moment) views && admits rule connection.order views
    then Some files else None

-- the files that a session takes, where it may take these
abbrev pub taken_files : Flow → State → ℕ → TakeRule → List ℕ → ℕ → Option (List QueuedFile)
taken_files flow state processor Source [] moment = Some []
taken_files flow state processor Source (number ∷ numbers) moment = None
taken_files flow state processor rule numbers moment =
    option_and_then (taken_from state rule numbers moment) (source_of flow state processor numbers)

-- a generator that has made all its files makes no more; each has its own index
abbrev pub may_generate : (count made index : ℕ) → Bool
may_generate count made index = (index == made + 1) && nat_le index count

-- the file is left in the inbox, passes the pattern, and is no longer than any content
abbrev pub may_get : Option Pattern → World → List ℕ → Bool
may_get filter world name =
    is_some (find (bytes_eq name) world.left) && passes filter name
    && option_map_or (λ bytes. nat_le (length bytes) CONTENT_MAX) (bytes_of world.inbox name) false

-- the outbox has the file's name
abbrev pub is_there : World → List QueuedFile → Bool
is_there world files =
    option_map_or (λ file. option_map_or (λ name. is_some (world.outbox name)) (name_in file.attributes) false)
    (slice_get files 0) false

abbrev pub same_bool : Bool → Bool → Bool
same_bool true b = b
same_bool false b = not b

-- a step keeps none of the bytes that its session is given
abbrev pub given_at : ℕ → Given → Option Given
given_at moment given = if is_none given.bytes then Some (record given { moment = moment }) else None

-- what a session is given stands in the state and the world; a GetFile is given the file's bytes beside its name
abbrev pub given_in : Kind → (place : ℕ) → State → World → List QueuedFile → Given → Option Given
given_in (GetFile filter) place state world taken given =
    option_and_then
    (λ name. if may_get filter world name then Some (record given { bytes = bytes_of world.inbox name }) else None)
    given.file
given_in (GenerateFlowFile count text) place state world taken given =
    if may_generate count (slice_index state.counts place) given.index then Some given else None
given_in (PutFile conflict) place state world taken given =
    if same_bool given.there (is_there world taken) then Some given else None
given_in _ place state world taken given = Some given

-- the inbox without what was received, and the outbox with what was sent
abbrev pub world_after : Kind → World → EndedSession → Outcome → World
world_after kind world session outcome = record world {
  left = left_after kind;
  outbox = outbox_after outcome.sent;
}
  where
    left_after : Kind → List (List ℕ)
    left_after (GetFile filter) = option_map_or (without_name world.left) session.given.file world.left
    left_after _ = world.left

    outbox_after : Option Sent → List ℕ → Option (List ℕ)
    outbox_after (Some sent) =
        with_file world.outbox sent.name
        (option_map_or (λ file. file.bytes) (slice_get (settled_files session outcome.files) sent.place) [])
    outbox_after None = world.outbox

abbrev pub as_taken : State → QueuedFile → TakenFile
as_taken state file =
    record { attributes = file.attributes; uuid = uuid_text state.store file.number; bytes = file.bytes }

abbrev pub session_after : Machine → EndedSession → Outcome → Machine
session_after machine session outcome = record {
  state = settle session outcome;
  world = world_after session.processor.kind machine.world session outcome;
}

abbrev pub after_session : Machine → EndedSession → Option Machine
after_session machine session =
    option_map (session_after machine session)
    (act session.processor.kind (map (as_taken machine.state) session.taken) session.given)

abbrev pub session_of : Flow → Machine → (place : ℕ) → Processor → List QueuedFile → Given → EndedSession
session_of flow machine place processor taken given = record {
  flow = flow;
  place = place;
  processor = processor;
  state = machine.state;
  taken = taken;
  given = given;
}

abbrev pub session_step : Flow → Machine → (place : ℕ) → List ℕ → ℕ → Given → Processor → Option Machine
session_step flow machine place numbers moment given processor =
    option_and_then (λ taken.
    option_and_then (λ given. after_session machine (session_of flow machine place processor taken given))
    (option_and_then (given_in processor.kind place machine.state machine.world taken) (given_at moment given)))
    (taken_files flow machine.state place (take_rule_of processor.kind) numbers moment)

-- ---- the queues' own steps

abbrev pub with_queue : State → ℕ → List QueuedFile → State
with_queue state connection queue = record state { queues = slice_set state.queues connection queue }

-- an EXPIRE for each file
abbrev pub expiry_of : Connection → ℕ → QueuedFile → Draft
expiry_of connection moment file = record {
  event = λ number. record {
    number = number;
    kind = kind.Expire;
    moment = moment;
    component = connection.id;
    file = file.number;
    parents = [];
    children = [];
    detail = [];
    size = length file.bytes;
    digest = sha256 file.bytes;
  };
  kin = [];
}

abbrev pub without_files : List QueuedFile → List ℕ → List QueuedFile
without_files queue numbers = filter (λ file. not (is_number_among numbers file.number)) queue

abbrev pub expired : State → (place : ℕ) → Connection → List ℕ → ℕ → State
expired state place connection numbers moment =
    let queue = queue_at state place in
    let told = map (expiry_of connection moment) (files_of queue (ascending numbers)) in
    record (with_queue state place (without_files queue numbers)) {
      events = state.events ++ numbered_from (state.last_event + 1) told;
      last_event = state.last_event + length told;
    }

abbrev pub expire_step : State → (place : ℕ) → List ℕ → ℕ → Connection → Option State
expire_step state place numbers moment connection =
    let queue = queue_at state place in
    if nat_lt 0 (length numbers) && are_distinct numbers && are_active queue numbers
    && list_all (is_expired connection.limits.expiration moment) (map view_of (files_of queue numbers))
    then Some (expired state place connection numbers moment) else None

abbrev pub swapped_out : List ℕ → ℕ → QueuedFile → QueuedFile
swapped_out numbers batch file =
    if is_number_among numbers file.number then record file { batch = Some batch } else file

abbrev pub swap_out_step : State → (place : ℕ) → List ℕ → (batch : ℕ) → Connection → Option State
swap_out_step state place numbers batch connection =
    let queue = queue_at state place in
    let size = batch_size connection.limits in
    if are_distinct numbers && are_active queue numbers && (length numbers == size)
    && nat_le (connection.limits.swap + size) (length (active_files queue)) && (batch == state.next_batch)
    then Some (record (with_queue state place (map (swapped_out numbers batch) queue)) { next_batch = batch + 1 })
    else None

abbrev pub swapped_in : ℕ → QueuedFile → QueuedFile
swapped_in batch file = if is_in_batch batch file then record file { batch = None } else file

abbrev pub swap_in_step : State → (place : ℕ) → (batch : ℕ) → Connection → Option State
swap_in_step state place batch connection =
    let queue = queue_at state place in
    if option_map_or (λ lowest. lowest == batch) (lowest_batch connection.limits (queue_view queue)) false
    then Some (with_queue state place (map (swapped_in batch) queue)) else None

-- ---- aging

-- the events with numbers past a line
abbrev pub past : (line : ℕ) → List Event → List Event
past line events = filter (λ event. nat_lt line event.number) events

-- a state whose line is raised: events and kin with numbers up to it are gone
abbrev pub aged : State → (line : ℕ) → State
aged state line = record state {
  line = line;
  events = past line state.events;
  kin = retain state.kin (λ kin. nat_lt line kin.2);
}

-- the line stands between two files of events, is higher than before, and no event is forgotten that wasn't told yet
abbrev pub age_step : State → (line : ℕ) → Option State
age_step state line =
    if (line % EVENTS_PER_FILE == 0) && nat_lt state.line line && nat_le line state.last_event
    then Some (aged state line) else None

-- ---- all steps

abbrev pub same_world : World → Option State → Option Machine
same_world world state = option_map (λ state. record { state = state; world = world }) state

abbrev pub step : Flow → Machine → Step → Option Machine
step flow machine (entry.Session processor numbers moment given) =
    option_and_then (session_step flow machine processor numbers moment given) (slice_get flow.processors processor)
step flow machine (Expire connection numbers moment) =
    same_world machine.world
    (option_and_then (expire_step machine.state connection numbers moment) (slice_get flow.connections connection))
step flow machine (SwapOut connection numbers batch) =
    same_world machine.world
    (option_and_then (swap_out_step machine.state connection numbers batch) (slice_get flow.connections connection))
step flow machine (SwapIn connection batch) =
    same_world machine.world
    (option_and_then (swap_in_step machine.state connection batch) (slice_get flow.connections connection))
step flow machine (Age line) = same_world machine.world (age_step machine.state line)

-- one step after the other
abbrev pub replay : Flow → Machine → List Step → Option Machine
replay flow machine [] = Some machine
replay flow machine (first ∷ steps) = option_and_then (λ after. replay flow after steps) (step flow machine first)
