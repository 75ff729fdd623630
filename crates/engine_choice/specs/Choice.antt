-- Which session comes next.
use Rattle.std.specs.Prelude.{◌≡◌, ℕ, ◌+◌, ◌≤◌, ◌&&◌, ◌||◌, not, nat_lt, nat_le, Bool, false, List, [], length, filter, take, drop, ◌++◌, find, Option, None, Some, is_some, option_map, option_and_then, slice_get, slice_index, if◌then◌else◌}
use Rattle.std.specs.List.{enumerate_from, flat_map}
use Rattle.std.specs.Option.{option_map_or}
use Rattle.flowfile_record.specs.NamedFile.{bytes_of}
use Rattle.flowfile_record.specs.declared.TheConstants.{CONTENT_MAX}
use Rattle.machine_model.specs.declared.limits.TheConstants.{CONNECTIONS_MAX, PROCESSORS_MAX}
use Rattle.machine_model.specs.declared.flow.Flow.{Flow}
use Rattle.machine_model.specs.declared.flow.Processor.{Processor}
use Rattle.machine_model.specs.declared.kind.Kind.{Kind}
use Rattle.machine_model.specs.declared.kind.Kind.TheVariants.{GetFile, GenerateFlowFile}
use Rattle.machine_model.specs.Acting.{passes}
use Rattle.machine_model.specs.Files.{queues_of}
use Rattle.machine_model.specs.Kinds.{is_source}
use Rattle.machine_model.specs.Quiet.{is_held_back, holds_back_any}
use Rattle.machine_model.specs.State.{State, World}
use Rattle.machine_model.specs.View.{QueueView}
use Rattle.flow_queue.specs.Queue.{QueueState, next_penalty_end}
use Rattle.engine_queues.specs.Picking.{AreOf, first_pick}
use Rattle.engine_queues.specs.Listing.{Left, names_left}
use Rattle.engine_queues.specs.Queues.{queue_seen}
use Rattle.engine_queues.specs.Waiting.{files_wait_for}
use Rattle.engine_choice.specs.declared.choice.Choice.{Choice}
use Rattle.engine_choice.specs.declared.choice.Ending.{Ending}
use Rattle.engine_choice.specs.declared.choice.Ending.TheVariants.{Rest, Blocked, Quiet}
use Rattle.engine_choice.specs.declared.choice.Taking.{Taking}
use Rattle.engine_choice.specs.declared.choice.Taking.TheVariants.{Files, Generate, Receive}

-- What the choice goes by: how the queues are seen, how many files each generator has made, how many sessions of each
-- processor are in flight, the names that come, and the moment.
pub record Known : Type 0 where
  pub queues : ℕ → QueueView
  pub counts : List ℕ
  pub busy : List ℕ
  pub coming : List (List ℕ)
  pub moment : ℕ

-- .. as it is in memory
abbrev pub known_by : List QueueState → (counts busy : List ℕ) → Left → (moment : ℕ) → Known
known_by queues counts busy listing moment = record {
  queues = queue_seen queues;
  counts = counts;
  busy = busy;
  coming = names_left listing;
  moment = moment;
}

-- the file of the inbox is no longer than any content
abbrev pub fits_content : World → List ℕ → Bool
fits_content world name = option_map_or (λ bytes. nat_le (length bytes) CONTENT_MAX) (bytes_of world.inbox name) false

-- the names that are left and whose files fit a content
abbrev pub coming_of : World → List (List ℕ)
coming_of world = filter (fits_content world) world.left

-- what is known where no session is in flight
abbrev pub known_alone : (ℕ → QueueView) → (counts : List ℕ) → (coming : List (List ℕ)) → (moment : ℕ) → Known
known_alone queues counts coming moment =
    record { queues = queues; counts = counts; busy = []; coming = coming; moment = moment }

-- .. of a machine
abbrev pub known_of : State → World → (moment : ℕ) → Known
known_of state world moment = known_alone (queues_of state) state.counts (coming_of world) moment

-- What a session takes, by the kind of its processor: a GetFile the first name that comes and that its filter passes, a
-- generator the next index while fewer are made, or about to be, than its count, another one what is picked for it.
abbrev pub taking_by : Kind → (coming : List (List ℕ)) → (made busy : ℕ) → (pick : Option (ℕ × List ℕ)) → Option Taking
taking_by (GetFile filter) coming made busy pick = option_map (λ name. Receive name) (find (passes filter) coming)
taking_by (GenerateFlowFile count text) coming made busy pick =
    if nat_lt (made + busy) count then Some (Generate (made + 1)) else None
taking_by _ coming made busy pick = option_map (λ files. Files files.0 files.1) pick

abbrev pub taking_of : Flow → Known → ℕ × Processor → Option Taking
taking_of flow known (place, processor) =
    taking_by processor.kind known.coming (slice_index known.counts place) (slice_index known.busy place)
    (first_pick flow known.queues known.moment (place, processor))

-- The choice is what its processor takes, whether another session comes before it or not.
pub record ProcessorTakes (flow : Flow) (known : Known) (choice : Choice) : Type 0 where
  pub processor : Processor
  pub there : slice_get flow.processors choice.processor ≡ Some processor
  pub taking : taking_of flow known (choice.processor, processor) ≡ Some choice.taking

-- files wait for the processor, or it is a source: any other one has nothing to take
abbrev pub may_take : Flow → (ℕ → QueueView) → ℕ × Processor → Bool
may_take flow queues (place, processor) = files_wait_for flow queues place || is_source processor.kind

-- fewer sessions of the processor are in flight than it may have, and no full connection leaves it
abbrev pub may_begin : Flow → Known → ℕ × Processor → Bool
may_begin flow known (place, processor) =
    nat_lt (slice_index known.busy place) processor.tasks && not (is_held_back flow known.queues (place, processor))

-- the processor has something to take, and may begin
abbrev pub is_ready : Flow → Known → ℕ × Processor → Bool
is_ready flow known processor = is_some (taking_of flow known processor) && may_begin flow known processor

abbrev pub choice_at : (place : ℕ) → Taking → Choice
choice_at place taking = record { processor = place; taking = taking }

-- the session of a processor that is ready
abbrev pub choice_of : Flow → Known → ℕ × Processor → Option Choice
choice_of flow known (place, processor) =
    if may_begin flow known (place, processor)
    then option_map (choice_at place) (taking_of flow known (place, processor)) else None

-- the place behind the processor that got the last job, or the first one
abbrev pub place_behind : Option ℕ → ℕ
place_behind None = 0
place_behind (Some last) = last + 1

-- the same among so many
abbrev pub place_within : (count : ℕ) → (last : Option ℕ) → ℕ
place_within count None = 0
place_within count (Some last) = if nat_lt last count then last + 1 else 0

-- from a place on, and then from the first one on
abbrev pub from_place : {X : Type 0} → ℕ → List X → List X
from_place place xs = drop place xs ++ take place xs

abbrev pub in_turn : {X : Type 0} → (last : Option ℕ) → List X → List X
in_turn last xs = from_place (place_behind last) xs

-- the session of the first processor in turn that is ready
abbrev pub next_choice : Flow → Known → (last : Option ℕ) → Option Choice
next_choice flow known last =
    option_and_then (choice_of flow known)
    (find (is_ready flow known) (in_turn last (enumerate_from 0 flow.processors)))

-- What is asked of what is in memory: a queue for each connection and a count for each processor, and names for the
-- processors of the flow.
pub record MayChoose (flow : Flow) (held : List QueueState) (made : List ℕ) (left : Left) : Type 0 where
  pub queues : AreOf flow held
  pub connections : length flow.connections ≤ CONNECTIONS_MAX
  pub processors : length flow.processors ≤ PROCESSORS_MAX
  pub counts : length made ≡ length flow.processors
  pub listing : left.flow ≡ flow

-- ---- where no session comes

-- the processors that have something to take
abbrev pub takers : Flow → Known → List (ℕ × Processor)
takers flow known =
    filter (λ processor. is_some (taking_of flow known processor)) (enumerate_from 0 flow.processors)

-- the first full connection that leaves such a processor
abbrev pub first_blocking : Flow → Known → Option ℕ
first_blocking flow known =
    option_map (λ c. c.0)
    (find (holds_back_any known.queues (takers flow known)) (enumerate_from 0 flow.connections))

-- when the first penalty of a file ends that hasn't ended by a moment
abbrev pub first_penalty_end : Flow → (ℕ → QueueView) → (moment : ℕ) → Option ℕ
first_penalty_end flow queues moment =
    next_penalty_end moment (flat_map (λ c. (queues c.0).active) (enumerate_from 0 flow.connections))

abbrev pub ending_by : (rest blocked : Option ℕ) → Ending
ending_by (Some until) blocked = Rest until
ending_by None (Some connection) = Blocked connection
ending_by None None = Quiet

-- how it ends where no session comes: with a rest until a penalty ends, blocked, or quiet
abbrev pub ending_of : Flow → Known → Ending
ending_of flow known =
    ending_by (first_penalty_end flow known.queues known.moment) (first_blocking flow known)
