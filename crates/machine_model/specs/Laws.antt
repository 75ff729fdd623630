-- What holds of the machine: of the order of queues, of outcomes, of numbers, of events and of replays.
use Rattle.std.specs.Prelude.{map, ◌≡◌, ◌≢◌, ◌⊎◌, ◌↔◌, ℕ, ◌+◌, ◌^◌, ◌<◌, ◌≤◌, nat_lt, Bool, true, false, List, [], ◌∷◌, ◌++◌, All, Contains, MatchOption, IfSome, IsSome, not, filter, if◌then◌else◌, option_and_then, slice_get, slice_index, length, Option, Some}
use Rattle.std.specs.FinSet.{contains}
use Rattle.std.specs.List.{AllPairs, enumerate_from, flat_map, list_all, range_with_len}
use Rattle.std.specs.Str.{IsUtf8}
use Rattle.std.specs.Option.{option_map_or}
use Rattle.std.specs.List.Sorted.{IsPermutation}
use Rattle.flowfile_record.specs.Attributes.{IsWithinLimits}
use Rattle.flowfile_record.specs.Name.{IsName}
use Rattle.flowfile_record.specs.Outcome.{AreInTurn, IsOutcome}
use Rattle.flowfile_record.specs.declared.TheConstants.{CONTENT_MAX}
use Rattle.flowfile_record.specs.declared.limits.TheConstants.{TAKEN_MAX}
use Rattle.flowfile_record.specs.declared.event.Event.{Event}
use Rattle.flowfile_record.specs.declared.worked.Outcome.{Outcome}
use Rattle.prioritizer.specs.declared.prioritizer.Prioritizer.{Prioritizer}
use Rattle.machine_model.specs.declared.flow.Connection.{Connection}
use Rattle.machine_model.specs.declared.flow.Flow.{Flow}
use Rattle.machine_model.specs.declared.flow.QueueLimits.{QueueLimits}
use Rattle.machine_model.specs.declared.given.Given.{Given}
use Rattle.machine_model.specs.declared.journal.Step.{Step}
use Rattle.machine_model.specs.declared.journal.Step.TheVariants.{Expire, SwapOut, SwapIn, Age}
use Rattle.machine_model.specs.declared.journal.Step.TheVariants as entry
use Rattle.machine_model.specs.Due.{numbers_of, due_aging, due_expiry, due_swap_out, due_swap_in}
use Rattle.machine_model.specs.Files.{active_views, content_bytes, queue_at, queue_view, queues_of, view_of}
use Rattle.machine_model.specs.declared.kind.Kind.{Kind}
use Rattle.machine_model.specs.declared.kind.Kind.TheVariants.{GetFile, UpdateAttribute, AttributesToJson, ExtractText}
use Rattle.machine_model.specs.declared.kind.TakeRule.{TakeRule}
use Rattle.machine_model.specs.declared.kind.TakeRule.TheVariants.{Source, One, Bin, Defragment}
use Rattle.machine_model.specs.State.{QueuedFile, State, World, Machine}
use Rattle.machine_model.specs.Acting.{act}
use Rattle.machine_model.specs.Making.{TakenFile}
use Rattle.machine_model.specs.Kinds.{take_rule_of, relationships_of, is_among}
use Rattle.machine_model.specs.Lineage.{Lineage, IsLineage}
use Rattle.machine_model.specs.Order.{goes_before, in_order, is_eligible, eligible_files, best}
use Rattle.machine_model.specs.Placing.{EndedSession, settled_files, settlement_clones}
use Rattle.machine_model.specs.Sound.{IsSoundKind}
use Rattle.machine_model.specs.Settling.{kin_of_files, settle}
use Rattle.machine_model.specs.View.{file_count, byte_count, FileView}
use Rattle.machine_model.specs.Valid.{files_of_all, IsWellNumbered, AreEventsInRow, EventsTellKin, IsValid, new_state}
use Rattle.machine_model.specs.Stepping.{has_all, past, source_of, taken_files, step, replay}
use Rattle.machine_model.specs.Taking.{picks}

-- ---- the order of a queue

-- no file goes before itself, and what goes before a file goes before all that the file goes before
abbrev pub NoneGoesBeforeItself : Type 0
NoneGoesBeforeItself = (order : List Prioritizer) (file : FileView) → goes_before order file file ≡ false

abbrev pub GoingBeforeChains : Type 0
GoingBeforeChains = (order : List Prioritizer) (a b c : FileView) → goes_before order a b ≡ true →
    goes_before order b c ≡ true → goes_before order a c ≡ true

-- of two files whose arrivals differ one goes before the other
abbrev pub ArrivalsTell : Type 0
ArrivalsTell = (order : List Prioritizer) (a b : FileView) → a.arrival ≢ b.arrival →
    (goes_before order a b ≡ true) ⊎ (goes_before order b a ≡ true)

-- the same files, of which none goes before an earlier one
abbrev pub OrderKeepsFiles : Type 0
OrderKeepsFiles = (order : List Prioritizer) (files : List FileView) → IsPermutation files (in_order order files)

abbrev pub OrderHolds : Type 0
OrderHolds = (order : List Prioritizer) (files : List FileView) →
    AllPairs (λ earlier later. goes_before order later earlier ≡ false) (in_order order files)

-- where no two have one arrival, no other list has the same files with none behind one that it goes before
abbrev pub ArrivalsDiffer : List FileView → Type 0
ArrivalsDiffer files = AllPairs (λ one other. one.arrival ≢ other.arrival) files

abbrev pub OrderIsOnly : Type 0
OrderIsOnly = (order : List Prioritizer) (files sorted : List FileView) → ArrivalsDiffer files →
    IsPermutation files sorted
    → AllPairs (λ earlier later. goes_before order later earlier ≡ false) sorted → sorted ≡ in_order order files

-- the file is an eligible one of these files, and no eligible one goes before it
pub record IsBest (order : List Prioritizer) (limits : QueueLimits) (moment : ℕ) (files : List FileView)
    (file : FileView) : Type 0 where
  pub stands_there : Contains files file
  pub eligible : is_eligible limits moment file ≡ true
  pub first : All (λ other. is_eligible limits moment other ≡ true → goes_before order other file ≡ false) files

-- there is a best file exactly where any is eligible
abbrev pub BestIsBest : Type 0
BestIsBest = (order : List Prioritizer) (limits : QueueLimits) (moment : ℕ) (files : List FileView) →
    MatchOption (best order limits moment files) (All (λ file. is_eligible limits moment file ≡ false) files)
    (IsBest order limits moment files)

-- where no two have one arrival, no other is that good
abbrev pub BestIsOnly : Type 0
BestIsOnly = (order : List Prioritizer) (limits : QueueLimits) (moment : ℕ) (files : List FileView) (file : FileView)
    → ArrivalsDiffer files
    → IsBest order limits moment files file → best order limits moment files ≡ Some file

-- ---- how a queue is seen: with all of its files and bytes, the swapped ones by their batches

abbrev pub ViewsCountAll : Type 0
ViewsCountAll = (files : List QueuedFile) →
    (file_count (queue_view files) ≡ length files) × (byte_count (queue_view files) ≡ content_bytes files)

-- ---- replays

abbrev pub ReplayOfOneMore : Type 0
ReplayOfOneMore = (flow : Flow) (machine : Machine) (steps : List Step) (last : Step) →
    replay flow machine (steps ++ last ∷ [])
    ≡ option_and_then (λ after. step flow after last) (replay flow machine steps)

abbrev pub ReplayOfJoined : Type 0
ReplayOfJoined = (flow : Flow) (machine : Machine) (front back : List Step) →
    replay flow machine (front ++ back) ≡ option_and_then (λ after. replay flow after back) (replay flow machine front)

-- ---- outcomes

-- a rule takes so many files
abbrev pub MayTake : TakeRule → (count : ℕ) → Type 0
MayTake Source count = count ≡ 0
MayTake One count = count ≡ 1
MayTake (Bin min max) count = (1 ≤ count) × (count ≤ max)
MayTake Defragment count = (1 ≤ count) × (count ≤ TAKEN_MAX)

-- a session ends all files that it took, each once and in turn, and then some that it made
abbrev pub EndsAllInTurn : (count : ℕ) → Outcome → Type 0
EndsAllInTurn count outcome = AreInTurn 0 count outcome.files

abbrev pub ActsEndAllInTurn : Type 0
ActsEndAllInTurn = (kind : Kind) (taken : List TakenFile) (given : Given) → MayTake (take_rule_of kind) (length taken) →
    IfSome (act kind taken given) (EndsAllInTurn (length taken))

-- the names of attributes that a processor's properties have
abbrev pub names_in : Kind → List (List ℕ)
names_in (UpdateAttribute own) = map (λ property. property.name) own
names_in (AttributesToJson destination names) = names
names_in (ExtractText own) = map (λ property. property.name) own
names_in _ = []

-- What a sound processor may be handed: as many files as its rule takes, each within the limits of flow files; an
-- index of 64 bits; the name of a file of the inbox, and bytes that a content may have. Names and uuids are texts.
pub record MayBeHanded (kind : Kind) (taken : List TakenFile) (given : Given) : Type 0 where
  pub sound : IsSoundKind kind
  pub count : MayTake (take_rule_of kind) (length taken)
  pub contents : All (λ file. length file.bytes ≤ CONTENT_MAX) taken
  pub attributes : All (λ file. IsWithinLimits file.attributes) taken
  pub index : given.index < 2 ^ 64
  pub name : IfSome given.file IsName
  pub bytes : IfSome given.bytes (λ bytes. length bytes ≤ CONTENT_MAX)
  pub names : All IsUtf8 (names_in kind)
  pub uuids : All (λ file. IsUtf8 file.uuid) taken

-- the outcome is one of a session with the processor's relationships, over the contents that were taken
abbrev pub ActsGiveOutcomes : Type 0
ActsGiveOutcomes = (kind : Kind) (taken : List TakenFile) (given : Given) → MayBeHanded kind taken given →
    IfSome (act kind taken given) (IsOutcome (length (relationships_of kind)) (map (λ file. length file.bytes) taken))

-- ---- numbers and arrivals

-- the files that a session took are files of the queues, each another one
pub record HasTaken (session : EndedSession) : Type 0 where
  pub differ : AllPairs (λ (one other : QueuedFile). one.number ≢ other.number) session.taken
  pub there : All (Contains (files_of_all session.state)) session.taken

abbrev pub SettlingKeepsNumbers : Type 0
SettlingKeepsNumbers = (session : EndedSession) (outcome : Outcome) → IsWellNumbered session.state →
    HasTaken session → EndsAllInTurn (length session.taken) outcome →
    IsWellNumbered (settle session outcome)

abbrev pub StepsKeepNumbers : Type 0
StepsKeepNumbers = (flow : Flow) (machine : Machine) (one : Step) → IsWellNumbered machine.state →
    IfSome (step flow machine one) (λ after. IsWellNumbered after.state)

abbrev pub ReplaysKeepNumbers : Type 0
ReplaysKeepNumbers = (flow : Flow) (machine : Machine) (steps : List Step) → IsWellNumbered machine.state →
    IfSome (replay flow machine steps) (λ after. IsWellNumbered after.state)

-- ---- events

abbrev pub SettlingNumbersEvents : Type 0
SettlingNumbersEvents = (session : EndedSession) (outcome : Outcome) → AreEventsInRow session.state →
    AreEventsInRow (settle session outcome)

abbrev pub StepsNumberEvents : Type 0
StepsNumberEvents = (flow : Flow) (machine : Machine) (one : Step) → AreEventsInRow machine.state →
    IfSome (step flow machine one) (λ after. AreEventsInRow after.state)

abbrev pub ReplaysNumberEvents : Type 0
ReplaysNumberEvents = (flow : Flow) (machine : Machine) (steps : List Step) → AreEventsInRow machine.state →
    IfSome (replay flow machine steps) (λ after. AreEventsInRow after.state)

-- the events that are left where the line is raised from one number to another, and all where it stays
abbrev pub left_past : (from to : ℕ) → List Event → List Event
left_past from to events = if nat_lt from to then past to events else events

-- These events are added behind those that there are, numbered on from the last one. None is changed, and those are
-- left that are past the line.
pub record AddsEvents (before after : State) (more : List Event) : Type 0 where
  pub line : before.line ≤ after.line
  pub numbers : map (λ event. event.number) more ≡ range_with_len (before.last_event + 1) (length more)
  pub last_event : after.last_event ≡ before.last_event + length more
  pub events : after.events ≡ left_past before.line after.line (before.events ++ more)

abbrev pub ReplaysAddEvents : Type 0
ReplaysAddEvents = (flow : Flow) (machine : Machine) (steps : List Step) →
    IfSome (replay flow machine steps) (λ after. (more : List Event) × AddsEvents machine.state after.state more)

abbrev pub is_aging : Step → Bool
is_aging (Age line) = true
is_aging _ = false

-- no other step moves the line
abbrev pub ReplaysKeepLine : Type 0
ReplaysKeepLine = (flow : Flow) (machine : Machine) (steps : List Step) →
    list_all (λ one. not (is_aging one)) steps ≡ true
    → IfSome (replay flow machine steps) (λ after. after.state.line ≡ machine.state.line)

-- ---- kin

-- by some event one file came from another
abbrev pub IsChildOf : State → (child parent : ℕ) → Type 0
IsChildOf state child parent = (event : ℕ) × (contains state.kin (child, parent, event) ≡ true)

-- a session adds the kin of its files
abbrev pub SettlingAddsKin : Type 0
SettlingAddsKin = (session : EndedSession) (outcome : Outcome) → EndsAllInTurn (length session.taken) outcome →
    (child parent : ℕ)
    → IsChildOf (settle session outcome) child parent
    ↔ (IsChildOf session.state child parent
    ⊎ Contains (kin_of_files (settled_files session outcome.files) (settlement_clones session outcome.files))
    (child, parent))

abbrev pub SettlingTellsKin : Type 0
SettlingTellsKin = (session : EndedSession) (outcome : Outcome) → EventsTellKin session.state →
    EventsTellKin (settle session outcome)

abbrev pub StepsTellKin : Type 0
StepsTellKin = (flow : Flow) (machine : Machine) (one : Step) → EventsTellKin machine.state →
    IfSome (step flow machine one) (λ after. EventsTellKin after.state)

abbrev pub ReplaysTellKin : Type 0
ReplaysTellKin = (flow : Flow) (machine : Machine) (steps : List Step) → EventsTellKin machine.state →
    IfSome (replay flow machine steps) (λ after. EventsTellKin after.state)

-- ---- valid states

abbrev pub NewStatesAreValid : Type 0
NewStatesAreValid = (flow : Flow) (lot : ℕ) → IsValid flow (new_state flow lot)

abbrev pub StepsStayValid : Type 0
StepsStayValid = (flow : Flow) (machine : Machine) (one : Step) → IsValid flow machine.state →
    IfSome (step flow machine one) (λ after. IsValid flow after.state)

abbrev pub ReplaysStayValid : Type 0
ReplaysStayValid = (flow : Flow) (machine : Machine) (steps : List Step) → IsValid flow machine.state →
    IfSome (replay flow machine steps) (λ after. IsValid flow after.state)

-- ---- what goes on, and what stays

-- neither the line nor a counter is lower, and the store is the same
pub record GoesOn (before after : State) : Type 0 where
  pub store : after.store ≡ before.store
  pub line : before.line ≤ after.line
  pub next_number : before.next_number ≤ after.next_number
  pub next_arrival : before.next_arrival ≤ after.next_arrival
  pub next_batch : before.next_batch ≤ after.next_batch
  pub last_event : before.last_event ≤ after.last_event
  pub counts : (place : ℕ) → slice_index before.counts place ≤ slice_index after.counts place

abbrev pub StepsGoOn : Type 0
StepsGoOn = (flow : Flow) (machine : Machine) (one : Step) →
    IfSome (step flow machine one) (λ after. GoesOn machine.state after.state)

abbrev pub ReplaysGoOn : Type 0
ReplaysGoOn = (flow : Flow) (machine : Machine) (steps : List Step) →
    IfSome (replay flow machine steps) (λ after. GoesOn machine.state after.state)

-- the name of the inbox's file that a session received
abbrev pub received_name : Kind → Option (List ℕ) → List (List ℕ)
received_name (GetFile filter) (Some name) = name ∷ []
received_name _ _ = []

abbrev pub names_of_step : Flow → Step → List (List ℕ)
names_of_step flow (entry.Session processor numbers moment given) =
    option_map_or (λ found. received_name found.kind given.file) (slice_get flow.processors processor) []
names_of_step flow _ = []

-- the names that the sessions of GetFile took
abbrev pub names_taken : Flow → List Step → List (List ℕ)
names_taken flow steps = flat_map (names_of_step flow) steps

-- the inbox is the same, and of the names that were left those are gone that were taken
pub record LosesNames (taken : List (List ℕ)) (before after : World) : Type 0 where
  pub inbox : after.inbox ≡ before.inbox
  pub left : after.left ≡ filter (λ name. not (is_among name taken)) before.left

abbrev pub StepsLoseNames : Type 0
StepsLoseNames = (flow : Flow) (machine : Machine) (one : Step) →
    IfSome (step flow machine one) (λ after. LosesNames (names_of_step flow one) machine.world after.world)

abbrev pub ReplaysLoseNames : Type 0
ReplaysLoseNames = (flow : Flow) (machine : Machine) (steps : List Step) →
    IfSome (replay flow machine steps) (λ after. LosesNames (names_taken flow steps) machine.world after.world)

-- ---- what a session takes

-- of the connections that end at a processor one alone has a file of some active, and so all
abbrev pub OneConnectionHas : Type 0
OneConnectionHas = (flow : Flow) (state : State) (processor number : ℕ) (numbers : List ℕ)
    (source : ℕ × Connection) → IsValid flow state
    → Contains (enumerate_from 0 flow.connections) source →
    has_all state processor (number ∷ numbers) source ≡ true →
    source_of flow state processor (number ∷ numbers) ≡ Some source

-- a session of a processor may take these files: those that its connection has under their numbers
pub record IsTaking (flow : Flow) (state : State) (processor : ℕ) (rule : TakeRule) (moment : ℕ)
    (picked : List FileView) : Type 0 where
  pub files : List QueuedFile
  pub taken : taken_files flow state processor rule (numbers_of picked) moment ≡ Some files
  pub seen : map view_of files ≡ picked

-- what a rule picks of the eligible files of a connection may be taken by a session of the processor at its end
abbrev pub PicksMayBeTaken : Type 0
PicksMayBeTaken = (flow : Flow) (state : State) (place : ℕ) (connection : Connection) (rule : TakeRule) (moment : ℕ)
    → IsValid flow state
    → slice_get flow.connections place ≡ Some connection
    → IfSome
    (picks rule (eligible_files connection.order connection.limits moment (active_views (queue_at state place))))
    (IsTaking flow state connection.target rule moment)

-- ---- what is due has a step

abbrev pub DueExpiriesHaveSteps : Type 0
DueExpiriesHaveSteps = (flow : Flow) (machine : Machine) (moment : ℕ) → IsValid flow machine.state →
    IfSome (due_expiry flow (queues_of machine.state) moment)
    (λ due. IsSome (step flow machine (Expire due.0 due.1 moment)))

-- as the next batch
abbrev pub DueSwapOutsHaveSteps : Type 0
DueSwapOutsHaveSteps = (flow : Flow) (machine : Machine) → IsValid flow machine.state →
    IfSome (due_swap_out flow (queues_of machine.state))
    (λ due. IsSome (step flow machine (SwapOut due.0 due.1 machine.state.next_batch)))

abbrev pub DueSwapInsHaveSteps : Type 0
DueSwapInsHaveSteps = (flow : Flow) (machine : Machine) →
    IfSome (due_swap_in flow (queues_of machine.state)) (λ due. IsSome (step flow machine (SwapIn due.0 due.1)))

abbrev pub DueAgingsHaveSteps : Type 0
DueAgingsHaveSteps = (flow : Flow) (machine : Machine) (kept : ℕ) →
    IfSome (due_aging kept machine.state.line machine.state.last_event) (λ line. IsSome (step flow machine (Age line)))

-- ---- lineages

abbrev pub LineageIsOnly : Type 0
LineageIsOnly = (events : List Event) (file : ℕ) (one other : Lineage) → IsLineage events file one →
    IsLineage events file other → one ≡ other
