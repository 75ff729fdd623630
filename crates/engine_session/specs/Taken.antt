-- What a session took, it may still take: while other sessions are committed and files expire beside it.
use Rattle.std.specs.Prelude.{◌≡◌, ℕ, ◌+◌, ◌<◌, ◌≤◌, true, false, List, [], map, All, Contains, Option, Some, slice_get, slice_index}
use Rattle.std.specs.List.{list_all}
use Rattle.flowfile_record.specs.Stored.{Kept}
use Rattle.flowfile_record.specs.declared.content.ContentRef.{ContentRef}
use Rattle.flowfile_record.specs.declared.event.Event.{Event}
use Rattle.checkpoint_store.specs.Consistent.{IsConsistent}
use Rattle.kept_state.specs.Fits.{active_of, are_active_in, are_distinct_numbers}
use Rattle.machine_model.specs.declared.flow.Connection.{Connection}
use Rattle.machine_model.specs.declared.flow.Flow.{Flow}
use Rattle.machine_model.specs.declared.flow.Processor.{Processor}
use Rattle.machine_model.specs.declared.kind.Kind.{Kind}
use Rattle.machine_model.specs.declared.kind.Kind.TheVariants.{GetFile, GenerateFlowFile}
use Rattle.machine_model.specs.declared.kind.TakeRule.{TakeRule}
use Rattle.machine_model.specs.Acting.{passes}
use Rattle.machine_model.specs.Kinds.{is_source, take_rule_of}
use Rattle.machine_model.specs.Sound.{IsSound}
use Rattle.machine_model.specs.State.{World}
use Rattle.machine_model.specs.Stepping.{admits, may_be_taken}
use Rattle.flow_queue.specs.Queue.{QueueState}
use Rattle.store_core.specs.Flow.{flow_in}
use Rattle.store_core.specs.State.{state_with}
use Rattle.engine_change.specs.Committing.{AreEventsUpTo, identity_of}
use Rattle.engine_queues.specs.Beside.{is_out}
use Rattle.engine_queues.specs.Listing.{Left, first_passed}
use Rattle.engine_queues.specs.Queues.{AreQueuesOf}
use Rattle.engine_queues.specs.Views.{HaveSizes, view_of_kept}
use Rattle.engine_choice.specs.declared.choice.Choice.{Choice}
use Rattle.engine_choice.specs.declared.choice.Taking.{Taking}
use Rattle.engine_choice.specs.declared.choice.Taking.TheVariants.{Files, Generate, Receive}
use Rattle.engine_choice.specs.Choice.{Known, coming_of, known_by, next_choice}
use Rattle.engine_choice.specs.Laws.{IsSessionAt, numbers_in}
use Rattle.engine_session.specs.Handing.{live_files}

-- ---- what may still be taken

-- The files of these numbers are in a connection that ends at this processor, and each might be taken at this moment, so
-- many and in such an order as the rule admits.
pub record AreStillThere (flow : Flow) (k : Kept) (moment place : ℕ) (rule : TakeRule) (connection : ℕ)
    (numbers : List ℕ) : Type 0 where
  pub from : Connection
  pub there : slice_get flow.connections connection ≡ Some from
  pub ends : from.target ≡ place
  pub active : are_active_in k.files connection numbers ≡ true
  pub distinct : are_distinct_numbers numbers ≡ true
  pub each : list_all (may_be_taken from moment) (map view_of_kept (live_files k numbers)) ≡ true
  pub admitted : admits rule from.order (map view_of_kept (live_files k numbers)) ≡ true

-- a generator's index is at least 1 and at most its count
abbrev pub MayStillMake : Kind → (index : ℕ) → Type 0
MayStillMake (GenerateFlowFile count text) index = (0 < index) × (index ≤ count)
MayStillMake _ index = ⊥

-- a GetFile's filter passes the name
abbrev pub MayStillGet : Kind → (name : List ℕ) → Type 0
MayStillGet (GetFile filter) name = passes filter name ≡ true
MayStillGet _ name = ⊥

-- what a processor of this kind took, it may still take
abbrev pub MayStillTake : Flow → Kept → (moment place : ℕ) → Kind → Taking → Type 0
MayStillTake flow k moment place kind (Files connection numbers) =
    (is_source kind ≡ false) × AreStillThere flow k moment place (take_rule_of kind) connection numbers
MayStillTake flow k moment place kind (Generate index) = MayStillMake kind index
MayStillTake flow k moment place kind (Receive name) = MayStillGet kind name

-- The session of this choice, which was made at this moment, may still be one of the machine: but for the index of a
-- generator, which comes next or not, and the name of a file, which is left or not.
pub record TakesStill (flow : Flow) (k : Kept) (moment : ℕ) (choice : Choice) : Type 0 where
  pub processor : Processor
  pub there : slice_get flow.processors choice.processor ≡ Some processor
  pub takes : MayStillTake flow k moment choice.processor processor.kind choice.taking

-- the index of a generator is the one that comes next
abbrev pub IsNextIndex : (counts : List ℕ) → (place : ℕ) → Taking → Type 0
IsNextIndex counts place (Files connection numbers) = Unit {0}
IsNextIndex counts place (Generate index) = index ≡ slice_index counts place + 1
IsNextIndex counts place (Receive name) = Unit {0}

-- the name of a file is the first that its processor's filter passes
abbrev pub IsFirstName : Kind → (coming : List (List ℕ)) → Taking → Type 0
IsFirstName kind coming (Files connection numbers) = Unit {0}
IsFirstName kind coming (Generate index) = Unit {0}
IsFirstName kind coming (Receive name) = first_passed kind coming ≡ Some name

-- the name of a file is one of those that come
abbrev pub IsAmong : (coming : List (List ℕ)) → Taking → Type 0
IsAmong coming (Files connection numbers) = Unit {0}
IsAmong coming (Generate index) = Unit {0}
IsAmong coming (Receive name) = Contains coming name

-- ---- what is taken

-- What the session takes that comes next: it may take it now, and takes none of the files that sessions in flight took. Its
-- index comes next, its name is the first that its processor's filter passes, and one more session of its processor may
-- be in flight.
pub record IsTakenBy (flow : Flow) (k : Kept) (out : List ℕ) (known : Known) (choice : Choice) : Type 0 where
  pub takes : TakesStill flow k known.moment choice
  pub at_rest : All (λ number. is_out out number ≡ false) (numbers_in choice.taking)
  pub index : IsNextIndex known.counts choice.processor choice.taking
  pub first : (processor : Processor) → slice_get flow.processors choice.processor ≡ Some processor
      → IsFirstName processor.kind known.coming choice.taking
  pub task : (processor : Processor) → slice_get flow.processors choice.processor ≡ Some processor
      → slice_index known.busy choice.processor < processor.tasks

-- the session that comes next, by what is in memory, takes what it may take
abbrev pub ChosenAreTaken : Type 0
ChosenAreTaken =
    (flow : Flow) (k : Kept) (out : List ℕ) (queues : List QueueState) (busy : List ℕ) (listing : Left) (moment : ℕ)
    (last : Option ℕ) (choice : Choice)
    → IsSound flow → IsConsistent k → k.batches ≡ [] → flow_in k ≡ identity_of flow → AreQueuesOf flow k out queues
    → next_choice flow (known_by queues k.counts busy listing moment) last ≡ Some choice
    → IsTakenBy flow k out (known_by queues k.counts busy listing moment) choice

-- it may still take it while its files live as they did
abbrev pub TakenStays : Type 0
TakenStays =
    (flow : Flow) (k after : Kept) (moment : ℕ) (choice : Choice)
    → All (λ number. active_of number after.files ≡ active_of number k.files) (numbers_in choice.taking)
    → TakesStill flow k moment choice → TakesStill flow after moment choice

-- and it is a session of the machine once its index comes next, or while its name is left
abbrev pub TakenAreSessions : Type 0
TakenAreSessions =
    (flow : Flow) (contents : ContentRef → List ℕ) (events : List Event) (k : Kept) (world : World) (moment : ℕ)
    (choice : Choice)
    → IsSound flow → IsConsistent k → k.batches ≡ [] → flow_in k ≡ identity_of flow
    → AreEventsUpTo k.last_event events → HaveSizes contents k → TakesStill flow k moment choice
    → IsNextIndex k.counts choice.processor choice.taking → IsAmong (coming_of world) choice.taking
    → IsSessionAt flow (state_with contents events k) world moment choice
