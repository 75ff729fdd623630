-- What holds of the files that a session takes of what is kept.
use Rattle.std.specs.Prelude.{◌≡◌, ◌≢◌, ℕ, true, List, [], length, map, All, Contains, Option, Some}
use Rattle.std.specs.List.{AllPairs}
use Rattle.flowfile_record.specs.Stored.{Kept}
use Rattle.flowfile_record.specs.declared.content.ContentRef.{ContentRef}
use Rattle.flowfile_record.specs.declared.event.Event.{Event}
use Rattle.flowfile_record.specs.declared.flow_file.FlowFile.{FlowFile}
use Rattle.checkpoint_store.specs.Consistent.{IsConsistent}
use Rattle.kept_state.specs.Fits.{are_active_in, are_distinct_numbers}
use Rattle.machine_model.specs.declared.flow.Flow.{Flow}
use Rattle.machine_model.specs.declared.given.Given.{Given}
use Rattle.machine_model.specs.declared.kind.Kind.{Kind}
use Rattle.machine_model.specs.declared.kind.TakeRule.{TakeRule}
use Rattle.machine_model.specs.Changing.{queued_file}
use Rattle.machine_model.specs.Kinds.{take_rule_of}
use Rattle.machine_model.specs.Laws.{MayTake}
use Rattle.machine_model.specs.Sound.{IsSoundKind}
use Rattle.machine_model.specs.State.{QueuedFile}
use Rattle.machine_model.specs.Stepping.{as_taken, taken_files}
use Rattle.process_session.specs.Bench.{taken_source}
use Rattle.processor_api.specs.Acts.{AreTakenAs, IsGivenTo, MayBeHandedTo}
use Rattle.record_codec.specs.ActiveFile.{active}
use Rattle.settlement.specs.Handed.{AreReadSources}
use Rattle.store_core.specs.Flow.{flow_in}
use Rattle.store_core.specs.State.{state_with}
use Rattle.engine_change.specs.Committing.{AreEventsUpTo, identity_of}
use Rattle.engine_session.specs.Handing.{AreTaken, live_files, taken_with_contents}

-- ---- what a session takes

-- where what is kept is consistent, so many as a rule takes may be handed to a sound processor
abbrev pub TakenFilesMayBeHanded : Type 0
TakenFilesMayBeHanded =
    (k : Kept) (connection : ℕ) (numbers : List ℕ) (bytes : ContentRef → List ℕ) (files : List FlowFile)
    (contents : List (Option (List ℕ))) (kind : Kind) (given : Given)
    → IsConsistent k → AreTaken k connection numbers bytes files contents
    → IsSoundKind kind → MayTake (take_rule_of kind) (length numbers) → IsGivenTo kind given
    → MayBeHandedTo kind (taken_with_contents k.store files contents) given

-- they are handed as the machine hands them
abbrev pub TakenFilesAreTheMachines : Type 0
TakenFilesAreTheMachines =
    (k : Kept) (connection : ℕ) (numbers : List ℕ) (bytes : ContentRef → List ℕ) (files : List FlowFile)
    (contents : List (Option (List ℕ))) (events : List Event)
    → AreTaken k connection numbers bytes files contents
    → AreTakenAs (map (as_taken (state_with bytes events k)) (map (queued_file bytes) files))
    (taken_with_contents k.store files contents)

-- each is another live file of the connection, and what was read are the bytes that its reference stands for
pub record AreThere (k : Kept) (connection : ℕ) (bytes : ContentRef → List ℕ) (files : List FlowFile)
    (contents : List (Option (List ℕ))) : Type 0 where
  pub there : All (λ file. Contains k.files (active connection file)) files
  pub differ : AllPairs (λ one other. one.number ≢ other.number) files
  pub read : AreReadSources bytes files (map taken_source (taken_with_contents k.store files contents))

abbrev pub TakenFilesAreThere : Type 0
TakenFilesAreThere =
    (k : Kept) (connection : ℕ) (numbers : List ℕ) (bytes : ContentRef → List ℕ) (files : List FlowFile)
    (contents : List (Option (List ℕ)))
    → AreTaken k connection numbers bytes files contents
    → AreThere k connection bytes files contents

-- ---- what a session of the machine takes

-- they are the live ones of these numbers, each once, all of one connection
pub record AreLiveFiles (k : Kept) (bytes : ContentRef → List ℕ) (numbers : List ℕ) (files : List QueuedFile) : Type 0
  where
    pub connection : ℕ
    pub active : are_active_in k.files connection numbers ≡ true
    pub distinct : are_distinct_numbers numbers ≡ true
    pub are : files ≡ map (queued_file bytes) (live_files k numbers)

abbrev pub MachinesFilesAreLive : Type 0
MachinesFilesAreLive =
    (flow : Flow) (k : Kept) (bytes : ContentRef → List ℕ) (events : List Event) (place : ℕ) (rule : TakeRule)
    (numbers : List ℕ) (moment : ℕ) (files : List QueuedFile)
    → flow_in k ≡ identity_of flow → IsConsistent k → k.batches ≡ [] → AreEventsUpTo k.last_event events
    → taken_files flow (state_with bytes events k) place rule numbers moment ≡ Some files
    → AreLiveFiles k bytes numbers files
