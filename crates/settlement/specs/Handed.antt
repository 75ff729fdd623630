-- What is handed in, and the machine's session that it stands for.
use Rattle.std.specs.Prelude.{◌≡◌, ◌≢◌, ℕ, ◌+◌, ◌<◌, ◌≤◌, ◌^◌, List, [], ◌∷◌, map, length, All, Contains, IfSome, Some, slice_get}
use Rattle.std.specs.List.{AllPairs}
use Rattle.sha2.specs.Sha256.{sha256}
use Rattle.flowfile_record.specs.Outcome.{IsOutcome}
use Rattle.flowfile_record.specs.declared.content.ContentRef.{ContentRef}
use Rattle.flowfile_record.specs.declared.flow_file.FlowFile.{FlowFile}
use Rattle.flowfile_record.specs.declared.limits.TheConstants.{NUMBER_LIMIT}
use Rattle.process_session.specs.declared.file.Source.{Source}
use Rattle.machine_model.specs.declared.flow.Flow.{Flow}
use Rattle.machine_model.specs.declared.flow.Processor.{Processor}
use Rattle.machine_model.specs.declared.given.Given.{Given}
use Rattle.machine_model.specs.Changing.{queued_file}
use Rattle.machine_model.specs.Files.{queue_at}
use Rattle.machine_model.specs.Placing.{EndedSession}
use Rattle.machine_model.specs.State.{State}
use Rattle.machine_model.specs.Valid.{IsValid}
use Rattle.settlement.specs.Contents.{IsBodyWithin}
use Rattle.settlement.specs.declared.counters.Counters.{Counters}
use Rattle.settlement.specs.declared.handed.Ended.{Ended}

-- ---- what a settlement asks for

abbrev pub content_sizes : List FlowFile → List ℕ
content_sizes taken = map (λ file. file.content.size) taken

-- The processor is one of the flow, whose connections have places of 16 bits. The contents of the taken files end within
-- 64 bits. The outcome is one over these files, and parts are of contents that were read. The counters are numbers of a
-- state.
pub record MaySettle (flow : Flow) (counters : Counters) (ended : Ended) : Type 0 where
  pub processor : ended.processor < length flow.processors
  pub connections : length flow.connections ≤ 2 ^ 16
  pub ends : All (λ file. file.content.offset + file.content.size < 2 ^ 64) ended.taken
  pub relationships : ℕ
  pub outcome : IsOutcome relationships (content_sizes ended.taken) ended.outcome
  pub parts : All (λ file. IsBodyWithin ended.sources file.body) ended.outcome.files
  pub next_number : counters.next_number < NUMBER_LIMIT
  pub next_arrival : counters.next_arrival < NUMBER_LIMIT
  pub last_event : counters.last_event < NUMBER_LIMIT

-- ---- the session that it stands for, where references stand for these bytes

abbrev pub ended_session : Flow → Given → Ended → Processor → (bytes : ContentRef → List ℕ) → State → EndedSession
ended_session flow given ended processor bytes state = record {
  flow = flow;
  place = ended.processor;
  processor = processor;
  state = state;
  taken = map (queued_file bytes) ended.taken;
  given = given;
}

-- a reference has the size and the digest of the bytes that it stands for, and what was read are these bytes
pub record IsReadSource (bytes : ContentRef → List ℕ) (file : FlowFile) (source : Source) : Type 0 where
  pub size : file.content.size ≡ length (bytes file.content)
  pub digest : file.content.digest ≡ sha256 (bytes file.content)
  pub read : IfSome source.bytes (λ read. read ≡ bytes file.content)

-- each taken file has its source
abbrev pub AreReadSources : (bytes : ContentRef → List ℕ) → List FlowFile → List Source → Type 0
AreReadSources bytes [] [] = Unit {0}
AreReadSources bytes (file ∷ files) (source ∷ sources) = IsReadSource bytes file source
    × AreReadSources bytes files sources
AreReadSources bytes _ _ = ⊥

-- The session is one of a valid state with these counters, and the taken files are files of one of its queues, each
-- another one.
pub record SessionIsHanded (flow : Flow) (counters : Counters) (ended : Ended) (processor : Processor)
    (bytes : ContentRef → List ℕ) (state : State) : Type 0 where
  pub found : slice_get flow.processors ended.processor ≡ Some processor
  pub valid : IsValid flow state
  pub store : state.store ≡ counters.store
  pub next_number : state.next_number ≡ counters.next_number
  pub next_arrival : state.next_arrival ≡ counters.next_arrival
  pub last_event : state.last_event ≡ counters.last_event
  pub there : All (Contains (queue_at state ended.connection)) (map (queued_file bytes) ended.taken)
  pub differ : AllPairs (λ one other. one.number ≢ other.number) ended.taken
