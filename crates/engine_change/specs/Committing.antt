-- What a session asks of a store that it becomes part of, and what it makes of the store's state.
use Rattle.std.specs.Prelude.{◌≡◌, ◌≢◌, ℕ, ◌+◌, ◌<◌, ◌≤◌, List, length, map, All, Contains, Some, None, slice_get}
use Rattle.std.specs.List.{AllPairs}
use Rattle.std.specs.Str.{IsUtf8}
use Rattle.flowfile_record.specs.Outcome.{IsOutcome}
use Rattle.flowfile_record.specs.Ranges.{HaveRanges}
use Rattle.flowfile_record.specs.Shared.{own_bytes}
use Rattle.flowfile_record.specs.Stored.{Kept}
use Rattle.flowfile_record.specs.declared.change.Settled.{Settled}
use Rattle.flowfile_record.specs.declared.content.ContentRef.{ContentRef}
use Rattle.flowfile_record.specs.declared.event.Event.{Event}
use Rattle.flowfile_record.specs.declared.flow_file.FlowFile.{FlowFile}
use Rattle.flowfile_record.specs.declared.limits.TheConstants.{NUMBER_LIMIT}
use Rattle.flowfile_record.specs.declared.worked.Outcome.{Outcome}
use Rattle.record_codec.specs.ActiveFile.{active}
use Rattle.machine_model.specs.declared.flow.Flow.{Flow}
use Rattle.machine_model.specs.declared.flow.Processor.{Processor}
use Rattle.machine_model.specs.declared.given.Given.{Given}
use Rattle.machine_model.specs.Changing.{HaveDigests, state_after}
use Rattle.machine_model.specs.Placing.{count_made}
use Rattle.machine_model.specs.Settling.{settle}
use Rattle.prov_store.specs.State.{AreNumberedFrom}
use Rattle.settlement.specs.Contents.{IsBodyWithin}
use Rattle.settlement.specs.Handed.{AreReadSources, ended_session, content_sizes}
use Rattle.settlement.specs.TellsOf.{BringsWhatWasWritten}
use Rattle.settlement.specs.declared.handed.Ended.{Ended}
use Rattle.store_core.specs.Flow as store
use Rattle.store_core.specs.State.{state_with}

-- what a store keeps of a flow
abbrev pub identity_of : Flow → store.Flow
identity_of flow = record {
  digest = flow.digest;
  connections = map (λ connection. connection.id) flow.connections;
  processors = length flow.processors;
}

-- The session took files of one connection that are kept, each another one, and its outcome is one over these files,
-- whose parts are of contents that were read. There are bytes that the references of these files stand for, and those
-- that were read are these.
pub record MayCommit (flow : Flow) (given : Given) (k : Kept) (ended : Ended) : Type 0 where
  pub processor : ended.processor < length flow.processors
  pub index : given.index < NUMBER_LIMIT
  pub there : All (λ file. Contains k.files (active ended.connection file)) ended.taken
  pub differ : AllPairs (λ one other. one.number ≢ other.number) ended.taken
  pub relationships : ℕ
  pub outcome : IsOutcome relationships (content_sizes ended.taken) ended.outcome
  pub parts : All (λ file. IsBodyWithin ended.sources file.body) ended.outcome.files
  pub bytes : ContentRef → List ℕ
  pub read : AreReadSources bytes ended.taken ended.sources

-- the settled session is that of the processor at this place, at this moment, and these files, which it took, are gone
pub record TellsOfSession (place at : ℕ) (taken : List FlowFile) (settled : Settled) : Type 0 where
  pub processor : settled.processor ≡ place
  pub moment : settled.moment ≡ at
  pub gone : settled.gone ≡ map (λ file. file.number) taken

-- the events up to a last one, numbered in a row
abbrev pub AreEventsUpTo : (last : ℕ) → List Event → Type 0
AreEventsUpTo last events = (length events ≡ last) × AreNumberedFrom 1 events

-- Whatever bytes references stand for, ranges of contents for ranges of their bytes, where those that were read are
-- these, and whatever the events so far tell: behind what is kept the settled session leaves the state that the machine does.
abbrev pub LeavesState : Flow → Given → Ended → Kept → Settled → Type 0
LeavesState flow given ended k settled =
    (processor : Processor) → slice_get flow.processors ended.processor ≡ Some processor
    → (contents : ContentRef → List ℕ) → HaveRanges contents → AreReadSources contents ended.taken ended.sources
    → (events : List Event) → AreEventsUpTo k.last_event events
    → state_after contents (state_with contents events k) settled
    ≡ settle (ended_session flow given ended processor contents (state_with contents events k)) ended.outcome

-- Where they stand for such bytes, each placed content that is in the store has the digest of its bytes.
abbrev pub LeavesDigests : Ended → Settled → Type 0
LeavesDigests ended settled =
    (contents : ContentRef → List ℕ) → HaveRanges contents → AreReadSources contents ended.taken ended.sources
    → HaveDigests contents settled.placed

-- It brings anew only what its processor wrote: no content that was taken, nor a part of one. A clone, whose number stands
-- behind those of the made files, shares what its original brings.
pub record BringsWritten (next_number : ℕ) (outcome : Outcome) (settled : Settled) : Type 0 where
  pub written : All (BringsWhatWasWritten outcome) settled.placed
  pub clones : All (λ placed. (Contains settled.gone placed.file.number → ⊥)
      → next_number + count_made outcome.files ≤ placed.file.number → own_bytes placed.fresh ≡ None) settled.placed

-- ---- of each event that is settled

-- its texts are UTF-8
pub record HasTexts (e : Event) : Type 0 where
  pub component : IsUtf8 e.component
  pub detail : IsUtf8 e.detail
