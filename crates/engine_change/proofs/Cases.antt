-- The settled session of what a store keeps, and that it is one of the state which this stands for.
use Rattle.std.proofs.Common.{◌≡◌, ℕ, ◌+◌, ◌-◌, ◌^◌, ◌<◌, ◌≤◌, ◌==◌, List, [], ◌∷◌, length, take, drop, zero, suc, refl, sym, ap, subst, ◌∙◌, arith}
use Rattle.std.specs.Prelude.{All, Contains, Some, slice_get, unwrap_or}
use Rattle.std.specs.List.{flat_map}
use Rattle.std.proofs.lemmas.List.{length-map}
use Rattle.std.proofs.lemmas.List.Elements.{All-contains, All-map, All-weaker, Contains-append_left, Contains-append_right}
use Rattle.flowfile_record.specs.Outcome.{AreInTurn}
use Rattle.flowfile_record.specs.Ranges.{HaveRanges}
use Rattle.flowfile_record.specs.Stored.{Kept}
use Rattle.flowfile_record.specs.declared.change.Settled.{Settled}
use Rattle.flowfile_record.specs.declared.content.ContentRef.{ContentRef}
use Rattle.flowfile_record.specs.declared.event.Event.{Event}
use Rattle.flowfile_record.specs.declared.flow_file.FlowFile.{FlowFile}
use Rattle.flowfile_record.specs.declared.name.TheConstants.{NAME_MAX}
use Rattle.record_codec.specs.ActiveFile.{active}
use Rattle.record_codec.specs.declared.entry.SessionEntry.{SessionEntry}
use Rattle.checkpoint_store.specs.Consistent.{IsConsistent, IsFileIn}
use Rattle.kept_state.specs.Changes.{entry_of_session as session_entry}
use Rattle.machine_model.specs.declared.flow.Connection.{Connection}
use Rattle.machine_model.specs.declared.flow.Flow.{Flow}
use Rattle.machine_model.specs.declared.flow.Processor.{Processor}
use Rattle.machine_model.specs.declared.given.Given.{Given}
use Rattle.machine_model.specs.Changing.{state_after}
use Rattle.machine_model.specs.Files.{queue_at}
use Rattle.machine_model.specs.Placing.{EndedSession}
use Rattle.machine_model.specs.Settling.{settle}
use Rattle.machine_model.specs.Sound.{IsSound}
use Rattle.machine_model.specs.State.{QueuedFile, State}
use Rattle.machine_model.specs.Valid.{IsWellNumbered, files_of_all}
use Rattle.machine_model.proofs.Keyed.{differ_from_once, once_from_differ}
use Rattle.machine_model.proofs.SettlingKeeps.{settle-keeps}
use Rattle.machine_model.proofs.Tally.{bit, tally-map}
use Rattle.settlement.specs.Handed.{SessionIsHanded, MaySettle, ended_session}
use Rattle.settlement.specs.Recording.{RecordsAll}
use Rattle.settlement.specs.StateAfter.{Settles}
use Rattle.settlement.specs.TellsOf.{TellsOfEnded}
use Rattle.settlement.specs.declared.counters.Counters.{Counters}
use Rattle.settlement.specs.declared.handed.Ended.{Ended}
use Rattle.store_core.specs.Flow as store
use Rattle.store_core.specs.Flow.{flow_in}
use Rattle.store_core.specs.State.{queued_active, state_with}
use Rattle.store_core.specs.Valid.{KeptIsValid, LiveFilesAreQueued}
use Rattle.engine_change.specs.Committing.{AreEventsUpTo, HasTexts, MayCommit, identity_of}
use Rattle.engine_change.proofs.Past.{past, past_is}
use Rattle.engine_change.proofs.Told.{IsShortlySent}

abbrev pub counters_of : Kept → Counters
counters_of k = record { store = k.store; next_number = k.next_number; next_arrival = k.next_arrival; last_event = k.last_event }

-- a session that ended over what is kept, and what it settles to
pub record Case : Type 0 where
  pub flow : Flow
  pub given : Given
  pub k : Kept
  pub ended : Ended
  pub settled : Settled

-- The session may be committed, and this is its settlement, whose texts are UTF-8. What is kept is a state of the machine.
pub record IsSettled (c : Case) : Type 0 where
  pub sound : IsSound c.flow
  pub identity : flow_in c.k ≡ identity_of c.flow
  pub may : MayCommit c.flow c.given c.k c.ended
  pub consistent : IsConsistent c.k
  pub batches : c.k.batches ≡ []
  pub settles : Settles c.flow c.given (counters_of c.k) c.ended c.settled
  pub tells : TellsOfEnded c.given (counters_of c.k) c.ended c.settled
  pub records : RecordsAll c.flow c.given (counters_of c.k) c.ended c.settled
  pub moment : c.given.moment < 2 ^ 64
  pub received : length (unwrap_or c.given.file []) ≤ NAME_MAX
  pub sent : IsShortlySent c.ended.outcome.sent
  pub texts : All HasTexts c.settled.events
  pub valid : KeptIsValid
  pub queued : LiveFilesAreQueued

-- its entry
abbrev pub entry_in : Case → SessionEntry
entry_in c = session_entry c.k c.settled

-- a state that is kept, where references stand for these contents
abbrev pub state_of : Case → (ContentRef → List ℕ) → State
state_of c contents = state_with contents (past c.k.last_event) c.k

abbrev pub session_in : Case → Processor → (ContentRef → List ℕ) → EndedSession
session_in c processor contents = ended_session c.flow c.given c.ended processor contents (state_of c contents)

pub connections_same : (c : Case) → IsSettled c → length c.k.connections ≡ length c.flow.connections
connections_same c is = ap (λ (f : store.Flow). length f.connections) is.identity ∙ length-map c.flow.connections (λ (connection : Connection). connection.id)

pub counts_same : (c : Case) → IsSettled c → length c.k.counts ≡ length c.flow.processors
counts_same c is = ap (λ (f : store.Flow). f.processors) is.identity

-- the processor of a place
pub found : (processors : List Processor) (place : ℕ) → place < length processors → (processor : Processor) × (slice_get processors place ≡ Some processor)
found [] place lt = absurd (omega arith)
found (first ∷ processors) zero lt = (first, refl)
found (first ∷ processors) (suc place) lt = found processors place (omega arith)

-- the counters of what is kept are those of a state
pub may_settle : (flow : Flow) (given : Given) (k : Kept) (ended : Ended) → IsSound flow → MayCommit flow given k ended → IsConsistent k → MaySettle flow (counters_of k) ended
may_settle flow given k ended sound may consistent = record {
  processor = may.processor;
  connections = let few = sound.connection_count in omega (arith, few);
  ends = All-weaker (λ file. Contains k.files (active ended.connection file)) (λ file. file.content.offset + file.content.size < 2 ^ 64)
      (λ file there. let end = (All-contains (IsFileIn k) k.files (active ended.connection file) consistent.files there).encoded.file.content.ends in omega (arith, end)) ended.taken may.there;
  relationships = may.relationships;
  outcome = may.outcome;
  parts = may.parts;
  next_number = consistent.encoded.next_number;
  next_arrival = consistent.encoded.next_arrival;
  last_event = consistent.encoded.last_event;
}

-- what the types say of a session and of its settlement
pub record IsTyped (c : Case) : Type 0 where
  pub moment : c.given.moment < 2 ^ 64
  pub received : length (unwrap_or c.given.file []) ≤ NAME_MAX
  pub sent : IsShortlySent c.ended.outcome.sent
  pub texts : All HasTexts c.settled.events

-- what is settled over the counters of what is stored, which is what is kept
pub settled_over : (c : Case) (stored : Kept) → stored ≡ c.k → IsSound c.flow → flow_in c.k ≡ identity_of c.flow → MayCommit c.flow c.given c.k c.ended → IsConsistent c.k → c.k.batches ≡ []
    → Settles c.flow c.given (counters_of stored) c.ended c.settled → TellsOfEnded c.given (counters_of stored) c.ended c.settled → RecordsAll c.flow c.given (counters_of stored) c.ended c.settled
    → IsTyped c → KeptIsValid → LiveFilesAreQueued → IsSettled c
settled_over c stored same sound identity may consistent batches settles tells records typed valid queued = record {
  sound = sound;
  identity = identity;
  may = may;
  consistent = consistent;
  batches = batches;
  settles = subst (λ (l : Kept). Settles c.flow c.given (counters_of l) c.ended c.settled) same settles;
  tells = subst (λ (l : Kept). TellsOfEnded c.given (counters_of l) c.ended c.settled) same tells;
  records = subst (λ (l : Kept). RecordsAll c.flow c.given (counters_of l) c.ended c.settled) same records;
  moment = typed.moment;
  received = typed.received;
  sent = typed.sent;
  texts = typed.texts;
  valid = valid;
  queued = queued;
}

-- ---- the session is one of that state

pub handed_over : (c : Case) → IsSettled c → (processor : Processor) → slice_get c.flow.processors c.ended.processor ≡ Some processor → (contents : ContentRef → List ℕ)
    → (events : List Event) → AreEventsUpTo c.k.last_event events → SessionIsHanded c.flow (counters_of c.k) c.ended processor contents (state_with contents events c.k)
handed_over c is processor at contents events up_to = record {
  found = at;
  valid = is.valid c.flow contents events c.k is.consistent is.batches up_to.1 up_to.0 (connections_same c is) (counts_same c is);
  store = refl;
  next_number = refl;
  next_arrival = refl;
  last_event = refl;
  there =
      let state = state_with contents events c.k in
      All-map (Contains (queue_at state c.ended.connection)) (λ (file : FlowFile). queued_active contents (active c.ended.connection file)) c.ended.taken
      (All-weaker (λ file. Contains c.k.files (active c.ended.connection file)) (λ file. Contains (queue_at state c.ended.connection) (queued_active contents (active c.ended.connection file)))
      (λ file has. is.queued contents events c.k (active c.ended.connection file) is.consistent has) c.ended.taken is.may.there);
  differ = is.may.differ;
}

pub handed : (c : Case) → IsSettled c → (processor : Processor) → slice_get c.flow.processors c.ended.processor ≡ Some processor → (contents : ContentRef → List ℕ)
    → SessionIsHanded c.flow (counters_of c.k) c.ended processor contents (state_of c contents)
handed c is processor at contents = handed_over c is processor at contents (past c.k.last_event) (past_is c.k.last_event)

in_some_queue : (queues : List (List QueuedFile)) (place : ℕ) (file : QueuedFile) → Contains (unwrap_or (slice_get queues place) []) file → Contains (flat_map (λ queue. queue) queues) file
in_some_queue [] place file h = h
in_some_queue (queue ∷ queues) zero file h = Contains-append_left queue (flat_map (λ queue. queue) queues) file h
in_some_queue (queue ∷ queues) (suc place) file h = Contains-append_right queue (flat_map (λ queue. queue) queues) file (in_some_queue queues place file h)

-- references stand for no bytes
abbrev pub nothing : ContentRef → List ℕ
nothing at = []

nothing_ranged : HaveRanges nothing
nothing_ranged whole offset size digest within = sym (ap (take ((offset + size) - offset)) (drop_none offset) ∙ take_none ((offset + size) - offset))
  where
    drop_none : (n : ℕ) → ◌≡◌ {A = List ℕ} (drop n []) []
    drop_none zero = refl
    drop_none (suc n) = refl

    take_none : (n : ℕ) → ◌≡◌ {A = List ℕ} (take n []) []
    take_none zero = refl
    take_none (suc n) = refl

-- behind the session the queues are well numbered, whatever bytes there are
pub numbered_after : (c : Case) → IsSettled c → (processor : Processor) → slice_get c.flow.processors c.ended.processor ≡ Some processor
    → IsWellNumbered (state_after nothing (state_of c nothing) c.settled)
numbered_after c is processor at =
    let state = state_of c nothing in
    let session = session_in c processor nothing in
    let hand = handed c is processor at nothing in
    let left = is.settles processor nothing state hand in
    let wanted = settle session c.ended.outcome in
    let after = state_after nothing state c.settled in
    let same : record after { events = wanted.events; kin = wanted.kin; last_event = wanted.last_event } ≡ wanted
    = (λ i. record after { queues = left.queues nothing_ranged i; events = wanted.events; kin = wanted.kin; last_event = wanted.last_event }) ∙ left.rest in
    let sizes = length-map c.ended.taken (λ (file : FlowFile). file.content.size) in
    let files = length-map c.ended.taken (λ (file : FlowFile). queued_active nothing (active c.ended.connection file)) in
    let in_turn : AreInTurn 0 (length session.taken) c.ended.outcome.files = subst (λ n. AreInTurn 0 n c.ended.outcome.files) (sizes ∙ sym files) is.may.outcome.in_turn in
    let numbered = subst IsWellNumbered (sym same) (settle-keeps session c.ended.outcome hand.valid.numbered (record {
      differ = differ_from_once (λ (file : QueuedFile). file.number) session.taken
          (λ n. omega (arith, tally-map (λ (file : QueuedFile). bit (file.number == n)) (λ (file : FlowFile). queued_active nothing (active c.ended.connection file)) c.ended.taken, once_from_differ (λ (file : FlowFile). file.number) c.ended.taken is.may.differ n));
      there = All-weaker (Contains (queue_at state c.ended.connection)) (Contains (files_of_all state)) (λ file there. in_some_queue state.queues c.ended.connection file there) session.taken hand.there;
    }) in_turn) in
    record { numbers = numbered.numbers; arrivals = numbered.arrivals; first_batch = numbered.first_batch; batches = numbered.batches }
