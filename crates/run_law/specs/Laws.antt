-- How a run of any flow begins, goes on and ends, and what steps do to the world.
use Rattle.std.specs.Prelude.{◌≡◌, ◌≢◌, ◌⊎◌, ◌≤◌, ⊤, ℕ, Bool, true, List, [], ◌∷◌, ◌++◌, Option, Some, None, Ok, MatchOption, slice_get}
use Rattle.disk_trait.specs.Files.{Files}
use Rattle.flowfile_record.specs.NamedFile.{NamedFile, with_file, without}
use Rattle.flowfile_record.specs.declared.worked.Outcome.{Outcome}
use Rattle.flowfile_record.specs.declared.worked.Sent.{Sent}
use Rattle.content_repo.specs.Claims.{content_in}
use Rattle.kept_state.specs.declared.limit.Limit.{Limit}
use Rattle.machine_model.specs.declared.flow.Flow.{Flow}
use Rattle.machine_model.specs.declared.journal.Entry.{Entry}
use Rattle.machine_model.specs.declared.journal.Step.{Step}
use Rattle.machine_model.specs.declared.journal.Step.TheVariants.{Session}
use Rattle.machine_model.specs.declared.kind.Conflict.{Conflict}
use Rattle.machine_model.specs.declared.kind.Kind.TheVariants.{PutFile}
use Rattle.machine_model.specs.Acting.{act, name_in}
use Rattle.machine_model.specs.Laws.{names_of_step, received_name}
use Rattle.machine_model.specs.Placing.{EndedSession, SettledFile, settled_files}
use Rattle.machine_model.specs.Quiet.{quiet_but_for_swaps, blocked_but_for_swaps}
use Rattle.machine_model.specs.State.{Machine, QueuedFile, State}
use Rattle.machine_model.specs.Stepping.{as_taken, replay, session_after, step}
use Rattle.machine_model.specs.Valid.{IsValid}
use Rattle.prov_store.specs.State.{counts_of}
use Rattle.store_core.specs.Calls.{SinceSync}
use Rattle.store_core.specs.Flow.{flow_in}
use Rattle.store_core.specs.Opened.{SameMeaning}
use Rattle.store_core.specs.State.{stands_for}
use Rattle.store_core.specs.Store.{FilesHold, StoreState, kept_by}
use Rattle.engine_change.specs.Committing.{identity_of}
use Rattle.run_law.specs.Going.{IsBetween, IsRunningAt, IsSpared, IsStepped}
use Rattle.run_law.specs.Journal.{inbox_left, TakesFromInbox}
use Rattle.run_law.specs.Puts.{IsPutBy, Outgoing, Start, files_sent, puts_of_step}
use Rattle.run_law.specs.Run.{HasRun, IsAtLimit, IsPutStep, IsStateOf, IsTidied, StandsFor, machine_at}
use Rattle.run_law.specs.Turns.{ComeInTurn, ComesNext, IsWithinRun, last_worker, step_moment}
use Rattle.run_law.specs.declared.ended.Ended.TheVariants as ending
use Rattle.run_law.specs.declared.ended.Fault.{Fault}
use Rattle.run_law.specs.declared.ended.Fault.TheVariants as fault

-- ---- a run begins

-- where from behind the opening's first sync on whatever a stop may leave stands for a valid state, a run is at that
-- state, with no entry, and all that the inbox has is left
abbrev pub RunsBegin : {D : Type 0} → (D → ℕ) → (D → ℕ → Files → Type 0) → Type 0
RunsBegin {D} moment images = (flow : Flow) (start : Start) (time lot : ℕ) (old now : D) (state : State)
    (left : List NamedFile) (standing : List ℕ → Option (List ℕ)) → IsValid flow state → start.time ≤ time
    → SinceSync moment images old now (StandsFor flow lot (machine_at state left standing))
    → IsRunningAt flow start time moment images lot (machine_at state left standing) old now []
    (machine_at state left standing) left (record { standing = standing; puts = start.puts })

-- the same where files stood for the state, and whatever a stop may leave means the same
abbrev pub OpenedRunsBegin : {D : Type 0} → (D → ℕ) → (D → ℕ → Files → Type 0) → Type 0
OpenedRunsBegin {D} moment images = (flow : Flow) (start : Start) (time lot : ℕ) (files : Files) (old now : D)
    (state : State)
    (left : List NamedFile) (standing : List ℕ → Option (List ℕ)) → IsValid flow state → start.time ≤ time
    → stands_for (identity_of flow) lot files ≡ Ok state
    → SinceSync moment images old now (SameMeaning (identity_of flow) lot files)
    → IsRunningAt flow start time moment images lot (machine_at state left standing) old now []
    (machine_at state left standing) left (record { standing = standing; puts = start.puts })

-- a run whose opening failed behind its first sync has done nothing
abbrev pub FailedOpeningsEnd : {D : Type 0} → (tells : Bool) → (D → Files) → (D → ℕ) → (D → ℕ → Files → Type 0)
    → Type 0
FailedOpeningsEnd {D} tells held moment images = (flow : Flow) (start : Start) (time lot : ℕ) (files : Files)
    (old now : D)
    (state : State) (left : List NamedFile) (standing : List ℕ → Option (List ℕ)) (cause : Fault) → start.time ≤ time
    → stands_for (identity_of flow) lot files ≡ Ok state
    → SinceSync moment images old now (SameMeaning (identity_of flow) lot files)
    → HasRun flow (ending.Fault cause) start time tells held moment images lot (machine_at state left standing) old now
    left (record { standing = standing; puts = start.puts }) [] None

-- ---- a run goes on

-- by a step of any moment up to now, which is acknowledged now, with inbox and outbox as the step leaves them
abbrev pub SteppedRunsGoOn : {D : Type 0} → (D → ℕ) → (D → ℕ → Files → Type 0) → Type 0
SteppedRunsGoOn {D} moment images = (flow : Flow) (start : Start) (time later lot : ℕ) (opened reached after : Machine)
    (first old new : D) (journal : List Entry) (one : Step) (left now_left : List NamedFile)
    (out now_out : Outgoing)
    → IsRunningAt flow start time moment images lot opened first old journal reached left out
    → time ≤ later → IsWithinRun start.time later one → step flow reached one ≡ Some after
    → IsStepped flow moment images lot reached after old new
    → now_left ≡ inbox_left after.world → IsPutBy flow reached one after out now_out
    → IsRunningAt flow start later moment images lot opened first new
    (journal ++ record { step = one; acked = Some (moment new) } ∷ [])
    after now_left now_out

-- by calls that leave what the disk stands for, and inbox and outbox, and as time goes by
abbrev pub SparedRunsGoOn : {D : Type 0} → (D → ℕ) → (D → ℕ → Files → Type 0) → Type 0
SparedRunsGoOn {D} moment images = (flow : Flow) (start : Start) (time later lot : ℕ) (opened reached : Machine)
    (first old new : D) (journal : List Entry) (left : List NamedFile) (out : Outgoing)
    → IsRunningAt flow start time moment images lot opened first old journal reached left out
    → time ≤ later → IsSpared flow moment images lot reached old new
    → IsRunningAt flow start later moment images lot opened first new journal reached left out

-- ---- a fault ends a run

-- between two steps, whichever it is
abbrev pub FaultsEnd : {D : Type 0} → (tells : Bool) → (D → Files) → (D → ℕ) → (D → ℕ → Files → Type 0) → Type 0
FaultsEnd {D} tells held moment images = (flow : Flow) (start : Start) (time later lot : ℕ) (opened reached : Machine)
    (first old new : D) (journal : List Entry) (left : List NamedFile) (out : Outgoing)
    (next : Option Step) (cause : Fault)
    → IsRunningAt flow start time moment images lot opened first old journal reached left out
    → time ≤ later → IsSpared flow moment images lot reached old new
    → HasRun flow (ending.Fault cause) start later tells held moment images lot opened first new left out journal next

-- of the disk within a step: its outbox may be done, and what it takes from the inbox is still there
abbrev pub DiskFaultsEnd : {D : Type 0} → (tells : Bool) → (D → Files) → (D → ℕ) → (D → ℕ → Files → Type 0) → Type 0
DiskFaultsEnd {D} tells held moment images = (flow : Flow) (start : Start) (time later lot : ℕ)
    (opened reached after : Machine) (first old new : D) (journal : List Entry) (one : Step) (left : List NamedFile)
    (out now_out : Outgoing)
    → IsRunningAt flow start time moment images lot opened first old journal reached left out
    → time ≤ later → IsWithinRun start.time later one → step flow reached one ≡ Some after
    → IsBetween flow moment images lot reached after old new
    → IsPutBy flow reached one after out now_out
    → HasRun flow (ending.Fault fault.Disk) start later tells held moment images lot opened first new left now_out
    (journal ++ record { step = one; acked = None } ∷ []) None

-- of the outbox at the put of a step: what stands under that name may be anything
abbrev pub OutboxFaultsEnd : {D : Type 0} → (tells : Bool) → (D → Files) → (D → ℕ) → (D → ℕ → Files → Type 0)
    → Type 0
OutboxFaultsEnd {D} tells held moment images = (flow : Flow) (start : Start) (time later lot : ℕ)
    (opened reached after : Machine) (first old new : D) (journal : List Entry) (one : Step) (left : List NamedFile)
    (out now_out : Outgoing) (name bytes : List ℕ)
    → IsRunningAt flow start time moment images lot opened first old journal reached left out
    → IsSpared flow moment images lot reached old new
    → time ≤ later → IsWithinRun start.time later one → step flow reached one ≡ Some after
    → IsPutStep flow reached one name → after.world.outbox ≡ with_file reached.world.outbox name bytes
    → ((other : List ℕ) → other ≢ name → now_out.standing other ≡ out.standing other)
    → now_out.puts ≡ out.puts ++ puts_of_step flow reached one
    → HasRun flow (ending.Fault fault.Outbox) start later tells held moment images lot opened first new left
    now_out journal (Some one)

-- of the inbox behind a step that took a file: it may be gone or not
abbrev pub InboxFaultsEnd : {D : Type 0} → (tells : Bool) → (D → Files) → (D → ℕ) → (D → ℕ → Files → Type 0)
    → Type 0
InboxFaultsEnd {D} tells held moment images = (flow : Flow) (start : Start) (time later lot : ℕ)
    (opened reached after : Machine) (first old new : D) (journal : List Entry) (one : Step) (name : List ℕ)
    (left now_left : List NamedFile) (out now_out : Outgoing)
    → IsRunningAt flow start time moment images lot opened first old journal reached left out
    → time ≤ later → IsWithinRun start.time later one → step flow reached one ≡ Some after
    → IsStepped flow moment images lot reached after old new → TakesFromInbox flow one name
    → (now_left ≡ left) ⊎ (now_left ≡ without name left)
    → IsPutBy flow reached one after out now_out
    → HasRun flow (ending.Fault fault.Inbox) start later tells held moment images lot opened first new now_left
    now_out (journal ++ record { step = one; acked = Some (moment new) } ∷ []) None

-- ---- a run ends: its store was closed

-- nothing was left to do, but for swaps
abbrev pub QuietRunsEnd : {D : Type 0} → (tells : Bool) → (D → Files) → (D → ℕ) → (D → ℕ → Files → Type 0) → Type 0
QuietRunsEnd {D} tells held moment images = (flow : Flow) (start : Start) (time later lot : ℕ)
    (opened reached : Machine)
    (first old new : D) (journal : List Entry) (left : List NamedFile) (out : Outgoing)
    → IsRunningAt flow start time moment images lot opened first old journal reached left out
    → time ≤ later → IsSpared flow moment images lot reached old new
    → images new (moment new) (held new) → IsTidied flow lot (held new)
    → quiet_but_for_swaps flow reached.state reached.world later ≡ true
    → HasRun flow ending.Quiet start later tells held moment images lot opened first new left out journal None

-- all that there was to do, but for swaps, was held back
abbrev pub BlockedRunsEnd : {D : Type 0} → (tells : Bool) → (D → Files) → (D → ℕ) → (D → ℕ → Files → Type 0)
    → Type 0
BlockedRunsEnd {D} tells held moment images = (flow : Flow) (start : Start) (time later lot place : ℕ)
    (opened reached : Machine) (first old new : D) (journal : List Entry) (left : List NamedFile)
    (out : Outgoing)
    → IsRunningAt flow start time moment images lot opened first old journal reached left out
    → time ≤ later → IsSpared flow moment images lot reached old new
    → images new (moment new) (held new) → IsTidied flow lot (held new)
    → blocked_but_for_swaps flow reached.state reached.world later ≡ Some place
    → HasRun flow (ending.Blocked place) start later tells held moment images lot opened first new left out journal
    None

-- a limit was met
abbrev pub LimitedRunsEnd : {D : Type 0} → (tells : Bool) → (D → Files) → (D → ℕ) → (D → ℕ → Files → Type 0)
    → Type 0
LimitedRunsEnd {D} tells held moment images = (flow : Flow) (start : Start) (time later lot : ℕ)
    (opened reached : Machine)
    (first old new : D) (journal : List Entry) (left : List NamedFile) (out : Outgoing)
    (next : Option Step) (limit : Limit)
    → IsRunningAt flow start time moment images lot opened first old journal reached left out
    → time ≤ later → IsAtLimit flow start later tells held moment images lot journal next reached limit old
    → IsSpared flow moment images lot reached old new
    → images new (moment new) (held new) → IsTidied flow lot (held new)
    → HasRun flow (ending.Limit limit) start later tells held moment images lot opened first new left out journal
    next

-- ---- steps that come in turn

-- .. do so with the step that comes next behind them, up to any time behind that
abbrev pub NextStepsComeInTurn : Type 0
NextStepsComeInTurn = (flow : Flow) (since until later : ℕ) (opened reached : Machine) (all : List Step) (one : Step)
    → ComeInTurn flow None since until opened all → replay flow opened all ≡ Some reached
    → until ≤ step_moment one → step_moment one ≤ later → ComesNext flow (last_worker None all) reached one
    → ComeInTurn flow None since later opened (all ++ one ∷ [])

-- .. and as time goes by
abbrev pub StepsStayInTurn : Type 0
StepsStayInTurn = (flow : Flow) (since until later : ℕ) (opened : Machine) (all : List Step)
    → ComeInTurn flow None since until opened all → until ≤ later → ComeInTurn flow None since later opened all

-- ---- what a store has in memory

-- where files that hold it stand for a machine's state, it is that
abbrev pub MemoryIsTheState : Type 0
MemoryIsTheState = (flow : Flow) (s : StoreState) (files : Files) (m : Machine)
    → flow_in (kept_by s) ≡ identity_of flow → (kept_by s).last_event ≡ s.events.end
    → FilesHold s files → StandsFor flow s.lot m files → IsStateOf m (content_in files) (kept_by s)

-- .. and it knows how many events of each kind the machine has
abbrev pub MemoryCountsEvents : Type 0
MemoryCountsEvents = (flow : Flow) (s : StoreState) (files : Files) (m : Machine)
    → flow_in (kept_by s) ≡ identity_of flow → (kept_by s).last_event ≡ s.events.end
    → FilesHold s files → StandsFor flow s.lot m files → s.events.counts ≡ counts_of m.state.events

-- ---- what steps do to the world

-- a step that takes a file from the inbox leaves the others
abbrev pub TakingStepsLoseAFile : Type 0
TakingStepsLoseAFile = (flow : Flow) (before after : Machine) (one : Step) (name : List ℕ)
    → step flow before one ≡ Some after → TakesFromInbox flow one name
    → inbox_left after.world ≡ without name (inbox_left before.world)

-- each other step leaves all files of the inbox
abbrev pub OtherStepsLoseNone : Type 0
OtherStepsLoseNone = (flow : Flow) (before after : Machine) (one : Step)
    → step flow before one ≡ Some after → names_of_step flow one ≡ []
    → inbox_left after.world ≡ inbox_left before.world

-- a step of a queue alone, or an aging
abbrev pub IsOfQueue : Step → Type 0
IsOfQueue (Session processor numbers moment given) = ⊥
IsOfQueue _ = ⊤

-- leaves the world
abbrev pub QueuesLeaveTheWorld : Type 0
QueuesLeaveTheWorld = (flow : Flow) (before after : Machine) (one : Step)
    → step flow before one ≡ Some after → IsOfQueue one → after.world ≡ before.world

-- the same of a session that has ended, by the name that it received, if any
abbrev pub ReceivingSessionsLoseAFile : Type 0
ReceivingSessionsLoseAFile = (machine : Machine) (session : EndedSession) (outcome : Outcome) (name : List ℕ)
    → received_name session.processor.kind session.given.file ≡ name ∷ []
    → inbox_left (session_after machine session outcome).world ≡ without name (inbox_left machine.world)

abbrev pub OtherSessionsLoseNone : Type 0
OtherSessionsLoseNone = (machine : Machine) (session : EndedSession) (outcome : Outcome)
    → received_name session.processor.kind session.given.file ≡ []
    → inbox_left (session_after machine session outcome).world ≡ inbox_left machine.world

-- the outbox has the bytes of the file that a session sends, under the name that it sends it by
abbrev pub SendingSessionsPutAFile : Type 0
SendingSessionsPutAFile = (machine : Machine) (session : EndedSession) (outcome : Outcome) (sent : Sent)
    (file : SettledFile) → outcome.sent ≡ Some sent
    → slice_get (settled_files session outcome.files) sent.place ≡ Some file
    → (session_after machine session outcome).world.outbox ≡ with_file machine.world.outbox sent.name file.bytes

-- a session that sends nothing leaves the outbox
abbrev pub OtherSessionsPutNone : Type 0
OtherSessionsPutNone = (machine : Machine) (session : EndedSession) (outcome : Outcome) → outcome.sent ≡ None
    → (session_after machine session outcome).world.outbox ≡ machine.world.outbox

-- a session of a PutFile sends the bytes of the file that it took, under that file's name, or nothing
abbrev pub PutsSendTheTakenBytes : Type 0
PutsSendTheTakenBytes = (machine : Machine) (session : EndedSession) (outcome : Outcome) (conflict : Conflict)
    (file : QueuedFile) → session.taken ≡ file ∷ []
    → act (PutFile conflict) (as_taken machine.state file ∷ []) session.given ≡ Some outcome
    → MatchOption outcome.sent
    ((session_after machine session outcome).world.outbox ≡ machine.world.outbox)
    (λ sent. (name_in file.attributes ≡ Some sent.name)
    × ((session_after machine session outcome).world.outbox ≡ with_file machine.world.outbox sent.name file.bytes)
    × (files_sent session outcome (Some sent) ≡ record { name = sent.name; bytes = file.bytes } ∷ []))
