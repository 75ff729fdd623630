-- What a run of a flow promises.
use Rattle.std.specs.Prelude.{◌≡◌, ◌≢◌, ◌⊎◌, ⊤, ℕ, ◌+◌, ◌≤◌, Bool, true, false, List, [], ◌∷◌, ◌++◌, length, map, slice_get}
use Rattle.std.specs.Prelude.{Option, Some, Ok, IsSome, IsNone, MatchOption}
use Rattle.disk_trait.specs.Files.{Files}
use Rattle.disk_trait.specs.Images.{SinceMoment, Since}
use Rattle.flowfile_record.specs.NamedFile.{NamedFile, bytes_of, with_file}
use Rattle.flowfile_record.specs.Stored.{Kept}
use Rattle.flowfile_record.specs.declared.change.Settled.{Settled}
use Rattle.flowfile_record.specs.declared.content.ContentRef.{ContentRef}
use Rattle.content_repo.specs.Claims.{content_in}
use Rattle.kept_state.specs.declared.limit.Limit.{Limit}
use Rattle.kept_state.specs.declared.limit.Which.TheVariants.{Journal}
use Rattle.machine_model.specs.declared.flow.Flow.{Flow}
use Rattle.machine_model.specs.declared.flow.Processor.{Processor}
use Rattle.machine_model.specs.declared.given.Given.{Given}
use Rattle.machine_model.specs.declared.journal.Entry.{Entry}
use Rattle.machine_model.specs.declared.journal.Step.{Step}
use Rattle.machine_model.specs.declared.journal.Step.TheVariants.{Session}
use Rattle.machine_model.specs.declared.kind.Conflict.{Conflict}
use Rattle.machine_model.specs.declared.kind.Kind.TheVariants.{PutFile}
use Rattle.machine_model.specs.Acknowledged.{steps, acknowledged, IsInOrder}
use Rattle.machine_model.specs.Acting.{name_in}
use Rattle.machine_model.specs.Changing.{state_after}
use Rattle.machine_model.specs.Kinds.{take_rule_of}
use Rattle.machine_model.specs.Laws.{names_taken}
use Rattle.machine_model.specs.Quiet.{quiet_but_for_swaps, blocked_but_for_swaps}
use Rattle.machine_model.specs.State.{Machine, QueuedFile, State}
use Rattle.machine_model.specs.Stepping.{step, replay, taken_files}
use Rattle.store_core.specs.Change.{IsLimitOf, MayChange}
use Rattle.store_core.specs.Kept.{kept_in}
use Rattle.store_core.specs.State.{stands_for, state_with}
use Rattle.store_core.specs.Store.{StoreState, kept_by, IsKeptOn, IsTidy}
use Rattle.engine_change.specs.Committing.{AreEventsUpTo, BringsWritten, identity_of}
use Rattle.run_law.specs.Journal.{inbox_left, WasGot}
use Rattle.run_law.specs.Puts.{Outgoing, Start, outcome_of_step, puts_of, puts_of_step}
use Rattle.run_law.specs.Turns.{AreWithin, IsWithinRun}
use Rattle.run_law.specs.declared.ended.Ended.{Ended}
use Rattle.run_law.specs.declared.ended.Ended.TheVariants as ending
use Rattle.run_law.specs.declared.ended.Fault.TheVariants as fault

-- ---- the machine at the start

-- a state, the files of an inbox, and what stands in an outbox
abbrev pub machine_at : State → List NamedFile → (List ℕ → Option (List ℕ)) → Machine
machine_at state left standing = record {
  state = state;
  world = record { inbox = left; left = map (λ file. file.name) left; outbox = standing };
}

-- the files stand for the machine's state
abbrev pub StandsFor : Flow → (lot : ℕ) → Machine → Files → Type 0
StandsFor flow lot m c = stands_for (identity_of flow) lot c ≡ Ok m.state

-- ---- the journal

-- These files stand for the state after a prefix of the journal, and each entry that was acknowledged by the moment is
-- in it.
pub record IsPrefix (flow : Flow) (lot : ℕ) (opened : Machine) (journal : List Entry) (k : ℕ) (c : Files) : Type 0 where
  pub front : List Entry
  pub back : List Entry
  pub parts : front ++ back ≡ journal
  pub enough : acknowledged journal k ≤ length front
  pub reached : Machine
  pub replays : replay flow opened (steps front) ≡ Some reached
  pub stands : StandsFor flow lot reached c

-- The journal leads from the opened state to this one, its moments are in order, and from behind the opening's first
-- sync on, whatever a stop may leave is a prefix. What a stop before that could leave is as it was.
pub record Replays {D : Type 0} (flow : Flow) (moment : D → ℕ) (images : D → ℕ → Files → Type 0) (lot : ℕ)
    (opened : Machine) (journal : List Entry) (reached : Machine) (old new : D) : Type 0 where
  pub replays : replay flow opened (steps journal) ≡ Some reached
  pub in_order : IsInOrder (moment old + 1) (moment new) journal
  pub prefixes : SinceMoment moment images (moment old + 1) old new (IsPrefix flow lot opened journal)

-- nothing failed
abbrev pub IsClosedEnd : Ended → Type 0
IsClosedEnd (ending.Fault cause) = ⊥
IsClosedEnd _ = ⊤

-- by now each entry is acknowledged
abbrev pub AreAckedBy : (now : ℕ) → List Entry → Type 0
AreAckedBy now journal = acknowledged journal now ≡ length journal

-- or all but one, where the disk failed
abbrev pub FewAreOpen : (now : ℕ) → Ended → List Entry → Type 0
FewAreOpen now ended journal =
    AreAckedBy now journal
    ⊎ ((ended ≡ ending.Fault fault.Disk) × (acknowledged journal now + 1 ≡ length journal))

-- each name that is gone from the inbox is that of an acknowledged entry
abbrev pub IsGoneByEntry : Flow → (before after : List NamedFile) → List Entry → Type 0
IsGoneByEntry flow before after journal =
    (name : List ℕ) → IsSome (bytes_of before name) → IsNone (bytes_of after name) → WasGot flow name journal

-- The outbox is that of the machine, and what was put since the start is just what the journal's steps put.
pub record HasPut (flow : Flow) (start : Start) (opened : Machine) (journal : List Entry) (reached : Machine)
    (out : Outgoing) : Type 0 where
  pub standing : out.standing ≡ reached.world.outbox
  pub puts : out.puts ≡ start.puts ++ puts_of flow opened (steps journal)

-- ---- where a device failed

-- The inbox is that behind a front of the journal: what the steps behind that took is still there.
pub record IsLeftBehind (flow : Flow) (opened : Machine) (journal : List Entry) (left : List NamedFile) : Type 0 where
  pub front : List Entry
  pub back : List Entry
  pub parts : front ++ back ≡ journal
  pub behind : Machine
  pub replays : replay flow opened (steps front) ≡ Some behind
  pub is : left ≡ inbox_left behind.world

-- That is one step at most, and it took a file only where disk or inbox failed before the file was removed.
pub record FewAreLeft (flow : Flow) (ended : Ended) (back : List Entry) : Type 0 where
  pub most : length back ≤ 1
  pub failed : names_taken flow (steps back) ≢ [] → (ended ≡ ending.Fault fault.Disk) ⊎ (ended ≡ ending.Fault fault.Inbox)

-- The step is the session of a PutFile that takes one file, of this name.
pub record IsPutStep (flow : Flow) (before : Machine) (one : Step) (name : List ℕ) : Type 0 where
  pub place : ℕ
  pub numbers : List ℕ
  pub moment : ℕ
  pub given : Given
  pub is : one ≡ Session place numbers moment given
  pub processor : Processor
  pub conflict : Conflict
  pub found : slice_get flow.processors place ≡ Some processor
  pub kind : processor.kind ≡ PutFile conflict
  pub file : QueuedFile
  pub takes : taken_files flow before.state place (take_rule_of processor.kind) numbers moment ≡ Some (file ∷ [])
  pub named : name_in file.attributes ≡ Some name

-- The outbox failed at the put of this session, which isn't done: what it takes still waits. What stands under the name
-- of that may be anything. Behind the puts of the journal's steps its put was tried, once.
pub record IsStoppedAtPut (flow : Flow) (ended : Ended) (start : Start) (time : ℕ) (opened : Machine)
    (journal : List Entry) (next : Option Step) (reached : Machine) (out : Outgoing) : Type 0 where
  pub failed : ended ≡ ending.Fault fault.Outbox
  pub one : Step
  pub is : next ≡ Some one
  pub within : IsWithinRun start.time time one
  pub after : Machine
  pub goes : step flow reached one ≡ Some after
  pub name : List ℕ
  pub put : IsPutStep flow reached one name
  pub bytes : List ℕ
  pub puts : after.world.outbox ≡ with_file reached.world.outbox name bytes
  pub others : (other : List ℕ) → other ≢ name → out.standing other ≡ reached.world.outbox other
  pub tried : out.puts ≡ start.puts ++ puts_of flow opened (steps journal) ++ puts_of_step flow reached one

-- ---- limits

-- What is kept is the machine's state, where references stand for these bytes.
pub record IsStateOf (m : Machine) (contents : ContentRef → List ℕ) (k : Kept) : Type 0 where
  pub is : state_with contents m.state.events k ≡ m.state
  pub events : AreEventsUpTo k.last_event m.state.events

-- A settled session brings anew what the step's processor wrote, and files that expire bring nothing.
abbrev pub StepBrings : Flow → Machine → Step → Settled → Type 0
StepBrings flow before one settled =
    MatchOption (outcome_of_step flow before one) (settled.placed ≡ [])
    (λ outcome. BringsWritten before.state.next_number outcome settled)

-- A store that works, on this disk, has the machine's state in memory. What the step changes would pass this limit, the
-- first of them: it is a change that may be asked for, and what it wants room for is what the step wrote.
pub record IsAtStoreLimit {D : Type 0} (flow : Flow) (tells : Bool) (held : D → Files) (moment : D → ℕ)
    (images : D → ℕ → Files → Type 0) (limit : Limit) (before : Machine) (one : Step) (after : Machine) (at : D)
    : Type 0 where
  pub store : StoreState
  pub works : store.failed ≡ false
  pub kept : IsKeptOn tells held moment images store at
  pub tied : IsStateOf before (content_in (held at)) (kept_by store)
  pub settled : Settled
  pub may : MayChange (kept_by store) settled
  pub brings : StepBrings flow before one settled
  pub makes : state_after (content_in (held at)) before.state settled ≡ after.state
  pub passes : IsLimitOf store settled limit

-- the journal has as many entries as the limit's number, and one more is wanted
abbrev pub IsAtJournalLimit : Limit → List Entry → Type 0
IsAtJournalLimit limit journal =
    limit ≡ record { which = Journal; number = length journal; wanted = length journal + 1 }

-- A limit was met on a disk as it was then, whose files stand for the state after the whole journal: this step would have
-- passed it.
pub record IsAtLimit {D : Type 0} (flow : Flow) (start : Start) (time : ℕ) (tells : Bool) (held : D → Files)
    (moment : D → ℕ)
    (images : D → ℕ → Files → Type 0) (lot : ℕ) (journal : List Entry) (next : Option Step) (reached : Machine)
    (limit : Limit) (at : D) : Type 0 where
  pub one : Step
  pub is : next ≡ Some one
  pub within : IsWithinRun start.time time one
  pub after : Machine
  pub goes : step flow reached one ≡ Some after
  pub stands : StandsFor flow lot reached (held at)
  pub met : IsAtStoreLimit flow tells held moment images limit reached one after at
      ⊎ IsAtJournalLimit limit journal

-- ---- how a run ends

-- each claim that isn't empty has the content of a file that is kept
pub record IsTidied (flow : Flow) (lot : ℕ) (held : Files) : Type 0 where
  pub kept : Kept
  pub keeps : kept_in (identity_of flow) lot held ≡ Ok kept
  pub tidy : IsTidy kept held

-- The store was closed: what the disk holds is that of the whole journal, and no claim holds more than contents of
-- queued files.
pub record IsClosed (flow : Flow) (lot : ℕ) (reached : Machine) (held : Files) : Type 0 where
  pub disk : StandsFor flow lot reached held
  pub tidied : IsTidied flow lot held

-- At this time of the clock nothing was left to do, but for swaps.
pub record RunIsDone (flow : Flow) (time lot : ℕ) (reached : Machine) (held : Files) : Type 0 where
  pub closed : IsClosed flow lot reached held
  pub is_quiet : quiet_but_for_swaps flow reached.state reached.world time ≡ true

-- At this time of the clock whatever there was to do, but for swaps, was held back, first by the connection at this
-- place.
pub record IsHeldBack (flow : Flow) (time place lot : ℕ) (reached : Machine) (held : Files) : Type 0 where
  pub closed : IsClosed flow lot reached held
  pub is_blocked : blocked_but_for_swaps flow reached.state reached.world time ≡ Some place

-- A limit was met, and from then on whatever a stop may leave stands for the state after the whole journal.
pub record IsStoppedByLimit {D : Type 0} (flow : Flow) (start : Start) (time : ℕ) (tells : Bool) (held : D → Files)
    (moment : D → ℕ) (images : D → ℕ → Files → Type 0) (lot : ℕ) (journal : List Entry) (next : Option Step)
    (reached : Machine) (limit : Limit) (new : D) : Type 0 where
  pub closed : IsClosed flow lot reached (held new)
  pub at : D
  pub met : IsAtLimit flow start time tells held moment images lot journal next reached limit at
  pub since : Since moment images at new (StandsFor flow lot reached)

-- What an end tells. A fault tells nothing more than that it came.
abbrev pub EndsSo : {D : Type 0} → Flow → Ended → (start : Start) (time : ℕ) → (tells : Bool) → (D → Files) → (D → ℕ)
    → (D → ℕ → Files → Type 0) → (lot : ℕ) → List Entry → (next : Option Step) → Machine → (new : D) → Type 0
EndsSo flow ending.Quiet start time tells held moment images lot journal next reached new =
    RunIsDone flow time lot reached (held new)
EndsSo flow (ending.Blocked place) start time tells held moment images lot journal next reached new =
    IsHeldBack flow time place lot reached (held new)
EndsSo flow (ending.Limit limit) start time tells held moment images lot journal next reached new =
    IsStoppedByLimit flow start time tells held moment images lot journal next reached limit new
EndsSo flow (ending.Fault cause) start time tells held moment images lot journal next reached new = ⊤

-- However it ended: the journal tells what the run did to disk, inbox and outbox. Each step was made at a moment from the
-- clock's time at the start up to its time at the end. Inbox and outbox are those of the whole journal, but for the one
-- file at which a device failed. Where a put failed or a limit was met, `next` is the step at which that was.
pub record HasRun {D : Type 0} (flow : Flow) (ended : Ended) (start : Start) (time : ℕ) (tells : Bool) (held : D
    → Files)
    (moment : D → ℕ) (images : D → ℕ → Files → Type 0) (lot : ℕ) (opened : Machine) (old new : D)
    (left : List NamedFile) (out : Outgoing) (journal : List Entry) (next : Option Step) : Type 0 where
  pub reached : Machine
  pub ran : Replays flow moment images lot opened journal reached old new
  pub acked : IsClosedEnd ended → AreAckedBy (moment new) journal
  pub few_open : FewAreOpen (moment new) ended journal
  pub within : AreWithin start.time time (steps journal)
  pub gone : IsGoneByEntry flow opened.world.inbox left journal
  pub inbox : IsLeftBehind flow opened journal left
  pub few_left : FewAreLeft flow ended inbox.back
  pub outbox : HasPut flow start opened journal reached out
      ⊎ IsStoppedAtPut flow ended start time opened journal next reached out
  pub ends : EndsSo flow ended start time tells held moment images lot journal next reached new
