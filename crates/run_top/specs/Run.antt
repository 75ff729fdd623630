-- What a run promises.
use Rattle.std.specs.Prelude.{◌≡◌, ◌⊎◌, ⊤, ℕ, ◌+◌, ◌≤◌, Bool, List, IfSome, IsTrue, MatchOption, Option, Some, Result, Ok, Err}
use Rattle.disk_trait.specs.Faults.{CountsFaults}
use Rattle.disk_trait.specs.Files.{Files}
use Rattle.disk_trait.specs.Images.{Since}
use Rattle.disk_trait.specs.declared.damage.Damage.{Damage}
use Rattle.disk_trait.specs.declared.file_name.FileName.{FileName}
use Rattle.flowfile_record.specs.NamedFile.{NamedFile}
use Rattle.flowfile_wal.specs.Current.{current_number}
use Rattle.kept_state.specs.declared.limit.Limit.{Limit}
use Rattle.machine_model.specs.declared.flow.Flow.{Flow}
use Rattle.machine_model.specs.declared.journal.Entry.{Entry}
use Rattle.machine_model.specs.declared.journal.Step.{Step}
use Rattle.machine_model.specs.State.{Machine, State}
use Rattle.store_core.specs.Calls.{SinceSync, IsUnwritten}
use Rattle.store_core.specs.Flow as store
use Rattle.store_core.specs.Opened.{IsShut, SameMeaning}
use Rattle.store_core.specs.Touched.{IsOfLog, OnlyShortens, log_opened}
use Rattle.engine_change.specs.Committing.{identity_of}
use Rattle.flow_definition.specs.Patterns.{Told}
use Rattle.flow_definition.specs.declared.rule.Rule.{Rule}
use Rattle.flow_words.specs.declared.command.RunOptions.{RunOptions}
use Rattle.run_law.specs.Ending.{IsQuietOrBlocked, IsFault, IsLimitMet}
use Rattle.run_law.specs.Puts.{Outgoing, Start, outgoing}
use Rattle.run_law.specs.Run.{HasRun, machine_at}
use Rattle.run_law.specs.Turns.{AreMadeAt, IsInTurn}
use Rattle.run_law.specs.Work.{DoesNotTell, IsShortOn, MayWriteFrom}
use Rattle.run_law.specs.declared.ended.Ended.{Ended}
use Rattle.run_law.specs.declared.ended.Ended.TheVariants as ending
use Rattle.run_law.specs.declared.ended.Fault.{Fault}
use Rattle.flow_scheduler.specs.Driving.{HandsOver}
use Rattle.flow_scheduler.specs.declared.run.Ran.{Ran}
use Rattle.run_top.specs.Opening.{IsOfFlow, IsOfStore, IsShutAnswer, IsToldBy}
use Rattle.run_top.specs.Printing.{IsLine, AnswerIsPrinted, IsRefusingAnswer, end_text, refusal_line}
use Rattle.run_top.specs.Status.{answer_of_end, answer_of_fault}
use Rattle.run_top.specs.Text.{IsOfText, TextIsRefused}
use Rattle.run_top.specs.declared.answer.Answer.{Answer}
use Rattle.run_top.specs.declared.answer.Answer.TheVariants.{Done, Usage, Refused, OtherFlow, Damaged, Disk, Inbox, Outbox, Source, Sink, Blocked, Memory, Absent}
use Rattle.run_top.specs.declared.answer.Answer.TheVariants.{Limit as Limited}

-- ---- a flow has run

-- The flow has run from one time of the clock to another, with this journal, and ended so, at this step, if at one. Each
-- step came in its turn. Where the journal's limit ended it, that is `most`. Of each step's moment holds what holds of each
-- moment that the clock gave; and where nothing was left to do, or all of it was held back, of the time too, and the log is
-- short.
pub record RunEndsWith {D : Type 0} (flow : Flow) (ended : Ended) (given : ℕ → Type 0) (start : Start) (time : ℕ)
    (tells : Bool) (held : D → Files) (moment : D → ℕ) (images : D → ℕ → Files → Type 0) (lot most checkpoint : ℕ)
    (opened : Machine) (old new : D) (left : List NamedFile) (out : Outgoing) : Type 0 where
  pub journal : List Entry
  pub next : Option Step
  pub ran : HasRun flow ended start time tells held moment images lot opened old new left out journal next
  pub turns : IsInTurn flow start.time time opened journal next
  pub limited : (limit : Limit) → ended ≡ ending.Limit limit
      → IsLimitMet flow tells held moment images lot (moment old + 1) most limit new
  pub moments : AreMadeAt given journal
  pub rest : IsQuietOrBlocked ended → given time × IsShortOn moment images checkpoint new

-- a run has ended so; where its store was closed, this journal was handed over, and what the machine reached
pub record HasEnded {D : Type 0} (flow : Flow) (ran : Ran) (given : ℕ → Type 0) (start : Start) (time : ℕ)
    (tells : Bool) (held : D → Files) (moment : D → ℕ) (images : D → ℕ → Files → Type 0) (lot most checkpoint : ℕ)
    (opened : Machine) (old new : D) (left : List NamedFile) (out : Outgoing) : Type 0 where
  pub ends : RunEndsWith flow ran.ended given start time tells held moment images lot most checkpoint opened old new
      left out
  pub shows : IfSome ran.closed (HandsOver flow ends.ran.reached ends.journal)

-- behind its first sync the opening of the store failed, which ended a run that has done nothing
pub record HasFailed {D : Type 0} (flow : Flow) (answer : Answer) (given : ℕ → Type 0) (start : Start) (time : ℕ)
    (tells : Bool) (held : D → Files) (moment : D → ℕ) (images : D → ℕ → Files → Type 0) (lot most checkpoint : ℕ)
    (opened : Machine) (old new : D) (left : List NamedFile) (out : Outgoing) : Type 0 where
  pub cause : Fault
  pub told : answer ≡ answer_of_fault cause
  pub ends : RunEndsWith flow
      (ending.Fault cause) given start time tells held moment images lot most checkpoint opened old new left out

-- the end is told, or where the store was closed that its text couldn't be printed
abbrev pub IsToldAs : Ended → Answer → Type 0
IsToldAs ended answer = (answer ≡ answer_of_end ended) ⊎ ((answer ≡ Sink) × (IsFault ended → ⊥))

-- what is told of a run, or in place of one
abbrev pub IsShownAs : Result Ran Answer → Answer → Type 0
IsShownAs (Ok ran) answer = IsToldAs ran.ended answer
IsShownAs (Err instead) answer = answer ≡ instead

-- It has ended and told so. Unless something failed, the text of the end was printed.
pub record HasShownEnd {D : Type 0} (flow : Flow) (answer : Answer) (given : ℕ → Type 0) (start : Start) (time : ℕ)
    (tells : Bool) (held : D → Files) (moment : D → ℕ) (images : D → ℕ → Files → Type 0) (lot most checkpoint : ℕ)
    (opened : Machine) (old new : D) (left : List NamedFile) (out : Outgoing) (sink_tells : Bool) (before after : List ℕ) : Type 0 where
  pub ended : Ended
  pub told : IsToldAs ended answer
  pub ends : RunEndsWith flow ended given start time tells held moment images lot most checkpoint opened old new left
      out
  pub printed : (IsFault ended → ⊥) → IsTrue sink_tells
      → AnswerIsPrinted answer (end_text flow ended ends.ran.reached) before after

-- ---- where nothing was done

-- disk, inbox and outbox were left alone
pub record IsUntouched {D I O : Type 0} (disk_old disk_new : D) (inbox_old inbox_new : I) (outbox_old outbox_new : O)
    : Type 0 where
  pub disk : disk_new ≡ disk_old
  pub inbox : inbox_new ≡ inbox_old
  pub outbox : outbox_new ≡ outbox_old

-- There was no flow to run: the source of its text failed, the text breaks a rule, or memory was wanting.
pub record IsNotRead {D I O S : Type 0} (answer : Answer) (before now : Told) (tells : Bool) (text : List ℕ)
    (sink_tells : Bool) (written : S → List ℕ) (sink_faults : S → ℕ)
    (disk_old disk_new : D) (inbox_old inbox_new : I) (outbox_old outbox_new : O) (sink_old sink_new : S) : Type 0 where
  pub told : IsOfText answer
  pub refused : (rule : Rule) (place : List ℕ) → answer ≡ Refused rule place
      → TextIsRefused before now tells text rule place
  pub untouched : IsUntouched disk_old disk_new inbox_old inbox_new outbox_old outbox_new
  pub line : IsTrue sink_tells → IsLine sink_faults written (refusal_line answer) sink_old sink_new

-- Nothing was done: the opening's first sync failed, and the disk's fault is told, or memory was wanting before it.
pub record IsNotOpened {D I O : Type 0} (answer : Answer) (moment : D → ℕ) (images : D → ℕ → Files → Type 0) (old new : D)
    (inbox_old inbox_new : I) (outbox_old outbox_new : O) : Type 0 where
  pub told : (answer ≡ Disk) ⊎ ((answer ≡ Memory) × (new ≡ old))
  pub since : Since moment images old new (images old (moment old))
  pub inbox : inbox_new ≡ inbox_old
  pub outbox : outbox_new ≡ outbox_old

-- What may not be opened is left so: what the disk holds is as before, of the calls that change something there was the
-- opening's first sync alone, and from behind it on whatever a stop may leave means the same.
pub record IsLeftShut {D I O : Type 0} (flow : store.Flow) (answer : Answer) (held : D → Files) (moment : D → ℕ)
    (images : D → ℕ → Files → Type 0) (lot : ℕ) (old new : D) (inbox_old inbox_new : I) (outbox_old outbox_new : O)
    : Type 0 where
  pub told : IsShutAnswer flow lot (held old) answer ⊎ (answer ≡ Disk) ⊎ (answer ≡ Memory)
  pub since : SinceSync moment images old new (SameMeaning flow lot (held old))
  pub unwritten : IsUnwritten held moment old new
  pub inbox : inbox_new ≡ inbox_old
  pub outbox : outbox_new ≡ outbox_old

-- that was told
pub record IsToldShut {D I O : Type 0} (flow : store.Flow) (answer : Answer) (tells : Bool) (held : D → Files)
    (moment : D → ℕ) (lot : ℕ) (old new : D) (inbox_old inbox_new : I) (outbox_old outbox_new : O) : Type 0 where
  pub told : IsToldBy flow answer tells held moment lot old new
  pub inbox : inbox_new ≡ inbox_old
  pub outbox : outbox_new ≡ outbox_old

-- ---- behind the opening, whatever inbox and outbox tell

-- What a run writes: files of claims and of events, the log that is current at the start, later logs and their
-- snapshots. Where none is current, the first log and its snapshot, which are made, and what is later.
abbrev pub MayWrite : Files → FileName → Type 0
MayWrite files f = IsOfLog (current_number files) f ⊎ MayWriteFrom (Some (log_opened (current_number files))) f

-- from behind the opening's first sync on, whatever a stop may leave has each other file as it was at the start or
-- shorter
abbrev pub WritesAlone : {D : Type 0} → (D → ℕ) → (D → ℕ → Files → Type 0) → Files → (old new : D) → Type 0
WritesAlone moment images files old new = SinceSync moment images old new (OnlyShortens (MayWrite files) files)

-- where nothing was left to do, or all of it was held back, checkpoints were made: whatever a stop may leave has a
-- short log
abbrev pub LeavesShortLog : {D : Type 0} → Answer → (D → ℕ) → (D → ℕ → Files → Type 0) → (checkpoint : ℕ) → (new : D)
    → Type 0
LeavesShortLog answer moment images checkpoint new =
    (answer ≡ Done) ⊎ ((place : ℕ) × (answer ≡ Blocked place)) → IsShortOn moment images checkpoint new

-- it has written so
pub record RunHasWritten {D : Type 0} (answer : Answer) (moment : D → ℕ) (images : D → ℕ → Files → Type 0)
    (files : Files) (checkpoint : ℕ) (old new : D) : Type 0 where
  pub alone : WritesAlone moment images files old new
  pub short : LeavesShortLog answer moment images checkpoint new

-- it was told behind the opening's first sync, by a disk that doesn't tell what it holds
pub record IsToldByRead {D : Type 0} (tells : Bool) (moment : D → ℕ) (old new : D) : Type 0 where
  pub opened : moment old + 1 ≤ moment new
  pub untold : DoesNotTell tells

-- this limit was met behind the opening's first sync
pub record RunIsLimited {D : Type 0} (flow : Flow) (tells : Bool) (held : D → Files) (moment : D → ℕ)
    (images : D → ℕ → Files → Type 0) (lot most : ℕ) (limit : Limit) (old new : D) : Type 0 where
  pub opened : moment old + 1 ≤ moment new
  pub met : IsLimitMet flow tells held moment images lot (moment old + 1) most limit new

-- ---- causes

-- the answers of a flow that was read
abbrev pub IsOfRun : Answer → Type 0
IsOfRun Usage = ⊥
IsOfRun (Refused rule place) = ⊥
IsOfRun Source = ⊥
IsOfRun Absent = ⊥
IsOfRun _ = ⊤

-- The answer of a flow that was read has its cause: the store that stands is another flow's, its files are damaged or,
-- on a disk that doesn't tell, perhaps a content that was read, or the limit was met.
pub record AnswerHasCause {D I O : Type 0} (flow : Flow) (answer : Answer) (tells : Bool) (held : D → Files)
    (moment : D → ℕ)
    (images : D → ℕ → Files → Type 0) (lot most : ℕ) (old new : D) (inbox_old inbox_new : I) (outbox_old outbox_new : O)
    : Type 0 where
  pub one_of : IsOfRun answer
  pub other_flow : answer ≡ OtherFlow
      → IsToldShut (identity_of flow) answer tells held moment lot old new inbox_old inbox_new outbox_old outbox_new
  pub damaged : (damage : Damage) → answer ≡ Damaged damage
      → IsToldShut (identity_of flow) answer tells held moment lot old new inbox_old inbox_new outbox_old outbox_new
      ⊎ IsToldByRead tells moment old new
  pub limited : (limit : Limit) → answer ≡ Limited limit
      → RunIsLimited flow tells held moment images lot most limit old new

-- A device's fault count never falls, and its fault is told only where the count rose, or stands at its type's end.
pub record RunCountsFaults (answer : Answer) (disk_old disk_new inbox_old inbox_new outbox_old outbox_new : ℕ)
    : Type 0 where
  pub disk : CountsFaults disk_old disk_new (answer ≡ Disk)
  pub inbox : CountsFaults inbox_old inbox_new (answer ≡ Inbox)
  pub outbox : CountsFaults outbox_old outbox_new (answer ≡ Outbox)

-- ---- a run of a flow that was read

-- What a run of the flow did to disk, inbox, outbox and sink.
pub record Runs {D I O S : Type 0} (flow : Flow) (answer : Answer) (given : ℕ → Type 0) (start time lot : ℕ)
    (options : RunOptions)
    (tells : Bool) (held : D → Files) (moment : D → ℕ) (images : D → ℕ → Files → Type 0) (old new : D)
    (in_tells : Bool) (left : I → List NamedFile) (inbox_old inbox_new : I)
    (out_tells : Bool) (standing : O → List ℕ → Option (List ℕ)) (puts : O → List NamedFile) (outbox_old outbox_new : O)
    (sink_tells : Bool) (written : S → List ℕ) (sink_faults : S → ℕ) (sink_old sink_new : S) : Type 0 where
  -- Where the devices tell and the files stand for a state of the flow, there is a journal of which all that HasRun
  -- says is true, whatever the answer, and its end was printed; or the store wasn't opened.
  pub headline : IsTrue tells → IsTrue in_tells → IsTrue out_tells → (state : State) → IsOfFlow flow lot (held old) state
      → HasShownEnd flow answer given
      (record { time = start; puts = puts outbox_old }) time tells held moment images lot
      options.max_commits options.checkpoint (machine_at state (left inbox_old) (standing outbox_old)) old new
      (left inbox_new) (outgoing standing puts outbox_new) sink_tells (written sink_old) (written sink_new)
      ⊎ IsNotOpened answer moment images old new inbox_old inbox_new outbox_old outbox_new
  -- Where the files stand for no state, or for one of another flow, the disk is synced once and nothing else is done,
  -- whatever the answer; or the store wasn't opened.
  pub shut : IsTrue tells → IsShut (identity_of flow) lot (held old)
      → IsLeftShut (identity_of flow) answer held moment images lot old new inbox_old inbox_new outbox_old outbox_new
      ⊎ IsNotOpened answer moment images old new inbox_old inbox_new outbox_old outbox_new
  -- Whatever inbox and outbox tell: only claims, events, the log, later logs with their snapshots, and a new store's
  -- snapshot are written, and where nothing is left to do or all of it is held back the log is short; or the store
  -- wasn't opened.
  pub alone : RunHasWritten answer moment images (held old) options.checkpoint old new
      ⊎ IsNotOpened answer moment images old new inbox_old inbox_new outbox_old outbox_new
  pub why : AnswerHasCause flow answer tells held moment images lot options.max_commits
      old new inbox_old inbox_new outbox_old outbox_new
  -- .. and behind any other answer than the end of a run whose store was closed stands its line
  pub line : IsRefusingAnswer answer → IsTrue sink_tells
      → IsLine sink_faults written (refusal_line answer) sink_old sink_new

-- ---- for private clauses: a flow over its store, before anything is printed

-- The flow has run. Where the devices tell and the files stand for a state of the flow, it has ended so; its store was
-- closed unless something failed; and it has written only what a run writes.
pub record HasRunOver {D I O : Type 0} (flow : Flow) (ran : Ran) (given : ℕ → Type 0)
    (start time lot most checkpoint : ℕ)
    (tells : Bool) (held : D → Files) (moment : D → ℕ) (images : D → ℕ → Files → Type 0) (old new : D)
    (in_tells : Bool) (left : I → List NamedFile) (inbox_old inbox_new : I)
    (out_tells : Bool) (standing : O → List ℕ → Option (List ℕ)) (puts : O → List NamedFile) (outbox_old outbox_new : O)
    : Type 0 where
  pub ended : IsTrue tells → IsTrue in_tells → IsTrue out_tells → (state : State) → IsOfFlow flow lot (held old) state
      → HasEnded flow ran given (record { time = start; puts = puts outbox_old }) time tells held moment images lot
      most checkpoint (machine_at state (left inbox_old) (standing outbox_old)) old new
      (left inbox_new) (outgoing standing puts outbox_new)
  pub closed : MatchOption ran.closed (IsFault ran.ended) (λ closed. IsFault ran.ended → ⊥)
  pub alone : RunHasWritten (answer_of_end ran.ended) moment images (held old) checkpoint old new

-- Its store wasn't opened. Where the disk tells and the files stand for a state of the flow, that ended a run which has
-- done nothing, or nothing was done at all; and barely anything was written.
pub record HasNotRun {D I O : Type 0} (flow : Flow) (answer : Answer) (given : ℕ → Type 0)
    (start time lot most checkpoint : ℕ)
    (tells : Bool) (held : D → Files) (moment : D → ℕ) (images : D → ℕ → Files → Type 0) (old new : D)
    (left : I → List NamedFile) (inbox_old inbox_new : I)
    (standing : O → List ℕ → Option (List ℕ)) (puts : O → List NamedFile) (outbox_old outbox_new : O) : Type 0 where
  pub refused : IsOfStore answer
  pub failed : IsTrue tells → (state : State) → IsOfFlow flow lot (held old) state
      → HasFailed flow answer given (record { time = start; puts = puts outbox_old }) time tells held moment images lot
      most checkpoint (machine_at state (left inbox_old) (standing outbox_old)) old new
      (left inbox_new) (outgoing standing puts outbox_new)
      ⊎ IsNotOpened answer moment images old new inbox_old inbox_new outbox_old outbox_new
  pub barely : RunHasWritten answer moment images (held old) checkpoint old new
      ⊎ IsNotOpened answer moment images old new inbox_old inbox_new outbox_old outbox_new
