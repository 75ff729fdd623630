-- What a trial promises.
use Rattle.std.specs.Prelude.{◌≡◌, ◌⊎◌, ⊤, ℕ, Bool, true, List, [], IsTrue, Result, Ok, Err}
use Rattle.disk_trait.specs.Faults.{CountsFaults}
use Rattle.disk_trait.specs.Files.{Files}
use Rattle.disk_trait.specs.MemoryDisk.{held_by, left_by, moment_of}
use Rattle.disk_trait.specs.declared.memory.MemoryDisk.{MemoryDisk}
use Rattle.flowfile_record.specs.NamedFile.{NamedFile, bytes_of}
use Rattle.machine_model.specs.State.{Machine}
use Rattle.machine_model.specs.Valid.{new_state}
use Rattle.machine_model.specs.declared.flow.Flow.{Flow}
use Rattle.flow_words.specs.declared.command.TheConstants.{DEFAULT_CHECKPOINT, DEFAULT_COMMITS}
use Rattle.trial_flow.specs.Trial.{IsTrialFlow}
use Rattle.run_law.specs.Puts.{Outgoing, Start}
use Rattle.run_law.specs.Run.{machine_at}
use Rattle.run_law.specs.declared.ended.Ended.{Ended}
use Rattle.run_law.specs.declared.ended.Ended.TheVariants as ending
use Rattle.flow_scheduler.specs.declared.run.Ran.{Ran}
use Rattle.run_top.specs.Printing.{IsLine, refusal_line}
use Rattle.run_top.specs.Run.{HasEnded, HasShownEnd}
use Rattle.run_top.specs.declared.answer.Answer.{Answer}
use Rattle.run_top.specs.declared.answer.Answer.TheVariants.{Done, Sink, Blocked, Memory}
use Rattle.run_top.specs.declared.answer.Answer.TheVariants.{Limit as Limited}

-- a disk that has no files
abbrev pub no_disk_files : Files
no_disk_files = λ file. []

-- a new store of the flow, an inbox with no files and an outbox in which none stand
abbrev pub new_machine : Flow → (lot : ℕ) → Machine
new_machine flow lot = machine_at (new_state flow lot) [] (bytes_of [])

-- the clock in memory stands at 0, and nothing was put
abbrev pub new_start : Start
new_start = record { time = 0; puts = [] }

-- of a moment that such a clock gave nothing is said
abbrev pub any_moment : ℕ → Type 0
any_moment moment = ⊤

-- The flow of a trial ran on a disk in memory that had no files, from a new store, an empty inbox and an empty outbox,
-- and from the clock's time 0 on. Its end is told, and its text was printed.
pub record HasTried (count lot : ℕ) (answer : Answer) (sink_tells : Bool) (before after : List ℕ) : Type 0 where
  pub flow : Flow
  pub is : IsTrialFlow count flow
  pub old : MemoryDisk
  pub new : MemoryDisk
  pub empty : held_by old ≡ no_disk_files
  pub time : ℕ
  pub left : List NamedFile
  pub out : Outgoing
  pub shown : HasShownEnd flow answer any_moment new_start time true held_by moment_of left_by lot DEFAULT_COMMITS
      DEFAULT_CHECKPOINT (new_machine flow lot) old new left out sink_tells before after

-- the answers of a trial
abbrev pub IsOfTrial : Answer → Type 0
IsOfTrial Done = ⊤
IsOfTrial Sink = ⊤
IsOfTrial (Blocked place) = ⊤
IsOfTrial (Limited limit) = ⊤
IsOfTrial Memory = ⊤
IsOfTrial _ = ⊥

-- What a trial of so many files came to.
pub record IsTried {S : Type 0} (answer : Answer) (count lot : ℕ) (sink_tells : Bool) (written : S → List ℕ)
    (sink_faults : S → ℕ) (sink_old sink_new : S) : Type 0 where
  -- The flow has run, and its end was printed; or memory was wanting.
  pub headline : HasTried count lot answer sink_tells (written sink_old) (written sink_new) ⊎ (answer ≡ Memory)
  pub one_of : IsOfTrial answer
  -- .. which its line says.
  pub line : answer ≡ Memory → IsTrue sink_tells → IsLine sink_faults written (refusal_line answer) sink_old sink_new
  -- The sink's failure is told only where its count rose.
  pub faults : CountsFaults (sink_faults sink_old) (sink_faults sink_new) (answer ≡ Sink)

-- ---- for private clauses

-- a run over devices in memory
pub record RanInMemory (flow : Flow) (lot : ℕ) (ran : Ran) : Type 0 where
  pub old : MemoryDisk
  pub new : MemoryDisk
  pub empty : held_by old ≡ no_disk_files
  pub time : ℕ
  pub left : List NamedFile
  pub out : Outgoing
  pub ended : HasEnded flow ran any_moment new_start time true held_by moment_of left_by lot DEFAULT_COMMITS
      DEFAULT_CHECKPOINT (new_machine flow lot) old new left out

-- the run, unless it has ended so by a fault; for that memory was wanting
abbrev pub unless_fault : Ended → Ran → Result Ran Answer
unless_fault (ending.Fault cause) ran = Err Memory
unless_fault _ ran = Ok ran

-- a run that had memory enough
abbrev pub with_memory : Result Ran Answer → Result Ran Answer
with_memory (Ok ran) = unless_fault ran.ended ran
with_memory (Err answer) = Err Memory
