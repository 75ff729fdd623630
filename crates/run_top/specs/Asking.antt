-- What a query leaves: its answer, and behind a refusal the line that says why.
use Rattle.std.specs.Prelude.{◌≡◌, ℕ, ◌≤◌, Bool, IsTrue, IsErrOf, List, [], Result, Ok, Err}
use Rattle.disk_trait.specs.Faults.{CountsFaults}
use Rattle.disk_trait.specs.Files.{Files}
use Rattle.flowfile_record.specs.Stored.{Kept}
use Rattle.machine_model.specs.State.{State}
use Rattle.store_core.specs.Flow.{Flow}
use Rattle.store_core.specs.Kept.{kept_in}
use Rattle.store_core.specs.Seen.{no_flow}
use Rattle.store_core.specs.State.{stands_for}
use Rattle.flow_report.specs.Texts.{damage_text, text_of}
use Rattle.flow_report.specs.declared.line.Line.TheVariants as line
use Rattle.flow_query.specs.Answers.{IsQueryAnswer, IsSoundAnswer, TellsAbsence}
use Rattle.flow_query.specs.OwnFlow.{StoreIsMade}
use Rattle.flow_query.specs.declared.asking.Query.{Query}
use Rattle.flow_query.specs.declared.asking.Query.TheVariants as query
use Rattle.flow_query.specs.declared.error.QueryError.{QueryError}
use Rattle.flow_query.specs.declared.error.QueryError.TheVariants.{Absent, Disk, Sink, Damaged, Memory}
use Rattle.run_top.specs.Printing.{IsLine}
use Rattle.run_top.specs.declared.status.TheConstants.{DONE, DAMAGED, DISK_FAULT, SINK_FAULT, OUT_OF_MEMORY, ABSENT}

abbrev pub status_of_refusal : QueryError → ℕ
status_of_refusal Absent = ABSENT
status_of_refusal Disk = DISK_FAULT
status_of_refusal Sink = SINK_FAULT
status_of_refusal (Damaged damage) = DAMAGED
status_of_refusal Memory = OUT_OF_MEMORY

abbrev pub status_of_answer : Result (Unit {0}) QueryError → ℕ
status_of_answer (Ok _) = DONE
status_of_answer (Err error) = status_of_refusal error

-- the line of an identifier that the store has nothing of
abbrev pub absent_line : Query → List ℕ
absent_line (query.Lineage id) = text_of (line.Absent id)
absent_line (query.Content id) = text_of (line.Absent id)
absent_line _ = []

-- the line of a refusal; a sink that failed gets none
abbrev pub refusal_line : Query → QueryError → List ℕ
refusal_line query Absent = absent_line query
refusal_line query Disk = text_of line.DiskFault
refusal_line query Sink = []
refusal_line query (Damaged damage) = damage_text damage
refusal_line query Memory = text_of line.OutOfMemory

abbrev pub line_behind : Query → Result (Unit {0}) QueryError → List ℕ
line_behind query (Ok _) = []
line_behind query (Err error) = refusal_line query error

-- Between the two moments of the sink stands a third: up to it the answer was printed, and from it on its line.
pub record HasAnswered {S : Type 0} (query : Query) (status : ℕ) (disk_tells sink_tells : Bool) (files : Files)
    (written : S → List ℕ) (faults : S → ℕ) (old new : S) : Type 0 where
  pub result : Result (Unit {0}) QueryError
  pub told : status ≡ status_of_answer result
  pub between : S
  pub printed : IsTrue disk_tells → IsTrue sink_tells → (kept : Kept) → kept_in no_flow 0 files ≡ Ok kept
      → (state : State) → stands_for no_flow 0 files ≡ Ok state
      → IsQueryAnswer query kept.connections state (written old) (written between) result
  -- it is the answer of what a run of any flow finds that opens these files, once a store is made
  pub of_run : IsTrue disk_tells → IsTrue sink_tells → StoreIsMade files → (flow : Flow) (lot : ℕ) (kept : Kept)
      → kept_in flow lot files ≡ Ok kept → (state : State) → stands_for flow lot files ≡ Ok state
      → IsQueryAnswer query kept.connections state (written old) (written between) result
  -- whatever the sink tells, an absence is told exactly where it is one
  pub absence : IsTrue disk_tells → (state : State) → stands_for no_flow 0 files ≡ Ok state
      → TellsAbsence query state result
  pub sound : IsTrue disk_tells → IsSoundAnswer files old between result
  pub line : IsTrue sink_tells → IsLine faults written (line_behind query result) between new
  pub failed : CountsFaults (faults old) (faults between) (IsErrOf result Sink)
  pub later : faults between ≤ faults new
