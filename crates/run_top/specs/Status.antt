-- What a command comes to, and its status.
use Rattle.std.specs.Prelude.{ℕ, Result, Ok, Err}
use Rattle.flow_scheduler.specs.declared.run.Ran.{Ran}
use Rattle.run_law.specs.declared.ended.Ended.{Ended}
use Rattle.run_law.specs.declared.ended.Ended.TheVariants as ending
use Rattle.run_law.specs.declared.ended.Fault.{Fault}
use Rattle.run_law.specs.declared.ended.Fault.TheVariants as fault
use Rattle.store_core.specs.declared.error.StoreError.{StoreError}
use Rattle.store_core.specs.declared.error.StoreError.TheVariants as store
use Rattle.run_top.specs.declared.answer.Answer.{Answer}
use Rattle.run_top.specs.declared.answer.Answer.TheVariants.{Done, Usage, Refused, OtherFlow, Damaged, Disk, Inbox, Outbox, Source, Sink, Blocked, Limit, Memory, Absent}
use Rattle.run_top.specs.declared.status.TheConstants.{DONE, USAGE, FLOW_REFUSED, DAMAGED, DISK_FAULT, INBOX_FAULT, OUTBOX_FAULT, SOURCE_FAULT, SINK_FAULT, BLOCKED, LIMIT, OUT_OF_MEMORY, ABSENT}

abbrev pub status_of : Answer → ℕ
status_of Done = DONE
status_of Usage = USAGE
status_of (Refused rule place) = FLOW_REFUSED
status_of OtherFlow = FLOW_REFUSED
status_of (Damaged damage) = DAMAGED
status_of Disk = DISK_FAULT
status_of Inbox = INBOX_FAULT
status_of Outbox = OUTBOX_FAULT
status_of Source = SOURCE_FAULT
status_of Sink = SINK_FAULT
status_of (Blocked connection) = BLOCKED
status_of (Limit limit) = LIMIT
status_of Memory = OUT_OF_MEMORY
status_of Absent = ABSENT

-- ---- how a run ends

abbrev pub answer_of_fault : Fault → Answer
answer_of_fault fault.Disk = Disk
answer_of_fault fault.Inbox = Inbox
answer_of_fault fault.Outbox = Outbox
answer_of_fault (fault.Damaged damage) = Damaged damage
answer_of_fault fault.Memory = Memory

abbrev pub answer_of_end : Ended → Answer
answer_of_end ending.Quiet = Done
answer_of_end (ending.Blocked connection) = Blocked connection
answer_of_end (ending.Limit limit) = Limit limit
answer_of_end (ending.Fault cause) = answer_of_fault cause

-- what a run comes to, or what came instead of it
abbrev pub answer_of_run : Result Ran Answer → Answer
answer_of_run (Ok ran) = answer_of_end ran.ended
answer_of_run (Err answer) = answer

-- what a refusal of the store to open means. No opening is refused by a limit
abbrev pub answer_of_opening : StoreError → Answer
answer_of_opening store.Disk = Disk
answer_of_opening store.MustReopen = Disk
answer_of_opening store.Memory = Memory
answer_of_opening (store.Limit limit) = Memory
answer_of_opening (store.Damaged damage) = Damaged damage
answer_of_opening (store.OtherFlow kept found) = OtherFlow
