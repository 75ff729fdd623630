-- What is printed of an answer, and behind a run of the state that it reached.
use Rattle.std.specs.Prelude.{◌≡◌, ⊤, ℕ, ◌-◌, ◌^◌, ◌<◌, ◌==◌, List, [], ◌∷◌, ◌++◌, codes, decimal, filter, length, slice_get}
use Rattle.std.specs.List.{flat_map, zip}
use Rattle.std.specs.Option.{option_map_or}
use Rattle.flowfile_record.specs.Events.{code_of}
use Rattle.flowfile_record.specs.Stored.{kept_of}
use Rattle.flowfile_record.specs.declared.event.Event.{Event}
use Rattle.flowfile_record.specs.declared.event.EventKind.{EventKind}
use Rattle.kept_state.specs.declared.limit.Which.{Which}
use Rattle.kept_state.specs.declared.limit.Which.TheVariants as which
use Rattle.machine_model.specs.Files.{content_bytes}
use Rattle.machine_model.specs.State.{Machine, QueuedFile}
use Rattle.machine_model.specs.declared.flow.Connection.{Connection}
use Rattle.machine_model.specs.declared.flow.Flow.{Flow}
use Rattle.flow_definition.specs.Numbers.{rule_number}
use Rattle.flow_report.specs.Summary.{count_text, kinds, summary}
use Rattle.flow_report.specs.Texts.{connection_text, damage_text, line_of, text_of}
use Rattle.flow_report.specs.declared.line.Line.TheVariants as line
use Rattle.run_law.specs.declared.ended.Ended.{Ended}
use Rattle.run_law.specs.declared.ended.Ended.TheVariants as ending
use Rattle.engine_steps.specs.declared.close.Closed.{Closed}
use Rattle.flow_query.specs.Parts.{HasFront}
use Rattle.run_top.specs.declared.answer.Answer.{Answer}
use Rattle.run_top.specs.declared.answer.Answer.TheVariants.{Done, Usage, Refused, OtherFlow, Damaged, Disk, Inbox, Outbox, Source, Sink, Blocked, Limit, Memory}
use Rattle.run_top.specs.declared.printing.TheConstants.{OTHER_FLOW_RULE}

-- ---- a line of an answer

abbrev pub refused_line : (rule : ℕ) → (place : List ℕ) → List ℕ
refused_line rule place = line_of (codes "flow refused: rule " ∷ decimal rule ∷ codes " at " ∷ place ∷ [])

-- the line of an answer; the end of a run whose store was closed has none
abbrev pub refusal_line : Answer → List ℕ
refusal_line Usage = text_of line.Usage
refusal_line (Refused rule place) = refused_line (rule_number rule) place
refusal_line OtherFlow = refused_line OTHER_FLOW_RULE (codes "/")
refusal_line (Damaged damage) = damage_text damage
refusal_line Disk = text_of line.DiskFault
refusal_line Inbox = text_of line.InboxFault
refusal_line Outbox = text_of line.OutboxFault
refusal_line Source = text_of line.SourceFault
refusal_line Memory = text_of line.OutOfMemory
refusal_line _ = []

-- an answer that isn't the end of a run whose store was closed, nor that its text couldn't be printed
abbrev pub IsRefusingAnswer : Answer → Type 0
IsRefusingAnswer Done = ⊥
IsRefusingAnswer Sink = ⊥
IsRefusingAnswer (Blocked connection) = ⊥
IsRefusingAnswer (Limit limit) = ⊥
IsRefusingAnswer _ = ⊤

-- ---- the text of a run whose store was closed

abbrev pub limit_word : Which → List ℕ
limit_word which.Journal = codes "journal"
limit_word which.Files = codes "files"
limit_word which.FileBytes = codes "file-bytes"
limit_word which.Claims = codes "claims"
limit_word which.Numbers = codes "numbers"

-- the id of the connection at a place
abbrev pub connection_at : Flow → (place : ℕ) → List ℕ
connection_at flow place = option_map_or (λ connection. connection.id) (slice_get flow.connections place) []

-- what held the run back, or ended it
abbrev pub end_line : Flow → Ended → List ℕ
end_line flow (ending.Blocked place) = line_of (codes "blocked: " ∷ connection_at flow place ∷ [])
end_line flow (ending.Limit limit) =
    line_of (codes "limit: " ∷ limit_word limit.which ∷ codes " " ∷ decimal limit.number ∷ [])
end_line flow _ = []

-- a connection with its queue: how many files it has, and how many bytes they have together
abbrev pub queue_line : Connection × List QueuedFile → List ℕ
queue_line (connection, queue) = connection_text connection.id (length queue) (content_bytes queue)

abbrev pub count_of_kind : List Event → EventKind → ℕ
count_of_kind events kind = length (filter (λ event. code_of event.kind == code_of kind) events)

-- the connections in the flow's order, how many names are left in the inbox, and how many events there are of each kind
abbrev pub machine_summary : Flow → Machine → List ℕ
machine_summary flow m =
    flat_map queue_line (zip flow.connections m.state.queues)
    ++ (line_of (codes "inbox " ∷ decimal (length m.world.left) ∷ [])
    ++ flat_map (λ kind. count_text kind (count_of_kind m.state.events kind)) kinds)

-- the text of a run that ended so, at this machine
abbrev pub end_text : Flow → Ended → Machine → List ℕ
end_text flow ended m = machine_summary flow m ++ end_line flow ended

-- ---- what is left in the sink

-- Behind what stood there stands the text, or where the sink's failure is told a front of it.
pub record AnswerIsPrinted (answer : Answer) (text before after : List ℕ) : Type 0 where
  pub whole : (answer ≡ Sink → ⊥) → after ≡ before ++ text
  pub front : answer ≡ Sink → HasFront text before after

-- A front of the line, and all of it unless the fault count rose, or stands at its type's end.
pub record IsLine {S : Type 0} (faults : S → ℕ) (written : S → List ℕ) (text : List ℕ) (old new : S) : Type 0 where
  pub front : HasFront text (written old) (written new)
  pub whole : faults new < 2 ^ 64 - 1 → faults new ≡ faults old → written new ≡ written old ++ text

-- ---- for private clauses

-- the text that is printed of what a run left
abbrev pub closing_text : Flow → Ended → Closed → List ℕ
closing_text flow ended closed =
    summary flow (kept_of closed.state) closed.left closed.events ++ end_line flow ended
