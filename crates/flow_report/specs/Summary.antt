-- The summary of a run.
use Rattle.std.specs.Prelude.{ℕ, ◌+◌, ◌-◌, ◌==◌, List, [], ◌∷◌, ◌++◌, codes, decimal, length, filter, slice_index, if◌then◌else◌}
use Rattle.std.specs.List.{enumerate_from, flat_map, sum_by}
use Rattle.flowfile_record.specs.Events.{code_of}
use Rattle.flowfile_record.specs.Stored.{Kept}
use Rattle.flowfile_record.specs.declared.event.EventCounts.{EventCounts}
use Rattle.flowfile_record.specs.declared.event.EventKind.{EventKind}
use Rattle.flowfile_record.specs.declared.event.EventKind.TheVariants.{Create, Receive, Fork, Join, Clone, ContentModified, AttributesModified, Route, Send, Drop, Expire, Replay}
use Rattle.flowfile_record.specs.declared.stored.ActiveFile.{ActiveFile}
use Rattle.flowfile_record.specs.declared.stored.SwapBatch.{SwapBatch}
use Rattle.machine_model.specs.declared.flow.Connection.{Connection}
use Rattle.machine_model.specs.declared.flow.Flow.{Flow}
use Rattle.flow_report.specs.Texts.{line_of, connection_text}
use Rattle.flow_report.specs.Words.{event_word}

-- the active files and the batches of the connection at a place
abbrev pub active_in : ℕ → Kept → List ActiveFile
active_in place kept = filter (λ active. active.connection == place) kept.files

abbrev pub connection_batches : ℕ → Kept → List SwapBatch
connection_batches place kept = filter (λ batch. batch.connection == place) kept.batches

-- how many live files it has, those that are swapped out too, and the sum of their contents' sizes
abbrev pub connection_files : ℕ → Kept → ℕ
connection_files place kept =
    length (active_in place kept) + sum_by (λ batch. batch.files) (connection_batches place kept)

abbrev pub connection_bytes : ℕ → Kept → ℕ
connection_bytes place kept =
    sum_by (λ active. active.file.content.size) (active_in place kept)
    + sum_by (λ batch. batch.bytes) (connection_batches place kept)

-- a line for each connection, in the flow's order
abbrev pub connections_text : List Connection → Kept → List ℕ
connections_text connections kept =
    flat_map (λ at. connection_text at.1.id (connection_files at.0 kept) (connection_bytes at.0 kept))
    (enumerate_from 0 connections)

-- the kinds of events by their codes
abbrev pub kinds : List EventKind
kinds = Create ∷ Receive ∷ Fork ∷ Join ∷ Clone ∷ ContentModified ∷ AttributesModified ∷ Route ∷ Send ∷ Drop ∷ Expire
    ∷ Replay ∷ []

-- a line, if there are events of the kind
abbrev pub count_text : EventKind → ℕ → List ℕ
count_text kind count =
    if count == 0 then [] else line_of (codes "event " ∷ event_word kind ∷ codes " " ∷ decimal count ∷ [])

abbrev pub event_counts_text : EventCounts → List ℕ
event_counts_text events = flat_map (λ kind. count_text kind (slice_index events.counts (code_of kind - 1))) kinds

abbrev pub summary : Flow → Kept → (left : ℕ) → EventCounts → List ℕ
summary flow kept left events =
    connections_text flow.connections kept
    ++ (line_of (codes "inbox " ∷ decimal left ∷ []) ++ event_counts_text events)
