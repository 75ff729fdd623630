-- For private clauses: what the parts of the program answer and leave.
use Rattle.std.specs.Prelude.{◌≡◌, ◌⊎◌, ℕ, ◌==◌, Bool, true, List, [], ◌++◌, Contains, map, filter, length, slice_index_or, Option, None, Some, Result, Ok, Err}
use Rattle.std.specs.Global.{Vec}
use Rattle.std.specs.List.{flat_map, sum_by, enumerate_from, filter_map}
use Rattle.disk_trait.specs.declared.damage.Damage.{Damage}
use Rattle.flowfile_record.specs.Identifier.{identifier}
use Rattle.flowfile_record.specs.NumberedItems.{with_items}
use Rattle.flowfile_record.specs.Stored.{Kept}
use Rattle.flowfile_record.specs.declared.event.Event.{Event}
use Rattle.flowfile_record.specs.declared.stored.ActiveFile.{ActiveFile}
use Rattle.machine_model.specs.Lineage.{IsLineage, Lineage}
use Rattle.prov_index.specs.Index.{event_of}
use Rattle.flow_report.specs.Texts.{connection_text, text_of}
use Rattle.flow_report.specs.Writing.{IsFront}
use Rattle.flow_report.specs.declared.line.Line.TheVariants as line
use Rattle.flow_query.specs.Texts.{lineage_text}
use Rattle.flow_query.specs.declared.error.QueryError.{QueryError}
use Rattle.flow_query.specs.declared.error.QueryError.TheVariants.{Absent, Disk, Sink, Damaged, Memory}
use Rattle.flow_query.specs.declared.waiting.Waiting.{Waiting}

-- ---- what is written

-- a front of the text was written
abbrev pub HasFront : (text before after : List ℕ) → Type 0
HasFront text before after = (part : List ℕ) × IsFront part text × (after ≡ before ++ part)

-- Behind what stood there stands the whole text, or after a failure some front of it.
abbrev pub IsPrinted : (text before after : List ℕ) → Result (Unit {0}) QueryError → Type 0
IsPrinted text before after (Ok _) = after ≡ before ++ text
IsPrinted text before after (Err Absent) = ⊥
IsPrinted text before after (Err (Damaged _)) = ⊥
IsPrinted text before after (Err Disk) = HasFront text before after
IsPrinted text before after (Err Sink) = HasFront text before after
IsPrinted text before after (Err Memory) = HasFront text before after

-- the errors of a call that writes nothing
abbrev pub IsReadingError : QueryError → Type 0
IsReadingError error = (error ≡ Disk) ⊎ (error ≡ Memory) ⊎ ((damage : Damage) × (error ≡ Damaged damage))

-- ---- contents

-- a live file of this number has this identifier
pub record IsFileOfId (id : List ℕ) (k : Kept) (number : ℕ) : Type 0 where
  pub active : ActiveFile
  pub there : Contains k.files active
  pub numbered : active.file.number ≡ number
  pub identified : identifier k.store number ≡ id

-- no live file has it
abbrev pub HasNoFile : (id : List ℕ) → Kept → Type 0
HasNoFile id k = (active : ActiveFile) → Contains k.files active → identifier k.store active.file.number ≡ id → ⊥

-- ---- lineage

-- a number that passes a test has this identifier, or none does
abbrev pub IsFoundBy : (store : ℕ) → (id : List ℕ) → (test : ℕ → Bool) → Option ℕ → Type 0
IsFoundBy store id test (Some n) = (identifier store n ≡ id) × (test n ≡ true)
IsFoundBy store id test None = (n : ℕ) → identifier store n ≡ id → test n ≡ true → ⊥

-- The lineage of a file was written, or after a failure of the sink a front of it. Without memory for it, nothing was.
abbrev pub LineageIsPrinted : (store : ℕ) → List Event → (file : ℕ) → (before after : List ℕ)
    → Result (Unit {0}) QueryError → Type 0
LineageIsPrinted store events file before after (Ok _) =
    (lineage : Lineage) × IsLineage events file lineage × (after ≡ before ++ lineage_text store events file lineage)
LineageIsPrinted store events file before after (Err Sink) =
    (lineage : Lineage) × IsLineage events file lineage
    × HasFront (lineage_text store events file lineage) before after
LineageIsPrinted store events file before after (Err Memory) = after ≡ before
LineageIsPrinted store events file before after (Err Absent) = ⊥
LineageIsPrinted store events file before after (Err Disk) = ⊥
LineageIsPrinted store events file before after (Err (Damaged _)) = ⊥

-- the events of these numbers, one behind the other
abbrev pub events_at : List Event → (numbers : List ℕ) → List Event
events_at events numbers = filter_map (event_of events) numbers

-- ---- queues

-- the errors of a call that reads no file
abbrev pub IsSinkOrMemory : QueryError → Type 0
IsSinkOrMemory error = (error ≡ Sink) ⊎ (error ≡ Memory)

abbrev pub waiting_arrival : Waiting → ℕ
waiting_arrival w = w.arrival

-- what a queue's lines say of a live file
abbrev pub waiting_of : ActiveFile → Waiting
waiting_of a = record { arrival = a.file.arrival; number = a.file.number; size = a.file.content.size }

-- those of the files of a connection, as the files stand
abbrev pub waiting_in : List ActiveFile → (place : ℕ) → List Waiting
waiting_in files place = map waiting_of (filter (λ a. a.connection == place) files)

-- what is listed at a place of lists
abbrev pub listed_waiting : List (Vec Waiting) → (place : ℕ) → List Waiting
listed_waiting lists place = slice_index_or (map (λ list. list.items) lists) place []

-- .. and by arrival
abbrev pub waiting_at : List ActiveFile → (place : ℕ) → List Waiting
waiting_at files place = with_items waiting_arrival (waiting_in files place) []

abbrev pub waiting_size : Waiting → ℕ
waiting_size w = w.size

abbrev pub waiting_text : ℕ → Waiting → List ℕ
waiting_text store w = text_of (line.Queued (identifier store w.number) w.size)

-- a connection's line, and behind it those of its files
abbrev pub line_text : ℕ → (id : List ℕ) → List Waiting → List ℕ
line_text store id queue =
    connection_text id (length queue) (sum_by waiting_size queue) ++ flat_map (waiting_text store) queue

-- all of them, in the order of the connections
abbrev pub lines_text : Kept → List ℕ
lines_text k = flat_map (λ p. line_text k.store p.1 (waiting_at k.files p.0)) (enumerate_from 0 k.connections)
