-- What is printed of a state.
use Rattle.std.specs.Prelude.{ℕ, List, [], ◌∷◌, ◌++◌, codes, decimal, length, filter}
use Rattle.std.specs.List.{flat_map, sum_by, zip}
use Rattle.serde_json.specs.Written.{compact_text}
use Rattle.flowfile_record.specs.Identifier.{identifier}
use Rattle.flowfile_record.specs.declared.event.Event.{Event}
use Rattle.machine_model.specs.Files.{content_bytes, is_number_among}
use Rattle.machine_model.specs.Lineage.{Lineage}
use Rattle.machine_model.specs.State.{QueuedFile, State}
use Rattle.flow_report.specs.Events.{event_data}
use Rattle.flow_report.specs.Texts.{line_end, line_of, connection_text, kin_word}
use Rattle.flow_report.specs.Words.{identifier_text}
use Rattle.flow_report.specs.declared.line.KinWord.{KinWord}
use Rattle.flow_report.specs.declared.line.KinWord.TheVariants.{File, Ancestor, Descendant}

-- ---- events

-- the line of an event of a store
abbrev pub event_text : ℕ → Event → List ℕ
event_text store event = compact_text (event_data store event) ++ line_end

abbrev pub events_text : State → List ℕ
events_text state = flat_map (event_text state.store) state.events

-- ---- queues

-- the line of a file of a queue: its identifier, and how many bytes its content has
abbrev pub queued_text : ℕ → QueuedFile → List ℕ
queued_text store file = line_of
    (codes "file " ∷ identifier_text (identifier store file.number) ∷ codes " " ∷ decimal (length file.bytes) ∷ [])

-- the line of a connection, and behind it those of its files by arrival
abbrev pub queue_text : ℕ → List ℕ × List QueuedFile → List ℕ
queue_text store (id, queue) =
    connection_text id (length queue) (content_bytes queue) ++ flat_map (queued_text store) queue

-- the connections in the order in which the store keeps them, each by its id and its queue
abbrev pub queues_text : ℕ → (ids : List (List ℕ)) → List (List QueuedFile) → List ℕ
queues_text store ids queues = flat_map (queue_text store) (zip ids queues)

-- ---- soundness

abbrev pub files_in : State → ℕ
files_in state = sum_by length state.queues

-- how many files are in all queues, and how many events there are
abbrev pub sound_text : State → List ℕ
sound_text state = line_of
    (codes "store sound: files " ∷ decimal (files_in state) ∷ codes ", events " ∷ decimal (length state.events) ∷ [])

-- ---- lineage

-- the line of a file of a lineage
abbrev pub kin_text : KinWord → (store file : ℕ) → List ℕ
kin_text word store file = line_of (kin_word word ∷ codes " " ∷ identifier_text (identifier store file) ∷ [])

-- the events of these numbers
abbrev pub told_in : List Event → (numbers : List ℕ) → List Event
told_in events numbers = filter (λ event. is_number_among numbers event.number) events

-- the file, its ancestors and its descendants by their numbers, and the events of a store that tell of it
abbrev pub lineage_text : (store : ℕ) → List Event → (file : ℕ) → Lineage → List ℕ
lineage_text store events file lineage =
    kin_text File store file
    ++ flat_map (kin_text Ancestor store) lineage.ancestors
    ++ flat_map (kin_text Descendant store) lineage.descendants
    ++ flat_map (event_text store) (told_in events lineage.events)
