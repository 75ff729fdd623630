-- What a query answers of a state.
use Rattle.std.specs.Prelude.{◌≡◌, ◌⊎◌, ⊤, ℕ, true, List, ◌++◌, Contains, Result, Ok, Err}
use Rattle.disk_trait.specs.Files.{Files}
use Rattle.flowfile_record.specs.Identifier.{identifier}
use Rattle.machine_model.specs.Files.{queue_at}
use Rattle.machine_model.specs.Lineage.{IsLineage, Lineage, is_named}
use Rattle.machine_model.specs.State.{QueuedFile, State}
use Rattle.flow_report.specs.Writing.{IsFront}
use Rattle.store_core.specs.Seen.{HasContent, no_flow}
use Rattle.store_core.specs.State.{stands_for}
use Rattle.flow_query.specs.Texts.{events_text, lineage_text, queues_text, sound_text}
use Rattle.flow_query.specs.declared.asking.Query.{Query}
use Rattle.flow_query.specs.declared.asking.Query.TheVariants as query
use Rattle.flow_query.specs.declared.error.QueryError.{QueryError}
use Rattle.flow_query.specs.declared.error.QueryError.TheVariants.{Absent, Disk, Sink, Damaged, Memory}

-- ---- what is printed

-- the bytes of a queued file that has this identifier
pub record IsContentOfId (id : List ℕ) (state : State) (text : List ℕ) : Type 0 where
  pub number : ℕ
  pub identified : identifier state.store number ≡ id
  pub content : HasContent number text state

-- the lineage of a file that has this identifier, and that an event names
pub record IsLineageOfId (id : List ℕ) (state : State) (text : List ℕ) : Type 0 where
  pub file : ℕ
  pub identified : identifier state.store file ≡ id
  pub named : is_named state.events file ≡ true
  pub lineage : Lineage
  pub told : IsLineage state.events file lineage
  pub text_is : text ≡ lineage_text state.store state.events file lineage

-- This is what a query prints of a state, whose connections have these ids.
abbrev pub Prints : Query → (ids : List (List ℕ)) → State → (text : List ℕ) → Type 0
Prints query.Queues ids state text = text ≡ queues_text state.store ids state.queues
Prints query.Events ids state text = text ≡ events_text state
Prints (query.Lineage id) ids state text = IsLineageOfId id state text
Prints (query.Content id) ids state text = IsContentOfId id state text
Prints query.Check ids state text = text ≡ sound_text state

-- There is nothing of this identifier: no event names such a file, or none stands in a queue.
abbrev pub IsAbsent : Query → State → Type 0
IsAbsent query.Queues state = ⊥
IsAbsent query.Events state = ⊥
IsAbsent (query.Lineage id) state =
    (file : ℕ) → identifier state.store file ≡ id → is_named state.events file ≡ true → ⊥
IsAbsent (query.Content id) state =
    (place : ℕ) (file : QueuedFile) → Contains (queue_at state place) file → identifier state.store file.number ≡ id → ⊥
IsAbsent query.Check state = ⊥

-- Nothing of the identifier is told exactly where there is none, unless something failed.
abbrev pub TellsAbsence : Query → State → Result (Unit {0}) QueryError → Type 0
TellsAbsence query state (Ok _) = IsAbsent query state → ⊥
TellsAbsence query state (Err Absent) = IsAbsent query state
TellsAbsence query state (Err (Damaged _)) = ⊤
TellsAbsence query state (Err Disk) = ⊤
TellsAbsence query state (Err Sink) = ⊤
TellsAbsence query state (Err Memory) = ⊤

-- ---- what a call leaves in the sink

-- a front of what is printed was written
pub record HasBegun (query : Query) (ids : List (List ℕ)) (state : State) (before after : List ℕ) : Type 0 where
  pub text : List ℕ
  pub prints : Prints query ids state text
  pub part : List ℕ
  pub front : IsFront part text
  pub written : after ≡ before ++ part

-- .. or nothing
abbrev pub IsBrokenOff : Query → (ids : List (List ℕ)) → State → (before after : List ℕ) → Type 0
IsBrokenOff query ids state before after = (after ≡ before) ⊎ HasBegun query ids state before after

-- Behind what stood in the sink stands now what is printed, all of it; or nothing is there to be printed; or, after a
-- failure, only a front of it stands there.
abbrev pub IsQueryAnswer : Query → (ids : List (List ℕ)) → State → (before after : List ℕ)
    → Result (Unit {0}) QueryError → Type 0
IsQueryAnswer query ids state before after (Ok _) =
    (text : List ℕ) × Prints query ids state text × (after ≡ before ++ text)
IsQueryAnswer query ids state before after (Err Absent) = IsAbsent query state × (after ≡ before)
IsQueryAnswer query ids state before after (Err (Damaged _)) = ⊥
IsQueryAnswer query ids state before after (Err Disk) = IsBrokenOff query ids state before after
IsQueryAnswer query ids state before after (Err Sink) = IsBrokenOff query ids state before after
IsQueryAnswer query ids state before after (Err Memory) = IsBrokenOff query ids state before after

-- ---- of which stores answers come

-- these files stand for a state
abbrev pub StandsForSome : Files → Type 0
StandsForSome files = (state : State) × (stands_for no_flow 0 files ≡ Ok state)

-- An answer comes only of files that stand for a state, and so does a failure of the sink. A damage is the first that
-- the files have, and then nothing is printed. Of files that stand for none nothing is printed either.
abbrev pub IsSoundAnswer : {S : Type 0} → Files → (old new : S) → Result (Unit {0}) QueryError → Type 0
IsSoundAnswer files old new (Ok _) = StandsForSome files
IsSoundAnswer files old new (Err Absent) = StandsForSome files
IsSoundAnswer files old new (Err Sink) = StandsForSome files
IsSoundAnswer files old new (Err (Damaged damage)) = (stands_for no_flow 0 files ≡ Err damage) × (new ≡ old)
IsSoundAnswer files old new (Err Disk) = StandsForSome files ⊎ (new ≡ old)
IsSoundAnswer files old new (Err Memory) = StandsForSome files ⊎ (new ≡ old)
