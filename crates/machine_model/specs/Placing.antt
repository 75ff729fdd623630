-- What becomes of the files of a finished session: their numbers, their contents, and where they go.
use Rattle.std.specs.Prelude.{ℕ, ◌+◌, ◌-◌, ◌^◌, ◌&&◌, ◌==◌, min, Bool, true, false, List, [], ◌∷◌, ◌++◌, map, filter, fold, count_by, unwrap_or, slice_get, slice_index, codes, zip, if◌then◌else◌}
use Rattle.std.specs.List.{enumerate_from, flat_map}
use Rattle.std.specs.FinMap.{insert, contains_key}
use Rattle.uuid.specs.Text.{hyphenated_text, lower}
use Rattle.flowfile_record.specs.Attributes.{AttributeMap}
use Rattle.flowfile_record.specs.Identifier.{identifier}
use Rattle.flowfile_record.specs.Outcome.{is_made, content_of}
use Rattle.flowfile_record.specs.declared.worked.End.{End}
use Rattle.flowfile_record.specs.declared.worked.End.TheVariants.{To, Back, Removed}
use Rattle.flowfile_record.specs.declared.worked.Origin.{Origin}
use Rattle.flowfile_record.specs.declared.worked.Origin.TheVariants as origin
use Rattle.flowfile_record.specs.declared.worked.Worked.{Worked}
use Rattle.machine_model.specs.declared.flow.Connection.{Connection}
use Rattle.machine_model.specs.declared.flow.Flow.{Flow}
use Rattle.machine_model.specs.declared.flow.Processor.{Processor}
use Rattle.machine_model.specs.declared.given.Given.{Given}
use Rattle.machine_model.specs.State.{QueuedFile, State}
use Rattle.machine_model.specs.Kinds.{relationships_of, is_among}

-- a flow file's uuid as text
abbrev pub uuid_text : (store number : ℕ) → List ℕ
uuid_text store number = hyphenated_text lower (identifier store number)

-- where a file goes
pub data Destination : Type 0 where
  -- to this connection's queue, and a clone of it to each of the others
  Queues : (first : ℕ) (others : List ℕ) → Destination
  -- back to where it was
  Returns : Destination
  -- out of the flow, by a relationship that is terminated
  Drops : (relationship : List ℕ) → Destination
  -- out of the flow
  Leaves : Destination

-- the places of the connections that a relationship of a processor leads to, in the flow's order
abbrev pub leads : ℕ → List ℕ → ℕ × Connection → Bool
leads processor relationship (place, connection) =
    (connection.source == processor) && is_among relationship connection.relationships

abbrev pub connections_of : Flow → ℕ → List ℕ → List ℕ
connections_of flow processor relationship =
    map (λ c. c.0) (filter (leads processor relationship) (enumerate_from 0 flow.connections))

abbrev pub to_connections : List ℕ → List ℕ → Destination
to_connections relationship [] = Drops relationship
to_connections relationship (first ∷ others) = Queues first others

abbrev pub to_relationship : Flow → ℕ → Processor → List ℕ → Destination
to_relationship flow place processor relationship =
    if is_among relationship processor.terminated then Drops relationship
    else to_connections relationship (connections_of flow place relationship)

-- the name of a processor's relationship at a place
abbrev pub relationship_at : Processor → ℕ → List ℕ
relationship_at processor place = unwrap_or (slice_get (relationships_of processor.kind) place) []

abbrev pub goes : Flow → ℕ → Processor → End → Destination
goes flow place processor (To relationship) =
    to_relationship flow place processor (relationship_at processor relationship)
goes flow place processor Back = Returns
goes flow place processor Removed = Leaves

-- a taken file keeps its number, and a made one gets the next
abbrev pub number_by : (next : ℕ) (taken : List ℕ) → Origin → ℕ
number_by next taken (origin.Taken place) = slice_index taken place
number_by next taken _ = next

abbrev pub next_behind : ℕ → Origin → ℕ
next_behind next (origin.Taken place) = next
next_behind next _ = next + 1

abbrev pub numbers_from : (next : ℕ) (taken : List ℕ) → List Worked → List ℕ
numbers_from next taken [] = []
numbers_from next taken (file ∷ files) =
    number_by next taken file.origin ∷ numbers_from (next_behind next file.origin) taken files

-- the least of some numbers, of which there is one
abbrev pub least : List ℕ → ℕ
least [] = 0
least (n ∷ []) = n
least (m ∷ n ∷ rest) = min m (least (n ∷ rest))

-- When the oldest data of a file entered: a child's is the least of its parents', which stand before it.
abbrev pub entered_by : (moment : ℕ) (taken before : List ℕ) → Origin → ℕ
entered_by moment taken before (origin.Taken place) = slice_index taken place
entered_by moment taken before origin.Created = moment
entered_by moment taken before origin.Received = moment
entered_by moment taken before (origin.Forked parent) = slice_index before parent
entered_by moment taken before (origin.Part parent) = slice_index before parent
entered_by moment taken before (origin.Cloned parent) = slice_index before parent
entered_by moment taken before (origin.Joined parents) = least (map (slice_index before) parents)

abbrev pub entered_in : (moment : ℕ) (taken : List ℕ) → List Worked → List ℕ
entered_in moment taken files = fold (λ before file. before ++ entered_by moment taken before file.origin ∷ []) [] files

-- a made file without a `filename` is named by its uuid
abbrev pub with_filename : Origin → (store number : ℕ) → AttributeMap → AttributeMap
with_filename (origin.Taken place) store number attributes = attributes
with_filename _ store number attributes =
    if contains_key attributes (codes "filename") then attributes
    else insert attributes (codes "filename") (uuid_text store number)

-- a moment that can't be told in 64 bits stands for their greatest
abbrev pub penalty_end_of : (penalised : Bool) (moment penalty : ℕ) → ℕ
penalty_end_of false moment penalty = 0
penalty_end_of true moment penalty = min (moment + penalty) (2 ^ 64 - 1)

-- a session that ends: its processor and that one's place in the flow, the state in which it ends, the files that it
-- took, by place, and what it was given
pub record EndedSession : Type 0 where
  pub flow : Flow
  pub place : ℕ
  pub processor : Processor
  pub state : State
  pub taken : List QueuedFile
  pub given : Given

-- a file of a session that has ended
pub record SettledFile : Type 0 where
  pub number : ℕ
  pub worked : Worked
  pub attributes : AttributeMap
  pub bytes : List ℕ
  pub entered : ℕ
  pub penalty_end : ℕ
  pub goes : Destination

abbrev pub settled_file : EndedSession → ℕ × ℕ × Worked → SettledFile
settled_file session (number, entered, worked) = record {
  number = number;
  worked = worked;
  attributes = with_filename worked.origin session.state.store number worked.attributes;
  bytes = content_of (map (λ file. file.bytes) session.taken) worked.body;
  entered = entered;
  penalty_end = penalty_end_of worked.penalised session.given.moment session.processor.penalty;
  goes = goes session.flow session.place session.processor worked.end;
}

-- the files of a session that has ended, by place
abbrev pub settled_files : EndedSession → List Worked → List SettledFile
settled_files session files =
    let numbers = numbers_from session.state.next_number (map (λ file. file.number) session.taken) files in
    let entered = entered_in session.given.moment (map (λ file. file.entered) session.taken) files in
    map (λ f. settled_file session (f.0, f.1.0, f.1.1)) (zip numbers (zip entered files))

-- a clone that a file's further connection gets
pub record SettlementClone : Type 0 where
  pub number : ℕ
  pub original : SettledFile
  pub connection : ℕ

abbrev pub further_connections : Destination → List ℕ
further_connections (Queues first others) = others
further_connections _ = []

-- by place, then by connection
abbrev pub wanted_clones : List SettledFile → List (SettledFile × ℕ)
wanted_clones files = flat_map (λ file. map (λ connection. (file, connection)) (further_connections file.goes)) files

abbrev pub clones_from : ℕ → List (SettledFile × ℕ) → List SettlementClone
clones_from next [] = []
clones_from next (clone ∷ clones) =
    record { number = next; original = clone.0; connection = clone.1 } ∷ clones_from (next + 1) clones

abbrev pub count_made : List Worked → ℕ
count_made files = count_by (λ file. is_made file.origin) files

-- their numbers follow those of all made files
abbrev pub settlement_clones : EndedSession → List Worked → List SettlementClone
settlement_clones session files =
    clones_from (session.state.next_number + count_made files) (wanted_clones (settled_files session files))
