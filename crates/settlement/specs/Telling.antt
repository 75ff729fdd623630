-- The events that the calls inside tell: the machine's rows, over references in place of bytes.
use Rattle.std.specs.Prelude.{◌≡◌, ℕ, ◌+◌, ◌%◌, ◌^◌, Bool, List, [], ◌∷◌, ◌++◌, length, map, filter, Option, Some, None, slice_get, slice_index, slice_index_or, slice_set, unwrap_or, ◌||◌, if◌then◌else◌}
use Rattle.std.specs.Option.{option_map_or}
use Rattle.std.specs.List.{flat_map, enumerate_from, range_with_len}
use Rattle.flowfile_record.specs.Outcome.{same_attributes}
use Rattle.flowfile_record.specs.declared.event.Event.{Event}
use Rattle.flowfile_record.specs.declared.event.EventKind.{EventKind}
use Rattle.flowfile_record.specs.declared.event.EventKind.TheVariants as kind
use Rattle.flowfile_record.specs.declared.flow_file.FlowFile.{FlowFile}
use Rattle.flowfile_record.specs.declared.worked.Origin.{Origin}
use Rattle.flowfile_record.specs.declared.worked.Origin.TheVariants as origin
use Rattle.flowfile_record.specs.declared.worked.Sent.{Sent}
use Rattle.machine_model.specs.declared.flow.Processor.{Processor}
use Rattle.machine_model.specs.Events.{ascending, is_removed, is_forked_from, is_cloned_from}
use Rattle.machine_model.specs.Placing.{relationship_at}
use Rattle.settlement.specs.declared.file.EndedFile.{EndedFile}
use Rattle.settlement.specs.declared.file.Goes.{Goes}
use Rattle.settlement.specs.declared.file.Goes.TheVariants.{Drops, Leaves}
use Rattle.settlement.specs.Placing.{wanted}
use Rattle.settlement.specs.declared.offspring.Kinship.{Kinship}
use Rattle.settlement.specs.declared.offspring.Kinship.TheVariants.{Forked, Cloned}
use Rattle.settlement.specs.declared.rows.Row.{Row}
use Rattle.settlement.specs.declared.rows.Row.TheVariants as row
use Rattle.settlement.specs.declared.events.Teller.{Teller}

-- what the events of a session have in common: its moment, its processor, the name of the file that it received, the
-- files that it took, and those with which it ended
pub record ToldSession : Type 0 where
  pub moment : ℕ
  pub processor : Processor
  pub received : Option (List ℕ)
  pub taken : List FlowFile
  pub files : List EndedFile

abbrev pub told_by : Teller → ToldSession
told_by teller = record {
  moment = teller.given.now.moment;
  processor = teller.processor.now;
  received = teller.given.now.file;
  taken = teller.taken.now;
  files = teller.files.now;
}

-- an event whose number isn't given yet
abbrev pub Unnumbered : Type 0
Unnumbered = ℕ → Event

abbrev pub draft_of : ToldSession → EventKind → EndedFile → (parents children detail : List ℕ) → Unnumbered
draft_of told kind file parents children detail = λ number. record {
  number = number;
  kind = kind;
  moment = told.moment;
  component = told.processor.id;
  file = file.number;
  parents = parents;
  children = children;
  detail = detail;
  size = file.content.size;
  digest = file.content.digest;
}

-- an event that names no other file
abbrev pub draft_alone : ToldSession → EventKind → EndedFile → (detail : List ℕ) → Unnumbered
draft_alone told kind file detail = draft_of told kind file [] [] detail

-- numbered from here on, as far as 64 bits go
abbrev pub numbered_wrapping : ℕ → List Unnumbered → List Event
numbered_wrapping number [] = []
numbered_wrapping number (draft ∷ drafts) = draft (number % 2 ^ 64) ∷ numbered_wrapping (number + 1) drafts

-- more events, numbered on from those that there are, of which the first has this number
abbrev pub AddsDrafts : (first : ℕ) (old : List Event) → List Unnumbered → (new : List Event) → Type 0
AddsDrafts first old drafts new = new ≡ old ++ numbered_wrapping (first + length old) drafts

-- ---- children

-- whether a file is such a child of the file at a place
abbrev pub is_child : Kinship → (place : ℕ) → Origin → Bool
is_child Forked place origin = is_forked_from place origin
is_child Cloned place origin = is_cloned_from place origin

abbrev pub children_of : Kinship → List EndedFile → ℕ → List ℕ
children_of kinship files place =
    map (λ file. file.number) (filter (λ file. is_child kinship place file.worked.origin) files)

-- the place of the file of which a file is such a child
abbrev pub parent_of : Kinship → Origin → Option ℕ
parent_of Forked (origin.Forked parent) = Some parent
parent_of Forked (origin.Part parent) = Some parent
parent_of Cloned (origin.Cloned parent) = Some parent
parent_of _ _ = None

-- lists by place, with one number more in that of the parent
abbrev pub with_child_number : Option ℕ → (number : ℕ) → List (List ℕ) → List (List ℕ)
with_child_number None number lists = lists
with_child_number (Some parent) number lists =
    slice_set lists parent (slice_index_or lists parent [] ++ number ∷ [])

-- of each file its children
abbrev pub all_children : Kinship → List EndedFile → List (List ℕ)
all_children kinship files = map (children_of kinship files) (range_with_len 0 (length files))

-- ---- rows

abbrev pub ended_number : List EndedFile → ℕ → ℕ
ended_number files place = slice_index (map (λ file. file.number) files) place

abbrev pub create_drafts : ToldSession → EndedFile → Origin → List Unnumbered
create_drafts told file origin.Created = draft_alone told kind.Create file [] ∷ []
create_drafts told file _ = []

abbrev pub receive_drafts : ToldSession → EndedFile → Origin → List Unnumbered
receive_drafts told file origin.Received = draft_alone told kind.Receive file (unwrap_or told.received []) ∷ []
receive_drafts told file _ = []

abbrev pub fork_drafts : ToldSession → EndedFile → List ℕ → List Unnumbered
fork_drafts told parent [] = []
fork_drafts told parent (child ∷ children) =
    draft_of told kind.Fork parent (parent.number ∷ []) (child ∷ children) [] ∷ []

abbrev pub join_drafts : ToldSession → EndedFile → Origin → List Unnumbered
join_drafts told file (origin.Joined parents) =
    draft_of told kind.Join file (ascending (map (ended_number told.files) parents)) (file.number ∷ []) [] ∷ []
join_drafts told file _ = []

abbrev pub clone_draft : ToldSession → EndedFile → (clone : ℕ) → Unnumbered
clone_draft told original clone = draft_of told kind.Clone original (original.number ∷ []) (clone ∷ []) []

abbrev pub modify_drafts : ToldSession → EndedFile → Origin → List Unnumbered
modify_drafts told file (origin.Taken place) =
    if is_removed file.worked.«end» then []
    else if file.worked.written then draft_alone told kind.ContentModified file [] ∷ []
    else []
modify_drafts told file _ = []

-- where a file has other attributes than the one that was taken
abbrev pub if_other : ToldSession → EndedFile → Option FlowFile → List Unnumbered
if_other told file None = []
if_other told file (Some taken) =
    if same_attributes taken.attributes file.worked.attributes then []
    else draft_alone told kind.AttributesModified file [] ∷ []

abbrev pub attributes_drafts : ToldSession → EndedFile → Origin → List Unnumbered
attributes_drafts told file (origin.Taken place) =
    if is_removed file.worked.«end» || file.worked.written then []
    else if_other told file (slice_get told.taken place)
attributes_drafts told file _ = []

abbrev pub route_drafts : ToldSession → EndedFile → Option ℕ → List Unnumbered
route_drafts told file (Some relationship) =
    draft_alone told kind.Route file (relationship_at told.processor relationship) ∷ []
route_drafts told file None = []

abbrev pub drop_drafts : ToldSession → EndedFile → Goes → List Unnumbered
drop_drafts told file (Drops relationship) = draft_alone told kind.Drop file relationship ∷ []
drop_drafts told file Leaves = draft_alone told kind.Drop file [] ∷ []
drop_drafts told file _ = []

-- what a row tells of the file at a place
abbrev pub row_at : ToldSession → Row → ℕ × EndedFile → List Unnumbered
row_at told row.Created (place, file) = create_drafts told file file.worked.origin
row_at told row.Received (place, file) = receive_drafts told file file.worked.origin
row_at told row.Forked (place, file) = fork_drafts told file (children_of Forked told.files place)
row_at told row.Joined (place, file) = join_drafts told file file.worked.origin
row_at told row.Cloned (place, file) = map (clone_draft told file) (children_of Cloned told.files place)
row_at told row.ContentModified (place, file) = modify_drafts told file file.worked.origin
row_at told row.AttributesModified (place, file) = attributes_drafts told file file.worked.origin
row_at told row.Routed (place, file) = route_drafts told file file.worked.routed
row_at told row.Dropped (place, file) = drop_drafts told file file.goes

abbrev pub row_drafts : ToldSession → Row → List Unnumbered
row_drafts told row = flat_map (row_at told row) (enumerate_from 0 told.files)

abbrev pub send_drafts : ToldSession → Option Sent → List Unnumbered
send_drafts told (Some put) = option_map_or (λ file. draft_alone told kind.Send file put.name ∷ [])
    (slice_get told.files put.place) []
send_drafts told None = []

-- ---- clones

abbrev pub clone_events : ToldSession → (number : ℕ) → List (EndedFile × ℕ) → List Unnumbered
clone_events told number [] = []
clone_events told number (clone ∷ clones) = clone_draft told clone.0 number ∷ clone_events told (number + 1) clones

-- ---- all of them

-- which files were made, and from which
abbrev pub made_rows : ToldSession → List Unnumbered
made_rows told =
    row_drafts told row.Created
    ++ row_drafts told row.Received
    ++ row_drafts told row.Forked
    ++ row_drafts told row.Joined
    ++ row_drafts told row.Cloned

-- what changed of the taken files, and which files were routed
abbrev pub changed_rows : ToldSession → List Unnumbered
changed_rows told =
    row_drafts told row.ContentModified ++ row_drafts told row.AttributesModified ++ row_drafts told row.Routed

abbrev pub all_drafts : ToldSession → Option Sent → (first_clone : ℕ) → List Unnumbered
all_drafts told put first_clone =
    made_rows told
    ++ changed_rows told
    ++ send_drafts told put
    ++ clone_events told first_clone (wanted told.files)
    ++ row_drafts told row.Dropped

-- a teller has the children of each of its files
pub record TellerIsReady (teller : Teller) : Type 0 where
  pub forked : teller.forked.now ≡ all_children Forked teller.files.now
  pub cloned : teller.cloned.now ≡ all_children Cloned teller.files.now
