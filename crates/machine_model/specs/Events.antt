-- The events that tell of a session.
use Rattle.std.specs.Prelude.{ℕ, ◌+◌, ◌==◌, nat_le, Bool, true, false, List, [], ◌∷◌, ◌++◌, ◌||◌, length, map, filter, Option, Some, None, slice_get, slice_index, unwrap_or, if◌then◌else◌}
use Rattle.std.specs.Option.{option_map_or}
use Rattle.std.specs.List.{flat_map, enumerate_from}
use Rattle.sha2.specs.Sha256.{sha256}
use Rattle.flowfile_record.specs.Outcome.{same_attributes}
use Rattle.flowfile_record.specs.declared.event.Event.{Event}
use Rattle.flowfile_record.specs.declared.event.EventKind.{EventKind}
use Rattle.flowfile_record.specs.declared.event.EventKind.TheVariants as kind
use Rattle.flowfile_record.specs.declared.worked.End.{End}
use Rattle.flowfile_record.specs.declared.worked.End.TheVariants.{Removed}
use Rattle.flowfile_record.specs.declared.worked.Origin.{Origin}
use Rattle.flowfile_record.specs.declared.worked.Origin.TheVariants as origin
use Rattle.flowfile_record.specs.declared.worked.Outcome.{Outcome}
use Rattle.flowfile_record.specs.declared.worked.Sent.{Sent}
use Rattle.machine_model.specs.Placing.{EndedSession, SettledFile, settled_files, settlement_clones, Destination, Drops, Leaves, relationship_at}

-- What a session tells by one event, whose number isn't given yet: the event, and for which pairs of a child and its
-- parent it is told. The pairs are those of an origin or of a clone, whatever the event says.
pub record Draft : Type 0 where
  pub event : ℕ → Event
  pub kin : List (ℕ × ℕ)

-- an event of a file under its number
abbrev pub of_file : EndedSession → EventKind → SettledFile → (parents children detail : List ℕ) → (number : ℕ) → Event
of_file session kind file parents children detail number = record {
  number = number;
  kind = kind;
  moment = session.given.moment;
  component = session.processor.id;
  file = file.number;
  parents = parents;
  children = children;
  detail = detail;
  size = length file.bytes;
  digest = sha256 file.bytes;
}

-- an event that names no other file
abbrev pub alone : EndedSession → EventKind → SettledFile → (detail : List ℕ) → Draft
alone session kind file detail = record { event = of_file session kind file [] [] detail; kin = [] }

-- some numbers, ascending
abbrev pub put_ascending : ℕ → List ℕ → List ℕ
put_ascending n [] = n ∷ []
put_ascending n (m ∷ rest) = if nat_le n m then n ∷ m ∷ rest else m ∷ put_ascending n rest

abbrev pub ascending : List ℕ → List ℕ
ascending [] = []
ascending (n ∷ rest) = put_ascending n (ascending rest)

-- the number of the file at a place
abbrev pub number_at : List SettledFile → ℕ → ℕ
number_at files place = slice_index (map (λ file. file.number) files) place

abbrev pub created : EndedSession → SettledFile → Origin → List Draft
created session file origin.Created = alone session kind.Create file [] ∷ []
created session file _ = []

-- the detail is the name that the file had in the inbox
abbrev pub received : EndedSession → SettledFile → Origin → List Draft
received session file origin.Received = alone session kind.Receive file (unwrap_or session.given.file []) ∷ []
received session file _ = []

-- a child with a content of its own, or with a part of its parent's
abbrev pub is_forked_from : ℕ → Origin → Bool
is_forked_from place (origin.Forked parent) = parent == place
is_forked_from place (origin.Part parent) = parent == place
is_forked_from place _ = false

abbrev pub forked_children : List SettledFile → ℕ → List ℕ
forked_children files place = map (λ file. file.number) (filter (λ file. is_forked_from place file.worked.origin) files)

abbrev pub fork_of : EndedSession → SettledFile → List ℕ → List Draft
fork_of session parent [] = []
fork_of session parent (child ∷ children) =
    record {
      event = of_file session kind.Fork parent (parent.number ∷ []) (child ∷ children) [];
      kin = map (λ child. (child, parent.number)) (child ∷ children);
    } ∷ []

abbrev pub forks : EndedSession → List SettledFile → List Draft
forks session files = flat_map (λ f. fork_of session f.1 (forked_children files f.0)) (enumerate_from 0 files)

abbrev pub joined : EndedSession → List SettledFile → SettledFile → Origin → List Draft
joined session files file (origin.Joined parents) =
    record {
      event = of_file session kind.Join file (ascending (map (number_at files) parents)) (file.number ∷ []) [];
      kin = map (λ place. (file.number, number_at files place)) parents;
    } ∷ []
joined session files file _ = []

abbrev pub clone_event : EndedSession → SettledFile → (clone : ℕ) → Draft
clone_event session original clone = record {
  event = of_file session kind.Clone original (original.number ∷ []) (clone ∷ []) [];
  kin = (clone, original.number) ∷ [];
}

-- a copy of the file at a place
abbrev pub is_cloned_from : ℕ → Origin → Bool
is_cloned_from place (origin.Cloned parent) = parent == place
is_cloned_from place _ = false

abbrev pub copies : List SettledFile → ℕ → List SettledFile
copies files place = filter (λ file. is_cloned_from place file.worked.origin) files

-- of each file its copies, by their places
abbrev pub clonings : EndedSession → List SettledFile → List Draft
clonings session files =
    flat_map (λ f. map (λ copy. clone_event session f.1 copy.number) (copies files f.0)) (enumerate_from 0 files)

abbrev pub is_removed : End → Bool
is_removed Removed = true
is_removed _ = false

-- a taken file that stays: its content was written, or else its attributes were changed
abbrev pub modified : EndedSession → SettledFile → Origin → List Draft
modified session file (origin.Taken place) =
    if is_removed file.worked.end then []
    else if file.worked.written then alone session kind.ContentModified file [] ∷ []
    else []
modified session file _ = []

abbrev pub attributes_modified : EndedSession → SettledFile → Origin → List Draft
attributes_modified session file (origin.Taken place) =
    if is_removed file.worked.end || file.worked.written then []
    else option_map_or
    (λ taken. if same_attributes taken.attributes file.attributes then []
    else alone session kind.AttributesModified file [] ∷ [])
    (slice_get session.taken place) []
attributes_modified session file _ = []

abbrev pub routed : EndedSession → SettledFile → Option ℕ → List Draft
routed session file (Some relationship) =
    alone session kind.Route file (relationship_at session.processor relationship) ∷ []
routed session file None = []

abbrev pub sent : EndedSession → List SettledFile → Option Sent → List Draft
sent session files (Some put) =
    option_map_or (λ file. alone session kind.Send file put.name ∷ []) (slice_get files put.place) []
sent session files None = []

abbrev pub dropped : EndedSession → SettledFile → Destination → List Draft
dropped session file (Drops relationship) = alone session kind.Drop file relationship ∷ []
dropped session file Leaves = alone session kind.Drop file [] ∷ []
dropped session file _ = []

-- one kind behind the other; of each kind by the place of the file that the event is of, and then by that of the copy,
-- or by connection
abbrev pub drafts : EndedSession → Outcome → List Draft
drafts session outcome =
    let files = settled_files session outcome.files in
    flat_map (λ file. created session file file.worked.origin) files
    ++ flat_map (λ file. received session file file.worked.origin) files
    ++ forks session files
    ++ flat_map (λ file. joined session files file file.worked.origin) files
    ++ clonings session files
    ++ flat_map (λ file. modified session file file.worked.origin) files
    ++ flat_map (λ file. attributes_modified session file file.worked.origin) files
    ++ flat_map (λ file. routed session file file.worked.routed) files
    ++ sent session files outcome.sent
    ++ map (λ clone. clone_event session clone.original clone.number) (settlement_clones session outcome.files)
    ++ flat_map (λ file. dropped session file file.goes) files

-- Drafts are numbered in turn from here on: their events, and their kin as triples (child, parent, event's number).
abbrev pub numbered_from : ℕ → List Draft → List Event
numbered_from number drafts = map (λ d. d.1.event d.0) (enumerate_from number drafts)

abbrev pub kin_from : ℕ → List Draft → List (ℕ × ℕ × ℕ)
kin_from number drafts = flat_map (λ d. map (λ pair. (pair.0, pair.1, d.0)) d.1.kin) (enumerate_from number drafts)
