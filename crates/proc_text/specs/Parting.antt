-- A session that makes parts of the file that it took.
use Rattle.std.specs.Prelude.{◌≡◌, ◌⊎◌, ℕ, zero, suc, ◌&&◌, ◌<◌, ◌≤◌, Bool, true, false, not, List, [], ◌∷◌, ◌++◌, length, map, All, Option, None, Some, Result, Ok, Err, slice_get, unwrap_or, string_bytes, codes, decimal}
use Rattle.std.specs.List.{list_all}
use Rattle.std.specs.Option.{option_map_or}
use Rattle.flowfile_record.specs.Attributes.{AttributeMap, encoded_size, has_key_length, is_uuid}
use Rattle.flowfile_record.specs.declared.TheConstants.{CONTENT_MAX}
use Rattle.flowfile_record.specs.declared.worked.Body.TheVariants.{Whole as WholeOf, Part}
use Rattle.flowfile_record.specs.declared.worked.End.{End}
use Rattle.flowfile_record.specs.declared.worked.End.TheVariants.{To, Removed}
use Rattle.flowfile_record.specs.declared.worked.Origin.TheVariants.{Cloned, Part as PartOf}
use Rattle.flowfile_record.specs.declared.worked.Worked.{Worked}
use Rattle.machine_model.specs.Making.{TakenFile}
use Rattle.machine_model.specs.Parts.{Piece, all_set_beside, fragment_pairs, parts_from}
use Rattle.process_session.specs.Bench.{Bench, attribute_size, bench_attributes, bench_bytes, content_size}
use Rattle.process_session.specs.Changes.{is_whole, new_file}
use Rattle.process_session.specs.Finish.{is_left_out}
use Rattle.process_session.specs.declared.error.SessionError.{SessionError}
use Rattle.process_session.specs.declared.error.SessionError.TheVariants.{Memory}
use Rattle.process_session.specs.declared.file.File.{File}
use Rattle.process_session.specs.declared.file.Source.{Source}
use Rattle.processor_api.specs.Cloning.{file_ended}
use Rattle.proc_text.specs.declared.parting.Told.{Told}
use Rattle.proc_text.specs.declared.parting.Whole.{Whole}

-- ---- the file that a session took

-- as the machine sees it
abbrev pub taken_in : Bench → TakenFile
taken_in bench = record {
  attributes = bench_attributes bench 0;
  uuid = option_map_or (λ (source : Source). source.uuid) (slice_get bench.sources 0) [];
  bytes = unwrap_or (bench_bytes bench 0) [];
}

-- its content was read
pub record IsReadTaken (bench : Bench) : Type 0 where
  pub bytes : bench_bytes bench 0 ≡ Some (taken_in bench).bytes
  pub sized : content_size bench 0 ≡ length (taken_in bench).bytes
  pub short : length (taken_in bench).bytes ≤ CONTENT_MAX

-- ---- what a part is told

abbrev pub pair_told : Told → List ℕ × List ℕ
pair_told told = (told.name.now, string_bytes told.text)

abbrev pub fragments_by : Whole → (index : ℕ) → List (List ℕ × List ℕ)
fragments_by whole index =
    (codes "fragment.identifier", string_bytes whole.identifier) ∷ (codes "fragment.index", decimal index)
    ∷ (codes "fragment.count", string_bytes whole.count)
    ∷ (codes "segment.original.filename", string_bytes whole.filename) ∷ []

-- it is what so many parts of the file that the session took are told
abbrev pub TellsOfParts : Whole → Bench → (count : ℕ) → Type 0
TellsOfParts whole bench count = (index : ℕ) → fragments_by whole index ≡ fragment_pairs (taken_in bench) index count

-- each name may be the key of an attribute that is set
abbrev pub may_be_keys : List (List ℕ × List ℕ) → Bool
may_be_keys pairs = list_all (λ pair. has_key_length pair.0 && not (is_uuid pair.0)) pairs

-- ---- what the session answers

-- an answer that isn't want of memory: none where the session refuses
abbrev pub IsAnswered : {A : Type 0} → Result A SessionError → Option A → Type 0
IsAnswered answer (Some value) = answer ≡ Ok value
IsAnswered answer None = (error : SessionError) × (answer ≡ Err error) × (error ≡ Memory → ⊥)

-- ---- its files

abbrev pub bench_with_files : Bench → List File → Bench
bench_with_files bench files = record bench { files = bench.files ++ files }

-- a part as it is made
abbrev pub part_file : (whole : Bool) → AttributeMap → (offset size : ℕ) → File
part_file true attributes offset size = new_file (Cloned 0) attributes (WholeOf 0)
part_file false attributes offset size = new_file (PartOf 0) attributes (Part 0 offset size)

-- files that an outcome leaves out, behind those of a session
pub record LeavesOut (before after : Bench) : Type 0 where
  pub dropped : List File
  pub is : after ≡ bench_with_files before dropped
  pub left_out : All (λ file. is_left_out file ≡ true) dropped

-- One more part, with these attributes set one after another. Where there is no room for that, the session has nothing
-- more than what its outcome leaves out.
abbrev pub AddsPart : (before after : Bench) (offset size : ℕ) → List (List ℕ × List ℕ) → (added : Bool) → Type 0
AddsPart before after offset size pairs true =
    (attributes : AttributeMap)
    × (all_set_beside (attribute_size before) (bench_attributes before 0) pairs ≡ Some attributes)
    × (after ≡ bench_with_files before (part_file (is_whole before 0 offset size) attributes offset size ∷ []))
AddsPart before after offset size pairs false =
    (all_set_beside (attribute_size before) (bench_attributes before 0) pairs ≡ None) × LeavesOut before after

-- a file of an outcome before it has ended
abbrev pub opened : Worked → File
opened file = record (file_ended file) { «end» = None }

-- what is known of a part that is to go to a relationship
pub record IsPart (relationship : ℕ) (file : Worked) : Type 0 where
  pub origin : (file.origin ≡ Cloned 0) ⊎ (file.origin ≡ PartOf 0)
  pub goes : file.«end» ≡ To relationship

-- the parts of these pieces
abbrev pub parts_of : Bench → (relationship : ℕ) → List Piece → Option (List Worked)
parts_of bench relationship pieces =
    let file = taken_in bench in
    parts_from file relationship (length pieces) 1 0 (encoded_size file.attributes) pieces

-- So many parts of these pieces, which are to go to a relationship. Where they are fewer than the pieces, there is no
-- room for all.
pub record AddsParts (before after : Bench) (relationship : ℕ) (pieces : List Piece) (made : ℕ) : Type 0 where
  pub parts : List Worked
  pub dropped : List File
  pub is : after ≡ bench_with_files before (map opened parts ++ dropped)
  pub many : length parts ≡ made
  pub few : made ≤ length pieces
  pub each : All (IsPart relationship) parts
  pub left_out : All (λ file. is_left_out file ≡ true) dropped
  pub all : made ≡ length pieces → (dropped ≡ []) × (parts_of before relationship pieces ≡ Some parts)
  pub fewer : made < length pieces → parts_of before relationship pieces ≡ None

-- ---- how they end

abbrev pub end_or_removed : Option ℕ → End
end_or_removed (Some relationship) = To relationship
end_or_removed None = Removed

abbrev pub ended_as : End → File → File
ended_as how file = record file { «end» = Some how }

-- so many of these files, the first ones
abbrev pub first_ended : End → ℕ → List File → List File
first_ended how zero files = files
first_ended how (suc count) [] = []
first_ended how (suc count) (file ∷ files) = ended_as how file ∷ first_ended how count files

abbrev pub behind_first : (List File → List File) → List File → List File
behind_first change [] = []
behind_first change (file ∷ files) = file ∷ change files

-- so many made files, the first ones, have ended
abbrev pub with_first_ended : End → ℕ → Bench → Bench
with_first_ended how count bench = record bench { files = behind_first (first_ended how count) bench.files }

-- behind its first file so many haven't ended
pub record HasOpen (count : ℕ) (bench : Bench) : Type 0 where
  pub first : File
  pub parts : List File
  pub others : List File
  pub files : bench.files ≡ first ∷ parts ++ others
  pub many : length parts ≡ count
  pub each : All (λ file. file.«end» ≡ None) parts
