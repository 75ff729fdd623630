-- A session that makes a joined file of all that it took.
use Rattle.std.specs.Prelude.{◌≡◌, ℕ, ◌≤◌, ◌++◌, Bool, true, false, All, List, [], ◌∷◌, length, codes, Option, Some, None, option_and_then}
use Rattle.std.specs.FinMap.{get}
use Rattle.std.specs.List.{range_with_len}
use Rattle.std.specs.Option.{option_map}
use Rattle.flowfile_record.specs.Attributes.{AttributeMap}
use Rattle.flowfile_record.specs.declared.attributes.TheConstants.{ATTRIBUTES_MAX}
use Rattle.flowfile_record.specs.declared.limits.TheConstants.{TAKEN_MAX}
use Rattle.flowfile_record.specs.declared.worked.Body.TheVariants.{New}
use Rattle.flowfile_record.specs.declared.worked.End.TheVariants.{To}
use Rattle.flowfile_record.specs.declared.worked.Origin.{Origin}
use Rattle.flowfile_record.specs.declared.worked.Origin.TheVariants.{Joined}
use Rattle.machine_model.specs.Making.{TakenFile}
use Rattle.machine_model.specs.MergeContent.{counted, joined_attributes, named_as_whole, without_fragment}
use Rattle.machine_model.specs.declared.kind.MergeStrategy.{MergeStrategy}
use Rattle.machine_model.specs.declared.kind.MergeStrategy.TheVariants.{BinPacking, Defragment}
use Rattle.process_session.specs.Bench.{Bench, made_size}
use Rattle.process_session.specs.Changes.{new_file, with_attributes, with_made}
use Rattle.process_session.specs.Finish.{is_left_out}
use Rattle.process_session.specs.declared.file.File.{File}
use Rattle.proc_merge.specs.Taken.{IsSmall}

-- ---- the joined file as it is made

-- what it may have doesn't depend on which its parents are
abbrev pub of_parents : Origin
of_parents = Joined []

abbrev pub origin_joined : (count : ℕ) → Origin
origin_joined count = Joined (range_with_len 0 count)

-- the session with a child of all taken files, of these attributes
abbrev pub with_joined_child : Bench → AttributeMap → Bench
with_joined_child bench attributes = with_made bench (origin_joined (length bench.sources)) attributes (New [])

-- its last file is the joined one, which hasn't ended and has no content yet
pub record HasJoined (bench : Bench) (place : ℕ) : Type 0 where
  pub before : List File
  pub parents : List ℕ
  pub attributes : AttributeMap
  pub files : bench.files ≡ before ++ new_file (Joined parents) attributes (New []) ∷ []
  pub last : place ≡ length before
  pub few : length before ≤ TAKEN_MAX
  pub small : All IsSmall before
  pub named : made_size attributes ≤ ATTRIBUTES_MAX
  pub unwritten : bench.handed ≡ 0

-- ---- its attributes

-- the name of the whole that the parents were parts of, where it is to be the joined file's
abbrev pub name_of_whole : MergeStrategy → AttributeMap → Option (List ℕ)
name_of_whole BinPacking attributes = None
name_of_whole Defragment attributes = get attributes (codes "segment.original.filename")

-- what a file that joins so many has, by what they share
abbrev pub described : MergeStrategy → (count : ℕ) → AttributeMap → Option AttributeMap
described strategy count shared =
    option_and_then (counted count of_parents) (named_as_whole strategy of_parents (without_fragment shared))

-- the file at a place has these attributes; or where it can't have them, any
abbrev pub IsDescribed : (before after : Bench) → (place : ℕ) → Option AttributeMap → (done : Bool) → Type 0
IsDescribed before after place (Some attributes) true = after ≡ with_attributes before place attributes
IsDescribed before after place None false =
    (attributes : AttributeMap) × (after ≡ with_attributes before place attributes)
IsDescribed _ _ _ _ _ = ⊥

-- ---- what becomes of it

abbrev pub with_more : Bench → List File → (handed : ℕ) → Bench
with_more bench files handed = record bench { files = bench.files ++ files; handed = handed }

-- a file that joins so many, once it has gone to merged
abbrev pub joined_file : (count : ℕ) → AttributeMap → List ℕ → File
joined_file count attributes bytes =
    record {
      origin = origin_joined count;
      attributes = attributes;
      body = New bytes;
      «end» = Some (To 0);
      written = true;
      penalised = false;
      routed = None;
    }

-- the file that joins these, where their contents, one behind another, are these bytes
abbrev pub file_joined : MergeStrategy → List TakenFile → Option (List ℕ) → Option File
file_joined strategy files bytes =
    option_and_then (λ attributes. option_map (joined_file (length files) attributes) bytes)
    (joined_attributes strategy (origin_joined (length files)) files)

-- the session has this file more; or where there is none to make, none that will be in its outcome
abbrev pub IsJoined : (before after : Bench) → Option File → (done : Bool) → Type 0
IsJoined before after (Some file) true = (handed : ℕ) × (after ≡ with_more before (file ∷ []) handed)
IsJoined before after None false =
    (gone : List File) × (handed : ℕ) × All (λ file. is_left_out file ≡ true) gone
    × (after ≡ with_more before gone handed)
IsJoined _ _ _ _ = ⊥
