-- What processors make of the files that they took: the words that their paragraphs share.
use Rattle.std.specs.Prelude.{ℕ, ◌+◌, nat_le, Bool, false, List, [], ◌∷◌, length, Option, Some, None, option_and_then, if◌then◌else◌}
use Rattle.std.specs.FinMap.{get, insert}
use Rattle.flowfile_record.specs.Attributes.{AttributeMap, is_uuid, encoded_size}
use Rattle.flowfile_record.specs.Outcome.{filename_to_come}
use Rattle.flowfile_record.specs.declared.TheConstants.{CONTENT_MAX}
use Rattle.flowfile_record.specs.declared.attributes.TheConstants.{ATTRIBUTES_MAX}
use Rattle.flowfile_record.specs.declared.worked.Body.TheVariants.{Whole, New}
use Rattle.flowfile_record.specs.declared.worked.End.TheVariants.{To}
use Rattle.flowfile_record.specs.declared.worked.Origin.{Origin}
use Rattle.flowfile_record.specs.declared.worked.Origin.TheVariants.{Taken, Cloned}
use Rattle.flowfile_record.specs.declared.worked.Worked.{Worked}
use Rattle.flowfile_record.specs.declared.worked.Outcome.{Outcome}

-- a taken file as a processor sees it: its attributes, its uuid as text, its bytes
pub record TakenFile : Type 0 where
  pub attributes : AttributeMap
  pub uuid : List ℕ
  pub bytes : List ℕ

-- a file that is made, with these bytes, and goes to a relationship
abbrev pub made_file : Origin → AttributeMap → List ℕ → (written : Bool) → ℕ → Worked
made_file origin attributes bytes written relationship =
    record {
      origin = origin;
      attributes = attributes;
      body = New bytes;
      end = To relationship;
      written = written;
      penalised = false;
      routed = None;
    }

-- a taken file that goes to a relationship as it is
abbrev pub passed_on : ℕ → AttributeMap → (penalised : Bool) → ℕ → Worked
passed_on place attributes penalised relationship =
    record {
      origin = Taken place;
      attributes = attributes;
      body = Whole place;
      end = To relationship;
      written = false;
      penalised = penalised;
      routed = None;
    }

abbrev pub alone : Worked → Outcome
alone file = record { files = file ∷ []; sent = None }

-- the clone of a taken file that is as it was taken
abbrev pub clone_of : (place : ℕ) → AttributeMap → (relationship : ℕ) → Worked
clone_of place attributes relationship =
    record {
      origin = Cloned place;
      attributes = attributes;
      body = Whole place;
      end = To relationship;
      written = false;
      penalised = false;
      routed = None;
    }

-- what expressions find of a taken file: its attributes, and its uuid
abbrev pub found_in : TakenFile → List ℕ → Option (List ℕ)
found_in file name = if is_uuid name then Some file.uuid else get file.attributes name

-- ---- giving up, where a session refuses for a limit

-- taken files as they were, from a place on, to a relationship
abbrev pub passed_from : (place relationship : ℕ) → List TakenFile → List Worked
passed_from place relationship [] = []
passed_from place relationship (file ∷ files) =
    passed_on place file.attributes false relationship ∷ passed_from (place + 1) relationship files

-- what is made, or where none is, every taken file as it was, to a relationship
abbrev pub or_given_up : (relationship : ℕ) → List TakenFile → Option Outcome → Outcome
or_given_up relationship taken (Some outcome) = outcome
or_given_up relationship taken None = record { files = passed_from 0 relationship taken; sent = None }

-- ---- what a session lets a processor do: none where it refuses for a limit

-- a file of this origin may have these attributes, with the `filename` that a made file is given later
abbrev pub may_have : Origin → AttributeMap → Bool
may_have origin attributes = nat_le (encoded_size attributes + filename_to_come origin attributes) ATTRIBUTES_MAX

-- the attributes with one more set; `uuid` can't be set
abbrev pub with_set : Origin → AttributeMap → List ℕ × List ℕ → Option AttributeMap
with_set origin attributes (name, value) =
    let set = insert attributes name value in
    if is_uuid name then Some attributes else if may_have origin set then Some set else None

-- several set, one after another
abbrev pub with_all_set : Origin → AttributeMap → List (List ℕ × List ℕ) → Option AttributeMap
with_all_set origin attributes [] = Some attributes
with_all_set origin attributes (pair ∷ pairs) =
    option_and_then (λ set. with_all_set origin set pairs) (with_set origin attributes pair)

-- bytes that a content may have
abbrev pub as_content : List ℕ → Option (List ℕ)
as_content bytes = if nat_le (length bytes) CONTENT_MAX then Some bytes else None
