-- AttributesToJSON: an object of texts, with its keys in the order of their bytes: the listed attributes, a missing one
-- as the empty text, or all attributes and `uuid`. It goes into the attribute `JSONAttributes` or is the content. A
-- limit gives up to failure. Success is 0, failure 1.
use Rattle.std.specs.Prelude.{ℕ, true, false, List, [], ◌∷◌, ◌++◌, map, fold, codes, Option, option_map, unwrap_or}
use Rattle.std.specs.FinMap.{entries}
use Rattle.serde_json.specs.Data.{Data, string, object, no_members, put}
use Rattle.serde_json.specs.Written.{compact_text}
use Rattle.flowfile_record.specs.Attributes.{AttributeMap}
use Rattle.flowfile_record.specs.declared.worked.Body.TheVariants.{New}
use Rattle.flowfile_record.specs.declared.worked.Origin.TheVariants.{Taken}
use Rattle.flowfile_record.specs.declared.worked.Outcome.{Outcome}
use Rattle.flowfile_record.specs.declared.worked.Worked.{Worked}
use Rattle.machine_model.specs.declared.kind.Destination.{Destination}
use Rattle.machine_model.specs.declared.kind.Destination.TheVariants.{Attribute, Content}
use Rattle.machine_model.specs.Making.{TakenFile, alone, passed_on, found_in, with_set, as_content, or_given_up}

-- an object of texts: of a name that stands twice the last text counts
abbrev pub object_of : List (List ℕ × List ℕ) → Data
object_of pairs = object (fold (λ members pair. put pair.0 (string pair.1) members) no_members pairs)

abbrev pub listed : List (List ℕ) → TakenFile → List (List ℕ × List ℕ)
listed [] file = entries file.attributes ++ (codes "uuid", file.uuid) ∷ []
listed names file = map (λ name. (name, unwrap_or (found_in file name) [])) names

abbrev pub json_of : List (List ℕ) → TakenFile → List ℕ
json_of names file = compact_text (object_of (listed names file))

-- the file with a content that was written
abbrev pub written_on : AttributeMap → List ℕ → Worked
written_on attributes bytes = record (passed_on 0 attributes false 0) { body = New bytes; written = true }

abbrev pub noted_in : Destination → TakenFile → (json : List ℕ) → Option Outcome
noted_in Attribute file json =
    option_map (λ attributes. alone (passed_on 0 attributes false 0))
    (with_set (Taken 0) file.attributes (codes "JSONAttributes", json))
noted_in Content file json = option_map (λ bytes. alone (written_on file.attributes bytes)) (as_content json)

abbrev pub attributes_to_json : Destination → List (List ℕ) → TakenFile → Outcome
attributes_to_json destination names file =
    or_given_up 1 (file ∷ []) (noted_in destination file (json_of names file))
