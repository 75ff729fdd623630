-- What an AttributesToJson builds, and what it leaves of a file whose content it replaces.
use Rattle.std.specs.Prelude.{ℕ, false, List, [], Option, Some, None, fold, unwrap_or}
use Rattle.serde_json.specs.Data.{Members, put, string}
use Rattle.flowfile_record.specs.Attributes.{AttributeMap}
use Rattle.flowfile_record.specs.declared.worked.Outcome.{Outcome}
use Rattle.machine_model.specs.AttributesToJson.{written_on}
use Rattle.machine_model.specs.Making.{alone, found_in, passed_on}

-- a listed name with the text that is found under it, or the empty one
abbrev pub found_pair : AttributeMap → (uuid : List ℕ) → List ℕ → List ℕ × List ℕ
found_pair attributes uuid name =
    (name, unwrap_or (found_in (record { attributes = attributes; uuid = uuid; bytes = [] }) name) [])

-- members with these texts put, one after another
abbrev pub with_texts : Members → List (List ℕ × List ℕ) → Members
with_texts members pairs = fold (λ members pair. put pair.0 (string pair.1) members) members pairs

-- the taken file with these bytes to success, or where they are none, as it was to failure
abbrev pub replaced_with : AttributeMap → Option (List ℕ) → Outcome
replaced_with attributes (Some bytes) = alone (written_on attributes bytes)
replaced_with attributes None = alone (passed_on 0 attributes false 1)
