-- What one session of a processor makes, by its type.
use Rattle.std.specs.Prelude.{ℕ, Bool, true, false, List, [], ◌∷◌, Option, Some, None, is_some, option_map, option_and_then, slice_get, codes, decimal, Ok, Err, if◌then◌else◌}
use Rattle.std.specs.FinMap.{empty, insert, get}
use Rattle.regex.specs.Patterns.{find_str}
use Rattle.regex.specs.Strings.{regex_pattern}
use Rattle.flowfile_record.specs.Attributes.{AttributeMap}
use Rattle.flowfile_record.specs.Name.{is_name}
use Rattle.flowfile_record.specs.declared.worked.Origin.TheVariants.{Created, Received}
use Rattle.flowfile_record.specs.declared.worked.Outcome.{Outcome}
use Rattle.expr_lang.specs.Value.{Value, Answer, as_text}
use Rattle.expr_lang.specs.Meaning.{tree_value}
use Rattle.expr_lang.specs.View.{tree_of}
use Rattle.expr_lang.specs.declared.syntax.Expr.{Expr}
use Rattle.machine_model.specs.declared.given.Given.{Given}
use Rattle.machine_model.specs.declared.kind.Conflict.{Conflict}
use Rattle.machine_model.specs.declared.kind.Conflict.TheVariants.{Replace, Ignore, Fail}
use Rattle.machine_model.specs.declared.kind.Kind.{Kind}
use Rattle.machine_model.specs.declared.kind.Kind.TheVariants.{GetFile, GenerateFlowFile, PutFile, UpdateAttribute, RouteOnAttribute, AttributesToJson, DuplicateFlowFile, CryptographicHashContent, SplitText, ReplaceText, ExtractText, RouteOnContent, MergeContent, SegmentContent, ModifyBytes}
use Rattle.machine_model.specs.declared.pattern.Pattern.{Pattern}
use Rattle.machine_model.specs.Making.{TakenFile, made_file, passed_on, alone}
use Rattle.machine_model.specs.UpdateAttribute.{update}
use Rattle.machine_model.specs.RouteOnAttribute.{route}
use Rattle.machine_model.specs.AttributesToJson.{attributes_to_json}
use Rattle.machine_model.specs.DuplicateFlowFile.{duplicate}
use Rattle.machine_model.specs.CryptographicHashContent.{hash_content}
use Rattle.machine_model.specs.SplitText.{split}
use Rattle.machine_model.specs.MergeContent.{merge}
use Rattle.machine_model.specs.SegmentContent.{segment}
use Rattle.machine_model.specs.ModifyBytes.{modify}
use Rattle.machine_model.specs.ReplaceText.{replace_text}
use Rattle.machine_model.specs.ExtractText.{extract_text}
use Rattle.machine_model.specs.RouteOnContent.{route_by_content}

-- GetFile: the inbox's file, named `filename`, at `path` ./, to success (0)
abbrev pub received_attributes : List ℕ → AttributeMap
received_attributes name = insert (insert empty (codes "filename") name) (codes "path") (codes "./")

abbrev pub received : Option (List ℕ) → Option (List ℕ) → Option Outcome
received (Some name) (Some bytes) = Some (alone (made_file Received (received_attributes name) bytes false 0))
received _ _ = None

-- its pattern finds something in the name, or it has none
abbrev pub passes : Option Pattern → List ℕ → Bool
passes None name = true
passes (Some pattern) name = is_some (find_str (regex_pattern pattern.regex.value) name 0)

-- GenerateFlowFile: the custom text over `path` and `generate.index`, or nothing where it can't be evaluated; to
-- success
abbrev pub generated_attributes : ℕ → AttributeMap
generated_attributes index = insert (insert empty (codes "path") (codes "./")) (codes "generate.index") (decimal index)

abbrev pub text_or_nothing : Answer Value → List ℕ
text_or_nothing (Ok value) = as_text value
text_or_nothing (Err error) = []

abbrev pub generated_text : Expr → ℕ → List ℕ
generated_text custom_text index = text_or_nothing (tree_value (get (generated_attributes index)) (tree_of custom_text))

abbrev pub generated : Expr → ℕ → Outcome
generated custom_text index =
    alone (made_file Created (generated_attributes index) (generated_text custom_text index) true 0)

-- PutFile: success is 0, failure 1
abbrev pub put_unless_there : Conflict → (there : Bool) → TakenFile → List ℕ → Outcome
put_unless_there conflict false file name =
    record { files = passed_on 0 file.attributes false 0 ∷ []; sent = Some (record { place = 0; name = name }) }
put_unless_there Replace true file name =
    record { files = passed_on 0 file.attributes false 0 ∷ []; sent = Some (record { place = 0; name = name }) }
put_unless_there Ignore true file name = alone (passed_on 0 file.attributes false 0)
put_unless_there Fail true file name = alone (passed_on 0 file.attributes true 1)

-- the attribute `filename`, where it may name a file
abbrev pub name_in : AttributeMap → Option (List ℕ)
name_in attributes =
    option_and_then (λ name. if is_name name then Some name else None) (get attributes (codes "filename"))

abbrev pub put : Conflict → (there : Bool) → TakenFile → Option (List ℕ) → Outcome
put conflict there file None = alone (passed_on 0 file.attributes true 1)
put conflict there file (Some name) = put_unless_there conflict there file name

-- What a processor of this type makes of the files that it took.
abbrev pub act : Kind → List TakenFile → Given → Option Outcome
act (GetFile filter) taken given = received given.file given.bytes
act (GenerateFlowFile count custom_text) taken given = Some (generated custom_text given.index)
act (PutFile conflict) taken given =
    option_map (λ file. put conflict given.there file (name_in file.attributes)) (slice_get taken 0)
act (UpdateAttribute own) taken given = option_map (update own) (slice_get taken 0)
act (RouteOnAttribute own) taken given = option_map (route own) (slice_get taken 0)
act (AttributesToJson destination names) taken given =
    option_map (attributes_to_json destination names) (slice_get taken 0)
act (DuplicateFlowFile copies) taken given = option_map (duplicate copies) (slice_get taken 0)
act CryptographicHashContent taken given = option_map hash_content (slice_get taken 0)
act (SplitText lines) taken given = option_map (split lines) (slice_get taken 0)
act (ReplaceText replacement) taken given = option_map (replace_text replacement) (slice_get taken 0)
act (ExtractText own) taken given = option_map (extract_text own) (slice_get taken 0)
act (RouteOnContent requirement own) taken given = option_map (route_by_content own) (slice_get taken 0)
act (MergeContent strategy minimum maximum) taken given = Some (merge strategy taken)
act (SegmentContent size) taken given = option_map (segment size) (slice_get taken 0)
act (ModifyBytes start end) taken given = option_map (modify start end) (slice_get taken 0)
