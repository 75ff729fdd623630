-- What a processor of a flow may be handed, and what it owes.
use Rattle.std.specs.Prelude.{◌≡◌, ℕ, ◌||◌, Bool, List, length, map, Some, slice_get}
use Rattle.flowfile_record.specs.Outcome.{IsOutcome}
use Rattle.flowfile_record.specs.declared.worked.Outcome.{Outcome}
use Rattle.machine_model.specs.declared.flow.Flow.{Flow}
use Rattle.machine_model.specs.declared.flow.Processor.{Processor}
use Rattle.machine_model.specs.declared.given.Given.{Given}
use Rattle.machine_model.specs.declared.kind.Kind.{Kind}
use Rattle.machine_model.specs.Kinds.{relationships_of}
use Rattle.process_session.specs.Bench.{taken_source, sizes_of}
use Rattle.process_session.specs.declared.file.Source.{Source}
use Rattle.process_session.specs.declared.file.Taken.{Taken}
use Rattle.processor_api.specs.Acts.{IsOutcomeOf, MayBeHandedTo}
use Rattle.proc_attribute.specs.Kinds.{is_attributes_to_json, is_cryptographic_hash_content, is_duplicate_flow_file, is_route_on_attribute, is_update_attribute}
use Rattle.proc_merge.specs.Kinds.{is_merge_content}
use Rattle.proc_source.specs.Kinds.{is_get_file, is_generate_flow_file, is_put_file}
use Rattle.proc_text.specs.Kinds.{is_extract_text, is_modify_bytes, is_replace_text, is_route_on_content, is_segment_content, is_split_text}

-- a processor of this kind works on attributes, or goes by them
abbrev pub is_of_attributes : Kind → Bool
is_of_attributes kind =
    is_update_attribute kind || is_route_on_attribute kind || is_attributes_to_json kind || is_duplicate_flow_file kind
    || is_cryptographic_hash_content kind

-- a processor of this kind works on a content, or goes by it
abbrev pub is_of_texts : Kind → Bool
is_of_texts kind =
    is_split_text kind || is_replace_text kind || is_extract_text kind || is_route_on_content kind
    || is_segment_content kind || is_modify_bytes kind

-- there are processors of this kind
abbrev pub is_built : Kind → Bool
is_built kind =
    is_get_file kind || is_generate_flow_file kind || is_put_file kind || is_merge_content kind
    || is_of_attributes kind || is_of_texts kind

-- the processor at this place may be handed these files
pub record MayWork (flow : Flow) (place : ℕ) (taken : List Taken) (given : Given) : Type 0 where
  pub processor : Processor
  pub found : slice_get flow.processors place ≡ Some processor
  pub handed : MayBeHandedTo processor.kind taken given

-- The outcome is the one that the machine gives, one of a session with the kind's relationships over the contents that
-- were taken; what stays of the files is as they were taken.
pub record IsWorkOf (kind : Kind) (taken : List Taken) (given : Given) (done : Outcome × List Source) : Type 0 where
  pub outcome : IsOutcomeOf kind taken given done.0
  pub sound : IsOutcome (length (relationships_of kind)) (sizes_of (map taken_source taken)) done.0
  pub sources : done.1 ≡ map taken_source taken

-- it is the work of the processor at this place
abbrev pub IsWorkAt : Flow → (place : ℕ) → List Taken → Given → Outcome × List Source → Type 0
IsWorkAt flow place taken given done =
    (processor : Processor) → slice_get flow.processors place ≡ Some processor
    → IsWorkOf processor.kind taken given done
