-- How long the names are that a sound flow has of its processors, of their relationships and of its connections.
use Rattle.std.proofs.Common.{◌≡◌, ℕ, ◌≤◌, ◌&&◌, true, List, [], ◌∷◌, ◌++◌, length, map, not, arith}
use Rattle.std.specs.Prelude.{Some, codes, nat_le, nat_lt, slice_get}
use Rattle.std.specs.List.{list_all}
use Rattle.std.proofs.lemmas.Bool.{and_parts, leb-true}
use Rattle.flowfile_record.specs.declared.name.TheConstants.{NAME_MAX}
use Rattle.machine_model.specs.declared.flow.Connection.{Connection}
use Rattle.machine_model.specs.declared.flow.Flow.{Flow}
use Rattle.machine_model.specs.declared.flow.Processor.{Processor}
use Rattle.machine_model.specs.declared.kind.Kind.{Kind}
use Rattle.machine_model.specs.declared.kind.Kind.TheVariants.{GetFile, GenerateFlowFile, PutFile, UpdateAttribute, RouteOnAttribute, AttributesToJson, DuplicateFlowFile, CryptographicHashContent, SplitText, ReplaceText, ExtractText, RouteOnContent, MergeContent, SegmentContent, ModifyBytes}
use Rattle.machine_model.specs.declared.limits.TheConstants.{ID_MAX, OWN_NAME_MAX, OWN_PROPERTIES_MAX, PENALTY_MAX, TASKS_MAX}
use Rattle.machine_model.specs.Kinds.{is_among, relationships_of}
use Rattle.machine_model.specs.Placing.{relationship_at}
use Rattle.machine_model.specs.Sound.{IsSound, IsSoundKind, are_ascending, are_distinct_texts, are_own_names, are_own_relationships, are_sound_limits, are_within_ranges, has_relationships, is_id, is_id_byte, is_sound_connection, is_sound_processor, may_be_target, within}
use Rattle.machine_model.proofs.Tally.{Each, each-append}
use Rattle.engine_change.proofs.Each.{each_at, each_from_all, each_passes, each_some, each_weaker}

abbrev pub IsShort : List ℕ → Type 0
IsShort name = length name ≤ NAME_MAX

-- ---- of relationships

within_most : (least n most : ℕ) → within least n most ≡ true → n ≤ most
within_most least n most is = leb-true n most (and_parts (nat_le least n) (nat_le n most) is).1

own_short : (names : List (List ℕ)) → are_own_relationships names ≡ true → Each IsShort (names ++ codes "unmatched" ∷ [])
own_short names is =
    let own = and_parts (are_own_names names) (not (is_among (codes "unmatched") names)) is in
    let parts = and_parts (nat_le (length names) OWN_PROPERTIES_MAX && list_all (λ name. within 1 (length name) OWN_NAME_MAX) names) (are_ascending names) own.0 in
    let long = and_parts (nat_le (length names) OWN_PROPERTIES_MAX) (list_all (λ name. within 1 (length name) OWN_NAME_MAX) names) parts.0 in
    each-append IsShort names (codes "unmatched" ∷ [])
    (each_weaker (λ name. within 1 (length name) OWN_NAME_MAX ≡ true) IsShort (λ name h. let most = within_most 1 (length name) OWN_NAME_MAX h in omega (arith, most)) names
    (each_passes (λ name. within 1 (length name) OWN_NAME_MAX) names long.1))
    (omega arith, tt)

names_short : (kind : Kind) → are_within_ranges kind ≡ true → Each IsShort (relationships_of kind)
names_short (GetFile filter) is = (omega arith, tt)
names_short (GenerateFlowFile count text) is = (omega arith, tt)
names_short (PutFile conflict) is = (omega arith, (omega arith, tt))
names_short (UpdateAttribute own) is = (omega arith, (omega arith, tt))
names_short (RouteOnAttribute own) is = own_short (map (λ property. property.name) own) is
names_short (AttributesToJson destination names) is = (omega arith, (omega arith, tt))
names_short (DuplicateFlowFile copies) is = (omega arith, tt)
names_short CryptographicHashContent is = (omega arith, (omega arith, tt))
names_short (SplitText lines) is = (omega arith, (omega arith, (omega arith, tt)))
names_short (ReplaceText replacement) is = (omega arith, (omega arith, tt))
names_short (ExtractText own) is = (omega arith, (omega arith, tt))
names_short (RouteOnContent requirement own) is = own_short (map (λ property. property.name) own) is
names_short (MergeContent strategy minimum maximum) is = (omega arith, (omega arith, (omega arith, tt)))
names_short (SegmentContent size) is = (omega arith, (omega arith, (omega arith, tt)))
names_short (ModifyBytes start end) is = (omega arith, tt)

pub relationship_short : (flow : Flow) (place : ℕ) (processor : Processor) → IsSound flow → slice_get flow.processors place ≡ Some processor → (relationship : ℕ)
    → length (relationship_at processor relationship) ≤ NAME_MAX
relationship_short flow place processor sound found relationship =
    let kind = each_some (λ (p : Processor). IsSoundKind p.kind) flow.processors place processor (each_from_all (λ (p : Processor). IsSoundKind p.kind) flow.processors sound.kinds) found in
    each_at IsShort [] (omega arith) (relationships_of processor.kind) (names_short processor.kind kind.ranges) relationship

-- ---- of processors

pub id_short : (flow : Flow) (place : ℕ) (processor : Processor) → IsSound flow → slice_get flow.processors place ≡ Some processor → length processor.id ≤ ID_MAX
id_short flow place processor sound found =
    let passes = each_some (λ (p : Processor). is_sound_processor p ≡ true) flow.processors place processor (each_passes is_sound_processor flow.processors sound.processors) found in
    let named = list_all (λ name. is_among name (relationships_of processor.kind)) processor.terminated in
    let distinct = are_distinct_texts processor.terminated in
    let penalty = nat_le processor.penalty PENALTY_MAX in
    let tasks = within 1 processor.tasks TASKS_MAX in
    let a = and_parts (is_id processor.id && tasks && penalty && distinct) named passes in
    let b = and_parts (is_id processor.id && tasks && penalty) distinct a.0 in
    let d = and_parts (is_id processor.id && tasks) penalty b.0 in
    let e = and_parts (is_id processor.id) tasks d.0 in
    let long = and_parts (within 1 (length processor.id) ID_MAX) (list_all is_id_byte processor.id) e.0 in
    within_most 1 (length processor.id) ID_MAX long.0

-- ---- of connections

pub connection_short : (flow : Flow) (place : ℕ) (connection : Connection) → IsSound flow → slice_get flow.connections place ≡ Some connection → length connection.id ≤ ID_MAX
connection_short flow place connection sound found =
    let passes = each_some (λ (one : Connection). is_sound_connection flow one ≡ true) flow.connections place connection (each_passes (is_sound_connection flow) flow.connections sound.connections) found in
    let some = nat_lt 0 (length connection.relationships) in
    let distinct = are_distinct_texts connection.relationships in
    let source = has_relationships connection (slice_get flow.processors connection.source) in
    let target = may_be_target (slice_get flow.processors connection.target) in
    let a = and_parts (is_id connection.id && are_sound_limits connection.limits && some && distinct && source) target passes in
    let b = and_parts (is_id connection.id && are_sound_limits connection.limits && some && distinct) source a.0 in
    let d = and_parts (is_id connection.id && are_sound_limits connection.limits && some) distinct b.0 in
    let e = and_parts (is_id connection.id && are_sound_limits connection.limits) some d.0 in
    let f = and_parts (is_id connection.id) (are_sound_limits connection.limits) e.0 in
    let long = and_parts (within 1 (length connection.id) ID_MAX) (list_all is_id_byte connection.id) f.0 in
    within_most 1 (length connection.id) ID_MAX long.0
