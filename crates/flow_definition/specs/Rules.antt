-- The rules, one for each way to be wrong. Each says where in an object it is broken first, as a path from the object
-- on.
use Rattle.std.specs.Prelude.{ℕ, ◌&&◌, ◌||◌, Bool, true, false, not, List, [], ◌∷◌, ◌++◌, length, nat_lt, Option, Some, None, option_map, option_and_then, is_some, is_none, bytes_eq, find, count_by, if◌then◌else◌}
use Rattle.std.specs.Option.{option_map_or}
use Rattle.std.specs.List.{list_any}
use Rattle.serde_json.specs.Data.{Data}
use Rattle.serde_json.specs.Find.{as_str, as_number}
use Rattle.machine_model.specs.Kinds.{is_among}
use Rattle.machine_model.specs.Sound.{within}
use Rattle.flow_definition.specs.declared.field.Field.{Field}
use Rattle.flow_definition.specs.declared.field.Field.TheVariants.{Processors, Connections, Id, TypeName, Properties, Terminated, From, To, Relationships}
use Rattle.flow_definition.specs.declared.field.Level.{Level}
use Rattle.flow_definition.specs.declared.processor_type.Own.{Own}
use Rattle.flow_definition.specs.declared.processor_type.Own.TheVariants as own
use Rattle.flow_definition.specs.declared.processor_type.Form.{Form}
use Rattle.flow_definition.specs.declared.processor_type.Form.TheVariants as form
use Rattle.flow_definition.specs.declared.processor_type.Property.{Property}
use Rattle.flow_definition.specs.declared.processor_type.Property.TheVariants.{MinimumEntries, MaximumEntries}
use Rattle.flow_definition.specs.declared.processor_type.ReplaceStrategy.{ReplaceStrategy}
use Rattle.flow_definition.specs.declared.processor_type.ReplaceStrategy.TheVariants as strategy
use Rattle.machine_model.specs.declared.kind.MergeStrategy.{MergeStrategy}
use Rattle.machine_model.specs.declared.kind.MergeStrategy.TheVariants.{BinPacking, Defragment}
use Rattle.machine_model.specs.declared.limits.TheConstants.{PROCESSORS_MAX, CONNECTIONS_MAX, FAN_OUT_MAX, OWN_NAME_MAX, OWN_PROPERTIES_MAX}
use Rattle.flow_definition.specs.Fields.{field_name, fields_of, shape_of, is_required}
use Rattle.flow_definition.specs.Looks.{value_at, field_text, has_text, list_items_at, names_at, is_object, is_text, members_of, member_names, type_of, properties_in, own_in, fixed_relationships_in, relationships_in, own_properties_in, processor_named, given_properties, given_value, given_text}
use Rattle.flow_definition.specs.Reading.{merge_strategy_in, property_number, replace_strategy_in}
use Rattle.flow_definition.specs.Shapes.{has_shape, is_in_range, is_of_set, is_number_text}
use Rattle.flow_definition.specs.Types.{is_source_type, property_name, default_of, form_of}

-- a step of a path: a member of an object, or an item of a list
pub data Step : Type 0 where
  member : List ℕ → Step
  item : ℕ → Step

abbrev pub Path : Type 0
Path = List Step

abbrev pub in_field : Field → Path
in_field f = member (field_name f) ∷ []

abbrev pub in_item : Field → ℕ → Path
in_item f place = member (field_name f) ∷ item place ∷ []

abbrev pub in_property : List ℕ → Path
in_property name = member (field_name Properties) ∷ member name ∷ []

abbrev pub in_unknown : List ℕ → Path
in_unknown name = member name ∷ []

-- ---- a required field or property is missing. Of properties that are no object none is

abbrev pub is_missing : Data → Field → Bool
is_missing part f = is_required f && is_none (value_at f part)

abbrev pub missing_field : Level → Data → Option Path
missing_field l part = option_map in_field (find (is_missing part) (fields_of l))

abbrev pub may_give : Data → Bool
may_give processor = option_map_or is_object (value_at Properties processor) true

abbrev pub is_missing_property : Data → Property → Bool
is_missing_property processor property =
    may_give processor && is_none (default_of property) && is_none (given_value (property_name property) processor)

abbrev pub missing_property : Data → Option Path
missing_property processor =
    option_map (λ p. in_property (property_name p)) (find (is_missing_property processor) (properties_in processor))

-- ---- no type has this name

abbrev pub unknown_type : Data → Option Path
unknown_type processor =
    if is_some (field_text TypeName processor) && is_none (type_of processor) then Some (in_field TypeName) else None

-- ---- the id stands earlier in the list

abbrev pub is_doubled : List Data → Data → Bool
is_doubled earlier part = option_map_or (λ id. list_any (has_text Id id) earlier) (field_text Id part) false

abbrev pub doubled_id : List Data → Data → Option Path
doubled_id earlier part = if is_doubled earlier part then Some (in_field Id) else None

-- ---- no processor has this id, or a connection leads to a source

abbrev pub may_be_end : Option Data → Bool
may_be_end None = false
may_be_end (Some processor) = not (option_map_or is_source_type (type_of processor) false)

abbrev pub is_unknown_source : Data → Data → Bool
is_unknown_source top connection =
    option_map_or (λ id. is_none (processor_named top id)) (field_text From connection) false

abbrev pub is_unknown_target : Data → Data → Bool
is_unknown_target top connection =
    option_map_or (λ id. not (may_be_end (processor_named top id))) (field_text To connection) false

abbrev pub unknown_end : Data → Data → Option Path
unknown_end top connection =
    if is_unknown_source top connection then Some (in_field From)
    else if is_unknown_target top connection then Some (in_field To) else None

-- ---- a relationship of a processor is neither terminated nor in a connection, or both; a name is no relationship of
-- its processor, or stands earlier in its list. Where no type is known nothing is known of its relationships

abbrev pub leaves : Data → Data → Bool
leaves processor connection = option_map_or (λ id. has_text From id connection) (field_text Id processor) false

abbrev pub connection_carries : Data → List ℕ → Data → Bool
connection_carries processor name connection =
    leaves processor connection && is_among name (names_at Relationships connection)

abbrev pub is_connected : Data → Data → List ℕ → Bool
is_connected top processor name = list_any (connection_carries processor name) (list_items_at Connections top)

abbrev pub is_loose : Data → Data → List ℕ → Bool
is_loose top processor name =
    if is_among name (names_at Terminated processor) then is_connected top processor name
    else not (is_connected top processor name)

abbrev pub is_wrong : (relationships earlier : List (List ℕ)) → List ℕ → Bool
is_wrong relationships earlier name = not (is_among name relationships) || is_among name earlier

-- the place of the first name of a list that is no relationship or stands earlier
abbrev pub wrong_name : (relationships earlier names : List (List ℕ)) → Option ℕ
wrong_name relationships earlier [] = None
wrong_name relationships earlier (name ∷ names) =
    if is_wrong relationships earlier name then Some (length earlier)
    else wrong_name relationships (earlier ++ name ∷ []) names

abbrev pub wrong_item : Field → Option Data → Data → Option Path
wrong_item f None part = None
wrong_item f (Some processor) part =
    if is_some (type_of processor)
    then option_map (in_item f) (wrong_name (relationships_in processor) [] (names_at f part)) else None

abbrev pub unconnected : Data → Data → Option Path
unconnected top processor =
    if list_any (is_loose top processor) (relationships_in processor) then Some []
    else wrong_item Terminated (Some processor) processor

abbrev pub not_of_source : Data → Data → Option Path
not_of_source top connection =
    wrong_item Relationships (option_and_then (processor_named top) (field_text From connection)) connection

-- ---- a value is of another kind than it has to be, or outside its set; a property isn't one of the type, and none
-- of the processor's own

abbrev pub is_misshapen : Data → Field → Bool
is_misshapen part f = option_map_or (λ d. not (has_shape (shape_of f) d)) (value_at f part) false

abbrev pub misshapen_field : Level → Data → Option Path
misshapen_field l part = option_map in_field (find (is_misshapen part) (fields_of l))

abbrev pub property_named : Data → List ℕ → Option Property
property_named processor name = find (λ p. bytes_eq (property_name p) name) (properties_in processor)

-- an own relationship isn't named as one that is there anyway
abbrev pub may_be_own : Own → (fixed : List (List ℕ)) → List ℕ → Bool
may_be_own own.Nothing fixed name = false
may_be_own own.Attributes fixed name = true
may_be_own own.Relationships fixed name = not (is_among name fixed)
may_be_own own.AttributePatterns fixed name = true
may_be_own own.RelationshipPatterns fixed name = not (is_among name fixed)

-- an own property has a name of 1 to 255 bytes, and is a text
abbrev pub is_own_property : Data → List ℕ × Data → Bool
is_own_property processor (name, value) =
    within 1 (length name) OWN_NAME_MAX && may_be_own (own_in processor) (fixed_relationships_in processor) name
    && is_text value

-- nothing is sought as it stands
abbrev pub is_empty_search : ReplaceStrategy → Form → List ℕ → Bool
is_empty_search strategy.Literal form.Search [] = true
is_empty_search _ _ _ = false

abbrev pub property_may_hold : Data → Property → List ℕ → Bool
property_may_hold processor property text =
    is_of_set (form_of property) text && not (is_empty_search (replace_strategy_in processor) (form_of property) text)

abbrev pub is_bad_value : Data → List ℕ × Data → Option Property → Bool
is_bad_value processor given None = not (is_own_property processor given)
is_bad_value processor given (Some property) =
    not (option_map_or (property_may_hold processor property) (as_str given.1) false)

abbrev pub is_bad_property : Data → List ℕ × Data → Bool
is_bad_property processor given = is_bad_value processor given (property_named processor given.0)

abbrev pub bad_property : Data → Option Path
bad_property processor =
    option_map (λ given. in_property given.0) (find (is_bad_property processor) (given_properties processor))

-- ---- there are too many processors, connections, connections of one relationship, or properties of a processor's own

abbrev pub is_crowded : Data → Data → List ℕ → Bool
is_crowded top processor name =
    nat_lt FAN_OUT_MAX (count_by (connection_carries processor name) (list_items_at Connections top))

abbrev pub has_crowded : Data → Data → Bool
has_crowded top processor = list_any (is_crowded top processor) (relationships_in processor)

abbrev pub are_connections_too_many : Data → Bool
are_connections_too_many top =
    nat_lt CONNECTIONS_MAX (length (list_items_at Connections top))
    || list_any (has_crowded top) (list_items_at Processors top)

abbrev pub too_many : Data → Option Path
too_many top =
    if nat_lt PROCESSORS_MAX (length (list_items_at Processors top)) then Some (in_field Processors)
    else if are_connections_too_many top then Some (in_field Connections) else None

abbrev pub too_many_own : Data → Option Path
too_many_own processor =
    if nat_lt OWN_PROPERTIES_MAX (length (own_properties_in processor)) then Some (in_field Properties) else None

-- ---- a field isn't one of the object's

abbrev pub is_unknown : Level → List ℕ → Bool
is_unknown l name = not (list_any (λ f. bytes_eq (field_name f) name) (fields_of l))

abbrev pub unknown_field : Level → Data → Option Path
unknown_field l part = option_map in_unknown (find (is_unknown l) (member_names (members_of part)))

-- ---- a number isn't a whole one without sign, point and exponent, or is out of range; of files that are joined by
-- number the least is above the most

abbrev pub is_bad_number : Data → Field → Bool
is_bad_number part f =
    option_map_or (λ d. is_some (as_number d) && not (is_in_range (shape_of f) d)) (value_at f part) false

abbrev pub bad_number : Level → Data → Option Path
bad_number l part = option_map in_field (find (is_bad_number part) (fields_of l))

abbrev pub is_above : MergeStrategy → (minimum maximum : ℕ) → Bool
is_above BinPacking minimum maximum = nat_lt maximum minimum
is_above Defragment minimum maximum = false

abbrev pub is_above_most : Data → Property → Bool
is_above_most processor MinimumEntries =
    is_above (merge_strategy_in processor) (property_number MinimumEntries processor)
    (property_number MaximumEntries processor)
is_above_most processor _ = false

abbrev pub is_bad_number_property : Data → Property → Bool
is_bad_number_property processor property =
    option_map_or (λ text. not (is_number_text (form_of property) text)) (given_text property processor) false
    || is_above_most processor property

abbrev pub bad_number_property : Data → Option Path
bad_number_property processor =
    option_map (λ p. in_property (property_name p)) (find (is_bad_number_property processor) (properties_in processor))
