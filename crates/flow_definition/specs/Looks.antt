-- What stands in an object of the text, where it is there and of the right kind.
use Rattle.std.specs.Prelude.{ℕ, Bool, true, false, not, filter, List, [], ◌∷◌, ◌++◌, map, Option, option_and_then, is_some, unwrap_or, bytes_eq, find, if◌then◌else◌}
use Rattle.std.specs.Option.{option_map_or}
use Rattle.std.specs.List.{list_all, list_any}
use Rattle.serde_json.specs.Data.{Data, Items, no_items, item, Members, no_members, member}
use Rattle.serde_json.specs.Find.{get, as_str, as_array, as_object}
use Rattle.flow_definition.specs.declared.field.Field.{Field}
use Rattle.flow_definition.specs.declared.field.Field.TheVariants.{TypeName, Id, Properties, Processors}
use Rattle.flow_definition.specs.declared.processor_type.ProcessorType.{ProcessorType}
use Rattle.flow_definition.specs.declared.processor_type.Own.{Own}
use Rattle.flow_definition.specs.declared.processor_type.Own.TheVariants as own
use Rattle.flow_definition.specs.declared.processor_type.Property.{Property}
use Rattle.flow_definition.specs.Fields.{field_name}
use Rattle.flow_definition.specs.Types.{type_named, properties_of, own_of_type, relationships_of_type, property_name, default_of}

abbrev pub value_at : Field → Data → Option Data
value_at f part = get (field_name f) part

abbrev pub is_text : Data → Bool
is_text d = is_some (as_str d)

abbrev pub text_or_empty : Data → List ℕ
text_or_empty d = unwrap_or (as_str d) []

abbrev pub field_text : Field → Data → Option (List ℕ)
field_text f part = option_and_then as_str (value_at f part)

-- the object has this text in this field
abbrev pub has_text : Field → List ℕ → Data → Bool
has_text f text part = option_map_or (bytes_eq text) (field_text f part) false

abbrev pub is_object : Data → Bool
is_object d = is_some (as_object d)

abbrev pub list_of_items : Items → List Data
list_of_items no_items = []
list_of_items (item d ds) = d ∷ list_of_items ds

-- the items of a list, and none where it is no list
abbrev pub list_items : Data → List Data
list_items d = option_map_or list_of_items (as_array d) []

abbrev pub list_items_at : Field → Data → List Data
list_items_at f part = option_map_or list_items (value_at f part) []

-- the texts of a list of texts, and none where it is something else
abbrev pub texts_in : List Data → List (List ℕ)
texts_in items = if list_all is_text items then map text_or_empty items else []

abbrev pub names_at : Field → Data → List (List ℕ)
names_at f part = texts_in (list_items_at f part)

abbrev pub member_list : Members → List (List ℕ × Data)
member_list no_members = []
member_list (member k d ms) = (k, d) ∷ member_list ms

-- the members of an object, ascending by the bytes of their names, and none where it is no object
abbrev pub members_of : Data → List (List ℕ × Data)
members_of d = option_map_or member_list (as_object d) []

abbrev pub member_names : List (List ℕ × Data) → List (List ℕ)
member_names members = map (λ given. given.0) members

-- ---- processors

abbrev pub type_of : Data → Option ProcessorType
type_of processor = option_and_then type_named (field_text TypeName processor)

abbrev pub properties_in : Data → List Property
properties_in processor = option_map_or properties_of (type_of processor) []

abbrev pub fixed_relationships_in : Data → List (List ℕ)
fixed_relationships_in processor = option_map_or relationships_of_type (type_of processor) []

-- the first processor with this id
abbrev pub processor_named : Data → List ℕ → Option Data
processor_named top id = find (has_text Id id) (list_items_at Processors top)

-- the properties that a processor gives, and none where they are no object
abbrev pub given_properties : Data → List (List ℕ × Data)
given_properties processor = option_map_or members_of (value_at Properties processor) []

-- the value that a processor gives a property of this name
abbrev pub given_value : List ℕ → Data → Option Data
given_value name processor = option_and_then (get name) (value_at Properties processor)

abbrev pub given_text : Property → Data → Option (List ℕ)
given_text property processor = option_and_then as_str (given_value (property_name property) processor)

-- the text that a processor gives a property, or the one that a missing one stands for
abbrev pub property_text : Property → Data → List ℕ
property_text property processor = unwrap_or (given_text property processor) (unwrap_or (default_of property) [])

-- ---- properties of a processor's own, and the relationships that they make

-- the name of a property of the type
abbrev pub is_fixed : List Property → List ℕ → Bool
is_fixed properties name = list_any (λ property. bytes_eq (property_name property) name) properties

-- what is given beside the properties of the type
abbrev pub others : List Property → List (List ℕ × Data) → List (List ℕ × Data)
others properties given = filter (λ member. not (is_fixed properties member.0)) given

abbrev pub others_in : Data → List (List ℕ × Data)
others_in processor = others (properties_in processor) (given_properties processor)

abbrev pub own_in : Data → Own
own_in processor = option_map_or own_of_type (type_of processor) own.Nothing

-- own properties of this sort hold expressions
abbrev pub hold_expressions : Own → Bool
hold_expressions own.Nothing = false
hold_expressions own.Attributes = true
hold_expressions own.Relationships = true
hold_expressions own.AttributePatterns = false
hold_expressions own.RelationshipPatterns = false

-- own properties of this sort hold patterns
abbrev pub hold_patterns : Own → Bool
hold_patterns own.Nothing = false
hold_patterns own.Attributes = false
hold_patterns own.Relationships = false
hold_patterns own.AttributePatterns = true
hold_patterns own.RelationshipPatterns = true

abbrev pub own_given : Own → List (List ℕ × Data) → List (List ℕ × Data)
own_given own.Nothing given = []
own_given own.Attributes given = given
own_given own.Relationships given = given
own_given own.AttributePatterns given = given
own_given own.RelationshipPatterns given = given

abbrev pub own_properties_in : Data → List (List ℕ × Data)
own_properties_in processor = own_given (own_in processor) (others_in processor)

abbrev pub relationships_given : Own → List (List ℕ × Data) → List (List ℕ × Data)
relationships_given own.Nothing given = []
relationships_given own.Attributes given = []
relationships_given own.Relationships given = given
relationships_given own.AttributePatterns given = []
relationships_given own.RelationshipPatterns given = given

-- an own property makes its relationship by its name, whatever its value is
abbrev pub own_relationships_in : Data → List (List ℕ)
own_relationships_in processor = member_names (relationships_given (own_in processor) (others_in processor))

abbrev pub relationships_in : Data → List (List ℕ)
relationships_in processor = own_relationships_in processor ++ fixed_relationships_in processor

-- the own properties with their texts
abbrev pub texts_of : List (List ℕ × Data) → List (List ℕ × List ℕ)
texts_of given = map (λ (name, value). (name, text_or_empty value)) given

abbrev pub own_texts_in : Data → List (List ℕ × List ℕ)
own_texts_in processor = texts_of (own_properties_in processor)
