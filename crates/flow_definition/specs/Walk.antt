-- The walk through a text: the fields of its object, its processors and its connections in their order. In each a rule
-- says where it is broken first, and the first such place is the rule's.
use Rattle.std.specs.Prelude.{ℕ, List, [], ◌∷◌, ◌++◌, length, Option, None, option_map, if◌then◌else◌}
use Rattle.std.specs.Option.{option_or}
use Rattle.serde_json.specs.Data.{Data}
use Rattle.flow_definition.specs.declared.field.Field.{Field}
use Rattle.flow_definition.specs.declared.field.Field.TheVariants.{Processors, Connections}
use Rattle.flow_definition.specs.declared.field.Level.{Level}
use Rattle.flow_definition.specs.declared.field.Level.TheVariants as level
use Rattle.flow_definition.specs.declared.rule.Rule.{Rule}
use Rattle.flow_definition.specs.declared.rule.Rule.TheVariants.{MissingField, UnknownType, DoubleId, UnknownEnd, RelationshipUnconnected, BadProperty, TooMany, UnknownField, BadNumber}
use Rattle.flow_definition.specs.Fields.{field_name}
use Rattle.flow_definition.specs.Looks.{list_items_at, is_object}
use Rattle.flow_definition.specs.Rules.{Path, member, item, missing_field, missing_property, unknown_type, doubled_id, unknown_end, unconnected, not_of_source, misshapen_field, bad_property, too_many, too_many_own, unknown_field, bad_number, bad_number_property}

abbrev pub in_top : Rule → Data → Option Path
in_top MissingField top = missing_field level.Top top
in_top BadProperty top = misshapen_field level.Top top
in_top TooMany top = too_many top
in_top UnknownField top = unknown_field level.Top top
in_top _ top = None

-- in a processor of the text, and the ones before it
abbrev pub in_processor : Rule → Data → List Data → Data → Option Path
in_processor MissingField top earlier processor =
    option_or (missing_field level.Processor processor) (missing_property processor)
in_processor UnknownType top earlier processor = unknown_type processor
in_processor DoubleId top earlier processor = doubled_id earlier processor
in_processor RelationshipUnconnected top earlier processor = unconnected top processor
in_processor BadProperty top earlier processor =
    option_or (misshapen_field level.Processor processor) (bad_property processor)
in_processor TooMany top earlier processor = too_many_own processor
in_processor UnknownField top earlier processor = unknown_field level.Processor processor
in_processor BadNumber top earlier processor =
    option_or (bad_number level.Processor processor) (bad_number_property processor)
in_processor _ top earlier processor = None

-- in a connection of the text, and the ones before it
abbrev pub in_connection : Rule → Data → List Data → Data → Option Path
in_connection MissingField top earlier connection = missing_field level.Connection connection
in_connection DoubleId top earlier connection = doubled_id earlier connection
in_connection UnknownEnd top earlier connection = unknown_end top connection
in_connection RelationshipUnconnected top earlier connection = not_of_source top connection
in_connection BadProperty top earlier connection = misshapen_field level.Connection connection
in_connection UnknownField top earlier connection = unknown_field level.Connection connection
in_connection BadNumber top earlier connection = bad_number level.Connection connection
in_connection _ top earlier connection = None

abbrev pub in_level : Level → Rule → Data → List Data → Data → Option Path
in_level level.Top rule top earlier d = None
in_level level.Processor rule top earlier d = in_processor rule top earlier d
in_level level.Connection rule top earlier d = in_connection rule top earlier d

abbrev pub in_list_item : Field → ℕ → Path → Path
in_list_item f place path = member (field_name f) ∷ item place ∷ path

-- what isn't an object isn't looked at
abbrev pub in_object : (List Data → Data → Option Path) → List Data → Data → Option Path
in_object rule earlier d = if is_object d then rule earlier d else None

abbrev pub first_broken_in : (List Data → Data → Option Path) → Field → (earlier objects : List Data) → Option Path
first_broken_in rule f earlier [] = None
first_broken_in rule f earlier (d ∷ ds) =
    option_or (option_map (in_list_item f (length earlier)) (in_object rule earlier d))
    (first_broken_in rule f (earlier ++ d ∷ []) ds)

abbrev pub first_broken_place : Rule → Data → Option Path
first_broken_place rule top =
    option_or (in_top rule top)
    (option_or (first_broken_in (in_level level.Processor rule top) Processors [] (list_items_at Processors top))
    (first_broken_in (in_level level.Connection rule top) Connections [] (list_items_at Connections top)))

-- the first of some rules that is broken, and where
abbrev pub first_broken : List Rule → Data → Option (Rule × Path)
first_broken [] top = None
first_broken (rule ∷ rules) top =
    option_or (option_map (λ path. (rule, path)) (first_broken_place rule top)) (first_broken rules top)

-- the rules that are looked at before patterns are built and expressions are read, and behind these
abbrev pub first_rules : List Rule
first_rules =
    MissingField ∷ UnknownType ∷ DoubleId ∷ UnknownEnd ∷ RelationshipUnconnected ∷ BadProperty ∷ []

abbrev pub last_rules : List Rule
last_rules = TooMany ∷ UnknownField ∷ BadNumber ∷ []
