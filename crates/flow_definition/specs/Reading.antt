-- The flow that a text stands for. A part that an accepted text can't have is read as what a missing one stands for.
use Rattle.std.specs.Prelude.{◌≡◌, ℕ, Bool, true, false, List, [], ◌∷◌, map, nat_lt, Option, Some, None, IsSomeAnd, option_and_then, unwrap_or, position, if◌then◌else◌}
use Rattle.std.specs.Option.{option_map_or}
use Rattle.std.specs.List.{filter_map}
use Rattle.sha2.specs.Sha256.{sha256}
use Rattle.expr_lang.specs.Grammar.{IsText}
use Rattle.expr_lang.specs.View.{tree_of}
use Rattle.serde_json.specs.Data.{Data}
use Rattle.serde_json.specs.Find.{as_number, as_u64}
use Rattle.machine_model.specs.Sound.{within, to_match_whole}
use Rattle.machine_model.specs.declared.flow.Connection.{Connection}
use Rattle.machine_model.specs.declared.flow.Flow.{Flow}
use Rattle.machine_model.specs.declared.flow.Processor.{Processor}
use Rattle.machine_model.specs.declared.kind.Conflict.{Conflict}
use Rattle.machine_model.specs.declared.kind.Conflict.TheVariants.{Fail}
use Rattle.machine_model.specs.declared.kind.Destination.{Destination}
use Rattle.machine_model.specs.declared.kind.Destination.TheVariants.{Attribute}
use Rattle.machine_model.specs.declared.kind.Kind.{Kind}
use Rattle.machine_model.specs.declared.kind.Kind.TheVariants as kind
use Rattle.machine_model.specs.declared.kind.MatchRequirement.{MatchRequirement}
use Rattle.machine_model.specs.declared.kind.MatchRequirement.TheVariants.{Exactly}
use Rattle.machine_model.specs.declared.kind.MergeStrategy.{MergeStrategy as MergeBy}
use Rattle.machine_model.specs.declared.kind.MergeStrategy.TheVariants.{BinPacking}
use Rattle.machine_model.specs.declared.kind.OwnExpression.{OwnExpression}
use Rattle.machine_model.specs.declared.kind.OwnPattern.{OwnPattern}
use Rattle.machine_model.specs.declared.kind.Replacement.{Replacement}
use Rattle.machine_model.specs.declared.kind.Replacement.TheVariants as replacement
use Rattle.flow_definition.specs.declared.field.Field.{Field}
use Rattle.flow_definition.specs.declared.field.Field.TheVariants.{Processors, Connections, Id, Tasks, Penalty, Terminated, From, To, Relationships, Prioritizers, Expiration, Objects, Bytes, Swap}
use Rattle.flow_definition.specs.declared.field.Shape.{Shape}
use Rattle.flow_definition.specs.declared.field.Shape.TheVariants as shape
use Rattle.machine_model.specs.declared.limits.TheConstants.{COPIES_MAX, GENERATED_MAX, PROCESSORS_MAX}
use Rattle.flow_definition.specs.declared.processor_type.Form.{Form}
use Rattle.flow_definition.specs.declared.processor_type.Form.TheVariants as form
use Rattle.flow_definition.specs.declared.processor_type.Own.{Own}
use Rattle.flow_definition.specs.declared.processor_type.Own.TheVariants as own
use Rattle.flow_definition.specs.declared.processor_type.ProcessorType.TheVariants as type
use Rattle.flow_definition.specs.declared.processor_type.Property.{Property}
use Rattle.flow_definition.specs.declared.processor_type.Property.TheVariants.{FileFilter, Count, CustomText, ConflictResolution, AttributesList, JsonDestination, Copies, LineSplitCount, ReplacementStrategy, ReplacementValue, SearchValue, Requirement, MergeStrategy, MinimumEntries, MaximumEntries, SegmentSize, StartOffset, EndOffset}
use Rattle.flow_definition.specs.declared.processor_type.ReplaceStrategy.{ReplaceStrategy}
use Rattle.flow_definition.specs.declared.processor_type.ReplaceStrategy.TheVariants as strategy
use Rattle.flow_definition.specs.Fields.{shape_of}
use Rattle.flow_definition.specs.Listed.{listed_names}
use Rattle.flow_definition.specs.Looks.{value_at, field_text, has_text, list_items_at, names_at, type_of, property_text, own_in, own_texts_in}
use Rattle.flow_definition.specs.Shapes.{conflict_named, destination_named, number_of_digits, prioritizer_named, replace_strategy_named, requirement_named, merge_strategy_named}
use Rattle.flow_definition.specs.Types.{form_of}

-- the number, where it is within the range
abbrev pub number_in_range : (default least most : ℕ) → Option ℕ → ℕ
number_in_range default least most given = option_map_or (λ n. if within least n most then n else default) given default

abbrev pub shape_number : Shape → Option ℕ → ℕ
shape_number (shape.Number least most default) given = number_in_range default least most given
shape_number shape.Objects given = 0
shape_number shape.Id given = 0
shape_number shape.Text given = 0
shape_number shape.Properties given = 0
shape_number shape.Names given = 0
shape_number shape.SomeNames given = 0
shape_number shape.Prioritizers given = 0

abbrev pub field_number : Field → Data → ℕ
field_number f part = shape_number (shape_of f) (option_and_then as_u64 (option_and_then as_number (value_at f part)))

abbrev pub id_at : Field → Data → List ℕ
id_at f part = unwrap_or (field_text f part) []

-- a generator's count
abbrev pub generated_count : Data → ℕ
generated_count processor = number_in_range 0 0 GENERATED_MAX (number_of_digits (property_text Count processor))

abbrev pub conflict_in : Data → Conflict
conflict_in processor = unwrap_or (conflict_named (property_text ConflictResolution processor)) Fail

abbrev pub destination_in : Data → Destination
destination_in processor = unwrap_or (destination_named (property_text JsonDestination processor)) Attribute

-- how many copies are made
abbrev pub copies_in : Data → ℕ
copies_in processor = number_in_range 100 1 COPIES_MAX (number_of_digits (property_text Copies processor))

-- the number that a property holds
abbrev pub number_held : Form → Option ℕ → ℕ
number_held (form.Number least most) given = number_in_range least least most given
number_held form.WholePattern given = 0
number_held form.Expression given = 0
number_held form.Conflict given = 0
number_held form.Names given = 0
number_held form.Destination given = 0
number_held form.ReplaceStrategy given = 0
number_held form.Search given = 0
number_held form.Text given = 0
number_held form.Requirement given = 0
number_held form.MergeStrategy given = 0

abbrev pub property_number : Property → Data → ℕ
property_number property processor =
    number_held (form_of property) (number_of_digits (property_text property processor))

abbrev pub replace_strategy_in : Data → ReplaceStrategy
replace_strategy_in processor =
    unwrap_or (replace_strategy_named (property_text ReplacementStrategy processor)) strategy.Regex

-- what is replaced, and by what
abbrev pub IsReplacementOf : ReplaceStrategy → (search value : List ℕ) → Replacement → Type 0
IsReplacementOf strategy.Regex search value (replacement.Regex pattern template) =
    (pattern.text ≡ search) × (template ≡ value)
IsReplacementOf strategy.Literal search value (replacement.Literal text other) = (text ≡ search) × (other ≡ value)
IsReplacementOf strategy.Regex search value (replacement.Literal text other) = ⊥
IsReplacementOf strategy.Literal search value (replacement.Regex pattern template) = ⊥

-- properties of a processor's own, each with the expression that its text says
abbrev pub IsOwnOf : List ℕ × List ℕ → OwnExpression → Type 0
IsOwnOf (name, text) own = (own.name ≡ name) × IsText text (tree_of own.expression)

abbrev pub AreOwnOf : List (List ℕ × List ℕ) → List OwnExpression → Type 0
AreOwnOf [] [] = Unit {0}
AreOwnOf (given ∷ more) (own ∷ rest) = IsOwnOf given own × AreOwnOf more rest
AreOwnOf [] (own ∷ rest) = ⊥
AreOwnOf (given ∷ more) [] = ⊥

abbrev pub requirement_in : Data → MatchRequirement
requirement_in processor = unwrap_or (requirement_named (property_text Requirement processor)) Exactly

abbrev pub merge_strategy_in : Data → MergeBy
merge_strategy_in processor = unwrap_or (merge_strategy_named (property_text MergeStrategy processor)) BinPacking

-- each pattern of the processor's own has to match a whole content
abbrev pub must_match_whole : Own → MatchRequirement → Bool
must_match_whole own.RelationshipPatterns Exactly = true
must_match_whole _ _ = false

abbrev pub is_whole_in : Data → Bool
is_whole_in processor = must_match_whole (own_in processor) (requirement_in processor)

-- the text that an own pattern is built from
abbrev pub pattern_of : (whole : Bool) → List ℕ → List ℕ
pattern_of whole text = if whole then to_match_whole text else text

abbrev pub patterns_of : (whole : Bool) → List (List ℕ × List ℕ) → List (List ℕ × List ℕ)
patterns_of whole texts = map (λ (name, text). (name, pattern_of whole text)) texts

abbrev pub patterns_in : Data → List (List ℕ × List ℕ)
patterns_in processor = patterns_of (is_whole_in processor) (own_texts_in processor)

-- own patterns by their names and texts
abbrev pub own_patterns : List OwnPattern → List (List ℕ × List ℕ)
own_patterns list = map (λ property. (property.name, property.pattern.text)) list

abbrev pub IsKindOf : Data → Kind → Type 0
IsKindOf processor (kind.GetFile filter) =
    (type_of processor ≡ Some type.GetFile)
    × IsSomeAnd filter (λ pattern. pattern.text ≡ to_match_whole (property_text FileFilter processor))
IsKindOf processor (kind.GenerateFlowFile count text) =
    (type_of processor ≡ Some type.GenerateFlowFile) × (count ≡ generated_count processor)
    × IsText (property_text CustomText processor) (tree_of text)
IsKindOf processor (kind.PutFile conflict) =
    (type_of processor ≡ Some type.PutFile) × (conflict ≡ conflict_in processor)
IsKindOf processor (kind.UpdateAttribute own) =
    (type_of processor ≡ Some type.UpdateAttribute) × AreOwnOf (own_texts_in processor) own
IsKindOf processor (kind.RouteOnAttribute own) =
    (type_of processor ≡ Some type.RouteOnAttribute) × AreOwnOf (own_texts_in processor) own
IsKindOf processor (kind.AttributesToJson destination names) =
    (type_of processor ≡ Some type.AttributesToJson) × (destination ≡ destination_in processor)
    × (names ≡ listed_names (property_text AttributesList processor))
IsKindOf processor (kind.DuplicateFlowFile copies) =
    (type_of processor ≡ Some type.DuplicateFlowFile) × (copies ≡ copies_in processor)
IsKindOf processor kind.CryptographicHashContent = type_of processor ≡ Some type.CryptographicHashContent
IsKindOf processor (kind.SplitText lines) =
    (type_of processor ≡ Some type.SplitText) × (lines ≡ property_number LineSplitCount processor)
IsKindOf processor (kind.ReplaceText by) =
    (type_of processor ≡ Some type.ReplaceText)
    × IsReplacementOf (replace_strategy_in processor) (property_text SearchValue processor)
    (property_text ReplacementValue processor) by
IsKindOf processor (kind.ExtractText list) =
    (type_of processor ≡ Some type.ExtractText) × (own_patterns list ≡ patterns_in processor)
IsKindOf processor (kind.RouteOnContent requirement list) =
    (type_of processor ≡ Some type.RouteOnContent) × (requirement ≡ requirement_in processor)
    × (own_patterns list ≡ patterns_in processor)
IsKindOf processor (kind.MergeContent strategy minimum maximum) =
    (type_of processor ≡ Some type.MergeContent) × (strategy ≡ merge_strategy_in processor)
    × (minimum ≡ property_number MinimumEntries processor) × (maximum ≡ property_number MaximumEntries processor)
IsKindOf processor (kind.SegmentContent size) =
    (type_of processor ≡ Some type.SegmentContent) × (size ≡ property_number SegmentSize processor)
IsKindOf processor (kind.ModifyBytes start end) =
    (type_of processor ≡ Some type.ModifyBytes) × (start ≡ property_number StartOffset processor)
    × (end ≡ property_number EndOffset processor)

pub record IsProcessorOf (d : Data) (processor : Processor) : Type 0 where
  pub id : processor.id ≡ id_at Id d
  pub kind : IsKindOf d processor.kind
  pub tasks : processor.tasks ≡ field_number Tasks d
  pub penalty : processor.penalty ≡ field_number Penalty d
  pub terminated : processor.terminated ≡ names_at Terminated d

abbrev pub AreProcessorsOf : List Data → List Processor → Type 0
AreProcessorsOf [] [] = Unit {0}
AreProcessorsOf (d ∷ ds) (processor ∷ processors) = IsProcessorOf d processor × AreProcessorsOf ds processors
AreProcessorsOf [] (processor ∷ processors) = ⊥
AreProcessorsOf (d ∷ ds) [] = ⊥

-- the place of the processor with the id in a field
abbrev pub place_below : Option ℕ → ℕ
place_below None = 0
place_below (Some place) = if nat_lt place PROCESSORS_MAX then place else 0

abbrev pub place_at : Data → Field → Data → ℕ
place_at top f part = place_below (position (has_text Id (id_at f part)) (list_items_at Processors top))

abbrev pub connection_of : Data → Data → Connection
connection_of top d = record {
  id = id_at Id d;
  source = place_at top From d;
  relationships = names_at Relationships d;
  target = place_at top To d;
  order = filter_map prioritizer_named (names_at Prioritizers d);
  limits = record {
    expiration = field_number Expiration d;
    objects = field_number Objects d;
    bytes = field_number Bytes d;
    swap = field_number Swap d;
  };
}

pub record IsFlowOf (bytes : List ℕ) (top : Data) (flow : Flow) : Type 0 where
  pub processors : AreProcessorsOf (list_items_at Processors top) flow.processors
  pub connections : flow.connections ≡ map (connection_of top) (list_items_at Connections top)
  pub digest : flow.digest ≡ sha256 bytes
