-- Which values a field and a property may have: of which kind, and within which range.
use Rattle.std.specs.Prelude.{ℕ, ◌&&◌, Bool, true, false, List, [], ◌∷◌, length, nat_le, Option, Some, None, option_and_then, is_some, bytes_eq, find, codes, if◌then◌else◌}
use Rattle.std.specs.Char.{is_ascii_digit}
use Rattle.std.specs.Option.{option_map_or}
use Rattle.std.specs.List.{list_all}
use Rattle.std.specs.Str.Parse.{digits_value}
use Rattle.serde_json.specs.Data.{Data}
use Rattle.serde_json.specs.Find.{as_str, as_array, as_number, as_u64}
use Rattle.machine_model.specs.Sound.{is_id, within, are_distinct_texts}
use Rattle.machine_model.specs.declared.kind.Conflict.{Conflict}
use Rattle.machine_model.specs.declared.kind.Conflict.TheVariants.{Replace, Ignore, Fail}
use Rattle.machine_model.specs.declared.kind.Destination.{Destination}
use Rattle.machine_model.specs.declared.kind.Destination.TheVariants.{Attribute, Content}
use Rattle.machine_model.specs.declared.kind.MatchRequirement.{MatchRequirement}
use Rattle.machine_model.specs.declared.kind.MatchRequirement.TheVariants as requirement
use Rattle.machine_model.specs.declared.kind.MergeStrategy.{MergeStrategy}
use Rattle.machine_model.specs.declared.kind.MergeStrategy.TheVariants.{BinPacking, Defragment}
use Rattle.prioritizer.specs.Order.{name_of}
use Rattle.prioritizer.specs.declared.prioritizer.Prioritizer.{Prioritizer}
use Rattle.prioritizer.specs.declared.prioritizer.Prioritizer.TheVariants.{FirstInFirstOut, NewestFlowFileFirst, OldestFlowFileFirst, PriorityAttribute}
use Rattle.flow_definition.specs.declared.field.Shape.{Shape}
use Rattle.flow_definition.specs.declared.field.Shape.TheVariants as shape
use Rattle.flow_definition.specs.declared.processor_type.Form.{Form}
use Rattle.flow_definition.specs.declared.processor_type.Form.TheVariants as form
use Rattle.flow_definition.specs.declared.processor_type.ReplaceStrategy.{ReplaceStrategy}
use Rattle.flow_definition.specs.declared.processor_type.ReplaceStrategy.TheVariants as strategy
use Rattle.flow_definition.specs.Looks.{is_text, is_object, list_items, texts_in}

abbrev pub is_list : Data → Bool
is_list d = is_some (as_array d)

abbrev pub is_list_of_texts : Data → Bool
is_list_of_texts d = is_list d && list_all is_text (list_items d)

abbrev pub prioritizer_named : List ℕ → Option Prioritizer
prioritizer_named name =
    find (λ p. bytes_eq (name_of p) name)
    (FirstInFirstOut ∷ NewestFlowFileFirst ∷ OldestFlowFileFirst ∷ PriorityAttribute ∷ [])

abbrev pub is_prioritizer : List ℕ → Bool
is_prioritizer name = is_some (prioritizer_named name)

-- the texts of a list are names of prioritizers, each once
abbrev pub are_prioritizers : List Data → Bool
are_prioritizers items = list_all is_prioritizer (texts_in items) && are_distinct_texts (texts_in items)

-- the value is of the kind that the field has
abbrev pub has_shape : Shape → Data → Bool
has_shape shape.Objects d = is_list d && list_all is_object (list_items d)
has_shape shape.Id d = option_map_or is_id (as_str d) false
has_shape shape.Text d = is_text d
has_shape (shape.Number least most default) d = is_some (as_number d)
has_shape shape.Properties d = is_object d
has_shape shape.Names d = is_list_of_texts d
has_shape shape.SomeNames d = is_list_of_texts d && nat_le 1 (length (list_items d))
has_shape shape.Prioritizers d = is_list_of_texts d && are_prioritizers (list_items d)

-- a number in the text is a whole one, without sign, point and exponent, and within the field's range
abbrev pub is_in_range : Shape → Data → Bool
is_in_range (shape.Number least most default) d =
    option_map_or (λ n. within least n most) (option_and_then as_u64 (as_number d)) false
is_in_range shape.Objects d = true
is_in_range shape.Id d = true
is_in_range shape.Text d = true
is_in_range shape.Properties d = true
is_in_range shape.Names d = true
is_in_range shape.SomeNames d = true
is_in_range shape.Prioritizers d = true

abbrev pub conflict_name : Conflict → List ℕ
conflict_name Replace = codes "replace"
conflict_name Ignore = codes "ignore"
conflict_name Fail = codes "fail"

abbrev pub conflict_named : List ℕ → Option Conflict
conflict_named name = find (λ c. bytes_eq (conflict_name c) name) (Replace ∷ Ignore ∷ Fail ∷ [])

abbrev pub destination_name : Destination → List ℕ
destination_name Attribute = codes "flowfile-attribute"
destination_name Content = codes "flowfile-content"

abbrev pub destination_named : List ℕ → Option Destination
destination_named name = find (λ d. bytes_eq (destination_name d) name) (Attribute ∷ Content ∷ [])

abbrev pub replace_strategy_name : ReplaceStrategy → List ℕ
replace_strategy_name strategy.Regex = codes "Regex Replace"
replace_strategy_name strategy.Literal = codes "Literal Replace"

abbrev pub replace_strategy_named : List ℕ → Option ReplaceStrategy
replace_strategy_named name =
    find (λ s. bytes_eq (replace_strategy_name s) name) (strategy.Regex ∷ strategy.Literal ∷ [])

abbrev pub requirement_name : MatchRequirement → List ℕ
requirement_name requirement.Exactly = codes "content must match exactly"
requirement_name requirement.Contains = codes "content must contain match"

abbrev pub requirement_named : List ℕ → Option MatchRequirement
requirement_named name =
    find (λ r. bytes_eq (requirement_name r) name) (requirement.Exactly ∷ requirement.Contains ∷ [])

abbrev pub merge_strategy_name : MergeStrategy → List ℕ
merge_strategy_name BinPacking = codes "Bin-Packing Algorithm"
merge_strategy_name Defragment = codes "Defragment"

abbrev pub merge_strategy_named : List ℕ → Option MergeStrategy
merge_strategy_named name = find (λ s. bytes_eq (merge_strategy_name s) name) (BinPacking ∷ Defragment ∷ [])

-- the text is of the set that the property has
abbrev pub is_of_set : Form → List ℕ → Bool
is_of_set form.Conflict text = is_some (conflict_named text)
is_of_set form.Destination text = is_some (destination_named text)
is_of_set form.ReplaceStrategy text = is_some (replace_strategy_named text)
is_of_set form.Requirement text = is_some (requirement_named text)
is_of_set form.MergeStrategy text = is_some (merge_strategy_named text)
is_of_set form.WholePattern text = true
is_of_set (form.Number least most) text = true
is_of_set form.Expression text = true
is_of_set form.Names text = true
is_of_set form.Search text = true
is_of_set form.Text text = true

-- the number that 1 to 10 digits write
abbrev pub number_of_digits : List ℕ → Option ℕ
number_of_digits text =
    if within 1 (length text) 10 && list_all is_ascii_digit text then Some (digits_value 10 text) else None

-- 1 to 10 digits, and a number within the property's range
abbrev pub is_number_text : Form → List ℕ → Bool
is_number_text (form.Number least most) text = option_map_or (λ n. within least n most) (number_of_digits text) false
is_number_text form.WholePattern text = true
is_number_text form.Expression text = true
is_number_text form.Conflict text = true
is_number_text form.Destination text = true
is_number_text form.Names text = true
is_number_text form.ReplaceStrategy text = true
is_number_text form.Search text = true
is_number_text form.Text text = true
is_number_text form.Requirement text = true
is_number_text form.MergeStrategy text = true
