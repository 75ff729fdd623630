-- What is kept of a text's processors once they are judged: the refused ones with what is told of each, and the
-- processors, as long as the text may be accepted.
use Rattle.std.specs.Prelude.{◌≡◌, ℕ, suc, ◌==◌, Bool, true, false, ◌&&◌, List, [], ◌∷◌, ◌++◌, Option, Some, None, option_map, if◌then◌else◌}
use Rattle.std.specs.List.{filter_map, list_all}
use Rattle.std.specs.Option.{option_or}
use Rattle.serde_json.specs.Data.{Data}
use Rattle.machine_model.specs.declared.flow.Processor.{Processor}
use Rattle.flow_definition.specs.declared.field.Field.TheVariants.{TypeName, Processors}
use Rattle.flow_definition.specs.declared.made.JudgedProcessors.{JudgedProcessors}
use Rattle.flow_definition.specs.declared.made.Kept.{Kept}
use Rattle.flow_definition.specs.declared.made.Kept.TheVariants as kept
use Rattle.flow_definition.specs.declared.made.Made.{Made}
use Rattle.flow_definition.specs.declared.made.Made.TheVariants as made
use Rattle.flow_definition.specs.declared.made.Refusal.{Refusal}
use Rattle.flow_definition.specs.declared.made.Refusal.TheVariants.{NoType, Unread, TooBig, NoExpression, NoOwnExpression, NoOwnPatterns}
use Rattle.flow_definition.specs.declared.made.RefusedProcessor.{RefusedProcessor}
use Rattle.flow_definition.specs.declared.rule.Rule.{Rule}
use Rattle.flow_definition.specs.declared.rule.Rule.TheVariants.{UnknownType, BadPattern, BadExpression, PatternTooBig}
use Rattle.flow_definition.specs.Made.{AreMade, IsMade, processor_in, rule_of, told_all, told_made}
use Rattle.flow_definition.specs.Numbers.{rule_number}
use Rattle.flow_definition.specs.OwnPatterns.{name_refused}
use Rattle.flow_definition.specs.Patterns.{HasRisen, Told}
use Rattle.flow_definition.specs.Rules.{Path, in_field, in_property}
use Rattle.flow_definition.specs.Types.{property_name}
use Rattle.flow_definition.specs.Walk.{in_list_item}

-- the name of the property at which a processor is refused, unless it is the type
abbrev pub refused_property : Refusal → Option (List ℕ)
refused_property NoType = None
refused_property (Unread property) = Some (property_name property)
refused_property (TooBig property) = Some (property_name property)
refused_property (NoExpression property) = Some (property_name property)
refused_property (NoOwnExpression name) = Some name
refused_property (NoOwnPatterns attempts) = Some (name_refused attempts)

abbrev pub part_at : (property : Option (List ℕ)) → Path
part_at None = in_field TypeName
part_at (Some name) = in_property name

abbrev pub refused_as : (place : ℕ) → Refusal → RefusedProcessor
refused_as place refusal =
    record { place = place; rule = rule_of refusal; property = refused_property refusal }

abbrev pub IsRefusedAs : (place : ℕ) → Refusal → RefusedProcessor → Type 0
IsRefusedAs place refusal refused = refused ≡ refused_as place refusal

-- those of the processors, from this place on, that are refused
abbrev pub refused_processors : (place : ℕ) → List Made → List RefusedProcessor
refused_processors place [] = []
refused_processors place (made.Processor processor ∷ more) = refused_processors (suc place) more
refused_processors place (made.Refused refusal ∷ more) =
    refused_as place refusal ∷ refused_processors (suc place) more

abbrev pub is_processor_made : Made → Bool
is_processor_made (made.Processor processor) = true
is_processor_made (made.Refused refusal) = false

-- all processors, where each is made and the text breaks no other rule; else none
abbrev pub processors_kept : (accepted : Bool) → List Made → List Processor
processors_kept accepted made =
    if accepted && list_all is_processor_made made then filter_map processor_in made else []

-- what is kept of one processor
abbrev pub kept_if_made : (accepted : Bool) → (place : ℕ) → Made → Kept
kept_if_made accepted place (made.Processor processor) = if accepted then kept.Processor processor else kept.Nothing
kept_if_made accepted place (made.Refused refusal) = kept.Refused (refused_as place refusal)

-- what becomes of one processor, and what the builder tells behind that; and what of it is kept
pub record IsJudged (before now : Told) (accepted : Bool) (place : ℕ) (d : Data) (kept : Kept) : Type 0 where
  pub made : Made
  pub is_made : IsMade (HasRisen before.count now.count) d made
  pub told : now ≡ told_made before d made
  pub is_kept : kept ≡ kept_if_made accepted place made

-- the refused ones and the processors, with what is kept of one more
abbrev pub refused_with : List RefusedProcessor → Kept → List RefusedProcessor
refused_with list (kept.Processor processor) = list
refused_with list (kept.Refused refused) = list ++ refused ∷ []
refused_with list kept.Nothing = list

abbrev pub processors_with : List Processor → Kept → List Processor
processors_with list (kept.Processor processor) = list ++ processor ∷ []
processors_with list (kept.Refused refused) = []
processors_with list kept.Nothing = list

abbrev pub is_refusal : Kept → Bool
is_refusal (kept.Processor processor) = false
is_refusal (kept.Refused refused) = true
is_refusal kept.Nothing = false

-- what becomes of each processor, and what the builder tells behind that; and what of it is kept
pub record AreJudged (before now : Told) (accepted : Bool) (ds : List Data) (judged : JudgedProcessors) : Type 0 where
  pub made : List Made
  pub each : AreMade (HasRisen before.count now.count) ds made
  pub told : now ≡ told_all before ds made
  pub refused : judged.refused.items ≡ refused_processors 0 made
  pub processors : judged.processors.items ≡ processors_kept accepted made

-- the first of the refused processors that breaks a rule
abbrev pub first_refused_in : Rule → List RefusedProcessor → Option Path
first_refused_in rule [] = None
first_refused_in rule (refused ∷ more) =
    if rule_number refused.rule == rule_number rule
    then Some (in_list_item Processors refused.place (part_at refused.property)) else first_refused_in rule more

abbrev pub refused_in : Rule → List RefusedProcessor → Option (Rule × Path)
refused_in rule list = option_map (λ path. (rule, path)) (first_refused_in rule list)

-- the first rule that is broken behind the first rules, as the last ones and the refused processors tell it
abbrev pub first_told : (last : Option (Rule × Path)) → List RefusedProcessor → Option (Rule × Path)
first_told last list =
    option_or (refused_in UnknownType list) (option_or (refused_in BadPattern list) (option_or (refused_in BadExpression list)
    (option_or last (refused_in PatternTooBig list))))
