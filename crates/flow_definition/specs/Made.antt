-- What becomes of a processor of the text: it is made, or why it isn't, and where.
use Rattle.std.specs.Prelude.{◌≡◌, ℕ, suc, ◌==◌, true, List, [], ◌∷◌, ◌++◌, All, Option, Some, None, option_map, Contains, if◌then◌else◌}
use Rattle.std.specs.Option.{option_or}
use Rattle.expr_lang.specs.Grammar.{IsText}
use Rattle.expr_lang.specs.Tree.{Tree}
use Rattle.serde_json.specs.Data.{Data}
use Rattle.machine_model.specs.declared.flow.Processor.{Processor}
use Rattle.flow_definition.specs.declared.expressions.MadeOwn.{MadeOwn}
use Rattle.flow_definition.specs.declared.expressions.MadeOwn.TheVariants as own
use Rattle.flow_definition.specs.declared.field.Field.TheVariants.{TypeName, Processors}
use Rattle.flow_definition.specs.declared.made.Made.{Made}
use Rattle.flow_definition.specs.declared.made.Made.TheVariants as made
use Rattle.flow_definition.specs.declared.made.MadeKind.{MadeKind}
use Rattle.flow_definition.specs.declared.made.MadeKind.TheVariants as kind
use Rattle.flow_definition.specs.declared.made.Refusal.{Refusal}
use Rattle.flow_definition.specs.declared.made.Refusal.TheVariants.{NoType, Unread, TooBig, NoExpression, NoOwnExpression, NoOwnPatterns}
use Rattle.flow_definition.specs.declared.processor_type.Form.TheVariants.{Expression}
use Rattle.flow_definition.specs.declared.processor_type.Property.{Property}
use Rattle.flow_definition.specs.declared.rule.Rule.{Rule}
use Rattle.flow_definition.specs.declared.rule.Rule.TheVariants.{UnknownType, BadPattern, BadExpression, PatternTooBig}
use Rattle.flow_definition.specs.Building.{IsPattern, pattern_text}
use Rattle.flow_definition.specs.Looks.{type_of, properties_in, property_text, own_in, own_texts_in, hold_expressions, hold_patterns}
use Rattle.flow_definition.specs.Numbers.{rule_number}
use Rattle.flow_definition.specs.OwnPatterns.{AreRefused, told_attempts, name_refused, rule_by, unread_in}
use Rattle.flow_definition.specs.Patterns.{IsUnread, Told, refuse}
use Rattle.flow_definition.specs.Reading.{AreOwnOf, IsKindOf, IsProcessorOf, is_whole_in}
use Rattle.flow_definition.specs.Rules.{Path, in_field, in_property}
use Rattle.flow_definition.specs.Types.{form_of, property_name}
use Rattle.flow_definition.specs.Walk.{in_list_item}

-- the text isn't in the grammar of expressions
abbrev pub IsNoExpression : List ℕ → Type 0
IsNoExpression text = (tree : Tree) → IsText text tree → ⊥

abbrev pub IsExpressionProperty : Data → Property → Type 0
IsExpressionProperty d property = Contains (properties_in d) property × (form_of property ≡ Expression)

-- the first of some own properties whose text is no expression has this name
pub record IsFirstUnread (texts : List (List ℕ × List ℕ)) (name : List ℕ) : Type 0 where
  pub before : List (List ℕ × List ℕ)
  pub text : List ℕ
  pub behind : List (List ℕ × List ℕ)
  pub place : texts ≡ before ++ (name, text) ∷ behind
  pub read : All (λ given. (tree : Tree) × IsText given.1 tree) before
  pub unread : IsNoExpression text

-- the cause of a refusal. The builder may call any pattern too big where its count of such refusals rose
abbrev pub IsCauseOfRefusal : (Risen : Type 0) → Data → Refusal → Type 0
IsCauseOfRefusal Risen d NoType = type_of d ≡ None
IsCauseOfRefusal Risen d (Unread property) = IsPattern d property × IsUnread (pattern_text property d)
IsCauseOfRefusal Risen d (TooBig property) = IsPattern d property × Risen
IsCauseOfRefusal Risen d (NoExpression property) = IsExpressionProperty d property
    × IsNoExpression (property_text property d)
IsCauseOfRefusal Risen d (NoOwnExpression name) =
    (hold_expressions (own_in d) ≡ true) × IsFirstUnread (own_texts_in d) name
IsCauseOfRefusal Risen d (NoOwnPatterns attempts) =
    (hold_patterns (own_in d) ≡ true) × AreRefused Risen (is_whole_in d) (own_texts_in d) attempts

abbrev pub AreOwnMade : List (List ℕ × List ℕ) → MadeOwn → Type 0
AreOwnMade texts (own.Read list) = AreOwnOf texts list
AreOwnMade texts (own.Unread name) = IsFirstUnread texts name

abbrev pub IsMade : (Risen : Type 0) → Data → Made → Type 0
IsMade Risen d (made.Processor processor) = IsProcessorOf d processor
IsMade Risen d (made.Refused refusal) = IsCauseOfRefusal Risen d refusal

abbrev pub IsMadeKind : (Risen : Type 0) → Data → MadeKind → Type 0
IsMadeKind Risen d (kind.Kind kind) = IsKindOf d kind
IsMadeKind Risen d (kind.Refused refusal) = IsCauseOfRefusal Risen d refusal

abbrev pub AreMade : (Risen : Type 0) → List Data → List Made → Type 0
AreMade Risen [] [] = Unit {0}
AreMade Risen (d ∷ ds) (made ∷ more) = IsMade Risen d made × AreMade Risen ds more
AreMade Risen [] (made ∷ more) = ⊥
AreMade Risen (d ∷ ds) [] = ⊥

abbrev pub rule_of : Refusal → Rule
rule_of NoType = UnknownType
rule_of (Unread property) = BadPattern
rule_of (TooBig property) = PatternTooBig
rule_of (NoExpression property) = BadExpression
rule_of (NoOwnExpression name) = BadExpression
rule_of (NoOwnPatterns attempts) = rule_by (unread_in attempts)

abbrev pub refused_part : Refusal → Path
refused_part NoType = in_field TypeName
refused_part (Unread property) = in_property (property_name property)
refused_part (TooBig property) = in_property (property_name property)
refused_part (NoExpression property) = in_property (property_name property)
refused_part (NoOwnExpression name) = in_property name
refused_part (NoOwnPatterns attempts) = in_property (name_refused attempts)

-- where in the processor a refusal by this rule is
abbrev pub refused_by : Rule → Made → Option Path
refused_by rule (made.Processor processor) = None
refused_by rule (made.Refused refusal) =
    if rule_number (rule_of refusal) == rule_number rule then Some (refused_part refusal) else None

-- the first of the made processors, from this place on, that was refused by a rule
abbrev pub first_refused : Rule → ℕ → List Made → Option Path
first_refused rule place [] = None
first_refused rule place (made ∷ more) =
    option_or (option_map (in_list_item Processors place) (refused_by rule made)) (first_refused rule (suc place) more)

abbrev pub IsProcessorMade : Made → Type 0
IsProcessorMade (made.Processor processor) = Unit {0}
IsProcessorMade (made.Refused refusal) = ⊥

abbrev pub AreAllMade : List Made → Type 0
AreAllMade [] = Unit {0}
AreAllMade (made ∷ more) = IsProcessorMade made × AreAllMade more

abbrev pub processor_in : Made → Option Processor
processor_in (made.Processor processor) = Some processor
processor_in (made.Refused refusal) = None

-- ---- what a builder tells behind what it told before: it refused one more text for each pattern that is too big

abbrev pub told_refusal : Told → Data → Refusal → Told
told_refusal before d (TooBig property) = refuse before (pattern_text property d)
told_refusal before d NoType = before
told_refusal before d (Unread property) = before
told_refusal before d (NoExpression property) = before
told_refusal before d (NoOwnExpression name) = before
told_refusal before d (NoOwnPatterns attempts) = told_attempts (is_whole_in d) before (own_texts_in d) attempts

abbrev pub told_kind : Told → Data → MadeKind → Told
told_kind before d (kind.Kind kind) = before
told_kind before d (kind.Refused refusal) = told_refusal before d refusal

abbrev pub told_made : Told → Data → Made → Told
told_made before d (made.Processor processor) = before
told_made before d (made.Refused refusal) = told_refusal before d refusal

abbrev pub told_all : Told → List Data → List Made → Told
told_all before [] made = before
told_all before (d ∷ ds) [] = before
told_all before (d ∷ ds) (made ∷ more) = told_all (told_made before d made) ds more
