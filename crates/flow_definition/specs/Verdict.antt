-- Which flow a text stands for, or which rule it breaks first, and where.
use Rattle.std.specs.Prelude.{◌≡◌, ℕ, List, [], length, Option, Some, None, option_map, MatchOption, MatchBool, nat_lt, option_and_then, if◌then◌else◌, Result, Ok, Err}
use Rattle.std.specs.Option.{option_or}
use Rattle.std.specs.Str.{is_utf8}
use Rattle.serde_json.specs.Data.{Data}
use Rattle.serde_json.specs.Read.{read}
use Rattle.machine_model.specs.declared.flow.Flow.{Flow}
use Rattle.flow_definition.specs.declared.error.FlowError.{FlowError}
use Rattle.flow_definition.specs.declared.error.FlowError.TheVariants as error
use Rattle.flow_definition.specs.declared.field.Field.TheVariants.{Processors}
use Rattle.flow_definition.specs.declared.limits.TheConstants.{TEXT_MAX}
use Rattle.flow_definition.specs.declared.made.Made.{Made}
use Rattle.flow_definition.specs.declared.rule.Rule.{Rule}
use Rattle.flow_definition.specs.declared.rule.Rule.TheVariants.{NotJson, UnknownType, BadPattern, BadExpression, TooMany, PatternTooBig}
use Rattle.flow_definition.specs.Looks.{list_items_at, is_object}
use Rattle.flow_definition.specs.Made.{AreMade, first_refused, told_all}
use Rattle.flow_definition.specs.Patterns.{HasRisen, Told}
use Rattle.flow_definition.specs.Pointers.{pointer_of}
use Rattle.flow_definition.specs.Reading.{IsFlowOf}
use Rattle.flow_definition.specs.Rules.{Path}
use Rattle.flow_definition.specs.Walk.{first_broken, first_rules, last_rules}

-- the object that a text is
abbrev pub object_only : Data → Option Data
object_only d = if is_object d then Some d else None

abbrev pub object_in : List ℕ → Option Data
object_in bytes = if is_utf8 bytes then option_and_then object_only (read bytes) else None

abbrev pub refused : Rule → List Made → Option (Rule × Path)
refused rule made = option_map (λ path. (rule, path)) (first_refused rule 0 made)

-- behind the first rules: patterns and expressions, then the last rules, then patterns that are too big. A processor
-- without a type can't stand behind the first rules
abbrev pub first_behind : Data → List Made → Option (Rule × Path)
first_behind top made =
    option_or (refused UnknownType made) (option_or (refused BadPattern made) (option_or (refused BadExpression made)
    (option_or (first_broken last_rules top) (refused PatternTooBig made))))

-- the error names the rule and its place; or memory ran out
abbrev pub IsError : Rule × Path → FlowError → Type 0
IsError broken error.Memory = Unit {0}
IsError broken (error.Rule rule place) = (rule ≡ broken.0) × (place ≡ pointer_of broken.1)

abbrev pub IsMemory : FlowError → Type 0
IsMemory error.Memory = Unit {0}
IsMemory (error.Rule rule place) = ⊥

abbrev pub Refuses : Rule × Path → Result Flow FlowError → Type 0
Refuses broken (Err e) = IsError broken e
Refuses broken (Ok flow) = ⊥

-- the flow, where no rule is broken
abbrev pub Accepts : List ℕ → Data → Result Flow FlowError → Type 0
Accepts bytes top (Err e) = IsMemory e
Accepts bytes top (Ok flow) = IsFlowOf bytes top flow

-- what becomes of the processors settles the answer, unless memory runs out before
abbrev pub IsSettled : (Risen : Type 0) → List ℕ → Data → Result Flow FlowError → Type 0
IsSettled Risen bytes top answer =
    (made : List Made) × AreMade Risen (list_items_at Processors top) made
    × MatchOption (first_behind top made) (Accepts bytes top answer) (λ broken. Refuses broken answer)

abbrev pub IsAnswerBehind : (Risen : Type 0) → List ℕ → Data → Result Flow FlowError → Type 0
IsAnswerBehind Risen bytes top (Ok flow) = IsSettled Risen bytes top (Ok flow)
IsAnswerBehind Risen bytes top (Err (error.Rule rule place)) = IsSettled Risen bytes top (Err (error.Rule rule place))
IsAnswerBehind Risen bytes top (Err error.Memory) = Unit {0}

abbrev pub IsAnswerOf : (Risen : Type 0) → List ℕ → Data → Result Flow FlowError → Type 0
IsAnswerOf Risen bytes top answer =
    MatchOption (first_broken first_rules top) (IsAnswerBehind Risen bytes top answer) (λ broken. Refuses broken answer)

-- the answer to a text. Memory may run out before the text is read
abbrev pub IsAnswerTo : (Risen : Type 0) → List ℕ → Option Data → Result Flow FlowError → Type 0
IsAnswerTo Risen bytes None answer = Refuses (NotJson, []) answer
IsAnswerTo Risen bytes (Some top) (Ok flow) = IsAnswerOf Risen bytes top (Ok flow)
IsAnswerTo Risen bytes (Some top) (Err (error.Rule rule place)) =
    IsAnswerOf Risen bytes top (Err (error.Rule rule place))
IsAnswerTo Risen bytes (Some top) (Err error.Memory) = Unit {0}

abbrev pub IsAnswer : (Risen : Type 0) → List ℕ → Result Flow FlowError → Type 0
IsAnswer Risen bytes answer =
    MatchBool (nat_lt TEXT_MAX (length bytes)) (Refuses (TooMany, []) answer)
    (IsAnswerTo Risen bytes (object_in bytes) answer)

-- a pattern is too big
abbrev pub IsPatternTooBig : Result Flow FlowError → Type 0
IsPatternTooBig (Err (error.Rule rule place)) = rule ≡ PatternTooBig
IsPatternTooBig (Err error.Memory) = ⊥
IsPatternTooBig (Ok flow) = ⊥

-- ---- what the builder tells

-- the rule that a text breaks before any pattern is built, and where
abbrev pub broken_in : Option Data → Option (Rule × Path)
broken_in None = Some (NotJson, [])
broken_in (Some top) = first_broken first_rules top

abbrev pub broken_before : List ℕ → Option (Rule × Path)
broken_before bytes = if nat_lt TEXT_MAX (length bytes) then Some (TooMany, []) else broken_in (object_in bytes)

-- behind the first rules a text breaks this one first, and it stands here. Behind the call the builder tells just the
-- texts of the patterns that are too big as refused for their size, in turn
pub record IsFirstBehind (before now : Told) (top : Data) (rule : Rule) (place : List ℕ) : Type 0 where
  pub made : List Made
  pub each : AreMade (HasRisen before.count now.count) (list_items_at Processors top) made
  pub told : now ≡ told_all before (list_items_at Processors top) made
  pub path : Path
  pub first : first_behind top made ≡ Some (rule, path)
  pub stands : place ≡ pointer_of path

-- where a text is accepted, the builder refused none for its size
abbrev pub IsToldIn : (before now : Told) → Data → Result Flow FlowError → Type 0
IsToldIn before now top (Ok flow) = now ≡ before
IsToldIn before now top (Err (error.Rule rule place)) =
    first_broken first_rules top ≡ None → IsFirstBehind before now top rule place
IsToldIn before now top (Err error.Memory) = Unit {0}

abbrev pub IsTold : (before now : Told) → List ℕ → Result Flow FlowError → Type 0
IsTold before now bytes answer =
    MatchBool (nat_lt TEXT_MAX (length bytes)) (Unit {0})
    ((top : Data) → object_in bytes ≡ Some top → IsToldIn before now top answer)
