-- The rules' numbers.
use Rattle.std.specs.Prelude.{ℕ}
use Rattle.flow_definition.specs.declared.rule.Rule.{Rule}
use Rattle.flow_definition.specs.declared.rule.Rule.TheVariants.{NotJson, MissingField, UnknownType, DoubleId, UnknownEnd, RelationshipUnconnected, BadProperty, BadPattern, BadExpression, TooMany, UnknownField, BadNumber, PatternTooBig}

abbrev pub rule_number : Rule → ℕ
rule_number NotJson = 1
rule_number MissingField = 2
rule_number UnknownType = 3
rule_number DoubleId = 4
rule_number UnknownEnd = 5
rule_number RelationshipUnconnected = 6
rule_number BadProperty = 7
rule_number BadPattern = 8
rule_number BadExpression = 9
rule_number TooMany = 10
rule_number UnknownField = 11
rule_number BadNumber = 12
rule_number PatternTooBig = 14
