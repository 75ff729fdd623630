-- What patterns find in a text.
use Rattle.std.specs.Prelude.{ℕ, Bool, List, is_some}
use Rattle.regex.specs.Patterns.{find_str}
use Rattle.regex.specs.Strings.{regex_pattern}
use Rattle.machine_model.specs.declared.kind.OwnPattern.{OwnPattern}

-- a property's pattern finds something in a text
abbrev pub finds : (text : List ℕ) → OwnPattern → Bool
finds text property = is_some (find_str (regex_pattern property.pattern.regex.value) text 0)
