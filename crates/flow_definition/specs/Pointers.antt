-- How a path is written: as a JSON pointer (RFC 6901), and the whole text as a slash.
use Rattle.std.specs.Prelude.{ℕ, ◌==◌, List, [], ◌∷◌, ◌++◌, codes, decimal, encode_utf8, chars, if◌then◌else◌}
use Rattle.std.specs.List.{flat_map}
use Rattle.flow_definition.specs.Rules.{Path, Step, member, item}

-- a character of a name: `~` stands as `~0`, and `/` as `~1`
abbrev pub escaped_char : ℕ → List ℕ
escaped_char c = if c == 126 then codes "~0" else if c == 47 then codes "~1" else encode_utf8 c

abbrev pub escaped_name : List ℕ → List ℕ
escaped_name name = flat_map escaped_char (chars name)

abbrev pub step_text : Step → List ℕ
step_text (member name) = 47 ∷ escaped_name name
step_text (item place) = 47 ∷ decimal place

abbrev pub steps_text : Path → List ℕ
steps_text [] = []
steps_text (step ∷ steps) = step_text step ++ steps_text steps

abbrev pub pointer_of : Path → List ℕ
pointer_of [] = codes "/"
pointer_of (step ∷ steps) = steps_text (step ∷ steps)
