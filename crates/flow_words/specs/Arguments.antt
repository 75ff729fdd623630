-- Which arguments the words behind a command are.
use Rattle.std.specs.Prelude.{ℕ, nat_eq, ◌==◌, ◌&&◌, Bool, not, List, [], ◌∷◌, drop, map, Option, Some, None, String, string_bytes, option_map, if◌then◌else◌, codes}
use Rattle.std.specs.List.{after_first, before_first, list_any, starts_with}
use Rattle.std.specs.declared.alloc.Global.{Global}

abbrev pub Text : Type 0
Text = List ℕ

-- an option with its value, or a word that is no option
pub data Argument : Type 0 where
  Named : (name value : Text) → Argument
  Positional : (word : Text) → Argument

abbrev pub is_option : Text → Bool
is_option word = starts_with nat_eq word (codes "--")

-- what stands behind the two hyphens
abbrev pub without_hyphens : Text → Text
without_hyphens word = drop 2 word

-- 61 is '='
abbrev pub is_equals : ℕ → Bool
is_equals byte = byte == 61

-- `--NAME`, whose value is the next word
abbrev pub takes_next : Text → Bool
takes_next word = is_option word && not (list_any is_equals (without_hyphens word))

-- `--NAME=VALUE`
abbrev pub with_value : Text → Argument
with_value text = Named (before_first is_equals text) (after_first is_equals text)

-- `--NAME=VALUE`, or a word that is no option
abbrev pub whole_argument : Text → Argument
whole_argument word = if is_option word then with_value (without_hyphens word) else Positional word

abbrev pub with_argument : Argument → Option (List Argument) → Option (List Argument)
with_argument argument = option_map (λ rest. argument ∷ rest)

-- nothing where the last word is an option without its value
abbrev pub arguments_of : List Text → Option (List Argument)
arguments_of [] = Some []
arguments_of (word ∷ []) = if takes_next word then None else Some (whole_argument word ∷ [])
arguments_of (word ∷ next ∷ rest) =
    if takes_next word then with_argument (Named (without_hyphens word) next) (arguments_of rest)
    else with_argument (whole_argument word) (arguments_of (next ∷ rest))

abbrev pub word_texts : List (String Global) → List Text
word_texts = map (λ word. string_bytes word)
