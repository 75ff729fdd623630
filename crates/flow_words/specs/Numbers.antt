-- Which texts are numbers, and of which value.
use Rattle.std.specs.Prelude.{ℕ, ◌&&◌, nat_le, List, length, Bool, Option, Some, None, if◌then◌else◌}
use Rattle.std.specs.Char.{is_ascii_digit}
use Rattle.std.specs.List.{list_all}
use Rattle.std.specs.Str.Parse.{digits_value}
use Rattle.flow_words.specs.declared.number.TheConstants.{DIGITS_MAX}

-- ASCII digits alone, one to ten
abbrev pub is_short_numeral : List ℕ → Bool
is_short_numeral text = nat_le 1 (length text) && nat_le (length text) DIGITS_MAX && list_all is_ascii_digit text

abbrev pub number_if_within : ℕ → ℕ → ℕ → Option ℕ
number_if_within least most number = if nat_le least number && nat_le number most then Some number else None

abbrev pub number_between : ℕ → ℕ → List ℕ → Option ℕ
number_between least most text =
    if is_short_numeral text then number_if_within least most (digits_value 10 text) else None
