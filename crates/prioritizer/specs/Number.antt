-- Which texts are numbers, and of which value.
use Rattle.std.specs.Prelude.{ℕ, ◌+◌, ◌-◌, ◌*◌, ◌^◌, ◌==◌, ◌&&◌, nat_lt, nat_le, Bool, List, [], ◌∷◌, length, Option, Some, None, ℤ, pos, neg_ℤ, if◌then◌else◌}
use Rattle.std.specs.Str.{all_ascii_digits}

-- one digit or more, and nothing else
abbrev pub is_numeral : List ℕ → Bool
is_numeral text = nat_lt 0 (length text) && all_ascii_digits text

-- each digit counts as often as ten to the number of digits behind it says; 48 is '0'
abbrev pub value_of : List ℕ → ℕ
value_of [] = 0
value_of (digit ∷ digits) = (digit - 48) * 10 ^ length digits + value_of digits

-- digits behind a '-', and digits behind a '+' or nothing: their number, if it has 64 signed bits
abbrev pub below_zero : List ℕ → Option ℤ
below_zero text = if is_numeral text && nat_le (value_of text) (2 ^ 63)
    then Some (neg_ℤ (pos (value_of text))) else None

abbrev pub from_zero : List ℕ → Option ℤ
from_zero text = if is_numeral text && nat_lt (value_of text) (2 ^ 63) then Some (pos (value_of text)) else None

-- an optional sign, '-' (45) or '+' (43), and digits
unfoldable pub number_of : List ℕ → Option ℤ
number_of [] = None
number_of (first ∷ rest) =
    if first == 45 then below_zero rest
    else if first == 43 then from_zero rest
    else from_zero (first ∷ rest)
