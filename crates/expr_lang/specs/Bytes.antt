-- Kinds of bytes. A byte of a character that isn't ASCII is of none of them.
use Rattle.std.specs.Prelude.{ℕ, ◌==◌, ◌&&◌, ◌||◌, nat_le, Bool, Option, Some, None, if◌then◌else◌}

-- a space, a tab, a line feed or a carriage return
abbrev pub is_space : ℕ → Bool
is_space c = (c == 32) || (c == 9) || (c == 10) || (c == 13)

abbrev pub is_letter : ℕ → Bool
is_letter c = (nat_le 65 c && nat_le c 90) || (nat_le 97 c && nat_le c 122)

abbrev pub is_digit : ℕ → Bool
is_digit c = nat_le 48 c && nat_le c 57

-- a letter or an underscore
abbrev pub starts_name : ℕ → Bool
starts_name c = is_letter c || (c == 95)

-- a letter, a digit, an underscore, a dot or a dash
abbrev pub is_name_byte : ℕ → Bool
is_name_byte c = starts_name c || is_digit c || (c == 46) || (c == 45)

-- what a byte behind a backslash stands for: \ ' " themselves, n, r and t a line feed, a carriage return and a tab
abbrev pub escaped : ℕ → Option ℕ
escaped c =
    if (c == 92) || (c == 39) || (c == 34) then Some c else
    if c == 110 then Some 10 else
    if c == 114 then Some 13 else
    if c == 116 then Some 9 else None
