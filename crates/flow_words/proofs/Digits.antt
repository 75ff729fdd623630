-- Texts of digits are read as their numbers.
use Rattle.std.proofs.Common.{◌≡◌, ℕ, ◌^◌, ◌<◌, ◌≤◌, true, List, length, Result, Ok, arith, rules, IsTrue}
use Rattle.std.specs.Char.{is_ascii_digit}
use Rattle.std.specs.List.{list_all}
use Rattle.std.specs.Str.Parse.{ParsesUnsigned, digits_value}
use Rattle.std.proofs.lemmas.Str.Parse.{IsNumeralModel, numerals_by_value, parse_gives, digits_value_short}

digits : IsNumeralModel (λ ds. list_all is_ascii_digit ds ≡ true) (digits_value 10)
digits = numerals_by_value _ (search rules)

pub parses : {E : Type 0} (bs : List ℕ) (r : Result ℕ E) → ParsesUnsigned 64 10 bs r → 1 ≤ length bs → length bs ≤ 10
    → IsTrue (list_all is_ascii_digit bs) → r ≡ Ok (digits_value 10 bs)
parses bs r read some few all =
    let short : digits_value 10 bs < 10 ^ 10 = digits_value_short digits bs 10 all few in
    parse_gives digits 64 bs r read all (omega arith) (omega (arith, short))
