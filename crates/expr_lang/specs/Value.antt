-- What an expression is worth, and what a value is as text, as number and as truth value.
use Rattle.std.specs.Prelude.{ℕ, ◌^◌, ◌&&◌, nat_lt, nat_le, Bool, true, false, List, length, map, ℤ, pos, negsuc, Result, Ok, Err, if◌then◌else◌, bytes_eq, codes}
use Rattle.std.specs.Char.{to_ascii_lowercase}
use Rattle.std.specs.Fmt.{signed_decimal}
use Rattle.std.specs.Str.{all_ascii_digits}
use Rattle.std.specs.Str.Parse.{signed_digits_value, without_leading_sign}
use Rattle.expr_lang.specs.declared.error.EvalError.{EvalError}
use Rattle.expr_lang.specs.declared.error.EvalError.TheVariants.{NotANumber, NotABool, Overflow, TooLong}
use Rattle.expr_lang.specs.declared.val.TheConstants.{VALUE_MAX}

pub data Value : Type 0 where
  text : List ℕ → Value
  number : ℤ → Value
  truth : Bool → Value

-- a value, or what comes in its place
abbrev pub Answer : Type 0 → Type 0
Answer A = Result A EvalError

infixl 10 ◌>>=◌
abbrev pub ◌>>=◌ : {A B : Type 0} → Answer A → (A → Answer B) → Answer B
(Ok x) >>= f = f x
(Err e) >>= f = Err e

-- a number of 64 signed bits
abbrev pub fits : ℤ → Bool
fits (pos n) = nat_lt n (2 ^ 63)
fits (negsuc n) = nat_lt n (2 ^ 63)

-- the number, where it has 64 signed bits
abbrev pub fitting : ℤ → Answer Value
fitting z = if fits z then Ok (number z) else Err Overflow

-- the text, where it has at most 65,536 bytes
abbrev pub bounded : List ℕ → Answer Value
bounded s = if nat_le (length s) VALUE_MAX then Ok (text s) else Err TooLong

-- a number is written in decimal, with no zero too many
abbrev pub as_text : Value → List ℕ
as_text (text s) = s
as_text (number z) = signed_decimal z
as_text (truth true) = codes "true"
as_text (truth false) = codes "false"

-- a text is a number where it is an optional sign and digits, in 64 signed bits
abbrev pub as_number : Value → Answer ℤ
as_number (text s) =
    let digits = without_leading_sign s in
    let z = signed_digits_value 10 s in
    if nat_lt 0 (length digits) && all_ascii_digits digits && fits z then Ok z else Err NotANumber
as_number (number z) = Ok z
as_number (truth b) = Err NotANumber

-- a text is a truth value where it is one of the two words, in any case
abbrev pub truth_of : List ℕ → Answer Bool
truth_of word =
    if bytes_eq word (codes "true") then Ok true else
    if bytes_eq word (codes "false") then Ok false else Err NotABool

abbrev pub as_truth : Value → Answer Bool
as_truth (text s) = truth_of (map to_ascii_lowercase s)
as_truth (number z) = Err NotABool
as_truth (truth b) = Ok b
