-- What each function gives of the value before it and of its arguments.
use Rattle.std.specs.Prelude.{ℕ, zero, suc, ◌+◌, ◌-◌, ◌&&◌, ◌||◌, nat_eq, Bool, not, List, [], ◌∷◌, ◌++◌, length, take, drop, map, Option, Some, None, is_some, ℤ, pos, ◌+ℤ◌, ◌-ℤ◌, int_lt, Ok, if◌then◌else◌, bytes_eq}
use Rattle.std.specs.Char.{to_ascii_lowercase, to_ascii_uppercase}
use Rattle.std.specs.List.{list_all, starts_with, ends_with}
use Rattle.std.specs.Option.{option_map, option_map_or}
use Rattle.std.specs.Str.{chars}
use Rattle.expr_lang.specs.declared.function.Nullary.{Nullary}
use Rattle.expr_lang.specs.declared.function.Nullary.TheVariants.{IsEmpty, Length, ToUpper, ToLower, Not}
use Rattle.expr_lang.specs.declared.function.Unary.{Unary}
use Rattle.expr_lang.specs.declared.function.Unary.TheVariants.{Equals, StartsWith, EndsWith, Contains, Append, Prepend, SubstringBefore, SubstringAfter, GreaterThan, LessThan, Plus, Minus, And, Or}
use Rattle.expr_lang.specs.declared.function.Binary.{Binary}
use Rattle.expr_lang.specs.declared.function.Binary.TheVariants.{Replace}
use Rattle.expr_lang.specs.Bytes.{is_space}
use Rattle.expr_lang.specs.Value.{Value, text, number, truth, Answer, ◌>>=◌, as_text, as_number, as_truth, bounded, fitting}

-- the first place where x stands in s, which is 0 for an empty x
abbrev pub first_place : List ℕ → List ℕ → Option ℕ
first_place x [] = if starts_with nat_eq [] x then Some 0 else None
first_place x (c ∷ s) = if starts_with nat_eq (c ∷ s) x then Some 0 else option_map (λ n. n + 1) (first_place x s)

-- the part before the first place of x, or the whole
abbrev pub before : List ℕ → List ℕ → List ℕ
before x s = option_map_or (λ n. take n s) (first_place x s) s

-- the part behind the first place of x, or the whole
abbrev pub behind : List ℕ → List ℕ → List ℕ
behind x s = option_map_or (λ n. drop (n + length x) s) (first_place x s) s

-- s with y in the place of every x from the left; the first bytes, so many, are passed over as part of an x
abbrev pub replaced : List ℕ → List ℕ → ℕ → List ℕ → List ℕ
replaced x y passed [] = []
replaced x y (suc passed) (c ∷ s) = replaced x y passed s
replaced x y zero (c ∷ s) =
    if starts_with nat_eq (c ∷ s) x then y ++ replaced x y (length x - 1) s else c ∷ replaced x y zero s

-- nothing is replaced where x is empty
abbrev pub with_replaced : List ℕ → List ℕ → List ℕ → List ℕ
with_replaced [] y s = s
with_replaced (c ∷ x) y s = replaced (c ∷ x) y 0 s

-- the truth values of two values, joined
abbrev pub both_truths : (Bool → Bool → Bool) → Value → Value → Answer Value
both_truths f v x = as_truth v >>= λ a. as_truth x >>= λ b. Ok (truth (f a b))

abbrev pub both_numbers : (ℤ → ℤ → Answer Value) → Value → Value → Answer Value
both_numbers f v x = as_number v >>= λ a. as_number x >>= λ b. f a b

abbrev pub given_alone : Nullary → Value → Answer Value
given_alone IsEmpty v = Ok (truth (list_all is_space (as_text v)))
given_alone Length v = Ok (number (pos (length (chars (as_text v)))))
given_alone ToUpper v = Ok (text (map to_ascii_uppercase (as_text v)))
given_alone ToLower v = Ok (text (map to_ascii_lowercase (as_text v)))
given_alone Not v = as_truth v >>= λ a. Ok (truth (not a))

abbrev pub given_one : Unary → Value → Value → Answer Value
given_one Equals v x = Ok (truth (bytes_eq (as_text v) (as_text x)))
given_one StartsWith v x = Ok (truth (starts_with nat_eq (as_text v) (as_text x)))
given_one EndsWith v x = Ok (truth (ends_with nat_eq (as_text v) (as_text x)))
given_one Contains v x = Ok (truth (is_some (first_place (as_text x) (as_text v))))
given_one Append v x = bounded (as_text v ++ as_text x)
given_one Prepend v x = bounded (as_text x ++ as_text v)
given_one SubstringBefore v x = Ok (text (before (as_text x) (as_text v)))
given_one SubstringAfter v x = Ok (text (behind (as_text x) (as_text v)))
given_one GreaterThan v x = both_numbers (λ a b. Ok (truth (int_lt b a))) v x
given_one LessThan v x = both_numbers (λ a b. Ok (truth (int_lt a b))) v x
given_one Plus v x = both_numbers (λ a b. fitting (a +ℤ b)) v x
given_one Minus v x = both_numbers (λ a b. fitting (a -ℤ b)) v x
given_one And v x = both_truths (λ a b. a && b) v x
given_one Or v x = both_truths (λ a b. a || b) v x

abbrev pub given_two : Binary → Value → Value → Value → Answer Value
given_two Replace v x y = bounded (with_replaced (as_text x) (as_text y) (as_text v))
