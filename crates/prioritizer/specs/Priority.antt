-- How values of the attribute `priority` compare: the lowest goes first.
use Rattle.std.specs.Prelude.{ℕ, ℤ, List, Option, Some, None}
use Rattle.std.specs.declared.cmp.Ordering.{Ordering}
use Rattle.std.specs.declared.cmp.Ordering.TheVariants.{Less, Equal, Greater}
use Rattle.std.specs.Ordering.{nat_cmp, int_cmp}
use Rattle.std.specs.Cmp.Lexicographic.{slice_cmp}
use Rattle.prioritizer.specs.Number.{number_of}

-- what a file may have there: a number, another text, or nothing
pub data Worth : Type 0 where
  Number : (number : ℤ) → Worth
  Text : (bytes : List ℕ) → Worth
  Missing : Worth

abbrev pub worth_by : Option ℤ → List ℕ → Worth
worth_by (Some number) text = Number number
worth_by None text = Text text

abbrev pub worth_of : Option (List ℕ) → Worth
worth_of (Some text) = worth_by (number_of text) text
worth_of None = Missing

-- numbers by value, then other texts by their bytes, then nothing
abbrev pub worth_cmp : Worth → Worth → Ordering
worth_cmp (Number m) (Number n) = int_cmp m n
worth_cmp (Number m) (Text y) = Less
worth_cmp (Number m) Missing = Less
worth_cmp (Text x) (Number n) = Greater
worth_cmp (Text x) (Text y) = slice_cmp nat_cmp x y
worth_cmp (Text x) Missing = Less
worth_cmp Missing (Number n) = Greater
worth_cmp Missing (Text y) = Greater
worth_cmp Missing Missing = Equal

abbrev pub priority_cmp : Option (List ℕ) → Option (List ℕ) → Ordering
priority_cmp a b = worth_cmp (worth_of a) (worth_of b)

abbrev pub text_cmp : List ℕ → List ℕ → Ordering
text_cmp x y = priority_cmp (Some x) (Some y)
