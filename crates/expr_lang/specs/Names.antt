-- The names of the functions.
use Rattle.std.specs.Prelude.{ℕ, List, [], ◌∷◌, Option, codes, find, bytes_eq}
use Rattle.expr_lang.specs.declared.function.Nullary.{Nullary}
use Rattle.expr_lang.specs.declared.function.Nullary.TheVariants.{IsEmpty, Length, ToUpper, ToLower, Not}
use Rattle.expr_lang.specs.declared.function.Unary.{Unary}
use Rattle.expr_lang.specs.declared.function.Unary.TheVariants.{Equals, StartsWith, EndsWith, Contains, Append, Prepend, SubstringBefore, SubstringAfter, GreaterThan, LessThan, Plus, Minus, And, Or}
use Rattle.expr_lang.specs.declared.function.Binary.{Binary}
use Rattle.expr_lang.specs.declared.function.Binary.TheVariants.{Replace}
use Rattle.expr_lang.specs.declared.function.Function.{Function}
use Rattle.expr_lang.specs.declared.function.Function.TheVariants.{Alone, WithOne, WithTwo}

abbrev pub nullary_name : Nullary → List ℕ
nullary_name IsEmpty = codes "isEmpty"
nullary_name Length = codes "length"
nullary_name ToUpper = codes "toUpper"
nullary_name ToLower = codes "toLower"
nullary_name Not = codes "not"

abbrev pub unary_name : Unary → List ℕ
unary_name Equals = codes "equals"
unary_name StartsWith = codes "startsWith"
unary_name EndsWith = codes "endsWith"
unary_name Contains = codes "contains"
unary_name Append = codes "append"
unary_name Prepend = codes "prepend"
unary_name SubstringBefore = codes "substringBefore"
unary_name SubstringAfter = codes "substringAfter"
unary_name GreaterThan = codes "gt"
unary_name LessThan = codes "lt"
unary_name Plus = codes "plus"
unary_name Minus = codes "minus"
unary_name And = codes "and"
unary_name Or = codes "or"

abbrev pub binary_name : Binary → List ℕ
binary_name Replace = codes "replace"

abbrev pub name_of : Function → List ℕ
name_of (Alone f) = nullary_name f
name_of (WithOne f) = unary_name f
name_of (WithTwo f) = binary_name f

abbrev pub functions : List Function
functions =
    Alone IsEmpty ∷ Alone Length ∷ Alone ToUpper ∷ Alone ToLower ∷ Alone Not
    ∷ WithOne Equals ∷ WithOne StartsWith ∷ WithOne EndsWith ∷ WithOne Contains
    ∷ WithOne Append ∷ WithOne Prepend ∷ WithOne SubstringBefore ∷ WithOne SubstringAfter
    ∷ WithOne GreaterThan ∷ WithOne LessThan ∷ WithOne Plus ∷ WithOne Minus ∷ WithOne And ∷ WithOne Or
    ∷ WithTwo Replace ∷ []

-- the function of this name
unfoldable pub function_named : List ℕ → Option Function
function_named name = find (λ f. bytes_eq (name_of f) name) functions
