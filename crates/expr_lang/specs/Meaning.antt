-- What an expression is worth over attributes: the first error from the left, or the value.
use Rattle.std.specs.Prelude.{ℕ, List, [], ◌∷◌, ◌++◌, Option, Ok, unwrap_or}
use Rattle.expr_lang.specs.Functions.{given_alone, given_one, given_two}
use Rattle.expr_lang.specs.Tree.{Term, attribute, constant, alone, with_one, with_two, Part, byte, embedded, Tree, whole, joined}
use Rattle.expr_lang.specs.Value.{Value, Answer, ◌>>=◌, as_text, bounded}

-- the text of an attribute, by its name
abbrev pub Attributes : Type 0
Attributes = List ℕ → Option (List ℕ)

-- An attribute that is missing is the empty text. The value before a call comes first, then the arguments.
abbrev pub term_value : Attributes → Term → Answer Value
term_value find (attribute name) = bounded (unwrap_or (find name) [])
term_value find (constant v) = Ok v
term_value find (alone f t) = term_value find t >>= λ v. given_alone f v
term_value find (with_one f t x) = term_value find t >>= λ v. term_value find x >>= λ a. given_one f v a
term_value find (with_two f t x y) =
    term_value find t >>= λ v. term_value find x >>= λ a. term_value find y >>= λ b. given_two f v a b

-- the texts of all parts, joined
abbrev pub joined_text : Attributes → List Part → Answer (List ℕ)
joined_text find [] = Ok []
joined_text find (byte c ∷ parts) = joined_text find parts >>= λ s. Ok (c ∷ s)
joined_text find (embedded t ∷ parts) = term_value find t >>= λ v. joined_text find parts >>= λ s. Ok (as_text v ++ s)

abbrev pub tree_value : Attributes → Tree → Answer Value
tree_value find (whole t) = term_value find t
tree_value find (joined parts) = joined_text find parts >>= bounded
