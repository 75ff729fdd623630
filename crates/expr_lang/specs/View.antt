-- What a parsed expression says, as a tree.
use Rattle.std.specs.Prelude.{◌<◌, length, Bool, true, false, List, map, [], ◌∷◌, string_bytes}
use Rattle.std.specs.List.{flat_map, fold}
use Rattle.expr_lang.specs.declared.syntax.Call.TheOpen as layer
use Rattle.expr_lang.specs.declared.syntax.Call.TheOpen.{Embedded-F, Operand-F, Call-F}
use Rattle.expr_lang.specs.declared.syntax.Call.TheFolds.{fold-Embedded, fold-Operand, fold-Call}
use Rattle.expr_lang.specs.declared.syntax.Embedded.{Embedded}
use Rattle.expr_lang.specs.declared.syntax.Operand.{Operand}
use Rattle.expr_lang.specs.declared.syntax.Call.{Call}
use Rattle.expr_lang.specs.declared.syntax.Piece.{Piece}
use Rattle.expr_lang.specs.declared.syntax.Piece.TheVariants.{Plain, Computed}
use Rattle.expr_lang.specs.declared.syntax.Expr.{Expr}
use Rattle.expr_lang.specs.declared.syntax.Expr.TheVariants.{Whole, Joined}
use Rattle.expr_lang.specs.Tree.{Term, attribute, constant, alone, with_one, with_two, Part, byte, embedded, Tree, whole, joined}
use Rattle.expr_lang.specs.Value.{text, number, truth}

-- one layer of an expression, with what is said within it in the place of its parts: a call says what
-- becomes of the value before it
abbrev pub operand_layer : Operand-F (Term → Term) Term Term → Term
operand_layer (layer.Attribute name) = attribute (string_bytes name)
operand_layer (layer.Text s) = constant (text (string_bytes s))
operand_layer (layer.Number n) = constant (number n)
operand_layer (layer.Truth b) = constant (truth b)
operand_layer (layer.Nested e) = e.value

abbrev pub call_layer : Call-F (Term → Term) Term Term → Term → Term
call_layer (layer.Alone f) t = alone f t
call_layer (layer.WithOne f x) t = with_one f t x
call_layer (layer.WithTwo f x y) t = with_two f t x y

abbrev pub embedded_layer : Embedded-F (Term → Term) Term Term → Term
embedded_layer e = fold (λ t call. call t) e.subject e.calls.items

abbrev pub term_of : Embedded → Term
term_of = fold-Embedded (Term → Term) Term Term call_layer operand_layer embedded_layer

abbrev pub operand_term : Operand → Term
operand_term = fold-Operand (Term → Term) Term Term call_layer operand_layer embedded_layer

abbrev pub call_term : Call → Term → Term
call_term = fold-Call (Term → Term) Term Term call_layer operand_layer embedded_layer

abbrev pub piece_parts : Piece → List Part
piece_parts (Plain s) = map byte (string_bytes s)
piece_parts (Computed e) = embedded (term_of e) ∷ []

-- a piece says something
abbrev pub HasParts : Piece → Type 0
HasParts piece = 0 < length (piece_parts piece)

abbrev pub is_one_computed : List Piece → Bool
is_one_computed (Computed e ∷ []) = true
is_one_computed _ = false

-- a text that is one embedded expression is told apart, the other pieces are joined
abbrev pub tree_of : Expr → Tree
tree_of (Whole e) = whole (term_of e)
tree_of (Joined pieces) = joined (flat_map piece_parts pieces.items)
