-- What a text says, apart from how it lies in memory.
use Rattle.std.specs.Prelude.{ℕ, List, [], ◌∷◌}
use Rattle.expr_lang.specs.declared.function.Nullary.{Nullary}
use Rattle.expr_lang.specs.declared.function.Unary.{Unary}
use Rattle.expr_lang.specs.declared.function.Binary.{Binary}
use Rattle.expr_lang.specs.Value.{Value}

-- an expression: an attribute, a constant, or a function of the value before it and of its arguments
pub data Term : Type 0 where
  attribute : List ℕ → Term
  constant : Value → Term
  alone : Nullary → Term → Term
  with_one : Unary → Term → Term → Term
  with_two : Binary → Term → Term → Term → Term

-- a part of a text that is joined: a byte that stands for itself, or an embedded expression
pub data Part : Type 0 where
  byte : ℕ → Part
  embedded : Term → Part

-- a text: one embedded expression and nothing else, or parts to be joined
pub data Tree : Type 0 where
  whole : Term → Tree
  joined : List Part → Tree

-- one embedded expression alone keeps its value, anything else is joined
abbrev pub tree_of_parts : List Part → Tree
tree_of_parts (embedded t ∷ []) = whole t
tree_of_parts parts = joined parts
