-- What a call gives, memory aside.
use Rattle.std.specs.Prelude.{◌≡◌, ℕ, List, Option, Some, None, Result, Ok, Err}
use Rattle.expr_lang.specs.declared.error.EvalError.{EvalError}
use Rattle.expr_lang.specs.declared.error.EvalError.TheVariants.{NotANumber, NotABool, Overflow, TooLong, Memory}
use Rattle.expr_lang.specs.declared.error.ExprError.{ExprError}
use Rattle.expr_lang.specs.declared.error.ExprError.TheVariants as refusal
use Rattle.expr_lang.specs.declared.stop.Stop.{Stop}
use Rattle.expr_lang.specs.declared.stop.Stop.TheVariants as stop
use Rattle.expr_lang.specs.declared.syntax.Expr.{Expr}
use Rattle.expr_lang.specs.Grammar.{EndsUnread, IsBadAt}
use Rattle.expr_lang.specs.Tree.{Tree}
use Rattle.expr_lang.specs.Value.{Answer}
use Rattle.expr_lang.specs.View.{tree_of}

-- the answer, seen by view, is the one that is wanted, unless memory ran out
abbrev pub Gives : {X Y : Type 0} → (X → Y) → Result X EvalError → Answer Y → Type 0
Gives view (Ok x) wanted = wanted ≡ Ok (view x)
Gives view (Err Memory) wanted = Unit {0}
Gives view (Err NotANumber) wanted = wanted ≡ Err NotANumber
Gives view (Err NotABool) wanted = wanted ≡ Err NotABool
Gives view (Err Overflow) wanted = wanted ≡ Err Overflow
Gives view (Err TooLong) wanted = wanted ≡ Err TooLong

-- what was read, seen by view, is what reading gives, unless memory ran out
abbrev pub Reads : {X Y : Type 0} → (X → Y) → Result X Stop → Option Y → Type 0
Reads view (Ok x) reading = reading ≡ Some (view x)
Reads view (Err stop.Unread) reading = reading ≡ None
Reads view (Err stop.Memory) reading = Unit {0}

-- a text that has this tree is read as it, unless memory ran out
abbrev pub GivesTree : Result Expr ExprError → Tree → Type 0
GivesTree (Ok e) tree = tree_of e ≡ tree
GivesTree (Err (refusal.Bad place)) tree = ⊥
GivesTree (Err refusal.Memory) tree = Unit {0}

-- a text that can't be read from this place on is refused with it, unless memory ran out
abbrev pub RefusesAt : Result Expr ExprError → ℕ → Type 0
RefusesAt (Ok e) place = ⊥
RefusesAt (Err (refusal.Bad at)) place = at ≡ place
RefusesAt (Err refusal.Memory) place = Unit {0}

-- what is named as bad is bad from there on
abbrev pub IsSoundRefusal : List ℕ → ExprError → Type 0
IsSoundRefusal text (refusal.Bad place) = IsBadAt text place
IsSoundRefusal text refusal.Memory = Unit {0}

-- the pieces of the text can be read up to there, and what stands there can't
abbrev pub IsUnreadAt : List ℕ → ExprError → Type 0
IsUnreadAt text (refusal.Bad place) = EndsUnread text place
IsUnreadAt text refusal.Memory = Unit {0}
