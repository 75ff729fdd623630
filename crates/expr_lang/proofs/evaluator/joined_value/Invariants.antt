use Rattle.std.proofs.Common.{◌≡◌, ℕ, List, Ok, take}
use Rattle.std.specs.List.{flat_map}
use Rattle.expr_lang.specs.JoinedText.{Holds}
use Rattle.expr_lang.specs.Meaning.{joined_text}
use Rattle.expr_lang.specs.View.{piece_parts}
use Rattle.expr_lang.proofs.evaluator.joined_value.Given as goal

-- the pieces so far have texts, and their join is held
abbrev pub invariant-loop-piece : goal.invariant-loop-piece
invariant-loop-piece g l = (s : List ℕ)
    × (joined_text (g.S.Subject.attributes l.subject) (flat_map piece_parts (take l.piece-index l.pieces)) ≡ Ok s)
    × Holds l.joined s
