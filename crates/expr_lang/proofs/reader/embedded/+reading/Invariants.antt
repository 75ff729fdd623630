use Rattle.std.proofs.Common.{◌+◌, ◌*◌, length, map}
use Rattle.std.specs.List.{fold}
use denote.Text.{Utf8}
use denote.Shadow.{shadow}
use Rattle.expr_lang.specs.Reading.{embedded_read, expression_read}
use Rattle.expr_lang.specs.View.{operand_term, call_term}
use Rattle.expr_lang.proofs.Forms.{GoesOnAs}
use Rattle.expr_lang.proofs.reader.embedded.+reading.Given as goal

-- a depth, and how far a reader is above that of an embedded expression of it
abbrev pub decreases-read_embedded : goal.decreases-read_embedded
decreases-read_embedded l = 6 * l.depth

abbrev pub decreases-read_argument : goal.decreases-read_argument
decreases-read_argument l = 6 * l.depth + 1

abbrev pub decreases-read_arguments : goal.decreases-read_arguments
decreases-read_arguments l = 6 * l.depth + 2

abbrev pub decreases-read_literal : goal.decreases-read_literal
decreases-read_literal l = 6 * l.depth + 2

abbrev pub decreases-read_name : goal.decreases-read_name
decreases-read_name l = 6 * l.depth + 3

abbrev pub decreases-read_call : goal.decreases-read_call
decreases-read_call l = 6 * l.depth + 3

abbrev pub decreases-read_subject : goal.decreases-read_subject
decreases-read_subject l = 6 * l.depth + 4

abbrev pub decreases-read_expression : goal.decreases-read_expression
decreases-read_expression l = 6 * l.depth + 5

-- the calls so far are on the subject, and what is left is read as the calls behind them
abbrev pub invariant-read_expression-loop-behind : goal.invariant-read_expression-loop-behind
invariant-read_expression-loop-behind l = record {
  text : shadow (Utf8 l.rest);
  on : GoesOnAs l.depth (expression_read (embedded_read l.depth) l.text) (fold (λ t call. call t) (operand_term l.subject) (map call_term l.calls.items)) l.rest;
}

abbrev pub decreases-read_expression-loop-behind : goal.decreases-read_expression-loop-behind
decreases-read_expression-loop-behind l = length l.rest
