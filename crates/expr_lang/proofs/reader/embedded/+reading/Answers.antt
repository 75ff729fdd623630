use Rattle.std.proofs.Common.{rules, ◌≡◌, ◌==◌, ◌||◌, ◌++◌, ℕ, List, [], ◌∷◌, Bool, Bor, false, None, Some, option_and_then, encode_utf8, ap, sym, ◌∙◌}
use Rattle.std.specs.Prelude.{codes}
use Rattle.expr_lang.specs.declared.syntax.Operand.{Operand}
use Rattle.expr_lang.specs.Bytes.{is_digit, starts_name}
use Rattle.expr_lang.specs.Reading.{Reading, is_mark, embedded_read, expression_read, argument_read, truth_read, behind_token}
use Rattle.expr_lang.specs.Tree.{Term, constant}
use Rattle.expr_lang.specs.Value.{truth}
use Rattle.expr_lang.specs.View.{term_of, operand_term}
use Rattle.expr_lang.proofs.Forms.{argument_truth, subject_none, calls_begun, calls_stopped, calls_pushed, calls_done, call_shorter, operand_truth, embedded_rolled}
use Rattle.expr_lang.proofs.Stopped.{stopped_along, passed_on}
use Rattle.expr_lang.proofs.reader.embedded.+reading.Goals as goal

abbrev truth_constant : Reading Bool → Reading Term
truth_constant reading = option_and_then {U = Term × List ℕ} (λ (x : Bool × List ℕ). Some (constant (truth x.0), x.1)) reading

pub read_argument-returns-in_err-truth : goal.read_argument-returns-in_err-truth
read_argument-returns-in_err-truth t c =
    let split : c.args.text.now ≡ encode_utf8 c.in_ok-first.first ++ c.in_ok-first.field-0-1.now = rw c.in_ok-first.ensures.ok_part at c.split_first.ensures in
    let unmarked : is_mark c.in_ok-first.first ≡ false = search rules in
    let other : ((c.in_ok-first.first == 45) || is_digit c.in_ok-first.first) ≡ false = search rules in
    let form = argument_truth (embedded_read c.args.depth) c.in_ok-first.first c.args.text.now c.in_ok-first.field-0-1.now split c.if-first-eq36.false unmarked other in
    passed_on (λ x. (operand_term x.0, x.1.now)) c.from_residual-in_err-truth.result c.in_err-truth.field-0.0 (argument_read (embedded_read c.args.depth) c.args.text.now) c.from_residual-in_err-truth.ensures.1
    (stopped_along (Bool × Bor (List ℕ)) (Bool × List ℕ) (Operand × Bor (List ℕ)) (Term × List ℕ) (λ x. (x.0, x.1.now)) (λ x. (operand_term x.0, x.1.now)) c.in_err-truth.field-0.0
    (truth_read c.args.text.now) (argument_read (embedded_read c.args.depth) c.args.text.now)
    (λ none. form ∙ ap truth_constant none)
    c.in_err-truth.ensures)

pub read_argument-returns : goal.read_argument-returns
read_argument-returns t c =
    let split : c.args.text.now ≡ encode_utf8 c.in_ok-first.first ++ c.in_ok-first.field-0-1.now = rw c.in_ok-first.ensures.ok_part at c.split_first.ensures in
    let unmarked : is_mark c.in_ok-first.first ≡ false = search rules in
    let other : ((c.in_ok-first.first == 45) || is_digit c.in_ok-first.first) ≡ false = search rules in
    let form = argument_truth (embedded_read c.args.depth) c.in_ok-first.first c.args.text.now c.in_ok-first.field-0-1.now split c.if-first-eq36.false unmarked other in
    form ∙ ap truth_constant c.in_ok-truth.ensures ∙ ap (λ (v : Term). let r : Reading Term = Some (v, c.in_ok-truth.behind.now) in r) (sym (operand_truth c.in_ok-truth.truth))

pub read_expression-loop-behind-init : goal.read_expression-loop-behind-init
read_expression-loop-behind-init t c =
    let begun = calls_begun c.args.depth c.args.text.now (operand_term c.in_ok-subject.subject) c.in_ok-subject.rest.now c.in_ok-subject.ensures in
    let none : c.new-calls.result.items ≡ [] = search rules in
    record {
      text = search rules;
      on = rw none begun;
    }

pub read_expression-returns-in_err-call : goal.read_expression-returns-in_err-call
read_expression-returns-in_err-call t c =
    let token : behind_token (codes ":") c.loop-behind.rest.now ≡ Some c.in-Some.behind.now = search rules in
    passed_on (λ x. (term_of x.0, x.1.now)) c.from_residual-in_err-call.result c.in_err-call.field-0.0 (expression_read (embedded_read c.args.depth) c.args.text.now) c.from_residual-in_err-call.ensures.1
    (calls_stopped c.args.depth _ _ c.loop-behind.rest.now c.in-Some.behind.now c.behind_spaces.result.now c.in_err-call.field-0.0 c.loop-behind.invariant.on token c.behind_spaces.ensures c.in_err-call.ensures)

pub read_expression-loop-behind-smaller : goal.read_expression-loop-behind-smaller
read_expression-loop-behind-smaller t c =
    let token : behind_token (codes ":") c.loop-behind.rest.now ≡ Some c.in-Some.behind.now = search rules in
    call_shorter c.args.depth c.in_ok-call.call c.loop-behind.rest.now c.in-Some.behind.now c.behind_spaces.result.now c.in_ok-call.behind.now token c.behind_spaces.ensures c.in_ok-call.ensures

pub read_expression-loop-behind-preserved : goal.read_expression-loop-behind-preserved
read_expression-loop-behind-preserved t c =
    let token : behind_token (codes ":") c.loop-behind.rest.now ≡ Some c.in-Some.behind.now = search rules in
    let more : c.push.new.self.items ≡ c.loop-behind.calls.items ++ (c.in_ok-call.call ∷ []) = search rules in
    record {
      text = search rules;
      on = calls_pushed c.args.depth _ _ c.loop-behind.calls.items c.push.new.self.items c.in_ok-call.call c.loop-behind.rest.now c.in-Some.behind.now c.behind_spaces.result.now c.in_ok-call.behind.now
          c.loop-behind.invariant.on token c.behind_spaces.ensures c.in_ok-call.ensures more;
    }

pub read_expression-returns : goal.read_expression-returns
read_expression-returns t c =
    let token : behind_token (codes ":") c.loop-behind.rest.now ≡ None = search rules in
    calls_done c.args.depth _ _ c.loop-behind.rest.now c.loop-behind.invariant.on token
    ∙ ap (λ (v : Term). let r : Reading Term = Some (v, c.loop-behind.rest.now) in r) (sym (embedded_rolled _))

pub read_subject-returns-then-not-starts_name : goal.read_subject-returns-then-not-starts_name
read_subject-returns-then-not-starts_name t c =
    let split : c.args.text.now ≡ encode_utf8 c.in_ok-first.first ++ c.in_ok-first.field-0-1.now = rw c.in_ok-first.ensures.ok_part at c.split_first.ensures in
    let unmarked : is_mark c.in_ok-first.first ≡ false = search rules in
    let fails : starts_name c.in_ok-first.first ≡ false = search rules in
    subject_none (embedded_read c.args.depth) c.in_ok-first.first c.args.text.now c.in_ok-first.field-0-1.now split unmarked fails
