use Rattle.std.proofs.Common.{◌≡◌, ◌<◌, ◌≤◌, ◌∙◌, Err, ap, sym, subst, length, map, take, get_or, rules}
use Rattle.std.proofs.lemmas.List.{take_all}
use Rattle.expr_lang.specs.declared.syntax.Call.TheViews.{out-Embedded}
use Rattle.expr_lang.specs.Gives.{Gives}
use Rattle.expr_lang.specs.Meaning.{term_value}
use Rattle.expr_lang.specs.Seen.{seen}
use Rattle.expr_lang.specs.Tree.{Term}
use Rattle.expr_lang.specs.View.{term_of, operand_term, call_term}
use Rattle.std.specs.List.{fold}
use Rattle.expr_lang.proofs.Steps.{gives_later, subject_decides, call_decides, term_opened}
use Rattle.expr_lang.proofs.evaluator.+evaluating.Goals as goal

pub embedded_value-returns-in_err-value : goal.embedded_value-returns-in_err-value
embedded_value-returns-in_err-value g t c =
    let error = c.in_err-value.field-0.0 in
    let find = g.S.Subject.attributes c.args.subject.now in
    let given : c.from_residual.result ≡ Err error = search rules in
    let later = gives_later error (term_value find (operand_term (out-Embedded c.args.embedded.now).subject)) (term_value find (term_of c.args.embedded.now)) c.in_err-value.ensures (subject_decides find c.args.embedded.now error) in
    subst (λ r. Gives seen r (term_value find (term_of c.args.embedded.now))) (sym given) later

pub embedded_value-returns-in_err-value-2 : goal.embedded_value-returns-in_err-value-2
embedded_value-returns-in_err-value-2 g t c =
    let error = c.in_err-value-2.field-0.0 in
    let find = g.S.Subject.attributes c.args.subject.now in
    let e = c.args.embedded.now in
    let i = c.loop-call.call-index in
    let call = c.call-item.result in
    let before = fold (λ (t : Term) (call : Term → Term). call t) (operand_term (out-Embedded e).subject) (map call_term (take i (out-Embedded e).calls.items)) in
    let given : c.from_residual-in_err-value-2.result ≡ Err error = search rules in
    let items = c.deref-call-items.ensures.value in
    let below = subst (λ calls. i < length calls) items c.loop-call-test.true in
    let is = c.call-item.is ∙ ap (λ calls. get_or calls i call) items in
    let failed = c.in_err-value-2.ensures before c.loop-call.invariant in
    let later = gives_later error (term_value find (call_term call before)) (term_value find (term_of e)) failed (call_decides find e i call error below is) in
    subst (λ r. Gives seen r (term_value find (term_of e))) (sym given) later

pub embedded_value-returns : goal.embedded_value-returns
embedded_value-returns g t c =
    let find = g.S.Subject.attributes c.args.subject.now in
    let e = c.args.embedded.now in
    let calls = (out-Embedded e).calls.items in
    let long = subst (λ calls. length calls ≤ c.loop-call.call-index) c.deref-call-items.ensures.value c.loop-call-test.false in
    let all = take_all c.loop-call.call-index calls long in
    ap (term_value find) (term_opened e ∙ ap (λ calls. fold (λ (t : Term) (call : Term → Term). call t) (operand_term (out-Embedded e).subject) (map call_term calls)) (sym all)) ∙ c.loop-call.invariant
