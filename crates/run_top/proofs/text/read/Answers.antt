use Rattle.std.proofs.Common.{◌∙◌}
use Rattle.run_top.proofs.Answers.{same_place, same_rule}
use Rattle.run_top.proofs.Broken.{not_broken}
use Rattle.run_top.proofs.Reading.{err_is}
use Rattle.run_top.proofs.Texts.{is_read, is_refused, is_refused_so}
use Rattle.run_top.proofs.text.read.Goals as goal

pub returns-in-Ok-read_flow-clause-accepted : goal.returns-in-Ok-read_flow-clause-accepted
returns-in-Ok-read_flow-clause-accepted g c =
    is_read _ g.F.Source.tells (g.F.Source.rest c.args.source.now) c.as_slice.result.now c.in-Ok-read_flow.flow (λ told. c.as_slice.ensures.value ∙ c.in-Ok.ensures.text told) c.in-Ok-read_flow.ensures.answer c.in-Ok-read_flow.ensures.sound

pub returns-in-Ok-read_flow-clause-broken : goal.returns-in-Ok-read_flow-clause-broken
returns-in-Ok-read_flow-clause-broken g c told broken =
    absurd (not_broken _ g.F.Source.tells (g.F.Source.rest c.args.source.now) c.as_slice.result.now c.in-Ok-read_flow.flow (λ yes. c.as_slice.ensures.value ∙ c.in-Ok.ensures.text yes) c.in-Ok-read_flow.ensures.answer told broken)

pub returns-in-Err-Rule-clause-refused : goal.returns-in-Err-Rule-clause-refused
returns-in-Err-Rule-clause-refused g c rule place is =
    let answer = rw c.in-Err-Rule.field-0-is at c.in-Err-Rule.ensures.answer in
    let told = rw c.in-Err-Rule.field-0-is at c.in-Err-Rule.ensures.told in
    is_refused_so _ _ g.F.Source.tells (g.F.Source.rest c.args.source.now) c.in-Err-Rule.rule rule c.in-Err-Rule.place place (same_rule c.in-Err-Rule.rule rule c.in-Err-Rule.place place (err_is is))
    (same_place c.in-Err-Rule.rule rule c.in-Err-Rule.place place (err_is is))
    (is_refused _ _ g.F.Source.tells (g.F.Source.rest c.args.source.now) c.as_slice.result.now c.in-Err-Rule.rule c.in-Err-Rule.place (λ yes. c.as_slice.ensures.value ∙ c.in-Ok.ensures.text yes) answer told)
