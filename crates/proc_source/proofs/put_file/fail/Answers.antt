use Rattle.std.proofs.Common.{◌≡◌, true, ◌∙◌, sym, ap, subst, arith}
use Rattle.flowfile_record.specs.declared.worked.End.TheVariants.{To}
use Rattle.process_session.specs.Bench.{Bench, bench_attributes}
use Rattle.process_session.specs.Changes.{with_end, with_penalty}
use Rattle.process_session.specs.Refusals.{refusal_of_transfer}
use Rattle.processor_api.proofs.Answered.{changed_so, never_refused}
use Rattle.processor_api.specs.Sessions.{EndsWith}
use Rattle.proc_source.specs.Putting.{passed_and_put}
use Rattle.proc_source.proofs.Sending.{one-penalize, penalised-ended, penalised-transfer}
use Rattle.proc_source.proofs.put_file.fail.Goals as goal

pub unwrap-requires : goal.unwrap-requires
unwrap-requires c = never_refused _ _ c.penalize.ensures.refusal (one-penalize c.args.session.now c.requires)

pub unwrap-requires-2 : goal.unwrap-requires-2
unwrap-requires-2 c =
    let penalised : c.penalize.new.self ≡ with_penalty c.args.session.now 0 = changed_so _ _ _ _ _ c.penalize.ensures.after c.unwrap.ensures in
    never_refused _ _ c.transfer.ensures.refusal (ap (λ b. refusal_of_transfer b 0 1) penalised ∙ penalised-transfer c.args.session.now 1 (omega arith) c.requires)

pub returns : goal.returns
returns c =
    let penalised : c.penalize.new.self ≡ with_penalty c.args.session.now 0 = changed_so _ _ _ _ _ c.penalize.ensures.after c.unwrap.ensures in
    let after : c.transfer.new.self ≡ with_end (with_penalty c.args.session.now 0) 0 (To 1) =
    changed_so _ _ _ _ _ c.transfer.ensures.after c.unwrap-2.ensures ∙ ap (λ b. with_end b 0 (To 1)) penalised in
    let P : Bench → Type 0 = λ after. EndsWith c.args.session.now after (passed_and_put c.args.session.now.sent (bench_attributes c.args.session.now 0) true 1) in
    subst P (sym after) (penalised-ended c.args.session.now 1 c.requires)
