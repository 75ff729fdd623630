use Rattle.std.proofs.Common.{false, sym, subst, arith}
use Rattle.process_session.specs.Bench.{Bench, bench_attributes}
use Rattle.processor_api.proofs.Answered.{changed_so, never_refused}
use Rattle.processor_api.specs.Sessions.{EndsWith}
use Rattle.proc_source.specs.Putting.{passed_and_put}
use Rattle.proc_source.proofs.Sending.{one-ended, one-transfer}
use Rattle.proc_source.proofs.put_file.pass.Goals as goal

pub unwrap-requires : goal.unwrap-requires
unwrap-requires c = never_refused _ _ c.transfer.ensures.refusal (one-transfer c.args.session.now 0 (omega arith) c.requires)

pub returns : goal.returns
returns c =
    let P : Bench → Type 0 = λ after. EndsWith c.args.session.now after (passed_and_put c.args.session.now.sent (bench_attributes c.args.session.now 0) false 0) in
    subst P (sym (changed_so _ _ _ _ _ c.transfer.ensures.after c.unwrap.ensures)) (one-ended c.args.session.now 0 c.requires)
