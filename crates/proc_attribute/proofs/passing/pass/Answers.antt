use Rattle.std.proofs.Common.{sym, subst}
use Rattle.process_session.specs.Bench.{Bench}
use Rattle.processor_api.proofs.Answered.{changed_so, never_refused}
use Rattle.processor_api.specs.Sessions.{EndsWith}
use Rattle.proc_attribute.specs.Passing.{all_to}
use Rattle.proc_attribute.proofs.Passed.{open-ended, open-transfer}
use Rattle.proc_attribute.proofs.passing.pass.Goals as goal

pub unwrap-requires : goal.unwrap-requires
unwrap-requires c = never_refused _ _ c.transfer.ensures.refusal (open-transfer c.args.session.now c.args.relationship c.requires.there c.requires.one)

pub returns : goal.returns
returns c =
    let P : Bench → Type 0 = λ after. EndsWith c.args.session.now after (all_to c.args.relationship c.args.session.now.files) in
    subst P (sym (changed_so _ _ _ _ _ c.transfer.ensures.after c.unwrap.ensures)) (open-ended c.args.session.now c.args.relationship c.requires.one)
