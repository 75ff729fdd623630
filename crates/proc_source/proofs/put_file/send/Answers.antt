use Rattle.std.proofs.Common.{sym, subst}
use Rattle.processor_api.proofs.Answered.{changed_so, never_refused}
use Rattle.proc_source.specs.Putting.{HasOneTaken}
use Rattle.proc_source.proofs.Sending.{one-send, sent-one}
use Rattle.proc_source.proofs.put_file.send.Goals as goal

pub unwrap-requires : goal.unwrap-requires
unwrap-requires c = never_refused _ _ c.send.ensures.refusal (one-send c.args.session.now c.requires.unsent c.requires.one)

pub pass-requires : goal.pass-requires
pass-requires c = subst HasOneTaken (sym (changed_so _ _ _ _ _ c.send.ensures.after c.unwrap.ensures)) (sent-one c.args.session.now c.args.name c.requires.one)
