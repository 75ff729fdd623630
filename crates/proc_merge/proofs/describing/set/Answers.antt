use Rattle.proc_merge.proofs.Described.{set-done, set-refused}
use Rattle.proc_merge.proofs.describing.set.Goals as goal

pub returns-in_default : goal.returns-in_default
returns-in_default c =
    set-done c.args.session.now c.put_attribute.new.self c.args.file c.args.key.now c.args.value.now c.requires.joined c.requires.key c.in_default.ensures.refusal c.in_default.ensures.after

pub returns-in_default-error : goal.returns-in_default-error
returns-in_default-error c =
    set-refused c.args.session.now c.put_attribute.new.self c.args.file c.args.key.now c.args.value.now c.in-Err.error c.requires.joined c.requires.key
    c.in-Err.ensures.refusal c.in_default-error.not-Memory c.in-Err.ensures.after
