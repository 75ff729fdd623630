use Rattle.std.proofs.Common.{sym, ◌∙◌}
use Rattle.proc_source.proofs.Sending.{fail-acts, put-acts, put-begins}
use Rattle.proc_source.proofs.put_file.PutFileActs.act.Goals as goal

pub put-requires-clause-one : goal.put-requires-clause-one
put-requires-clause-one c = put-begins c.args.self.now.conflict c.args.session.now c.args.given.now c.requires

pub fail-requires : goal.fail-requires
fail-requires c = put-begins c.args.self.now.conflict c.args.session.now c.args.given.now c.requires

pub returns-in-Some-clause-acts : goal.returns-in-Some-clause-acts
returns-in-Some-clause-acts c =
    put-acts c.args.self.now.conflict c.args.session.now c.args.given.now c.put.new.session c.in-Some.name c.requires (sym c.in_ok-name.ensures.name ∙ c.in-Some.is) c.put.ensures

pub returns-in-None-clause-acts : goal.returns-in-None-clause-acts
returns-in-None-clause-acts c =
    fail-acts c.args.self.now.conflict c.args.session.now c.args.given.now c.fail.new.session c.requires (sym c.in_ok-name.ensures.name ∙ c.in-None.is) c.fail.ensures
