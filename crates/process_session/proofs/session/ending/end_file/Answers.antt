use Rattle.std.proofs.Common.{Some, sym}
use Rattle.process_session.proofs.Changing.{change_at-there}
use Rattle.process_session.proofs.session.ending.end_file.Goals as goal

pub returns : goal.returns
returns c = sym (change_at-there (λ file. record file { «end» = Some c.args.«end» }) c.args.place c.args.files.now.items c.index_mut-file.result.now c.requires c.index_mut-file.ensures.value)
